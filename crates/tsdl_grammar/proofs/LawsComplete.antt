-- What is refused is spelled by no tree, what is spelled is spelled by one, and typenames are whole runs of typewords.
use Rattle.std.proofs.Common.{◌≡◌, ℕ, suc, inl, inr, false, List, ◌∷◌, ◌++◌, ◌⊎◌, length, Result, Ok, Err, refl, subst, arith}
use Rattle.tsdl_text.specs.declared.token.Token.{Token}
use Rattle.tsdl_text.specs.Symbols.{is_typeword}
use Rattle.tsdl_tree.specs.declared.tree.Declarator.{Declarator}
use Rattle.tsdl_tree.specs.declared.tree.Tree.{Tree}
use Rattle.tsdl_tree.specs.declared.tree.Typename.{Typename}
use Rattle.tsdl_grammar.specs.Terminals.{IsIdentifier}
use Rattle.tsdl_grammar.specs.Repeats.{Listed}
use Rattle.tsdl_grammar.specs.Grammar.{IsTypename, IsDeclarator}
use Rattle.tsdl_grammar.specs.Nesting.{NestsDeeper, TreeOrNot}
use Rattle.tsdl_grammar.specs.Spelling.{Spells, IsUnspelled, OneTree, WholeRun, run}
use Rattle.tsdl_grammar.specs.Steps.{Refusal, bad, deep}
use Rattle.tsdl_grammar.specs.Reading.{tree_at}
use Rattle.tsdl_grammar.proofs.ComesTools.{Comes}
use Rattle.tsdl_grammar.proofs.CompleteParts.{run_after}
use Rattle.tsdl_grammar.proofs.CompleteCompounds.{declarators_run}
use Rattle.tsdl_grammar.proofs.CompleteBlocks.{tree_comes}
use Rattle.tsdl_grammar.proofs.LawsSound.{never_deep, read_is_spelled, deep_is_deeper}

not_bad : {A : Type 0} (r : Result A Refusal) (x : A) → Comes r x → r ≡ Err bad → ⊥
not_bad r x h e = elim h.comes [ inl p ↦ cc | inr p ↦ cc ]

pub bad_is_unspelled : (d : ℕ) (ts : List Token) → tree_at d ts ≡ Err bad → IsUnspelled ts
bad_is_unspelled d ts e tree m = not_bad (tree_at d ts) tree (tree_comes tree ts m d) e

-- ---- one tree

is_read : {A : Type 0} (r : Result A Refusal) (x : A) → Comes r x → (r ≡ Err deep → ⊥) → r ≡ Ok x
is_read r x h n = elim h.comes [ inl p ↦ p | inr p ↦ absurd (n p) ]

same : {A : Type 0} (r : Result A Refusal) (x y : A) → r ≡ Ok x → r ≡ Ok y → x ≡ y
same r x y p q = cc

spelled_is_read : (tree : Tree) (ts : List Token) → Spells tree ts → tree_at (length ts) ts ≡ Ok tree
spelled_is_read tree ts m = is_read (tree_at (length ts) ts) tree (tree_comes tree ts m (length ts)) (never_deep ts)

pub one_tree : OneTree
one_tree ts a b p q = same (tree_at (length ts) ts) a b (spelled_is_read a ts p) (spelled_is_read b ts q)

-- ---- whole runs

run_ends : (e : Token) (rest : List Token) → is_typeword e.kind ≡ false → run (e ∷ rest) ≡ 0
unfolding run
run_ends e rest h = rw h refl

run_alone : {n : Typename} {ts : List Token} → IsTypename n ts → (e : Token) (rest : List Token) → is_typeword e.kind ≡ false → run (ts ++ (e ∷ rest)) ≡ length ts
run_alone (IsTypename.typename p) e rest h = let r = run_after p (e ∷ rest) in let z = run_ends e rest h in omega arith

run_before : {n : Typename} {ts : List Token} → IsTypename n ts → (post : List Token) → run post ≡ 1 → run (ts ++ post) ≡ suc (length ts)
run_before (IsTypename.typename p) post h = let r = run_after p post in omega arith

first_is : {ds : List Declarator} {vs : List Token} → Listed IsDeclarator ds vs → (n : Token) (us : List Token) → vs ≡ n ∷ us → IsIdentifier n
first_is (Listed.last (IsDeclarator.declarator {n = m} i l)) n us e = let p : m ≡ n = cc in subst IsIdentifier p i
first_is (Listed.more (IsDeclarator.declarator {n = m} i l) c p) n us e = let p : m ≡ n = cc in subst IsIdentifier p i

pub whole_run : WholeRun
whole_run = record {
  alone = λ name ts e rest p h. run_alone p e rest h;
  before_declarator = λ name ts ds n us e rest p l i. (first_is l n us refl, run_before p _ (declarators_run l e rest i));
}

-- ---- a tree or none

read_or_not : (limit : ℕ) (ts : List Token) (r : Result Tree Refusal) → tree_at limit ts ≡ r → ((tree : Tree) × Spells tree ts × (NestsDeeper limit ts → ⊥)) ⊎ (IsUnspelled ts ⊎ NestsDeeper limit ts)
read_or_not limit ts (Ok tree) e = let read = read_is_spelled limit ts tree e in inl (tree, read.0, read.1)
read_or_not limit ts (Err bad) e = inr (inl (bad_is_unspelled limit ts e))
read_or_not limit ts (Err deep) e = inr (inr (deep_is_deeper limit ts e))

pub tree_or_not : TreeOrNot
tree_or_not limit ts = read_or_not limit ts (tree_at limit ts) refl
