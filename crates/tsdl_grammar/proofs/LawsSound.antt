-- The tree that is read is spelled and nests no deeper, and what is too deep nests deeper.
use Rattle.std.proofs.Common.{◌≡◌, ℕ, zero, suc, inl, inr, Bool, true, false, cond, List, [], ◌∷◌, ◌++◌, length, Result, Ok, Err, refl, sym, ap, subst, ◌∙◌, arith}
use Rattle.std.proofs.lemmas.List.{append-nil, length-append}
use Rattle.std.proofs.lemmas.List.Sums.{count_by-le-length}
use Rattle.tsdl_text.specs.declared.token.Symbol.TheVariants as s
use Rattle.tsdl_text.specs.declared.token.Token.{Token}
use Rattle.tsdl_tree.specs.declared.tree.Declaration.{Declaration}
use Rattle.tsdl_tree.specs.declared.tree.Tree.{Tree}
use Rattle.tsdl_grammar.specs.Terminals.{is}
use Rattle.tsdl_grammar.specs.Repeats.{Many}
use Rattle.tsdl_grammar.specs.Grammar.{IsDeclaration}
use Rattle.tsdl_grammar.specs.Spelling.{Spells}
use Rattle.tsdl_grammar.specs.Nesting.{NestsDeeper}
use Rattle.tsdl_grammar.specs.Steps.{Refusal, bad, deep, ◌>>=◌, Parse, loop, before_end}
use Rattle.tsdl_grammar.specs.Reading.{declaration_at, tree_at}
use Rattle.tsdl_grammar.proofs.Room.{room, room_end, deep_from_no_room, not_deeper}
use Rattle.tsdl_grammar.proofs.ReadsTools.{Reads, Took, bind_ok, bind_deep, ok_is, reads_loop}
use Rattle.tsdl_grammar.proofs.SoundBlocks.{declaration_reads}

-- ---- where a loop stops

stops_by : {A : Type 0} (go : List Token → Bool) (ts rest : List Token) (xs : List A) (b : Bool) → go ts ≡ b → (read : Result (List A × List Token) Refusal)
    → (read ≡ Ok (xs, rest) → go rest ≡ false) → cond b read (Ok ([], ts)) ≡ Ok (xs, rest) → go rest ≡ false
stops_by go ts rest xs true e r h p = h p
stops_by go ts rest xs false e r h p = sym (ap (λ v. go v.1) (ok_is ([], ts) (xs, rest) p)) ∙ e

loop_stops : {A : Type 0} (go : List Token → Bool) (item : Parse A) (n : ℕ) (ts rest : List Token) (xs : List A) → loop go item n ts ≡ Ok (xs, rest) → go rest ≡ false
unfolding loop
loop_stops go item zero ts rest xs p = stops_by go ts rest xs (go ts) refl (Err bad) (λ q. absurd cc) p
loop_stops go item (suc n) ts rest xs p = stops_by go ts rest xs (go ts) refl _ (λ q.
    let a = bind_ok (item ts) (λ x. loop go item n x.1 >>= λ ys. Ok (x.0 ∷ ys.0, ys.1)) (xs, rest) q in
    let b = bind_ok (loop go item n a.0.1) (λ ys. Ok (a.0.0 ∷ ys.0, ys.1)) (xs, rest) a.2 in
    sym (ap (λ v. go v.1) (ok_is (a.0.0 ∷ b.0.0, b.0.1) (xs, rest) b.2)) ∙ loop_stops go item n a.0.1 b.0.1 b.0.0 b.1) p

nothing_left : (rest : List Token) → before_end rest ≡ false → rest ≡ []
nothing_left [] e = refl
nothing_left (t ∷ ts) e = absurd cc

-- ---- the tree

declarations_read : (d : ℕ) (ts : List Token) → Reads (loop before_end (declaration_at d) (length ts) ts) d d ts (Many IsDeclaration)
declarations_read d ts = reads_loop before_end (declaration_at d) IsDeclaration (declaration_reads d) (length ts) ts

all_taken : (d : ℕ) (ts rest : List Token) (xs : List Declaration) → rest ≡ [] → Took d d ts (Many IsDeclaration) xs rest → Many IsDeclaration xs ts × (NestsDeeper d ts → ⊥)
all_taken d ts rest xs e h = (
  subst (Many IsDeclaration xs) (sym (h.splits ∙ ap (λ us. h.taken ++ us) e ∙ append-nil h.taken)) h.spelled,
  not_deeper ts d d (h.kept ∙ ap (room d) e ∙ room_end d),
)

pub read_is_spelled : (d : ℕ) (ts : List Token) (tree : Tree) → tree_at d ts ≡ Ok tree → Spells tree ts × (NestsDeeper d ts → ⊥)
unfolding tree_at
read_is_spelled d ts tree p =
    let a = bind_ok (loop before_end (declaration_at d) (length ts) ts) (λ xs. Ok (record { declarations = xs.0 })) tree p in
    let e = nothing_left a.0.1 (loop_stops before_end (declaration_at d) (length ts) ts a.0.1 a.0.0 a.1) in
    let h = all_taken d ts a.0.1 a.0.0 e ((declarations_read d ts).reads a.0.0 a.0.1 a.1) in
    (subst (λ t. Spells t ts) (ok_is (record { declarations = a.0.0 }) tree a.2) h.0, h.1)

pub deep_is_deeper : (d : ℕ) (ts : List Token) → tree_at d ts ≡ Err deep → NestsDeeper d ts
unfolding tree_at
deep_is_deeper d ts p = elim (bind_deep (loop before_end (declaration_at d) (length ts) ts) (λ xs. Ok (record { declarations = xs.0 })) p) [
  | inl q ↦ deep_from_no_room ts d ((declarations_read d ts).too_deep q)
  | inr a ↦ absurd (let f : Ok (record { declarations = a.0.0 }) ≡ Err deep = a.2 in cc)
]

-- no braces nest deeper than there are tokens, so that many are enough
pub never_deep : (ts : List Token) → tree_at (length ts) ts ≡ Err deep → ⊥
never_deep ts p =
    let h = deep_is_deeper (length ts) ts p in
    let le = count_by-le-length (is s.OpenBrace) h.0 in
    omega (arith, le, h.3, ap length h.2 ∙ length-append h.0 h.1)
