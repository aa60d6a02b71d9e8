-- Which tree a list of tokens spells.
use Rattle.std.specs.Prelude.{◌≡◌, ℕ, suc, false, List, [], ◌∷◌, ◌++◌, length, if◌then◌else◌}
use Rattle.tsdl_text.specs.declared.token.Symbol.TheVariants as s
use Rattle.tsdl_text.specs.declared.token.Token.{Token}
use Rattle.tsdl_text.specs.Symbols.{is_typeword}
use Rattle.tsdl_tree.specs.declared.tree.Declarator.{Declarator}
use Rattle.tsdl_tree.specs.declared.tree.Tree.{Tree}
use Rattle.tsdl_tree.specs.declared.tree.Typename.{Typename}
use Rattle.tsdl_grammar.specs.Terminals.{Is, IsIdentifier}
use Rattle.tsdl_grammar.specs.Repeats.{Many, Listed}
use Rattle.tsdl_grammar.specs.Grammar.{IsTypename, IsDeclarator, IsDeclaration}

-- metadata = `{ block | typedecl }` (CTF 1.8.3, appendix C.2)
abbrev pub Spells : Tree → List Token → Type 0
Spells tree ts = Many IsDeclaration tree.declarations ts

-- no tree is spelled
abbrev pub IsUnspelled : List Token → Type 0
IsUnspelled ts = (tree : Tree) → Spells tree ts → ⊥

-- no list of tokens is spelled by two trees
abbrev pub OneTree : Type 0
OneTree = (ts : List Token) (a b : Tree) → Spells a ts → Spells b ts → a ≡ b

-- how many typewords are first
unfoldable pub run : List Token → ℕ
run [] = 0
run (t ∷ ts) = if is_typeword t.kind then suc (run ts) else 0

-- A typename is a whole run of typewords. Before a declarator it lacks the run's last word, which is
-- the declarator's name.
pub record WholeRun : Type 0 where
  pub alone : (name : Typename) (ts : List Token) (e : Token) (rest : List Token)
      → IsTypename name ts → is_typeword e.kind ≡ false
      → run (ts ++ (e ∷ rest)) ≡ length ts
  pub before_declarator : (name : Typename) (ts : List Token) (ds : List Declarator) (n : Token)
      (us : List Token) (e : Token) (rest : List Token)
      → IsTypename name ts → Listed IsDeclarator ds (n ∷ us) → Is s.Semicolon e
      → IsIdentifier n × (run (ts ++ (n ∷ (us ++ (e ∷ rest)))) ≡ suc (length ts))

-- the line of the last token, 1 where there is none
abbrev pub last_line : List Token → ℕ
last_line [] = 1
last_line (t ∷ []) = t.line
last_line (t ∷ u ∷ ts) = last_line (u ∷ ts)
