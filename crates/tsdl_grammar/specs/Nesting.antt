-- How deep braces nest, those of blocks, bodies, labels and attributes alike. (Own, as a limit.)
use Rattle.std.specs.Prelude.{◌≡◌, ◌⊎◌, ℕ, ◌+◌, ◌<◌, List, ◌++◌, count_by}
use Rattle.tsdl_text.specs.declared.token.Symbol.TheVariants as s
use Rattle.tsdl_text.specs.declared.token.Token.{Token}
use Rattle.tsdl_tree.specs.declared.tree.Tree.{Tree}
use Rattle.tsdl_grammar.specs.Spelling.{Spells, IsUnspelled}
use Rattle.tsdl_grammar.specs.Terminals.{is}

abbrev pub opening : List Token → ℕ
opening ts = count_by (is s.OpenBrace) ts

abbrev pub closing : List Token → ℕ
closing ts = count_by (is s.CloseBrace) ts

-- a beginning of the tokens opens more than so many braces that it does not close
abbrev pub NestsDeeper : ℕ → List Token → Type 0
NestsDeeper n ts =
    (front : List Token) × (rest : List Token) × (ts ≡ front ++ rest)
    × (closing front + n < opening front)

-- Under any limit tokens spell a tree and nest no deeper, or spell none, or nest deeper.
abbrev pub TreeOrNot : Type 0
TreeOrNot =
    (limit : ℕ) (ts : List Token)
    → ((tree : Tree) × Spells tree ts × (NestsDeeper limit ts → ⊥))
    ⊎ (IsUnspelled ts ⊎ NestsDeeper limit ts)
