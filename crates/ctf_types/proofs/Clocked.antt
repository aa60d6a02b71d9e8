-- The clocks that are in the declarations so far.
use Rattle.std.proofs.Common.{◌≡◌, ℕ, ◌+◌, ◌<◌, ◌≤◌, List, [], ◌∷◌, ◌++◌, length, get_or, Some, None, sym, ap, ◌∙◌, append-nil}
use Rattle.std.specs.Prelude.{filter_map}
use Rattle.tsdl_tree.specs.declared.tree.Declaration.{Declaration as TreeDeclaration}
use Rattle.ctf_class.specs.declared.trace.Clock.{Clock}
use Rattle.ctf_meaning.specs.Blocks.{clock_of}
use Rattle.ctf_meaning.specs.Reading.{declaration_of}
use Rattle.ctf_types.proofs.Numbers.{rest, rest_next, rest_end, given_one, given_none}

module _ (ds : List TreeDeclaration) (all : List Clock) where
  abbrev pub AreFound : List Clock → ℕ → Type 0
  AreFound found i = found ++ filter_map clock_of (rest ds i) ≡ all

  pub clock_one : (found : List Clock) (i : ℕ) (d : TreeDeclaration) (clock : Clock) → i < length ds → d ≡ get_or ds i d → clock_of (declaration_of d) ≡ Some clock →
      AreFound found i → AreFound (found ++ clock ∷ []) (i + 1)
  clock_one found i d clock l e is h =
      given_one clock_of found (declaration_of d) clock (rest ds (i + 1)) is
      ∙ ap (λ ps. found ++ filter_map clock_of ps) (sym (rest_next ds i d l e)) ∙ h

  pub clock_none : (found : List Clock) (i : ℕ) (d : TreeDeclaration) → i < length ds → d ≡ get_or ds i d → clock_of (declaration_of d) ≡ None →
      AreFound found i → AreFound found (i + 1)
  clock_none found i d l e is h =
      given_none clock_of found (declaration_of d) (rest ds (i + 1)) is
      ∙ ap (λ ps. found ++ filter_map clock_of ps) (sym (rest_next ds i d l e)) ∙ h

  pub clock_all : (found : List Clock) (i : ℕ) → length ds ≤ i → AreFound found i → found ≡ all
  clock_all found i h is = sym (append-nil found) ∙ ap (λ ps. found ++ filter_map clock_of ps) (sym (rest_end ds i h)) ∙ is
