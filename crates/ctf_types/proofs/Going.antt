-- Declarations that are linked one after another.
use Rattle.std.proofs.Common.{◌≡◌, ℕ, ◌+◌, ◌<◌, ◌≤◌, List, [], ◌∷◌, ◌++◌, map, length, get_or, refl, sym, ap, ◌∙◌, subst, append_assoc, append-nil}
use Rattle.std.specs.Prelude.{flat_map, Contains}
use Rattle.tsdl_tree.specs.declared.tree.Declaration.{Declaration as TreeDeclaration}
use Rattle.ctf_bits.specs.declared.number.Order.{Order}
use Rattle.ctf_meaning.specs.declared.fault.ResolveFault.{ResolveFault}
use Rattle.ctf_meaning.specs.Written.{Declaration}
use Rattle.ctf_meaning.specs.Reading.{declaration_of}
use Rattle.ctf_meaning.specs.Streams.{numbered, streams}
use Rattle.ctf_meaning.specs.Faults.{link_faults, first_faults}
use Rattle.ctf_types.specs.declared.gather.TraceParts.{TraceParts}
use Rattle.ctf_types.specs.declared.linked.Linked.{Linked}
use Rattle.ctf_types.specs.Gathered.{IsLinked, AreLinked}
use Rattle.ctf_types.specs.Gone.{AllGiven}
use Rattle.ctf_types.specs.Parted.{IsParted}
use Rattle.ctf_types.proofs.Firsts.{of_later}
use Rattle.ctf_types.proofs.Numbers.{from, from_next, from_end}

module _ (text : List Declaration) (order : Order) where
  linked_more : (ps : List (ℕ × Declaration)) (rows : List Linked) (p : ℕ × Declaration) (row : Linked) → AreLinked text order ps rows → IsLinked text order p row → AreLinked text order (ps ++ p ∷ []) (rows ++ row ∷ [])
  linked_more [] [] p row h k = (k, tt)
  linked_more [] (r ∷ rows) p row h k = absurd h
  linked_more (q ∷ ps) [] p row h k = absurd h
  linked_more (q ∷ ps) (r ∷ rows) p row h k = (h.0, linked_more ps rows p row h.1 k)

  pub linked_clean : (ps : List (ℕ × Declaration)) (rows : List Linked) → AreLinked text order ps rows → flat_map (link_faults text) ps ≡ []
  linked_clean [] [] h = refl
  linked_clean [] (r ∷ rows) h = absurd h
  linked_clean (p ∷ ps) [] h = absurd h
  linked_clean (p ∷ ps) (r ∷ rows) h = ap (λ xs. xs ++ flat_map (link_faults text) ps) h.0.clean ∙ linked_clean ps rows h.1

-- what the declarations before a number give
pub record Gone (ds : List TreeDeclaration) (order : Order) (i : ℕ) (parts : TraceParts) : Type 0 where
  pub before : List (ℕ × Declaration)
  pub rows : List Linked
  pub whole : before ++ from ds i ≡ numbered (map declaration_of ds)
  pub linked : AreLinked (map declaration_of ds) order before rows
  pub parted : IsParted rows parts
  pub lists : length parts.events ≡ length (streams (map declaration_of ds))

pub none_gone : (ds : List TreeDeclaration) (order : Order) (parts : TraceParts) → IsParted [] parts → length parts.events ≡ length (streams (map declaration_of ds)) → Gone ds order 0 parts
none_gone ds order parts parted lists = record { before = []; rows = []; whole = refl; linked = tt; parted = parted; lists = lists }

pub one_gone : (ds : List TreeDeclaration) (order : Order) (i : ℕ) (d : TreeDeclaration) (row : Linked) (old new : TraceParts) → i < length ds → d ≡ get_or ds i d → (g : Gone ds order i old) →
    IsLinked (map declaration_of ds) order (i, declaration_of d) row → IsParted (g.rows ++ row ∷ []) new → length new.events ≡ length old.events → Gone ds order (i + 1) new
one_gone ds order i d row old new l e g linked parted lists = record {
  before = g.before ++ (i, declaration_of d) ∷ [];
  rows = g.rows ++ row ∷ [];
  whole = append_assoc g.before ((i, declaration_of d) ∷ []) (from ds (i + 1)) ∙ ap (λ xs. g.before ++ xs) (sym (from_next ds i d l e)) ∙ g.whole;
  linked = linked_more (map declaration_of ds) order g.before g.rows (i, declaration_of d) row g.linked linked;
  parted = parted;
  lists = lists ∙ g.lists;
}

pub all_gone : (ds : List TreeDeclaration) (order : Order) (i : ℕ) (parts : TraceParts) → length ds ≤ i → Gone ds order i parts → AllGiven (map declaration_of ds) order parts
all_gone ds order i parts end g = record {
  rows = g.rows;
  linked = subst (λ ps. AreLinked (map declaration_of ds) order ps g.rows) (sym (append-nil g.before) ∙ ap (λ xs. g.before ++ xs) (sym (from_end ds i end)) ∙ g.whole) g.linked;
  parted = g.parted;
  lists = g.lists;
}

pub told_here : (ds : List TreeDeclaration) (order : Order) (i : ℕ) (d : TreeDeclaration) (parts : TraceParts) (f : ResolveFault) → i < length ds → d ≡ get_or ds i d → Gone ds order i parts →
    Contains (link_faults (map declaration_of ds) (i, declaration_of d)) f → Contains (first_faults (map (link_faults (map declaration_of ds)) (numbered (map declaration_of ds)))) f
told_here ds order i d parts f l e g told =
    subst (λ ps. Contains (first_faults (map (link_faults (map declaration_of ds)) ps)) f) (ap (λ xs. g.before ++ xs) (sym (from_next ds i d l e)) ∙ g.whole)
    (of_later (link_faults (map declaration_of ds)) g.before (i, declaration_of d) (from ds (i + 1)) f (linked_clean (map declaration_of ds) order g.before g.rows g.linked) told)
