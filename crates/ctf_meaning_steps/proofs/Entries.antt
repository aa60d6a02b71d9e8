-- The entries of a block: what is reported of them is what is wrong with them and the parts in them, or the classes
-- under their names.
use Rattle.std.proofs.Common.{◌≡◌, ℕ, ◌+◌, List, [], ◌∷◌, ◌++◌, Some, Ok, refl, ap, ap₂, sym, ◌∙◌, subst, append-nil, append_assoc, flat_map}
use Rattle.ctf_meaning.specs.Written.{Form, BlockEntry, Declaration, Assigned, Classed, Declared}
use Rattle.ctf_meaning.specs.Parts.{Place, Part, Located, of_block, own_name, located_form, located_item, located_entry, located_entries, located_from}
use Rattle.ctf_meaning.specs.Settings.{minus_faults}
use Rattle.ctf_meaning.specs.Shapes.{Shape}
use Rattle.ctf_meaning.specs.Names.{Entry, shape_of, entries_of, entries_after, entries_in}
use Rattle.ctf_meaning.specs.Own.{part_faults}
use Rattle.ctf_meaning_steps.specs.Seen.{Seen, within}
use Rattle.ctf_meaning_steps.specs.Items.{shape_told, item_told}
use Rattle.ctf_meaning_steps.specs.Blocks.{NamedClass, Held, entry_told, entries_told}
use Rattle.ctf_meaning.proofs.Lists.{Each}
use Rattle.ctf_meaning.proofs.Seen.{entries_after-append}
use Rattle.ctf_meaning.proofs.Order.{Below, order_entry}
use Rattle.ctf_meaning.proofs.Earlier.{shape_reads_earlier, faults_read_earlier}
use Rattle.ctf_meaning_steps.proofs.Telling.{Tells, tells_then, tells_made, tells_unless, tells_same, tells_as}
use Rattle.ctf_meaning_steps.proofs.Seeing.{Holds, Sees, Clear, sees_within, sees_after, unseen_inside, clear_inside, clear_next, holds_next}
use Rattle.ctf_meaning_steps.proofs.Parts.{faults_after, faults_after-append, part_tells}
use Rattle.ctf_meaning_steps.proofs.Items.{MadeBy, shape_tells, item_tells, holds_within, holds_after_form}

-- Each part reads the same by all entries as by those before it.
abbrev pub Reads : List Entry → List Entry → List Located → Type 0
Reads all es [] = Unit {0}
Reads all es (p ∷ ps) = ((form : Form) → shape_of all p.0 form ≡ shape_of es p.0 form) × (part_faults all p ≡ part_faults es p) × Reads all (es ++ entries_of es p) ps

pub reads_front : (all es : List Entry) (ps qs : List Located) → Reads all es (ps ++ qs) → Reads all es ps
reads_front all es [] qs h = tt
reads_front all es (p ∷ ps) qs h = (h.0, h.1, reads_front all (es ++ entries_of es p) ps qs h.2)

pub reads_back : (all es : List Entry) (ps qs : List Located) → Reads all es (ps ++ qs) → Reads all (entries_after es ps) qs
reads_back all es [] qs h = h
reads_back all es (p ∷ ps) qs h = reads_back all (es ++ entries_of es p) ps qs h.2

pub reads_faults : (all es : List Entry) (ps : List Located) → Reads all es ps → flat_map (part_faults all) ps ≡ faults_after es ps
reads_faults all es [] h = refl
reads_faults all es (p ∷ ps) h = ap₂ (λ a b. a ++ b) h.1 (reads_faults all (es ++ entries_of es p) ps h.2)

pub reads_text : (text : List Declaration) (earlier ps later : List Located) → located_from 0 text ≡ earlier ++ ps ++ later → Reads (entries_in text) (entries_after [] earlier) ps
reads_text text earlier [] later e = tt
reads_text text earlier (p ∷ ps) later e =
    let here : located_from 0 text ≡ earlier ++ p ∷ (ps ++ later) = e ∙ append_assoc earlier (p ∷ ps) later in
    let next : located_from 0 text ≡ earlier ++ p ∷ [] ++ ps ++ later = e ∙ ap (λ xs. xs ++ later) (sym (append_assoc earlier (p ∷ []) ps)) in (
      (λ form. shape_reads_earlier text earlier (ps ++ later) p form here),
      faults_read_earlier text earlier (ps ++ later) p here,
      subst (λ es. Reads (entries_in text) es ps) (entries_after-append [] earlier (p ∷ [])) (reads_text text (earlier ++ p ∷ []) ps later next),
    )

-- the class that an entry puts under its name
abbrev pub NamedEntry : List Entry → Place → BlockEntry → List NamedClass → Type 0
NamedEntry all at (Classed words form) classes = (shape : Shape) × (classes ≡ (words, shape) ∷ []) × (shape_of all at form ≡ Some shape)
NamedEntry all at (Assigned setting) classes = classes ≡ []
NamedEntry all at (Declared item) classes = classes ≡ []

-- the classes that the entries of a block put under their names
abbrev pub Named : List Entry → Place → ℕ → List BlockEntry → List NamedClass → Type 0
Named all block number [] classes = classes ≡ []
Named all block number (e ∷ es) classes =
    (first : List NamedClass) × (rest : List NamedClass) × (classes ≡ first ++ rest) × NamedEntry all (number ∷ block) e first × Named all block (number + 1) es rest

pub record EntryBy (all es : List Entry) (block : Place) (number : ℕ) (held : Held) (e : BlockEntry) (next : Held) : Type 0 where
  pub holds : Holds (entries_after es (located_entry (number ∷ block) e)) block (number + 1) next.own
  pub added : List NamedClass
  pub classes : next.classes ≡ held.classes ++ added
  pub named : NamedEntry all (number ∷ block) e added

pub record EntriesBy (all : List Entry) (block : Place) (number : ℕ) (held : Held) (entries : List BlockEntry) (next : Held) : Type 0 where
  pub added : List NamedClass
  pub classes : next.classes ≡ held.classes ++ added
  pub named : Named all block number entries added

module _ (all : List Entry) where
  pub entry_tells : (es : List Entry) (block : Place) (number : ℕ) (outer : Seen) (held : Held) (e : BlockEntry) → Reads all es (located_entry (number ∷ block) e) →
      Clear es block number → Holds es block number held.own → Sees es block outer →
      Tells (Unit {0}) (entry_told outer held e) (faults_after es (located_entry (number ∷ block) e)) (EntryBy all es block number held e)
  entry_tells es block number outer held (Assigned setting) reads clear holds sees =
      tells_unless (Unit {0}) (minus_faults (setting ∷ [])) (Ok held) [] (EntryBy all es block number held (Assigned setting))
      (λ e. (
        refl,
        record {
          holds = subst (λ fs. Holds fs block (number + 1) held.own) (sym (append-nil es)) (holds_next es block number held.own clear holds);
          added = [];
          classes = sym (append-nil held.classes);
          named = refl;
        },
      ))
  entry_tells es block number outer held (Classed words form) reads clear holds sees =
      let at : Place = number ∷ block in
      let part : Part = of_block (Classed words form) in
      part_tells es block number (located_form at form) part form (shape_told (within held.own outer) form) held.own (own_name form)
      (λ shape own. record { own = own; classes = held.classes ++ (words, shape) ∷ [] }) (EntryBy all es block number held (Classed words form)) refl refl refl
      (shape_tells es at (within held.own outer) form (clear_inside es block number clear) (sees_within es block number held.own outer holds sees))
      (holds_within es block number held.own form holds) (holds_after_form es block number held.own form clear holds)
      (λ shape own known h. record {
        holds = h;
        added = (words, shape) ∷ [];
        classes = refl;
        named = (shape, refl, (reads_back all es (located_form at form) ((at, part) ∷ []) reads).0 form ∙ known);
      })
  entry_tells es block number outer held (Declared item) reads clear holds sees =
      tells_made (Unit {0}) (item_told outer held.own item) (λ made. record { own = made.own; classes = held.classes }) (faults_after es (located_item (number ∷ block) (of_block (Declared item)) item))
      (MadeBy es block number (of_block (Declared item)) item) (EntryBy all es block number held (Declared item))
      (item_tells es block number held.own outer (of_block (Declared item)) item refl refl refl clear holds sees)
      (λ made e good. record { holds = good.holds; added = []; classes = sym (append-nil held.classes); named = refl })

  pub entries_tells : (es : List Entry) (block : Place) (number : ℕ) (outer : Seen) (held : Held) (entries : List BlockEntry) → Reads all es (located_entries block number entries) →
      Clear es block number → Holds es block number held.own → Sees es block outer →
      Tells (Unit {0}) (entries_told outer held entries) (faults_after es (located_entries block number entries)) (EntriesBy all block number held entries)
  entries_tells es block number outer held [] reads clear holds sees = (refl, record { added = []; classes = sym (append-nil held.classes); named = refl })
  entries_tells es block number outer held (e ∷ more) reads clear holds sees =
      let ps : List Located = located_entry (number ∷ block) e in
      let qs : List Located = located_entries block (number + 1) more in
      let after : List Entry = entries_after es ps in
      let below : Each (Below (number ∷ block)) ps = (order_entry (number ∷ block) e).below in
      tells_same (Unit {0}) (entries_told outer held (e ∷ more)) (faults_after es ps ++ faults_after after qs) (faults_after es (ps ++ qs)) (EntriesBy all block number held (e ∷ more)) (sym (faults_after-append es ps qs))
      (tells_then (Unit {0}) (entry_told outer held e) (λ next. entries_told outer next more) (faults_after es ps) (faults_after after qs)
      (EntryBy all es block number held e) (EntriesBy all block number held (e ∷ more))
      (entry_tells es block number outer held e (reads_front all es ps qs reads) clear holds sees)
      (λ next f first. tells_as (Unit {0}) (entries_told outer next more) (faults_after after qs) (EntriesBy all block (number + 1) next more) (EntriesBy all block number held (e ∷ more))
      (λ last rest. record {
        added = first.added ++ rest.added;
        classes = rest.classes ∙ ap (λ cs. cs ++ rest.added) first.classes ∙ append_assoc held.classes first.added rest.added;
        named = (first.added, rest.added, refl, first.named, rest.named);
      })
      (entries_tells after block (number + 1) outer next more (reads_back all es ps qs reads) (clear_next es block number ps clear below) first.holds (sees_after es block outer ps (unseen_inside number block ps below) sees))))
