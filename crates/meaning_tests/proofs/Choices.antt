-- Which option of a variant a tag's number names, and what is in an event's heading.
use Rattle.std.specs.Prelude.{◌≡◌, false, List, [], ◌∷◌, Some, None, pos, codes, refl}
use Rattle.tsdl_tree.specs.declared.tree.BlockKind.TheVariants as kind
use Rattle.tsdl_tree.specs.declared.tree.TableKind.TheVariants as table
use Rattle.tsdl_tree.specs.declared.tree.Container.TheVariants as container
use Rattle.tsdl_tree.specs.declared.tree.Label.{Label}
use Rattle.ctf_bits.specs.declared.number.Order.TheVariants.{Le}
use Rattle.ctf_class.specs.declared.class.Class.{Class}
use Rattle.ctf_class.specs.declared.class.Kind.TheVariants as class
use Rattle.ctf_class.specs.declared.integer.Base.TheVariants as base
use Rattle.ctf_class.specs.declared.span.Choice.{Choice}
use Rattle.ctf_class.specs.declared.span.Label.{Label as ClassLabel}
use Rattle.ctf_meaning.specs.Name.{Word}
use Rattle.ctf_meaning.specs.Written.{Declaration, Item, Block, Table, Assigned, Variant, Enum, items_from}
use Rattle.ctf_meaning.specs.Denotes.{class_of_text}
use Rattle.meaning_tests.proofs.Writing.{le_trace, event_with, denotes_fields, quotes, counts, plus, sized, field, bare, single, ranged, number, unsigned, inside, covers, choice, made, member, event, stream, trace, told}

-- enum : integer { size = 8; } { LABELS } t; variant <t> { integer { size = 8; } OPTION; .. } v;
abbrev option : Word → Item
option n = field (sized 8) n

abbrev chosen : List Label → List Item → List Declaration
chosen labels options =
    le_trace
    ∷ event_with (field (Enum None (Some (container.Integer (counts (codes "size") 8 ∷ []))) labels) (codes "t") ∷ field (Variant None (Some (codes "t" ∷ [])) (items_from options)) (codes "v") ∷ [])
    ∷ []

abbrev class_chosen : List ClassLabel → List Choice → Class
class_chosen labels choices =
    made 8 3 5 (class.Structure (
    member (codes "t") (made 8 1 1 (class.Enumeration (number 8 false base.Decimal Le false) labels))
    ∷ member (codes "v") (made 1 2 3 (class.Variant (inside 0 (0 ∷ [])) choices (member (codes "A") (unsigned 8 8) ∷ member (codes "B") (unsigned 8 8) ∷ [])))
    ∷ []))

-- Choices are in the order of the labels, not of the options: enum { B, A } and variant { A; B; }.
pub in_order_of_labels_class : class_of_text (chosen (bare (codes "B") ∷ bare (codes "A") ∷ []) (option (codes "A") ∷ option (codes "B") ∷ []))
    ≡ denotes_fields (class_chosen (covers (codes "B") (pos 0) (pos 0) ∷ covers (codes "A") (pos 1) (pos 1) ∷ []) (choice (pos 0) (pos 0) 1 ∷ choice (pos 1) (pos 1) 0 ∷ []))
in_order_of_labels_class = refl

-- A label without an option gives no choice, though it covers the number of one that does: LOW = 0 ... 9.
pub label_without_option_faults : told (chosen (ranged (codes "LOW") (plus 0) (plus 9) ∷ single (codes "A") (plus 1) ∷ bare (codes "B") ∷ []) (option (codes "A") ∷ option (codes "B") ∷ [])) ≡ []
label_without_option_faults = refl

pub label_without_option_class : class_of_text (chosen (ranged (codes "LOW") (plus 0) (plus 9) ∷ single (codes "A") (plus 1) ∷ bare (codes "B") ∷ []) (option (codes "A") ∷ option (codes "B") ∷ []))
    ≡ denotes_fields (class_chosen (covers (codes "LOW") (pos 0) (pos 9) ∷ covers (codes "A") (pos 1) (pos 1) ∷ covers (codes "B") (pos 2) (pos 2) ∷ []) (choice (pos 1) (pos 1) 0 ∷ choice (pos 2) (pos 2) 1 ∷ []))
label_without_option_class = refl

-- An option without a label is taken, and no number names it.
pub option_without_label_faults : told (chosen (bare (codes "A") ∷ []) (option (codes "A") ∷ option (codes "B") ∷ [])) ≡ []
option_without_label_faults = refl

pub option_without_label_class : class_of_text (chosen (bare (codes "A") ∷ []) (option (codes "A") ∷ option (codes "B") ∷ []))
    ≡ denotes_fields (class_chosen (covers (codes "A") (pos 0) (pos 0) ∷ []) (choice (pos 0) (pos 0) 0 ∷ []))
option_without_label_class = refl

-- A label that is there twice gives a choice each time, and ranges that overlap stay as they are.
pub label_twice_class : class_of_text (chosen (ranged (codes "A") (plus 0) (plus 3) ∷ ranged (codes "B") (plus 2) (plus 5) ∷ single (codes "A") (plus 300) ∷ []) (option (codes "A") ∷ option (codes "B") ∷ []))
    ≡ denotes_fields (class_chosen (covers (codes "A") (pos 0) (pos 3) ∷ covers (codes "B") (pos 2) (pos 5) ∷ covers (codes "A") (pos 300) (pos 300) ∷ [])
    (choice (pos 0) (pos 3) 0 ∷ choice (pos 2) (pos 5) 1 ∷ choice (pos 300) (pos 300) 0 ∷ []))
label_twice_class = refl

-- Names are compared as they are written: the label `_A` is not the option `A`.
pub underscore_counts_class : class_of_text (chosen (bare (codes "_A") ∷ bare (codes "B") ∷ []) (option (codes "A") ∷ option (codes "B") ∷ []))
    ≡ denotes_fields (class_chosen (covers (codes "_A") (pos 0) (pos 0) ∷ covers (codes "B") (pos 1) (pos 1) ∷ []) (choice (pos 1) (pos 1) 1 ∷ []))
underscore_counts_class = refl

-- Two variants by one tag have choices of their own.
abbrev pub one_tag : List Declaration
one_tag =
    le_trace
    ∷ event_with (field (Enum None (Some (container.Integer (counts (codes "size") 8 ∷ []))) (bare (codes "A") ∷ bare (codes "B") ∷ [])) (codes "t")
    ∷ field (Variant None (Some (codes "t" ∷ [])) (items_from (option (codes "A") ∷ []))) (codes "v")
    ∷ field (Variant None (Some (codes "t" ∷ [])) (items_from (option (codes "B") ∷ []))) (codes "w") ∷ [])
    ∷ []

pub one_tag_class : class_of_text one_tag ≡ denotes_fields (made 8 3 6 (class.Structure (
    member (codes "t") (made 8 1 1 (class.Enumeration (number 8 false base.Decimal Le false) (covers (codes "A") (pos 0) (pos 0) ∷ covers (codes "B") (pos 1) (pos 1) ∷ [])))
    ∷ member (codes "v") (made 1 2 2 (class.Variant (inside 0 (0 ∷ [])) (choice (pos 0) (pos 0) 0 ∷ []) (member (codes "A") (unsigned 8 8) ∷ [])))
    ∷ member (codes "w") (made 1 2 2 (class.Variant (inside 0 (0 ∷ [])) (choice (pos 1) (pos 1) 0 ∷ []) (member (codes "B") (unsigned 8 8) ∷ [])))
    ∷ [])))
one_tag_class = refl

-- An empty label is a label, and names no option: enum { "" = 0, A } and variant { A; B; }.
pub label_empty_class : class_of_text (chosen (single (codes "") (plus 0) ∷ bare (codes "A") ∷ []) (option (codes "A") ∷ option (codes "B") ∷ []))
    ≡ denotes_fields (class_chosen (covers (codes "") (pos 0) (pos 0) ∷ covers (codes "A") (pos 1) (pos 1) ∷ []) (choice (pos 1) (pos 1) 0 ∷ []))
label_empty_class = refl

-- The host is in the heading of each event, also of one before the environment.
-- trace { .. }; event { name = "a"; }; env { hostname = "h"; }; event { name = ""; id = 1; };
abbrev pub headings : List Declaration
headings =
    le_trace
    ∷ Block kind.Event (Assigned (quotes (codes "name") (codes "a")) ∷ [])
    ∷ Table table.Env (quotes (codes "hostname") (codes "h") ∷ [])
    ∷ Block kind.Event (Assigned (quotes (codes "name") (codes "")) ∷ Assigned (counts (codes "id") 1) ∷ [])
    ∷ []

pub headings_faults : told headings ≡ []
headings_faults = refl

pub headings_class : class_of_text headings ≡ Some (trace None (Some (codes "h")) None (stream 0 None None None None (
    event (Some (codes "h")) 0 (codes "a") None (made 1 1 1 (class.Structure []))
    ∷ event (Some (codes "h")) 1 (codes "") None (made 1 1 1 (class.Structure [])) ∷ []) ∷ []))
headings_class = refl
