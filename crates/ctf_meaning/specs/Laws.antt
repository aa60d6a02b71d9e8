-- What holds of the meaning of every text.
use Rattle.std.specs.Prelude.{◌≡◌, ◌⊎◌, ◌≤◌, List, [], ◌∷◌, ◌++◌, map, flat_map, Some}
use Rattle.tsdl_tree.specs.declared.tree.Tree.{Tree}
use Rattle.ctf_class.specs.declared.trace.TraceClass.{TraceClass}
use Rattle.ctf_meaning.specs.declared.fault.ResolveFault.{ResolveFault}
use Rattle.ctf_meaning.specs.declared.fault.ResolveFault.TheVariants.{NoMemory}
use Rattle.ctf_meaning.specs.Name.{Name}
use Rattle.ctf_meaning.specs.Written.{Declaration, Form, items_of, body_of}
use Rattle.ctf_meaning.specs.Parts.{Located, located_from, class_of}
use Rattle.ctf_meaning.specs.Shapes.{Shape, fields_by, depth_of}
use Rattle.ctf_meaning.specs.Names.{meaning, entries_after, entries_in, shape_named, shape_of}
use Rattle.ctf_meaning.specs.Own.{field_names, part_faults, most_deep}
use Rattle.ctf_meaning.specs.Streams.{numbered}
use Rattle.ctf_meaning.specs.Faults.{own_faults}
use Rattle.ctf_meaning.specs.Denotes.{Denotes, Faulty}

-- A text denotes one trace class at the most.
abbrev pub OneClass : Type 0
OneClass = (tree : Tree) (s t : TraceClass) → Denotes tree s → Denotes tree t → s ≡ t

-- A text denotes no trace class where it has a fault that may be reported.
abbrev pub NeverBoth : Type 0
NeverBoth =
    (tree : Tree) (t : TraceClass) (fault : ResolveFault) → Denotes tree t → Faulty tree fault → ⊥

-- A text denotes a trace class, or has a fault that may be reported.
abbrev pub ClassOrFault : Type 0
ClassOrFault =
    (tree : Tree)
    → ((t : TraceClass) × Denotes tree t) ⊎ ((fault : ResolveFault) × Faulty tree fault)

-- A fault that may be reported is one of a rule: `NoMemory` is none.
abbrev pub FaultsAreNamed : Type 0
FaultsAreNamed = (tree : Tree) → Faulty tree NoMemory → ⊥

-- What is before a part decides what the part means: each of these is the same by the entries of the parts before it
-- and by all entries of the text. What a name means where the part is:
abbrev pub NamesReadEarlier : Type 0
NamesReadEarlier =
    (text : List Declaration) (earlier later : List Located) (p : Located) (name : Name) →
    located_from 0 text ≡ earlier ++ p ∷ later →
    meaning (entries_in text) p.0 name ≡ meaning (entries_after [] earlier) p.0 name

-- the class that is written there,
abbrev pub ClassesReadEarlier : Type 0
ClassesReadEarlier =
    (text : List Declaration) (earlier later : List Located) (p : Located) (form : Form) →
    located_from 0 text ≡ earlier ++ p ∷ later →
    shape_of (entries_in text) p.0 form ≡ shape_of (entries_after [] earlier) p.0 form

-- and what is wrong with the part.
abbrev pub FaultsReadEarlier : Type 0
FaultsReadEarlier =
    (text : List Declaration) (earlier later : List Located) (p : Located) →
    located_from 0 text ≡ earlier ++ p ∷ later →
    part_faults (entries_in text) p ≡ part_faults (entries_after [] earlier) p

-- no declaration has an own fault
abbrev pub HasNoOwnFault : List Declaration → Type 0
HasNoOwnFault text = flat_map (own_faults text) (numbered text) ≡ []

-- Where there is no own fault, each class that is written is known.
abbrev pub EachHasShape : Type 0
EachHasShape =
    (text : List Declaration) → HasNoOwnFault text →
    (earlier later : List Located) (p : Located) (form : Form) →
    located_from 0 text ≡ earlier ++ p ∷ later → class_of p.1 ≡ Some form →
    (shape : Shape) × (shape_of (entries_in text) p.0 form ≡ Some shape)

-- Where there is no own fault, a structure has the members, and a variant the options, that are written in its body.
abbrev pub KeepsMembers : Type 0
KeepsMembers =
    (text : List Declaration) → HasNoOwnFault text →
    (earlier later : List Located) (p : Located) (form : Form) →
    located_from 0 text ≡ earlier ++ p ∷ later → class_of p.1 ≡ Some form →
    map (λ f. f.name) (fields_by (shape_named (entries_in text)) p.0 0 (items_of form))
    ≡ flat_map field_names (body_of form)

-- Where there is no own fault, no class that is written is deeper than the limit.
abbrev pub DepthBounded : Type 0
DepthBounded =
    (text : List Declaration) → HasNoOwnFault text →
    (earlier later : List Located) (p : Located) (form : Form) (shape : Shape) →
    located_from 0 text ≡ earlier ++ p ∷ later → class_of p.1 ≡ Some form
    → shape_of (entries_in text) p.0 form ≡ Some shape →
    depth_of shape ≤ most_deep
