-- Laws of the classes that metadata denote.
use Rattle.tsdl_tree.specs.declared.tree.Tree.{Tree}
use Rattle.ctf_class.specs.declared.trace.TraceClass.{TraceClass}
use Rattle.ctf_clock.specs.declared.moment.Shift.{Shift}
use Rattle.ctf_meaning.specs.Denotes.{Denotes}
use Rattle.ctf_packet.specs.Classes.{trace_form}
use Rattle.class_laws.specs.Reading.{FindsInTrace}
use Rattle.class_laws.specs.Sizes.{TraceSized}

-- With the scopes of a reader no length and no tag is missing: in a trace class that a text denotes each length is that
-- of an unsigned integer before it and each tag an enumeration's number before it, whatever a stream holds.
abbrev pub LengthsAndTagsAreFound : Type 0
LengthsAndTagsAreFound =
    (tree : Tree) (class : TraceClass) (shift : Shift) → Denotes tree class
    → FindsInTrace (trace_form shift class)

-- Each integer of a trace class that a text denotes has 1 to 64 bits. So the clock of each stream goes by what
-- ctf_decode's `moving` gives, at each value of its scopes.
abbrev pub IntegersAreSized : Type 0
IntegersAreSized =
    (tree : Tree) (class : TraceClass) (shift : Shift) → Denotes tree class
    → TraceSized (trace_form shift class)
