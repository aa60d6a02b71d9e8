-- The trace class of a text, or a fault of it.
use Rattle.std.specs.Prelude.{◌≡◌, ◌⊎◌, false, List, [], ◌∷◌, Option, Some, None, Result, Ok, Err, Contains}
use Rattle.ctf_bits.specs.declared.number.Order.{Order}
use Rattle.ctf_class.specs.declared.trace.TraceClass.{TraceClass}
use Rattle.ctf_meaning.specs.declared.fault.ResolveFault.{ResolveFault}
use Rattle.ctf_meaning.specs.declared.fault.ResolveFault.TheVariants.{NoMemory}
use Rattle.ctf_meaning.specs.Name.{Word}
use Rattle.ctf_meaning.specs.Written.{Declaration}
use Rattle.ctf_meaning.specs.Faults.{faults}
use Rattle.ctf_meaning.specs.Denotes.{class_of_text, host_of}
use Rattle.ctf_meaning.specs.Laws.{HasNoOwnFault}
use Rattle.ctf_meaning_steps.specs.Blocks.{Placed, Walked, text_told}
use Rattle.ctf_types.specs.declared.gather.TraceParts.{TraceParts}
use Rattle.ctf_types.specs.declared.linked.StreamHead.{StreamHead}
use Rattle.ctf_types.specs.declared.trace.TraceAt.{TraceAt}
use Rattle.ctf_types.specs.Gone.{AllGiven}
use Rattle.ctf_types.specs.Whole.{IsTraceOf}

-- the head of a stream without a block
abbrev pub plain_head : StreamHead
plain_head = record {
  id = 0;
  packet_context = None;
  event_header = None;
  event_context = None;
  clock = None;
  has_several = false;
}

abbrev pub or_plain_head : List StreamHead → List StreamHead
or_plain_head [] = plain_head ∷ []
or_plain_head (h ∷ hs) = h ∷ hs

-- the text was gone through to its end, and these are the scopes of its declarations
pub record IsWalked (text : List Declaration) (rows : List (List Placed)) : Type 0 where
  pub walked : Walked
  pub told : text_told text ≡ Ok walked
  pub same : rows ≡ walked.rows

-- a class only where the text denotes it, a fault only where it is one that may be reported
abbrev pub Resolves : List Declaration → Result TraceClass ResolveFault → Type 0
Resolves text (Ok t) = (faults text ≡ []) × (class_of_text text ≡ Some t)
Resolves text (Err fault) = (fault ≡ NoMemory) ⊎ Contains (faults text) fault

-- all parts of a text without faults of declarations are there
pub record IsFinished (text : List Declaration) (trace : Option TraceAt) (host : Option Word)
    (parts : TraceParts) : Type 0 where
  pub own : HasNoOwnFault text
  pub traced : IsTraceOf text trace
  pub hosted : host ≡ host_of text
  pub order : Order
  pub ordered : (t : TraceAt) → trace ≡ Some t → t.settings.order ≡ order
  pub given : AllGiven text order parts
