-- What declarations give where none of their links fails.
use Rattle.std.specs.Prelude.{◌≡◌, ℕ, List, [], Option, Some, None}
use Rattle.tsdl_tree.specs.declared.tree.BlockKind.TheVariants.{Trace, Stream as StreamKind}
use Rattle.ctf_bits.specs.declared.number.Order.{Order}
use Rattle.ctf_class.specs.declared.class.Class.{Class}
use Rattle.ctf_class.specs.declared.route.Scope.TheVariants.{PacketHeader}
use Rattle.ctf_meaning.specs.Written.{Declaration}
use Rattle.ctf_meaning.specs.There.{first}
use Rattle.ctf_meaning.specs.Streams.{home_of_stream}
use Rattle.ctf_meaning.specs.Faults.{scope_links, clocks_moved, has_other}
use Rattle.ctf_meaning.specs.Denotes.{scope_class}
use Rattle.ctf_types.specs.declared.linked.StreamHead.{StreamHead}
use Rattle.ctf_types.specs.declared.link.MovedClock.{MovedClock}
use Rattle.ctf_types.specs.Gathered.{IsHead}

module _ (text : List Declaration) (order : Order) where
  -- the class of the packet header by the trace block of this number
  pub record IsHeader (k : ℕ) (c : Option Class) : Type 0 where
    pub clean : scope_links text (record { trace = Some k; stream = None; event = None }) Trace ≡ []
    pub made : scope_class text order (record { trace = Some k; stream = None; event = None })
        PacketHeader
        ≡ Some c

  -- the stream class of this id by the stream block of this number
  pub record HasHead (k : ℕ) (id : ℕ) (h : StreamHead) : Type 0 where
    pub clean : scope_links text (home_of_stream text (Some k)) StreamKind ≡ []
    pub head : IsHead text order (record { block = Some k; id = id }) h

-- the clock that the integers of a stream block set
pub record IsMoved (text : List Declaration) (k : ℕ) (moved : MovedClock) : Type 0 where
  pub clock : moved.clock ≡ first (clocks_moved text (Some k))
  pub several : moved.has_several ≡ has_other (clocks_moved text (Some k))
