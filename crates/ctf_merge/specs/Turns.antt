-- The turns of streams: which of their first items comes next.
use Rattle.std.specs.Prelude.{◌≡◌, ℕ, suc, ℤ, List, [], ◌∷◌, Option, Some, None}
use Rattle.std.specs.Ordering.{int_cmp, nat_cmp, ordering_then}
use Rattle.std.specs.Option.{option_cmp}
use Rattle.std.specs.Cmp.{IsTotalOrder, then_total, on_total, int_cmp_total, nat_cmp_total}
use Rattle.std.specs.Cmp.Lexicographic.{options_total}
use Rattle.std.specs.List.{AllByRecursion}
use Rattle.std.specs.declared.cmp.Ordering.{Ordering}
use Rattle.ctf_packet.specs.declared.fault.StreamFault.{StreamFault}
use Rattle.ctf_stream.specs.Peeked.{told}
use Rattle.ctf_stream.specs.Reader as reader
use Rattle.ctf_stream.specs.declared.peeked.Peeked.{Peeked}
use Rattle.ctf_stream.specs.declared.peeked.Peeked.TheVariants as aheads

-- the turn of a stream with a current item
pub record Turn : Type 0 where
  -- the item's time, in nanoseconds since the epoch, where its stream has a clock
  pub time : Option ℤ
  -- the stream's number, from 0
  pub number : ℕ

-- by time, none first, and then by stream
abbrev pub turn_cmp : Turn → Turn → Ordering
turn_cmp x y = ordering_then (option_cmp int_cmp x.time y.time) (nat_cmp x.number y.number)

pub turns_total : IsTotalOrder turn_cmp
turns_total =
    then_total (on_total (λ (t : Turn). t.time) (options_total int_cmp_total))
    (on_total (λ (t : Turn). t.number) nat_cmp_total)

-- the turn of a stream, where it has a current item
abbrev pub turn_at : ℕ → Peeked → Option Turn
turn_at number aheads.Start = None
turn_at number (aheads.Item time) = Some (record { time = time; number = number })
turn_at number aheads.Ended = None
turn_at number (aheads.Fault f) = None

-- the turns of streams that are numbered from a number on
abbrev pub turns_from : ℕ → List reader.Peeked → List (Option Turn)
turns_from from [] = []
turns_from from (h ∷ hs) = turn_at from (told h) ∷ turns_from (suc from) hs

-- the current fault
abbrev pub fault_at : Peeked → Option StreamFault
fault_at aheads.Start = None
fault_at (aheads.Item time) = None
fault_at aheads.Ended = None
fault_at (aheads.Fault f) = Some f

-- the turns of streams of which none has a current fault
pub record LinedUp (heads : List reader.Peeked) (turns : List (Option Turn)) : Type 0 where
  pub sound : AllByRecursion (λ h. fault_at (told h) ≡ None) heads
  pub turns_are : turns ≡ turns_from 0 heads
