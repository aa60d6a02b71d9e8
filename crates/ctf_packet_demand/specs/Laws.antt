-- Laws of what the first bytes of a packet ask for.
use Rattle.std.specs.Prelude.{◌≡◌, ℕ, ◌*◌, ◌<◌, ◌≤◌, min, true, List, ◌++◌, length, nat_le, if◌then◌else◌, Option, None, Err}
use Rattle.ctf_bits.specs.declared.source.Ending.{Ending}
use Rattle.ctf_decode.specs.Breaks.{past}
use Rattle.ctf_packet.specs.Classes.{TraceForm}
use Rattle.ctf_packet.specs.Scopes.{◌>>=◌, longest, cut_short, fault_in_front}
use Rattle.ctf_packet.specs.Packets.{open_at, placed, are_possible, sizes_checked}
use Rattle.ctf_packet.specs.Views.{packet_values}
use Rattle.ctf_packet.specs.declared.reached.Reached.{Reached}
use Rattle.ctf_packet.specs.declared.sizes.Sizes.{Sizes}
use Rattle.ctf_packet.specs.declared.fault.StreamFault.{StreamFault}
use Rattle.ctf_packet_demand.specs.Wants as wants
use Rattle.ctf_packet_demand.specs.Wants.{Begun, wanted}

-- What some first bytes ask for settles what a packet with these first bytes is, whatever follows them.
pub record WantsTell (C : Type 0) : Type 0 where
  -- a fault that is there is the packet's
  pub faulty : (trace : TraceForm C) (ending : Ending) (reached : Option Reached) (start : ℕ)
      (have more_bytes : List ℕ) (fault : StreamFault)
      → wanted trace reached have ≡ wants.faulty fault
      → open_at trace ending reached start (have ++ more_bytes) ≡ Err fault
  -- where fewer bits are left, or may be, than are asked for, that is the packet's fault
  pub more : (trace : TraceForm C) (ending : Ending) (reached : Option Reached) (start : ℕ)
      (have more_bytes : List ℕ) (bits : ℕ)
      → wanted trace reached have ≡ wants.more bits
      → min (8 * length (have ++ more_bytes)) longest < bits
      → open_at trace ending reached start (have ++ more_bytes)
      ≡ Err (fault_in_front ending (past bits))
  -- more is asked for than is there
  pub beyond : (trace : TraceForm C) (reached : Option Reached) (have : List ℕ) (bits : ℕ)
      → wanted trace reached have ≡ wants.more bits → min (8 * length have) longest < bits
  -- a packet whose sizes are given is there where so many bits are left
  pub whole : (trace : TraceForm C) (ending : Ending) (reached : Option Reached) (start : ℕ)
      (have more_bytes : List ℕ) (begun : Begun C) (sizes : Sizes)
      → wanted trace reached have ≡ wants.whole begun sizes
      → open_at trace ending reached start (have ++ more_bytes)
      ≡ (if nat_le sizes.packet (8 * length (have ++ more_bytes)) then
      placed begun.stream reached start begun.values begun.first sizes
      else Err (cut_short ending))
  -- they can be
  pub possible : (trace : TraceForm C) (reached : Option Reached) (have : List ℕ) (begun : Begun C)
      (sizes : Sizes)
      → wanted trace reached have ≡ wants.whole begun sizes → are_possible sizes begun.first ≡ true
  -- a packet whose sizes are not given is what is left
  pub rest : (trace : TraceForm C) (ending : Ending) (reached : Option Reached) (start : ℕ)
      (have more_bytes : List ℕ) (begun : Begun C)
      → wanted trace reached have ≡ wants.rest begun
      → open_at trace ending reached start (have ++ more_bytes)
      ≡ (sizes_checked None None ending (8 * length (have ++ more_bytes)) begun.first
      >>= (λ (sizes : Sizes). placed begun.stream reached start begun.values begun.first sizes))
  -- it begins its event records after each place that was asked for
  pub begins : (trace : TraceForm C) (reached : Option Reached) (have more_bytes : List ℕ)
      (bits : ℕ) (begun : Begun C) (sizes : Sizes)
      → wanted trace reached have ≡ wants.more bits
      → wanted trace reached (have ++ more_bytes) ≡ wants.whole begun sizes → bits ≤ begun.first
  -- it has the values of its header and context, and no other
  pub alone : (trace : TraceForm C) (reached : Option Reached) (have : List ℕ) (begun : Begun C)
      (sizes : Sizes)
      → wanted trace reached have ≡ wants.whole begun sizes
      → packet_values begun.values ≡ begun.values
  pub rest_alone : (trace : TraceForm C) (reached : Option Reached) (have : List ℕ)
      (begun : Begun C)
      → wanted trace reached have ≡ wants.rest begun → packet_values begun.values ≡ begun.values
