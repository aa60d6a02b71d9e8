-- A packet that was fetched.
use Rattle.std.proofs.Common.{◌≡◌, ℕ, ◌+◌, ◌-◌, ◌<◌, ◌≤◌, false, List, [], ◌∷◌, ◌++◌, length, take, drop, nat_lt, Option, Some, Ok, Err, inl, inr, if◌then◌else◌, sym, ap, ◌∙◌, arith, length-append}
use Rattle.std.proofs.lemmas.Bool.Decides.{nat_tests}
use Rattle.std.proofs.Math.Seq.{take-append_seam, drop-append_seam}
use Rattle.ctf_bits.specs.declared.source.Ending.{Ending}
use Rattle.ctf_clock.specs.declared.moment.Moment.{Moment}
use Rattle.ctf_packet.specs.Classes.{Classes, TraceForm}
use Rattle.ctf_packet.specs.Packets.{Opened, open_at, reached_after}
use Rattle.ctf_packet.specs.Items.{Run, stops, longest_stream, opened, from_packet, from_bytes}
use Rattle.ctf_packet.specs.declared.reached.Reached.{Reached}
use Rattle.ctf_packet.specs.declared.fault.StreamFault.{StreamFault}
use Rattle.ctf_packet.specs.declared.fault.StreamFault.TheVariants as faults
use Rattle.ctf_packet.proofs.Cutting.{goes_on}
use Rattle.ctf_fetch.specs.Fetching.{after_packet, OrNoMemory}

module _ (trace : TraceForm Classes) (ending : Ending) (reached : Option Reached) (at : ℕ) where
  -- what follows a packet of what is left
  abbrev after : List ℕ → Opened Classes → Option Moment → Run Classes
  after left packet clock = from_bytes trace ending (Some (reached_after packet clock)) packet.end (drop (packet.end - packet.start) left)

  opens : (left : List ℕ) → 0 < length left → at ≤ longest_stream → from_bytes trace ending reached at left ≡ opened at left (after left) (open_at trace ending reached at left)
  opens [] some near = absurd (omega (arith, some))
  opens (byte ∷ bytes) some near =
      let within : nat_lt longest_stream at ≡ false = grind (arith, nat_tests) in
      let left = byte ∷ bytes in
      goes_on trace ending reached at byte bytes ∙ ap (λ b. if b then stops (Some faults.StreamTooLong) at else opened at left (after left) (open_at trace ending reached at left)) within

  pub fetched : (left bytes rest : List ℕ) (packet : Opened Classes) → 0 < length bytes → at ≤ longest_stream → bytes ++ rest ≡ left → open_at trace ending reached at left ≡ Ok packet
      → packet.start ≡ at → packet.end ≡ at + length bytes → from_bytes trace ending reached at left ≡ from_packet packet bytes (after_packet trace ending packet rest)
  fetched left bytes rest packet some near same is starts ends =
      let count : packet.end - packet.start ≡ length bytes = omega (arith, starts, ends) in
      let front : take (packet.end - packet.start) left ≡ bytes = ap (λ n. take n left) count ∙ ap (take (length bytes)) (sym same) ∙ take-append_seam bytes rest in
      let after_is : drop (packet.end - packet.start) left ≡ rest = ap (λ n. drop n left) count ∙ ap (drop (length bytes)) (sym same) ∙ drop-append_seam bytes rest in
      opens left (let n = ap length same in let m = length-append bytes rest in omega (arith, n, m, some)) near ∙ ap (opened at left (after left)) is
      ∙ ap (λ l. from_packet packet l (after left packet)) front
      ∙ ap (λ l. from_packet packet bytes (λ clock. from_bytes trace ending (Some (reached_after packet clock)) packet.end l)) after_is

  pub not_fetched : (left : List ℕ) (fault : StreamFault) → 0 < length left → at ≤ longest_stream → OrNoMemory (λ f. open_at trace ending reached at left ≡ Err f) fault
      → OrNoMemory (λ f. from_bytes trace ending reached at left ≡ stops (Some f) at) fault
  not_fetched left fault some near (inl refused) = inl refused
  not_fetched left fault some near (inr is) = inr (opens left some near ∙ ap (opened at left (after left)) is)
