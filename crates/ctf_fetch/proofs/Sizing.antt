-- Sizes of packets whose bytes came.
use Rattle.std.proofs.Common.{◌≡◌, ℕ, ◌*◌, ◌<◌, Bool, true, false, List, ◌++◌, length, nat_le, Option, Some, None, Result, Ok, Err, IfOk, IfSome, OnOk, inl, inr, if◌then◌else◌, refl, sym, ap, subst, ◌∙◌, arith, length-append}
use Rattle.std.proofs.lemmas.Bool.Decides.{nat_tests}
use Rattle.ctf_bits.specs.declared.source.Ending.{Ending}
use Rattle.ctf_clock.specs.declared.moment.Shift.{Shift}
use Rattle.ctf_decode.specs.Known.{Known}
use Rattle.ctf_packet.specs.Classes.{Classes, TraceForm, stream_form}
use Rattle.ctf_packet.specs.Scopes.{◌>>=◌, cut_short}
use Rattle.ctf_packet.specs.Packets.{Opened, open_at, placed, are_possible, is_there, sizes_checked}
use Rattle.ctf_packet.specs.Gives.{Exactly, Fitting, Placed}
use Rattle.ctf_packet.specs.Views.{values_of, packet_values, opened_of}
use Rattle.ctf_packet.specs.declared.packet.OpenPacket.{OpenPacket}
use Rattle.ctf_packet.specs.declared.reached.Reached.{Reached}
use Rattle.ctf_packet.specs.declared.sizes.Sizes.{Sizes}
use Rattle.ctf_packet.specs.declared.fault.StreamFault.{StreamFault}
use Rattle.ctf_packet.specs.declared.fault.StreamFault.TheVariants as faults
use Rattle.ctf_packet.proofs.Measures.{possible, impossible, not_seen, all_seen}
use Rattle.ctf_packet_demand.specs.Wants.{Begun, wanted}
use Rattle.ctf_packet_demand.specs.Laws.{WantsTell}
use Rattle.ctf_packet_demand.specs.Gives.{begun_of}
use Rattle.ctf_packet_demand.proofs.Telling.{wants_tell}
use Rattle.ctf_fetch.specs.Fetching.{longest_bytes, OrNoMemory, FetchedAt}
use Rattle.ctf_fetch.specs.Openings.{want_of, TakesRest, TakesSized, Opens}
use Rattle.ctf_fetch.specs.declared.packet_start.Opening.{Opening}

abbrev laws : WantsTell Classes
laws = wants_tell

-- what the rest of a stream as a packet has as its sizes
abbrev rest_of : ℕ → Sizes
rest_of n = record { packet = 8 * n; content = 8 * n }

checked_long : (ending : Ending) (n first : ℕ) (b : Bool) → longest_bytes < n → are_possible (rest_of n) first ≡ b → sizes_checked None None ending (8 * n) first ≡ Err faults.ImpossibleSizes
checked_long ending n first true long can = let bounded = (possible (rest_of n) first can).2 in absurd (omega (arith, long, bounded))
checked_long ending n first false long can = impossible None None ending (8 * n) first can

-- the rest of a stream is too long for a packet
pub too_long : (ending : Ending) (n first : ℕ) → longest_bytes < n → sizes_checked None None ending (8 * n) first ≡ Err faults.ImpossibleSizes
too_long ending n first long = checked_long ending n first (are_possible (rest_of n) first) long refl

pub refused_rest : (ending : Ending) (first : ℕ) (bytes left : List ℕ) (told : Option Sizes) (fault : StreamFault) → told ≡ None → TakesRest ending bytes left (Err fault) → TakesSized ending first bytes left told (Err fault)
refused_rest ending first bytes left told fault none takes =
    subst (λ o. TakesSized ending first bytes left o (Err fault)) (sym none)
    (elim takes [
      | inl refused ↦ inl refused
      | inr long ↦ inr (too_long ending (length (bytes ++ left)) first long.1 ∙ ap Err (sym long.0))
    ])

checked_rest : (ending : Ending) (n first : ℕ) (sizes : Sizes) (can there : Bool) → are_possible (rest_of n) first ≡ can → is_there None None ending (rest_of n) (8 * n) ≡ there
    → sizes_checked None None ending (8 * n) first ≡ Ok sizes → sizes ≡ rest_of n
checked_rest ending n first sizes false there cannot seen is = (let bad = sym (impossible None None ending (8 * n) first cannot) ∙ is in cc)
checked_rest ending n first sizes true false can missing is = (let bad = sym (not_seen None None ending (8 * n) first can missing) ∙ is in cc)
checked_rest ending n first sizes true true can seen is = (let good = sym (all_seen None None ending (8 * n) first can seen) ∙ is in cc)

-- the rest of a stream has the sizes of what is left
pub rest_sized : (ending : Ending) (n first : ℕ) (result : Result Sizes StreamFault) → result ≡ sizes_checked None None ending (8 * n) first → IfOk result (λ sizes. sizes.packet ≡ 8 * n)
rest_sized ending n first (Ok sizes) is = ap (λ (s : Sizes). s.packet) (checked_rest ending n first sizes (are_possible (rest_of n) first) (is_there None None ending (rest_of n) (8 * n)) refl refl (sym is))
rest_sized ending n first (Err fault) is = tt

module _ (trace : TraceForm Classes) (reached : Option Reached) (shift : Shift) (known : Known) (opening : Opening) (bytes : List ℕ) where
  abbrev begun : Begun Classes
  begun = begun_of shift (values_of known) opening.begun

  pub told_possible : (told : Option Sizes) → wanted trace reached bytes ≡ want_of shift known opening told → IfSome told (λ sizes. are_possible sizes opening.begun.first ≡ true)
  told_possible (Some sizes) asks = laws.possible trace reached bytes begun sizes asks
  told_possible None asks = tt

  pub told_alone : (told : Option Sizes) → wanted trace reached bytes ≡ want_of shift known opening told → packet_values (values_of known) ≡ values_of known
  told_alone (Some sizes) asks = laws.alone trace reached bytes begun sizes asks
  told_alone None asks = laws.rest_alone trace reached bytes begun asks

  module _ (ending : Ending) (at : ℕ) (left later after : List ℕ) (same : later ++ after ≡ bytes ++ left) where
    abbrev place_of : Sizes → Result (Opened Classes) StreamFault
    place_of sizes = placed (stream_form shift opening.begun.stream.now) reached at (values_of known) opening.begun.first sizes

    not_there : (told : Sizes) → 8 * length (later ++ after) < told.packet → nat_le told.packet (8 * length (bytes ++ left)) ≡ false
    not_there told few = let n = ap length same in grind (arith, nat_tests)

    pub no_sizes : (told : Option Sizes) (fault : StreamFault) → wanted trace reached bytes ≡ want_of shift known opening told → TakesSized ending opening.begun.first later after told (Err fault)
        → OrNoMemory (λ f. open_at trace ending reached at (bytes ++ left) ≡ Err f) fault
    no_sizes (Some told) fault asks takes = elim takes [
      | inl refused ↦ inl refused
      | inr short ↦
          inr (laws.whole trace ending reached at bytes left begun told asks
          ∙ ap (λ b. if b then place_of told else Err (cut_short ending)) (not_there told short.1)
          ∙ ap Err (sym short.0))
    ]
    no_sizes None fault asks takes = elim takes [
      | inl refused ↦ inl refused
      | inr is ↦
          inr (laws.rest trace ending reached at bytes left begun asks
          ∙ ap (λ l. sizes_checked None None ending (8 * length l) opening.begun.first >>= place_of) (sym same)
          ∙ ap (λ r. r >>= place_of) is)
    ]

    all_there : (told sizes : Sizes) → sizes ≡ told → sizes.packet ≡ 8 * length later → nat_le told.packet (8 * length (bytes ++ left)) ≡ true
    all_there told sizes is whole =
        let n = ap length same in
        let m = length-append later after in
        let p = ap (λ (s : Sizes). s.packet) is in
        grind (arith, nat_tests)

    -- the packet is placed
    pub sizes_place : (told : Option Sizes) (sizes : Sizes) → wanted trace reached bytes ≡ want_of shift known opening told → TakesSized ending opening.begun.first later after told (Ok sizes)
        → sizes.packet ≡ 8 * length later → open_at trace ending reached at (bytes ++ left) ≡ place_of sizes
    sizes_place (Some told) sizes asks is whole =
        laws.whole trace ending reached at bytes left begun told asks
        ∙ ap (λ b. if b then place_of told else Err (cut_short ending)) (all_there told sizes is whole)
        ∙ ap place_of (sym is)
    sizes_place None sizes asks is whole =
        laws.rest trace ending reached at bytes left begun asks
        ∙ ap (λ l. sizes_checked None None ending (8 * length l) opening.begun.first >>= place_of) (sym same)
        ∙ ap (λ r. r >>= place_of) is

-- what was placed is the packet
pub opens_placed : (shift : Shift) (known : Known) (opened p : Result (Opened Classes) StreamFault) (result : Result OpenPacket StreamFault) → opened ≡ p → Exactly (opened_of shift (values_of known)) result p → Opens shift known opened result
opens_placed shift known opened p (Ok packet) same is = same ∙ is
opens_placed shift known opened p (Err fault) same is = inr (same ∙ is)

pub fetched_at : (at first : ℕ) (bytes : List ℕ) (shift : Shift) (sizes : Sizes) (result : Result OpenPacket StreamFault) → Fitting first (length bytes) sizes → sizes.packet ≡ 8 * length bytes
    → IfOk result (λ packet. packet.timeline ≡ (stream_form shift packet.stream.now).line) → IfOk result (Placed at first sizes) → IfOk result (FetchedAt at bytes shift)
fetched_at at first bytes shift sizes (Ok packet) fits whole line places =
    let some = fits.some in
    let bounded = fits.bounded in
    let begun = fits.begun in
    let inside = fits.inside in
    let ends = places.ends in
    let begins = places.begins in
    let content = places.content in
    record {
      starts = places.starts;
      ends = omega (arith, ends, whole);
      some = omega (arith, some, whole);
      bounded = omega (arith, bounded, whole);
      begun = omega (arith, begins, content, begun);
      inside = omega (arith, content, inside, whole);
      line = line;
    }
fetched_at at first bytes shift sizes (Err fault) fits whole line places = tt

pub on_ok : {A E : Type 0} (result : Result A E) (P : Type 0) → P → OnOk result P
on_ok (Ok x) P h = h
on_ok (Err e) P h = tt
