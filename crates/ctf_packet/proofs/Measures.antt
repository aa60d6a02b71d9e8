-- Sizes of packets whose end was seen.
use Rattle.std.proofs.Common.{◌≡◌, ◌==◌, ◌&&◌, ℕ, ◌*◌, ◌/◌, ◌%◌, ◌<◌, ◌≤◌, Bool, true, false, Option, Some, None, Result, Ok, Err, nat_lt, nat_le, refl, sym, ap, ◌∙◌, arith}
use Rattle.std.proofs.lemmas.Bool.Decides.{nat_tests}
use Rattle.ctf_bits.specs.declared.source.Ending.{Ending}
use Rattle.ctf_packet.specs.Scopes.{◌>>=◌, longest, cut_short}
use Rattle.ctf_packet.specs.Packets.{sizes_of, are_possible, is_there, sizes_checked, unless}
use Rattle.ctf_packet.specs.Gives.{SizesTold, Fitting}
use Rattle.ctf_packet.specs.declared.sizes.Sizes.{Sizes}
use Rattle.ctf_packet.specs.declared.fault.StreamFault.{StreamFault}
use Rattle.ctf_packet.specs.declared.fault.StreamFault.TheVariants as faults

both : (a b : Bool) → (a && b) ≡ true → (a ≡ true) × (b ≡ true)
both true b h = (refl, h)
both false b h = cc

-- a packet has whole bytes, and is not too long
pub possible : (s : Sizes) (end : ℕ) → are_possible s end ≡ true → (0 < s.packet) × (s.packet % 8 ≡ 0) × (s.packet ≤ longest) × (s.content ≤ s.packet) × (end ≤ s.content)
possible s end h =
    let p = both (((nat_lt 0 s.packet && s.packet % 8 == 0) && nat_le s.packet longest) && nat_le s.content s.packet) (nat_le end s.content) h in
    let q = both ((nat_lt 0 s.packet && s.packet % 8 == 0) && nat_le s.packet longest) (nat_le s.content s.packet) p.0 in
    let r = both (nat_lt 0 s.packet && s.packet % 8 == 0) (nat_le s.packet longest) q.0 in
    let t = both (nat_lt 0 s.packet) (s.packet % 8 == 0) r.0 in
    (grind (arith, nat_tests), grind (arith, nat_tests), grind (arith, nat_tests), grind (arith, nat_tests), grind (arith, nat_tests))

pub seen : (p c : Option ℕ) (ending : Ending) (s : Sizes) (rest : ℕ) → (((p ≡ None) × (c ≡ None)) → ⊥) → is_there p c ending s rest ≡ nat_le s.packet rest
seen (Some x) c ending s rest h = refl
seen None (Some y) ending s rest h = refl
seen None None ending s rest h = absurd (h (refl, refl))

-- what the checks give, one after the other
pub impossible : (p c : Option ℕ) (ending : Ending) (rest end : ℕ) → are_possible (sizes_of p c rest) end ≡ false → sizes_checked p c ending rest end ≡ Err faults.ImpossibleSizes
unfolding sizes_checked
impossible p c ending rest end h = ap (λ b. unless faults.ImpossibleSizes b >>= (λ _. unless (cut_short ending) (is_there p c ending (sizes_of p c rest) rest) >>= (λ _. Ok (sizes_of p c rest)))) h

pub not_seen : (p c : Option ℕ) (ending : Ending) (rest end : ℕ) → are_possible (sizes_of p c rest) end ≡ true → is_there p c ending (sizes_of p c rest) rest ≡ false → sizes_checked p c ending rest end ≡ Err (cut_short ending)
unfolding sizes_checked
not_seen p c ending rest end h g =
    ap (λ b. unless faults.ImpossibleSizes b >>= (λ _. unless (cut_short ending) (is_there p c ending (sizes_of p c rest) rest) >>= (λ _. Ok (sizes_of p c rest)))) h
    ∙ ap (λ b. unless (cut_short ending) b >>= (λ _. Ok (sizes_of p c rest))) g

pub all_seen : (p c : Option ℕ) (ending : Ending) (rest end : ℕ) → are_possible (sizes_of p c rest) end ≡ true → is_there p c ending (sizes_of p c rest) rest ≡ true → sizes_checked p c ending rest end ≡ Ok (sizes_of p c rest)
unfolding sizes_checked
all_seen p c ending rest end h g =
    ap (λ b. unless faults.ImpossibleSizes b >>= (λ _. unless (cut_short ending) (is_there p c ending (sizes_of p c rest) rest) >>= (λ _. Ok (sizes_of p c rest)))) h
    ∙ ap (λ b. unless (cut_short ending) b >>= (λ _. Ok (sizes_of p c rest))) g

pub none_told : (p c : Option ℕ) (ending : Ending) (rest end : ℕ) (r : Result Sizes StreamFault) → (p ≡ None) × (c ≡ None) → r ≡ sizes_checked None None ending rest end → r ≡ sizes_checked p c ending rest end
none_told p c ending rest end r h e = e ∙ (λ i. sizes_checked (sym h.0 i) (sym h.1 i) ending rest end)

-- sizes that were decoded, and a stream that is too short for them, or long enough
pub told_short : (p c : Option ℕ) (ending : Ending) (n end : ℕ) (s : Sizes) (f : StreamFault) → SizesTold p c (8 * n) end (Ok (Some s)) → n < s.packet / 8 → f ≡ cut_short ending → Err f ≡ sizes_checked p c ending (8 * n) end
told_short p c ending n end s f h l e =
    let known : are_possible (sizes_of p c (8 * n)) end ≡ true = ap (λ (x : Sizes). are_possible x end) h.0 ∙ h.1 in
    let whole = (possible s end h.1).1 in
    let more : nat_le s.packet (8 * n) ≡ false = grind (arith, nat_tests) in
    let gone : is_there p c ending (sizes_of p c (8 * n)) (8 * n) ≡ false = seen p c ending (sizes_of p c (8 * n)) (8 * n) h.2 ∙ (ap (λ (x : Sizes). nat_le x.packet (8 * n)) h.0 ∙ more) in
    ap Err e ∙ sym (not_seen p c ending (8 * n) end known gone)

pub told_seen : (p c : Option ℕ) (ending : Ending) (n end : ℕ) (s : Sizes) → SizesTold p c (8 * n) end (Ok (Some s)) → s.packet / 8 ≤ n → Ok s ≡ sizes_checked p c ending (8 * n) end
told_seen p c ending n end s h l =
    let known : are_possible (sizes_of p c (8 * n)) end ≡ true = ap (λ (x : Sizes). are_possible x end) h.0 ∙ h.1 in
    let whole = (possible s end h.1).1 in
    let fits : nat_le s.packet (8 * n) ≡ true = grind (arith, nat_tests) in
    let there : is_there p c ending (sizes_of p c (8 * n)) (8 * n) ≡ true = seen p c ending (sizes_of p c (8 * n)) (8 * n) h.2 ∙ (ap (λ (x : Sizes). nat_le x.packet (8 * n)) h.0 ∙ fits) in
    ap Ok (sym h.0) ∙ sym (all_seen p c ending (8 * n) end known there)

-- sizes that can be, of a packet whose bytes are there
pub fitting : (s : Sizes) (end n : ℕ) → are_possible s end ≡ true → s.packet / 8 ≤ n → Fitting end n s
fitting s end n h l =
    let p = possible s end h in
    let whole = p.1 in
    record { some = p.0; whole = whole; bounded = p.2; inside = p.3; begun = p.4; there = omega arith }
