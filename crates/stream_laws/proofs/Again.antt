-- A packet that has a size is the same whatever follows its bytes.
use Rattle.std.proofs.Common.{◌≡◌, ℕ, ◌+◌, ◌-◌, ◌*◌, ◌/◌, ◌%◌, ◌<◌, ◌≤◌, Bool, true, false, List, [], ◌++◌, length, take, drop, Option, Some, None, option_and_then, Result, Ok, Err, ◌⊎◌, inl, inr, nat_le, if◌then◌else◌, refl, sym, ap, subst, ◌∙◌, arith, codes, length-append}
use Rattle.std.specs.Prelude.{min}
use Rattle.std.proofs.lemmas.Bool.Decides.{nat_tests}
use Rattle.std.proofs.lemmas.List.{append-nil, take-append-drop, length-take-le}
use Rattle.ctf_bits.specs.declared.source.Ending.{Ending}
use Rattle.ctf_bits.specs.declared.source.Ending.TheVariants.{Clean, Failed}
use Rattle.ctf_decode.specs.Breaks.{past}
use Rattle.ctf_decode.specs.Values.{Val}
use Rattle.ctf_packet.specs.Classes.{StreamForm, TraceForm}
use Rattle.ctf_packet.specs.Scopes.{◌>>=◌, Values, Stood, no_values, longest, cut_short, fault_in_front}
use Rattle.ctf_packet.specs.Roles.{role, number_in, is_magic, uuid_field, is_of_trace}
use Rattle.ctf_packet.specs.Packets.{Opened, unless, or_fault, front, stream_named, same_stream, stream_checked, sizes_of, are_possible, is_clean, sizes_checked, clock_before, clock_after, moves, placed, open_at}
use Rattle.ctf_packet.specs.declared.reached.Reached.{Reached}
use Rattle.ctf_packet.specs.declared.sizes.Sizes.{Sizes}
use Rattle.ctf_packet.specs.declared.fault.StreamFault.{StreamFault}
use Rattle.ctf_packet.specs.declared.fault.StreamFault.TheVariants as faults
use Rattle.ctf_packet.proofs.Going.{first}
use Rattle.ctf_packet.proofs.Measures.{possible}
use Rattle.ctf_packet_demand.specs.Wants.{Begun, Want, more, whole, rest, faulty, asked_at, or_faulty, wanted}
use Rattle.ctf_packet_demand.proofs.Following.{follow, after_stream, after_header, wants}
use Rattle.ctf_packet_demand.proofs.Telling.{wants_tell}
use Rattle.stream_laws.specs.Holding.{is_rest}
use Rattle.stream_laws.proofs.Named.{same, there}

passed : (f : StreamFault) (b x : Bool) → unless f b ≡ Ok x → b ≡ true
passed f true x h = refl
passed f false x h = cc

clean : (ending : Ending) → is_clean ending ≡ true → ending ≡ Clean
clean Clean h = refl
clean Failed h = cc

-- a packet that is the rest of its stream has all its bytes, and the stream ends cleanly
pub rest_sizes : (ending : Ending) (n end : ℕ) (sizes : Sizes) → sizes_checked None None ending n end ≡ Ok sizes → (ending ≡ Clean) × (sizes.packet ≡ n)
unfolding sizes_checked
rest_sizes ending n end sizes h =
    let a = first (unless faults.ImpossibleSizes (are_possible (sizes_of None None n) end)) _ sizes h in
    let b = first (unless (cut_short ending) (is_clean ending)) _ sizes a.2 in
    let g : ◌≡◌ {A = Sizes} (sizes_of None None n) sizes = cc (b.2) in
    (clean ending (passed (cut_short ending) (is_clean ending) b.0 b.1), sym (ap (λ (z : Sizes). z.packet) g))

module _ {C : Type 0} where
  pub placed_at : (stream : StreamForm C) (reached : Option Reached) (start : ℕ) (values : Values) (place : ℕ) (sizes : Sizes) (p : Opened C) → placed stream reached start values place sizes ≡ Ok p → (p.start ≡ start) × (p.end ≡ start + sizes.packet / 8)
  unfolding placed
  placed_at stream reached start values place sizes p e =
      let a = first (clock_before stream.line reached) _ p e in
      let b = first (clock_after stream.line a.0 (moves stream.packet_context values.packet_context)) _ p a.2 in
      let starts : Result (Opened C) StreamFault → ℕ = λ r. elim r as (λ _. ℕ) [ Ok x ↦ x.start | Err f ↦ start ] in
      let ends : Result (Opened C) StreamFault → ℕ = λ r. elim r as (λ _. ℕ) [ Ok x ↦ x.end | Err f ↦ start ] in
      (sym (ap starts b.2), sym (ap ends b.2))

  -- a stream class that was checked is so at a first packet too
  at_first : (reached : Option Reached) (a b : Bool) (o : Option (StreamForm C)) (s : StreamForm C)
      → (unless faults.WrongMagic a >>= (λ _. unless faults.OtherTrace b >>= (λ _. or_fault faults.UnknownStream (option_and_then (same_stream reached) o)))) ≡ Ok s
      → (unless faults.WrongMagic a >>= (λ _. unless faults.OtherTrace b >>= (λ _. or_fault faults.UnknownStream (option_and_then (same_stream None) o)))) ≡ Ok s
  at_first reached true true (Some t) s h = ap Ok (same reached t s (there faults.UnknownStream (same_stream reached t) s h)).0
  at_first reached true true None s h = cc
  at_first reached true false o s h = cc
  at_first reached false b o s h = cc

  checked_first : (trace : TraceForm C) (reached : Option Reached) (header : Option Val) (s : StreamForm C) → stream_checked trace reached header ≡ Ok s → stream_checked trace None header ≡ Ok s
  unfolding stream_checked
  checked_first trace reached header s h =
      at_first reached (is_magic (role (codes "magic") trace.packet_header header)) (is_of_trace trace.uuid (uuid_field trace.packet_header header)) (stream_named trace.streams (number_in (role (codes "stream_id") trace.packet_header header))) s h

  -- something is asked for
  abbrev asks : Want C → Bool
  asks (more bits) = true
  asks (whole begun sizes) = true
  asks (rest begun) = true
  asks (faulty fault) = false

  rest_asks : (w : Want C) → is_rest w ≡ true → asks w ≡ true
  rest_asks (more bits) h = cc
  rest_asks (whole begun sizes) h = cc
  rest_asks (rest begun) h = refl
  rest_asks (faulty fault) h = cc

  -- what is asked for is asked for at a first packet too
  asked_first : (trace : TraceForm C) (reached : Option Reached) (have : List ℕ) → asks (wanted trace reached have) ≡ true → wanted trace None have ≡ wanted trace reached have
  asked_first trace reached have h =
      wants trace None have
      ∙ (step (asked_at trace.packet_header (front have no_values) 0 0) (subst (λ w. asks w ≡ true) (wants trace reached have) h) ∙ sym (wants trace reached have))
    where
      stream : (header : Stood) (r : Result (StreamForm C) StreamFault) → stream_checked trace reached header.value ≡ r → asks (follow (or_faulty r) (after_stream trace reached have header)) ≡ true
          → follow (or_faulty (stream_checked trace None header.value)) (after_stream trace None have header) ≡ follow (or_faulty r) (after_stream trace reached have header)
      stream header (Err f) e g = cc
      stream header (Ok s) e g = ap (λ r. follow (or_faulty r) (after_stream trace None have header)) (checked_first trace reached header.value s e)

      step : (r : Result Stood (Want C)) → asks (follow r (after_header trace reached have)) ≡ true → follow r (after_header trace None have) ≡ follow r (after_header trace reached have)
      step (Err w) g = refl
      step (Ok header) g = stream header (stream_checked trace reached header.value) refl g

  -- what is left of a stream is asked for whatever came before
  pub rest_at_first : (trace : TraceForm C) (reached : Option Reached) (have : List ℕ) → is_rest (wanted trace reached have) ≡ true → is_rest (wanted trace None have) ≡ true
  rest_at_first trace reached have h = ap is_rest (asked_first trace reached have (rest_asks (wanted trace reached have) h)) ∙ h

  module _ (trace : TraceForm C) (reached : Option Reached) (start : ℕ) (left : List ℕ) (p : Opened C) where
    abbrev placed_of : Begun C → Sizes → Result (Opened C) StreamFault
    placed_of begun sizes = placed begun.stream reached start begun.values begun.first sizes

    -- the packet has a size, and its bytes are there
    abbrev pub Sized : Type 0
    Sized = (begun : Begun C) × (sizes : Sizes) × (wanted trace reached left ≡ whole begun sizes) × (sizes.packet ≤ 8 * length left) × (placed_of begun sizes ≡ Ok p)

    -- it is all that is left of a stream that ends cleanly
    abbrev pub Resting : Ending → Type 0
    Resting ending = (is_rest (wanted trace reached left) ≡ true) × (ending ≡ Clean) × (p.start ≡ start) × (p.end ≡ start + length left)

    sized_where : (b : Bool) (begun : Begun C) (sizes : Sizes) (ending : Ending) → nat_le sizes.packet (8 * length left) ≡ b → (if b then placed_of begun sizes else Err (cut_short ending)) ≡ Ok p
        → (sizes.packet ≤ 8 * length left) × (placed_of begun sizes ≡ Ok p)
    sized_where true begun sizes ending e h = (grind (arith, nat_tests), h)
    sized_where false begun sizes ending e h = cc

    resting_where : (begun : Begun C) (ending : Ending) → (sizes_checked None None ending (8 * length left) begun.first >>= placed_of begun) ≡ Ok p → (ending ≡ Clean) × (p.start ≡ start) × (p.end ≡ start + length left)
    resting_where begun ending h =
        let a = first (sizes_checked None None ending (8 * length left) begun.first) (placed_of begun) p h in
        let s = rest_sizes ending (8 * length left) begun.first a.0 a.1 in
        let l = placed_at begun.stream reached start begun.values begun.first a.0 p a.2 in
        let e = s.1 in
        let f = l.1 in
        (s.0, l.0, omega arith)

    -- an opened packet is one or the other
    pub opened_how : (ending : Ending) → open_at trace ending reached start left ≡ Ok p → Sized ⊎ Resting ending
    opened_how ending h = one (wanted trace reached left) refl
      where
        all : open_at trace ending reached start (left ++ []) ≡ Ok p
        all = subst (λ xs. open_at trace ending reached start xs ≡ Ok p) (sym (append-nil left)) h

        one : (w : Want C) → wanted trace reached left ≡ w → Sized ⊎ Resting ending
        one (faulty fault) e = let g = wants_tell.faulty trace ending reached start left [] fault e in let bad : Err fault ≡ Ok p = sym g ∙ all in cc
        one (more bits) e =
            let l : min (8 * length left) longest < bits = wants_tell.beyond trace reached left bits e in
            let g = wants_tell.more trace ending reached start left [] bits e (subst (λ (xs : List ℕ). min (8 * length xs) longest < bits) (sym (append-nil left)) l) in
            let bad : Err (fault_in_front ending (past bits)) ≡ Ok p = sym g ∙ all in cc
        one (whole begun sizes) e =
            let g = wants_tell.whole trace ending reached start left [] begun sizes e in
            let k : (if nat_le sizes.packet (8 * length left) then placed_of begun sizes else Err (cut_short ending)) ≡ Ok p
            = subst (λ (xs : List ℕ). (if nat_le sizes.packet (8 * length xs) then placed_of begun sizes else Err (cut_short ending)) ≡ Ok p) (append-nil left) (sym g ∙ all) in
            let m = sized_where (nat_le sizes.packet (8 * length left)) begun sizes ending refl k in
            inl (begun, sizes, e, m.0, m.1)
        one (rest begun) e =
            let g = wants_tell.rest trace ending reached start left [] begun e in
            let k : (sizes_checked None None ending (8 * length left) begun.first >>= placed_of begun) ≡ Ok p
            = subst (λ (xs : List ℕ). (sizes_checked None None ending (8 * length xs) begun.first >>= placed_of begun) ≡ Ok p) (append-nil left) (sym g ∙ all) in
            let m = resting_where begun ending k in
            inr (ap is_rest e, m.0, m.1, m.2)

    -- a packet that has a size, however the stream ends
    sized_opens : (ending : Ending) → Sized → open_at trace ending reached start left ≡ Ok p
    sized_opens ending s =
        let begun = s.0 in
        let sizes = s.1 in
        let there = s.3 in
        let yes : nat_le sizes.packet (8 * length left) ≡ true = grind (arith, nat_tests) in
        let g = wants_tell.whole trace ending reached start left [] begun sizes s.2 in
        subst (λ (xs : List ℕ). open_at trace ending reached start xs ≡ (if nat_le sizes.packet (8 * length xs) then placed_of begun sizes else Err (cut_short ending))) (append-nil left) g
        ∙ (ap (λ b. if b then placed_of begun sizes else Err (cut_short ending)) yes ∙ s.4)

    -- its size
    pub sized_length : Sized → (p.start ≡ start) × (1 ≤ p.end - p.start) × (p.end - p.start ≤ length left)
    sized_length s =
        let at = placed_at s.0.stream reached start s.0.values s.0.first s.1 p s.4 in
        let can = possible s.1 s.0.first (wants_tell.possible trace reached left s.0 s.1 s.2) in
        let there = s.3 in
        (at.0, omega (arith, at.0, at.1, can.0, can.1), omega (arith, at.0, at.1, can.1))

    -- it is not the rest of its stream
    pub sized_ends : Sized → is_rest (wanted trace None left) ≡ false
    sized_ends s = ap is_rest (asked_first trace reached left (ap asks s.2) ∙ s.2)

    -- its bytes, with others after them, open the same packet
    pub opens_again : (ending : Ending) (more_bytes : List ℕ) → Sized → open_at trace ending reached start (take (p.end - p.start) left ++ more_bytes) ≡ Ok p
    opens_again ending more_bytes s = one (wanted trace reached own) refl
      where
        m : ℕ
        m = p.end - p.start

        own : List ℕ
        own = take m left

        after : List ℕ
        after = drop m left

        begun : Begun C
        begun = s.0

        sizes : Sizes
        sizes = s.1

        parts : own ++ after ≡ left
        parts = take-append-drop m left

        can : (0 < sizes.packet) × (sizes.packet % 8 ≡ 0) × (sizes.packet ≤ longest) × (sizes.content ≤ sizes.packet) × (begun.first ≤ sizes.content)
        can = possible sizes begun.first (wants_tell.possible trace reached left begun sizes s.2)

        at : (p.start ≡ start) × (p.end ≡ start + sizes.packet / 8)
        at = placed_at begun.stream reached start begun.values begun.first sizes p s.4

        long : length own ≡ m
        long = length-take-le m left (sized_length s).2

        eight : sizes.packet ≡ 8 * m
        eight = omega (arith, at.0, at.1, can.1)

        here : (e : Ending) → open_at trace e reached start (own ++ after) ≡ Ok p
        here e = ap (open_at trace e reached start) parts ∙ sized_opens e s

        resting : (b : Begun C) → (sizes_checked None None Failed (8 * length (own ++ after)) b.first >>= placed_of b) ≡ Ok p → ⊥
        resting b h =
            let a = first (sizes_checked None None Failed (8 * length (own ++ after)) b.first) (placed_of b) p h in
            let c = rest_sizes Failed (8 * length (own ++ after)) b.first a.0 a.1 in
            let bad : Failed ≡ Clean = c.0 in cc

        other : (b : Begun C) (z : Sizes) (c : Bool) → nat_le z.packet (8 * length (own ++ after)) ≡ c → (if c then placed_of b z else Err (cut_short ending)) ≡ Ok p → placed_of b z ≡ Ok p
        other b z true e h = h
        other b z false e h = cc

        one : (w : Want C) → wanted trace reached own ≡ w → open_at trace ending reached start (own ++ more_bytes) ≡ Ok p
        one (faulty fault) e = let bad : Err fault ≡ Ok p = sym (wants_tell.faulty trace ending reached start own after fault e) ∙ here ending in cc
        one (more bits) e =
            let l : min (8 * length own) longest < bits = wants_tell.beyond trace reached own bits e in
            let g : bits ≤ begun.first = wants_tell.begins trace reached own after bits begun sizes e (ap (wanted trace reached) parts ∙ s.2) in
            absurd (omega (arith, l, g, can.2, can.3, can.4, long, eight))
        one (rest b) e = absurd (resting b (sym (wants_tell.rest trace Failed reached start own after b e) ∙ here Failed))
        one (whole b z) e =
            let h = other b z (nat_le z.packet (8 * length (own ++ after))) refl (sym (wants_tell.whole trace ending reached start own after b z e) ∙ here ending) in
            let there = placed_at b.stream reached start b.values b.first z p h in
            let round = possible z b.first (wants_tell.possible trace reached own b z e) in
            let total = length-append own more_bytes in
            let fits : z.packet ≤ 8 * length (own ++ more_bytes) = omega (arith, there.0, there.1, round.1, long, total) in
            let yes : nat_le z.packet (8 * length (own ++ more_bytes)) ≡ true = grind (arith, nat_tests) in
            wants_tell.whole trace ending reached start own more_bytes b z e ∙ (ap (λ c. if c then placed_of b z else Err (cut_short ending)) yes ∙ h)
