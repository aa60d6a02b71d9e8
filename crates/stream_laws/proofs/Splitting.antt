-- An item among those of a packet and of what follows it.
use Rattle.std.proofs.Common.{◌≡◌, ℕ, zero, suc, ◌-◌, Bool, true, false, List, [], ◌∷◌, ◌++◌, Option, Some, None, Result, Ok, Err, ◌⊎◌, inl, inr, nat_lt, if◌then◌else◌, refl, ap, subst}
use Rattle.ctf_clock.specs.declared.moment.Moment.{Moment}
use Rattle.ctf_packet.specs.Packets.{Opened}
use Rattle.ctf_packet.specs.Records.{Recorded, record_at}
use Rattle.ctf_packet.specs.Items.{Item, Run, stops, before, item_of, gap_of, lost, discarded, lost_before, discarded_before, recorded, from_record, from_packet}
use Rattle.ctf_packet.specs.declared.fault.StreamFault.{StreamFault}
use Rattle.stream_laws.specs.Holding.{packet_end, packet_length}

-- what comes, given what follows from the clock that is reached
abbrev pub Goes : Type 0 → Type 0
Goes C = (Option Moment → Run C) → Run C

module _ {C : Type 0} where
  abbrev pub IsOf : Opened C → Item C → Type 0
  IsOf packet x = (packet_end x ≡ packet.end) × (packet_length x ≡ packet.end - packet.start)

  -- the item is one of the packet, and comes there whatever follows the packet
  abbrev pub Within : Opened C → Goes C → List (Item C) → Item C → Type 0
  Within packet go first x = IsOf packet x × ((g : Option Moment → Run C) → (others : List (Item C)) × ((go g).items ≡ first ++ x ∷ others))

  -- it is among those that follow from a clock, and comes there whenever it is among those that follow
  abbrev pub After : Goes C → (Option Moment → Run C) → List (Item C) → Item C → List (Item C) → Type 0
  After go follows first x rest =
      (clock : Option Moment) × (later : List (Item C)) × ((follows clock).items ≡ later ++ x ∷ rest) × ((g : Option Moment → Run C) (others : List (Item C)) → (g clock).items ≡ later ++ x ∷ others → (go g).items ≡ first ++ x ∷ others)

  abbrev pub Splits : Opened C → Goes C → Type 0
  Splits packet go =
      (follows : Option Moment → Run C) (first : List (Item C)) (x : Item C) (rest : List (Item C)) → (go follows).items ≡ first ++ x ∷ rest → Within packet go first x ⊎ After go follows first x rest

  pub empty : (first rest : List (Item C)) (x : Item C) → ◌≡◌ {A = List (Item C)} [] (first ++ x ∷ rest) → ⊥
  empty [] rest x h = cc
  empty (y ∷ ys) rest x h = cc

  follows_split : (packet : Opened C) (clock : Option Moment) → Splits packet (λ f. f clock)
  follows_split packet clock = λ follows first x rest e. inr (clock, first, e, λ g others h. h)

  stops_split : (packet : Opened C) (fault : Option StreamFault) (at : ℕ) → Splits packet (λ f. stops fault at)
  stops_split packet fault at = λ follows first x rest e. absurd (empty first rest x e)

  one_splits : (packet : Opened C) (y : Item C) (go : Goes C) → IsOf packet y → Splits packet go → Splits packet (λ f. before (y ∷ []) (go f))
  one_splits packet y go of s follows [] x rest e =
      let i : y ≡ x = cc in
      inl (subst (IsOf packet) i of, λ g. ((go g).items, ap (λ z. z ∷ (go g).items) i))
  one_splits packet y go of s follows (z ∷ zs) x rest e =
      let i : y ≡ z = cc in
      let j : (go follows).items ≡ zs ++ x ∷ rest = cc in
      elim (s follows zs x rest j) [
        | inl w ↦ inl (w.0, λ g. ((w.1 g).0, λ k. i k ∷ (w.1 g).1 k))
        | inr b ↦ inr (b.0, b.1, b.2, λ g others h. λ k. i k ∷ b.3 g others h k)
      ]

  recorded_splits : (packet : Opened C) (goes : (Option Moment → Run C) → Option Moment → ℕ → Run C) → ((next : Option Moment) (end : ℕ) → Splits packet (λ f. goes f next end))
      → (r : Result (Recorded C) StreamFault) → Splits packet (λ f. recorded packet (goes f) r)
  recorded_splits packet goes s (Err fault) = stops_split packet (Some fault) packet.start
  recorded_splits packet goes s (Ok r) = one_splits packet (item_of packet r) (λ f. goes f r.clock r.end) (refl, refl) (s r.clock r.end)

  pub records_split : (n : ℕ) (packet : Opened C) (bytes : List ℕ) (clock : Option Moment) (place : ℕ) → Splits packet (λ f. from_record n packet bytes clock place f)
  records_split zero packet bytes clock place = follows_split packet clock
  records_split (suc n) packet bytes clock place =
      one (nat_lt place packet.content) (recorded_splits packet (λ f next end. from_record n packet bytes next end f) (λ next end. records_split n packet bytes next end) (record_at packet bytes clock place))
    where
      one : (b : Bool) → Splits packet (λ f. recorded packet (λ next end. from_record n packet bytes next end f) (record_at packet bytes clock place))
          → Splits packet (λ f. if b then recorded packet (λ next end. from_record n packet bytes next end f) (record_at packet bytes clock place) else f clock)
      one true h = h
      one false h = follows_split packet clock

  gaps_split : (packet : Opened C) (l d : Option ℕ) (go : Goes C) → Splits packet go → Splits packet (λ f. before (lost_before packet l ++ discarded_before packet d) (go f))
  gaps_split packet None None go s = s
  gaps_split packet (Some a) None go s = one_splits packet (lost (gap_of packet a packet.clock)) go (refl, refl) s
  gaps_split packet None (Some b) go s = one_splits packet (discarded (gap_of packet b packet.until)) go (refl, refl) s
  gaps_split packet (Some a) (Some b) go s =
      one_splits packet (lost (gap_of packet a packet.clock)) (λ f. before (discarded (gap_of packet b packet.until) ∷ []) (go f)) (refl, refl) (one_splits packet (discarded (gap_of packet b packet.until)) go (refl, refl) s)

  -- an item of a packet and of what follows it is of the packet, or follows
  pub packet_splits : (packet : Opened C) (bytes : List ℕ) → Splits packet (λ f. from_packet packet bytes f)
  packet_splits packet bytes = gaps_split packet packet.lost packet.dropped (λ f. from_record (packet.content - packet.first) packet bytes packet.clock packet.first f) (records_split (packet.content - packet.first) packet bytes packet.clock packet.first)
