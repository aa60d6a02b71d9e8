-- Later bytes do not change what came.
use Rattle.std.proofs.Common.{◌≡◌, ℕ, zero, suc, ◌+◌, ◌-◌, ◌<◌, ◌≤◌, Bool, true, false, List, [], ◌∷◌, ◌++◌, length, take, drop, Option, Some, None, Result, Ok, Err, ◌⊎◌, inl, inr, nat_lt, if◌then◌else◌, refl, sym, ap, ◌∙◌, arith, length-append, length-drop, append_assoc}
use Rattle.std.proofs.lemmas.List.{append-nil, length-take-le, drop-drop}
use Rattle.std.proofs.Math.Seq.{take-add, take-length, take-append_seam, drop-append_seam}
use Rattle.std.proofs.Math.ListN.{drop_of_length-le}
use Rattle.ctf_bits.specs.declared.source.Ending.{Ending}
use Rattle.ctf_bits.specs.declared.source.Ending.TheVariants.{Clean}
use Rattle.ctf_clock.specs.declared.moment.Moment.{Moment}
use Rattle.ctf_packet.specs.Classes.{TraceForm}
use Rattle.ctf_packet.specs.Packets.{Opened, open_at, reached_after}
use Rattle.ctf_packet.specs.Items.{Item, Run, stops, from_packet, longest_stream, opened, from_bytes, run_of}
use Rattle.ctf_packet.specs.declared.reached.Reached.{Reached}
use Rattle.ctf_packet.specs.declared.fault.StreamFault.{StreamFault}
use Rattle.ctf_packet.specs.declared.fault.StreamFault.TheVariants as faults
use Rattle.ctf_packet.proofs.Cutting as cutting
use Rattle.ctf_packet_demand.specs.Wants.{wanted}
use Rattle.stream_laws.specs.Holding.{packet_end, packet_start, is_rest, is_in_rest, IsHeld}
use Rattle.stream_laws.proofs.Splitting.{IsOf, Within, After, empty, packet_splits}
use Rattle.stream_laws.proofs.Again.{Sized, Resting, opened_how, sized_length, sized_ends, opens_again, rest_at_first}

module _ {C : Type 0} (trace : TraceForm C) where
  -- what comes from a packet boundary with bytes on
  goes_on : (ending : Ending) (reached : Option Reached) (at : ℕ) (xs : List ℕ) → 1 ≤ length xs
      → from_bytes trace ending reached at xs ≡ (if nat_lt longest_stream at then stops (Some faults.StreamTooLong) at else opened at xs (cutting.after trace ending xs) (open_at trace ending reached at xs))
  goes_on ending reached at [] h = absurd (omega arith)
  goes_on ending reached at (byte ∷ bytes) h = cutting.goes_on trace ending reached at byte bytes

  -- where a packet was opened there
  goes_into : (ending : Ending) (reached : Option Reached) (at : ℕ) (xs : List ℕ) (p : Opened C) → 1 ≤ length xs → nat_lt longest_stream at ≡ false → open_at trace ending reached at xs ≡ Ok p
      → from_bytes trace ending reached at xs ≡ from_packet p (take (p.end - p.start) xs) (cutting.after trace ending xs p)
  goes_into ending reached at xs p h short e =
      goes_on ending reached at xs h
      ∙ (ap (λ b. if b then stops (Some faults.StreamTooLong) at else opened at xs (cutting.after trace ending xs) (open_at trace ending reached at xs)) short
      ∙ ap (opened at xs (cutting.after trace ending xs)) e)

  -- the items from a packet boundary on, up to one: `left` was cut after that item's packet, and more bytes follow
  -- there
  abbrev pub cut_after : ℕ → List ℕ → List ℕ → Item C → List ℕ
  cut_after at left more_bytes x = take (packet_end x - at) left ++ more_bytes

  abbrev Same : Ending → Option Reached → ℕ → List ℕ → List ℕ → List (Item C) → Item C → Type 0
  Same other reached at left more_bytes first x =
      (others : List (Item C)) × ((from_bytes trace other reached at (cut_after at left more_bytes x)).items ≡ first ++ x ∷ others)

  -- where its packet is the rest of the stream, the other one ends there cleanly
  abbrev Ends : Ending → ℕ → List ℕ → List ℕ → Item C → Type 0
  Ends other at left more_bytes x = is_rest (wanted trace None (drop (packet_start x - at) left)) ≡ true → (other ≡ Clean) × (more_bytes ≡ [])

  -- where the packet of an item is, among the bytes from a place on; where it is the rest of the stream, this ends
  -- with it, cleanly
  abbrev Peeked : Ending → ℕ → List ℕ → Item C → Type 0
  Peeked ending at left x =
      (at ≤ packet_start x) × (packet_start x < packet_end x) × (packet_end x ≤ at + length left) × (is_rest (wanted trace None (drop (packet_start x - at) left)) ≡ true → (ending ≡ Clean) × (packet_end x ≡ at + length left))

  abbrev Holds : Ending → Ending → Option Reached → ℕ → List ℕ → List ℕ → List (Item C) → Item C → Type 0
  Holds ending other reached at left more_bytes first x = Peeked ending at left x × (Ends other at left more_bytes x → Same other reached at left more_bytes first x)

  -- the packet's own bytes, with others after them
  sized_again : (other : Ending) (reached : Option Reached) (at : ℕ) (left : List ℕ) (p : Opened C) (ys : List ℕ) → nat_lt longest_stream at ≡ false → Sized trace reached at left p
      → let own = take (p.end - p.start) left in
      (from_bytes trace other reached at (own ++ ys) ≡ from_packet p own (cutting.after trace other (own ++ ys) p)) × (drop (p.end - p.start) (own ++ ys) ≡ ys)
  sized_again other reached at left p ys short s =
      let m = p.end - p.start in
      let own = take m left in
      let l = sized_length trace reached at left p s in
      let long : length own ≡ m = length-take-le m left l.2 in
      let total = length-append own ys in
      let some = l.1 in
      let g = goes_into other reached at (own ++ ys) p (omega (arith, total, long, some)) short (opens_again trace reached at left p other ys s) in
      let seam : take m (own ++ ys) ≡ own = ap (λ k. take k (own ++ ys)) (sym long) ∙ take-append_seam own ys in
      let rest : drop m (own ++ ys) ≡ ys = ap (λ k. drop k (own ++ ys)) (sym long) ∙ drop-append_seam own ys in
      (g ∙ ap (λ xs. from_packet p xs (cutting.after trace other (own ++ ys) p)) seam, rest)

  -- an item that follows a packet that has a size
  after_sized : (other : Ending) (reached : Option Reached) (at : ℕ) (left more_bytes : List ℕ) (first : List (Item C)) (x : Item C) (p : Opened C) (clock : Option Moment) (later : List (Item C)) → nat_lt longest_stream at ≡ false → Sized trace reached at left p → p.end ≤ packet_end x
      → ((g : Option Moment → Run C) (others : List (Item C)) → (g clock).items ≡ later ++ x ∷ others → (from_packet p (take (p.end - p.start) left) g).items ≡ first ++ x ∷ others)
      → Same other (Some (reached_after p clock)) p.end (drop (p.end - p.start) left) more_bytes later x
      → Same other reached at left more_bytes first x
  after_sized other reached at left more_bytes first x p clock later short s far back same =
      let m = p.end - p.start in
      let own = take m left in
      let ys = cut_after p.end (drop m left) more_bytes x in
      let l = sized_length trace reached at left p s in
      let starts = l.0 in
      let some = l.1 in
      let n : packet_end x - at ≡ m + (packet_end x - p.end) = omega arith in
      let parts : cut_after at left more_bytes x ≡ own ++ ys =
      ap (λ k. take k left ++ more_bytes) n ∙ (ap (λ xs. xs ++ more_bytes) (take-add m (packet_end x - p.end) left) ∙ append_assoc own (take (packet_end x - p.end) (drop m left)) more_bytes) in
      let g = sized_again other reached at left p ys short s in
      let next : (cutting.after trace other (own ++ ys) p clock).items ≡ later ++ x ∷ same.0 = ap (λ xs. (from_bytes trace other (Some (reached_after p clock)) p.end xs).items) g.1 ∙ same.1 in
      (same.0, ap (λ xs. (from_bytes trace other reached at xs).items) parts ∙ (ap (λ (r : Run C). r.items) g.0 ∙ back (cutting.after trace other (own ++ ys) p) same.0 next))

  -- an item of a packet that has a size
  in_sized : (other : Ending) (reached : Option Reached) (at : ℕ) (left more_bytes : List ℕ) (first : List (Item C)) (x : Item C) (p : Opened C) → nat_lt longest_stream at ≡ false → Sized trace reached at left p
      → Within p (from_packet p (take (p.end - p.start) left)) first x → Same other reached at left more_bytes first x
  in_sized other reached at left more_bytes first x p short s w =
      let m = p.end - p.start in
      let own = take m left in
      let l = sized_length trace reached at left p s in
      let n : packet_end x - at ≡ m = ap (λ k. k - at) w.0.0 ∙ ap (λ k. p.end - k) (sym l.0) in
      let g = sized_again other reached at left p more_bytes short s in
      let all = w.1 (cutting.after trace other (own ++ more_bytes) p) in
      (all.0, ap (λ k. (from_bytes trace other reached at (take k left ++ more_bytes)).items) n ∙ (ap (λ (r : Run C). r.items) g.0 ∙ all.1))

  -- an item of the packet at a place
  stands_there : (ending : Ending) (at : ℕ) (left : List ℕ) (x : Item C) (p : Opened C) → p.start ≡ at → 1 ≤ p.end - p.start → p.end ≤ at + length left
      → (is_rest (wanted trace None left) ≡ true → (ending ≡ Clean) × (p.end ≡ at + length left))
      → IsOf p x → (packet_start x ≡ at) × Peeked ending at left x
  stands_there ending at left x p starts some there last of =
      let e = of.0 in
      let l = of.1 in
      let here : packet_start x ≡ at = omega arith in
      let whole : drop (packet_start x - at) left ≡ left = ap (λ k. drop k left) (let z : packet_start x - at ≡ 0 = omega arith in z) in
      (here, (omega arith, omega arith, omega arith, λ i. let r = last (ap (λ xs. is_rest (wanted trace None xs)) (sym whole) ∙ i) in (r.0, e ∙ r.1)))

  abbrev Comes : ℕ → Type 0
  Comes n = (ending other : Ending) (reached : Option Reached) (at : ℕ) (left more_bytes : List ℕ) (first rest : List (Item C)) (x : Item C) → length left ≤ n
      → (from_bytes trace ending reached at left).items ≡ first ++ x ∷ rest
      → Holds ending other reached at left more_bytes first x

  -- an item of a packet that is the rest of its stream: the other stream is the same
  in_rest : (ending other : Ending) (reached : Option Reached) (at : ℕ) (left more_bytes : List ℕ) (first rest : List (Item C)) (x : Item C) (p : Opened C) → Resting trace reached at left p ending → packet_end x ≡ p.end → packet_start x ≡ at
      → (from_bytes trace ending reached at left).items ≡ first ++ x ∷ rest → Ends other at left more_bytes x → Same other reached at left more_bytes first x
  in_rest ending other reached at left more_bytes first rest x p r ends starts h premise =
      let whole : drop (packet_start x - at) left ≡ left = ap (λ k. drop k left) (let z : packet_start x - at ≡ 0 = omega arith in z) in
      let c = premise (ap (λ xs. is_rest (wanted trace None xs)) whole ∙ rest_at_first trace reached left r.0) in
      let far = r.3 in
      let n : packet_end x - at ≡ length left = omega arith in
      let bytes : cut_after at left more_bytes x ≡ left = ap (λ k. take k left ++ more_bytes) n ∙ (ap (λ xs. xs ++ more_bytes) (take-length left) ∙ (ap (λ xs. left ++ xs) c.1 ∙ append-nil left)) in
      (rest, (λ i. (from_bytes trace (c.0 i) reached at (bytes i)).items) ∙ ((λ i. (from_bytes trace (sym r.1 i) reached at left).items) ∙ h))

  -- what follows a packet
  after_goes : (n : ℕ) → Comes n → (ending other : Ending) (reached : Option Reached) (at : ℕ) (left more_bytes : List ℕ) (first rest : List (Item C)) (x : Item C) (p : Opened C) → length left ≤ suc n → nat_lt longest_stream at ≡ false
      → Sized trace reached at left p ⊎ Resting trace reached at left p ending
      → After (from_packet p (take (p.end - p.start) left)) (cutting.after trace ending left p) first x rest
      → Holds ending other reached at left more_bytes first x
  after_goes n ih ending other reached at left more_bytes first rest x p h short (inr r) b =
      let m = p.end - p.start in
      let starts = r.2 in
      let ends = r.3 in
      let none : drop m left ≡ [] = drop_of_length-le left (omega arith) in
      absurd (empty b.1 rest x (ap (λ xs. (from_bytes trace ending (Some (reached_after p b.0)) p.end xs).items) (sym none) ∙ b.2))
  after_goes n ih ending other reached at left more_bytes first rest x p h short (inl s) b =
      let m = p.end - p.start in
      let l = sized_length trace reached at left p s in
      let starts = l.0 in
      let some = l.1 in
      let fits = l.2 in
      let shorter : length (drop m left) ≤ n = omega (arith, length-drop m left) in
      let g = ih ending other (Some (reached_after p b.0)) p.end (drop m left) more_bytes b.1 rest x shorter b.2 in
      let from = g.0.0 in
      let some_more = g.0.1 in
      let there = g.0.2 in
      let count = length-drop m left in
      let place : m + (packet_start x - p.end) ≡ packet_start x - at = omega arith in
      let same_place : drop (packet_start x - p.end) (drop m left) ≡ drop (packet_start x - at) left = drop-drop (packet_start x - p.end) m left ∙ ap (λ k. drop k left) place in
      let total : p.end + length (drop m left) ≡ at + length left = omega arith in
      let same_rest : is_rest (wanted trace None (drop (packet_start x - p.end) (drop m left))) ≡ is_rest (wanted trace None (drop (packet_start x - at) left)) = ap (λ xs. is_rest (wanted trace None xs)) same_place in (
        (omega arith, g.0.1, omega arith, λ i. let r = g.0.3 (same_rest ∙ i) in (r.0, r.1 ∙ total)),
        λ premise.
            after_sized other reached at left more_bytes first x p b.0 b.1 short s (omega arith) b.3 (g.1 (λ e. premise (sym same_rest ∙ e))),
      )

  -- a packet and what follows it
  packet_goes : (n : ℕ) → Comes n → (ending other : Ending) (reached : Option Reached) (at : ℕ) (left more_bytes : List ℕ) (first rest : List (Item C)) (x : Item C) (p : Opened C) → length left ≤ suc n → nat_lt longest_stream at ≡ false
      → 1 ≤ p.end - p.start
      → (from_bytes trace ending reached at left).items ≡ first ++ x ∷ rest
      → Sized trace reached at left p ⊎ Resting trace reached at left p ending
      → Within p (from_packet p (take (p.end - p.start) left)) first x ⊎ After (from_packet p (take (p.end - p.start) left)) (cutting.after trace ending left p) first x rest
      → Holds ending other reached at left more_bytes first x
  packet_goes n ih ending other reached at left more_bytes first rest x p h short some all how (inr b) =
      after_goes n ih ending other reached at left more_bytes first rest x p h short how b
  packet_goes n ih ending other reached at left more_bytes first rest x p h short some all (inl s) (inl w) =
      let l = sized_length trace reached at left p s in
      let starts = l.0 in
      let fits = l.2 in
      let t = stands_there ending at left x p l.0 some (omega arith) (λ i. let bad : false ≡ true = sym (sized_ends trace reached at left p s) ∙ i in cc) w.0 in
      (t.1, λ premise. in_sized other reached at left more_bytes first x p short s w)
  packet_goes n ih ending other reached at left more_bytes first rest x p h short some all (inr r) (inl w) =
      let ends = r.3 in
      let t = stands_there ending at left x p r.2 some (omega arith) (λ i. (r.1, r.3)) w.0 in
      (t.1, λ premise. in_rest ending other reached at left more_bytes first rest x p r w.0.0 t.0 all premise)

  opened_goes : (n : ℕ) → Comes n → (ending other : Ending) (reached : Option Reached) (at : ℕ) (left more_bytes : List ℕ) (first rest : List (Item C)) (x : Item C) → length left ≤ suc n → nat_lt longest_stream at ≡ false
      → (from_bytes trace ending reached at left).items ≡ first ++ x ∷ rest
      → (r : Result (Opened C) StreamFault) → open_at trace ending reached at left ≡ r → (opened at left (cutting.after trace ending left) r).items ≡ first ++ x ∷ rest
      → Holds ending other reached at left more_bytes first x
  opened_goes n ih ending other reached at left more_bytes first rest x h short all (Err f) e g = absurd (empty first rest x g)
  opened_goes n ih ending other reached at left more_bytes first rest x h short all (Ok p) e g =
      packet_goes n ih ending other reached at left more_bytes first rest x p h short (cutting.some_bytes trace ending reached at left p e) all (opened_how trace reached at left p ending e)
      (packet_splits p (take (p.end - p.start) left) (cutting.after trace ending left p) first x rest g)

  tested : (n : ℕ) → Comes n → (ending other : Ending) (reached : Option Reached) (at : ℕ) (left more_bytes : List ℕ) (first rest : List (Item C)) (x : Item C) → length left ≤ suc n
      → (from_bytes trace ending reached at left).items ≡ first ++ x ∷ rest
      → (b : Bool) → nat_lt longest_stream at ≡ b
      → (if b then stops (Some faults.StreamTooLong) at else opened at left (cutting.after trace ending left) (open_at trace ending reached at left)).items ≡ first ++ x ∷ rest
      → Holds ending other reached at left more_bytes first x
  tested n ih ending other reached at left more_bytes first rest x h all true short g = absurd (empty first rest x g)
  tested n ih ending other reached at left more_bytes first rest x h all false short g =
      opened_goes n ih ending other reached at left more_bytes first rest x h short all (open_at trace ending reached at left) refl g

  pub comes : (n : ℕ) → Comes n
  comes zero ending other reached at [] more_bytes first rest x h e = absurd (empty first rest x e)
  comes zero ending other reached at (byte ∷ bytes) more_bytes first rest x h e = absurd (omega arith)
  comes (suc n) ending other reached at [] more_bytes first rest x h e = absurd (empty first rest x e)
  comes (suc n) ending other reached at (byte ∷ bytes) more_bytes first rest x h e =
      tested n (comes n) ending other reached at (byte ∷ bytes) more_bytes first rest x h e (nat_lt longest_stream at) refl
      (ap (λ (r : Run C). r.items) (sym (cutting.goes_on trace ending reached at byte bytes)) ∙ e)

  -- the items of a stream up to one, whatever comes after its packet
  pub run_comes : (ending other : Ending) (bytes more_bytes : List ℕ) (first rest : List (Item C)) (x : Item C) → (run_of trace ending bytes).items ≡ first ++ x ∷ rest
      → (is_in_rest trace bytes x ≡ true → (other ≡ Clean) × (more_bytes ≡ []))
      → (others : List (Item C)) × ((run_of trace other (take (packet_end x) bytes ++ more_bytes)).items ≡ first ++ x ∷ others)
  unfolding run_of
  run_comes ending other bytes more_bytes first rest x e premise =
      let start : packet_start x - 0 ≡ packet_start x = omega arith in
      let end : packet_end x - 0 ≡ packet_end x = omega arith in
      let g = (comes (length bytes) ending other None 0 bytes more_bytes first rest x (omega arith) e).1 (λ i. premise (ap (λ k. is_rest (wanted trace None (drop k bytes))) (sym start) ∙ i)) in
      (g.0, ap (λ k. (from_bytes trace other None 0 (take k bytes ++ more_bytes)).items) (sym end) ∙ g.1)

  -- the packet of an item of a stream has bytes, and they are there
  pub run_holds : (ending : Ending) (bytes : List ℕ) (first rest : List (Item C)) (x : Item C) → (run_of trace ending bytes).items ≡ first ++ x ∷ rest → IsHeld trace ending bytes x
  unfolding run_of
  run_holds ending bytes first rest x e =
      let start : packet_start x - 0 ≡ packet_start x = omega arith in
      let g = (comes (length bytes) ending ending None 0 bytes [] first rest x (omega arith) e).0 in
      let there = g.2 in
      record {
        some = g.1;
        there = omega arith;
        last = λ i. let r = g.3 (ap (λ k. is_rest (wanted trace None (drop k bytes))) start ∙ i) in let n = r.1 in (r.0, omega arith);
      }
