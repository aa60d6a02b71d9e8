-- A merge, one call after the other.
use Rattle.std.proofs.Common.{◌≡◌, ℕ, zero, suc, ◌≤◌, ◌<◌, inl, inr, Bool, true, false, cond, IsTrue, List, [], ◌∷◌, length, map, set, get_or, take, drop, ◌++◌, Some, None, refl, sym, ap, ◌∙◌, subst, arith}
use Rattle.std.specs.List.{AllByRecursion, AllZip}
use Rattle.std.proofs.lemmas.Grind.{common_steps}
use Rattle.std.proofs.lemmas.Option.{slice_get_read}
use Rattle.ctf_packet.specs.Classes.{Classes}
use Rattle.ctf_packet.specs.Items.{Run, Item}
use Rattle.ctf_packet.specs.declared.fault.StreamFault.{StreamFault}
use Rattle.ctf_packet.specs.ItemTimes.{time_of}
use Rattle.ctf_stream.specs.Reader as reader
use Rattle.ctf_stream.specs.Reader.{Reader, coming, rest_of, RoomTaken, with_ahead, after_ahead, OrRefused, IsFetched}
use Rattle.stream_laws.specs.Times.{is_before}
use Rattle.ctf_merge.specs.Merged.{Merged, Placed, First, item, broken, nothing, later, least, with_first, first_of, head_of, run_at, advance, without_first, ends, then, merged}
use Rattle.ctf_merge.specs.Merges.{Merge, coming_of, first_now, GoesOn, MergedOrRefused, EachFetched, EachTells, EachOnLine, EachAllTaken, Fetched, EachIsFetched, FetchedUpTo, room_of, RoomLeft, names_of, traces_of, writes_of, given_of, LeavesOne, EachComes}
use Rattle.ctf_merge.specs.declared.fault.MergeFault.{MergeFault}
use Rattle.ctf_merge.specs.declared.fault.MergeFault.TheVariants.{Stream}
use Rattle.ctf_merge.specs.Finding.{Finds}
use Rattle.ctf_merge.specs.declared.merge.First.TheVariants as firsts
use Rattle.ctf_merge.proofs.Merging.{later_item, least_item, merged-item, merged-broken, merged-nothing, gone_on, all_fetched}

-- ---- what is current is what is to come first

head-coming : (h : reader.Peeked) (cut : ℕ) (after : Run Classes) → IsFetched h → head_of (with_ahead h (after_ahead h cut after)) ≡ h
head-coming reader.start cut after f = absurd f
head-coming (reader.item x) cut after f = refl
head-coming reader.ended cut after f = refl
head-coming (reader.fault g) cut after f = refl

heads-coming : (readers : List Reader) → EachFetched readers → map head_of (map coming readers) ≡ map (λ r. r.ahead) readers
heads-coming [] each = refl
heads-coming (r ∷ rs) each = λ i. head-coming r.ahead r.cut r.after each.0 i ∷ heads-coming rs each.1 i

pub first-coming : (readers : List Reader) → EachFetched readers → first_of (map head_of (map coming readers)) ≡ first_of (map (λ r. r.ahead) readers)
first-coming readers each = ap first_of (heads-coming readers each)

pub open_item : (m : Merge) (n : ℕ) (x : Item Classes) → first_now m ≡ item n x → (m.over ≡ false) × (first_of (map (λ r. r.ahead) m.readers) ≡ item n x)
open_item m n x e = by_over m.over refl
  where
    by_over : (b : Bool) → m.over ≡ b → (m.over ≡ false) × (first_of (map (λ r. r.ahead) m.readers) ≡ item n x)
    by_over true is = absurd (let no : nothing ≡ item n x = sym (ap (λ (b : Bool). cond b nothing (first_of (map (λ r. r.ahead) m.readers))) is) ∙ e in cc)
    by_over false is = (is, sym (ap (λ (b : Bool). cond b nothing (first_of (map (λ r. r.ahead) m.readers))) is) ∙ e)

pub open_broken : (m : Merge) (n : ℕ) (f : StreamFault) → first_now m ≡ broken n f → (m.over ≡ false) × (first_of (map (λ r. r.ahead) m.readers) ≡ broken n f)
open_broken m n f e = by_over m.over refl
  where
    by_over : (b : Bool) → m.over ≡ b → (m.over ≡ false) × (first_of (map (λ r. r.ahead) m.readers) ≡ broken n f)
    by_over true is = absurd (let no : nothing ≡ broken n f = sym (ap (λ (b : Bool). cond b nothing (first_of (map (λ r. r.ahead) m.readers))) is) ∙ e in cc)
    by_over false is = (is, sym (ap (λ (b : Bool). cond b nothing (first_of (map (λ r. r.ahead) m.readers))) is) ∙ e)

pub coming-item : (m : Merge) (n : ℕ) (x : Item Classes) → EachFetched m.readers → first_now m ≡ item n x
    → coming_of m ≡ then (record { number = n; item = x }) (merged (advance n (map coming m.readers)))
coming-item m n x each e =
    let here = open_item m n x e in
    ap (λ (b : Bool). cond b (ends None) (merged (map coming m.readers))) here.0 ∙ merged-item (map coming m.readers) n x (first-coming m.readers each ∙ here.1)

pub coming-broken : (m : Merge) (n : ℕ) (f : StreamFault) → EachFetched m.readers → first_now m ≡ broken n f → coming_of m ≡ ends (Some (Stream n f))
coming-broken m n f each e =
    let here = open_broken m n f e in
    ap (λ (b : Bool). cond b (ends None) (merged (map coming m.readers))) here.0 ∙ merged-broken (map coming m.readers) n f (first-coming m.readers each ∙ here.1)

pub coming-nothing : (m : Merge) → EachFetched m.readers → first_now m ≡ nothing → coming_of m ≡ ends None
coming-nothing m each e = by_over m.over refl
  where
    by_over : (b : Bool) → m.over ≡ b → coming_of m ≡ ends None
    by_over true is = ap (λ (b : Bool). cond b (ends None) (merged (map coming m.readers))) is
    by_over false is =
        let here = sym (ap (λ (b : Bool). cond b nothing (first_of (map (λ r. r.ahead) m.readers))) is) ∙ e in
        ap (λ (b : Bool). cond b (ends None) (merged (map coming m.readers))) is ∙ merged-nothing (map coming m.readers) (first-coming m.readers each ∙ here)

-- ---- the reader in front

not_first : (f : First) (x : Item Classes) → later f ≡ item 0 x → ⊥
not_first (item k y) x e = absurd cc
not_first (broken k g) x e = absurd cc
not_first nothing x e = absurd cc

least_front : (y : Item Classes) (f : First) (x : Item Classes) → least y (later f) ≡ item 0 x → y ≡ x
least_front y (item k z) x e = either (is_before (time_of z) (time_of y)) e
  where
    either : (b : Bool) → cond b (item (suc k) z) (item 0 y) ≡ item 0 x → y ≡ x
    either true h = absurd cc
    either false h = cc
least_front y (broken k g) x e = absurd cc
least_front y nothing x e = cc

pub front_by : (h : reader.Peeked) (f : First) (x : Item Classes) → with_first h (later f) ≡ item 0 x → h ≡ reader.item x
front_by reader.start f x e = absurd (not_first f x e)
front_by (reader.item y) f x e = ap (λ (z : Item Classes). reader.item z) (least_front y f x e)
front_by reader.ended f x e = absurd (not_first f x e)
front_by (reader.fault g) f x e = absurd cc

pub next_by : (h : reader.Peeked) (f : First) (m : ℕ) (x : Item Classes) → with_first h (later f) ≡ item (suc m) x → f ≡ item m x
next_by h f m x e = by_head h e
  where
    number_is : (k : ℕ) → suc m ≡ suc k → k ≡ m
    number_is k h = omega (arith, h)

    after : later f ≡ item (suc m) x → f ≡ item m x
    after k = let before_it = later_item f (suc m) x k in before_it.1.1 ∙ ap (λ (j : ℕ). item j x) (number_is before_it.0 before_it.1.0)

    by_head : (h : reader.Peeked) → with_first h (later f) ≡ item (suc m) x → f ≡ item m x
    by_head reader.start k = after k
    by_head (reader.item y) k = elim (least_item y (later f) (suc m) x k) [ inl z ↦ absurd cc | inr j ↦ after j ]
    by_head reader.ended k = after k
    by_head (reader.fault g) k = absurd cc

-- the first item is the current one of its reader
pub front : (readers : List Reader) (n : ℕ) (x : Item Classes) (r : Reader) → first_of (map (λ s. s.ahead) readers) ≡ item n x → r ≡ get_or readers n r
    → (n < length readers) × (r.ahead ≡ reader.item x) × (run_at n (map coming readers) ≡ coming r)
front [] n x r e is = absurd cc
front (s ∷ rs) zero x r e is =
    let here = front_by s.ahead (first_of (map (λ t. t.ahead) rs)) x e in
    (omega arith, ap (λ (t : Reader). t.ahead) is ∙ here, sym (ap coming is))
front (s ∷ rs) (suc m) x r e is =
    let there = front rs m x r (next_by s.ahead (first_of (map (λ t. t.ahead) rs)) m x e) is in
    (let lt = there.0 in omega (arith, lt), there.1, there.2)

pub in_range : (readers : List Reader) (n : ℕ) (x : Item Classes) → first_of (map (λ s. s.ahead) readers) ≡ item n x → n < length readers
in_range [] n x e = absurd cc
in_range (s ∷ rs) zero x e = omega arith
in_range (s ∷ rs) (suc m) x e = let lt = in_range rs m x (next_by s.ahead (first_of (map (λ t. t.ahead) rs)) m x e) in omega (arith, lt)

rest_by : (h : reader.Peeked) (cut : ℕ) (after : Run Classes) (y : Item Classes) → h ≡ reader.item y
    → without_first (with_ahead h (after_ahead h cut after)) ≡ after_ahead h cut after
rest_by reader.start cut after y e = absurd cc
rest_by (reader.item x) cut after y e = refl
rest_by reader.ended cut after y e = absurd cc
rest_by (reader.fault g) cut after y e = absurd cc

-- ---- a list of readers, one of them anew

module _ (P : Reader → Type 0) where
  pub each_at : (rs : List Reader) (n : ℕ) (r : Reader) → n < length rs → r ≡ get_or rs n r → AllByRecursion P rs → P r
  each_at [] n r lt is each = absurd (omega (arith, lt))
  each_at (s ∷ rs) zero r lt is each = subst P (sym is) each.0
  each_at (s ∷ rs) (suc m) r lt is each = each_at rs m r (omega (arith, lt)) is each.1

  pub each_set : (rs : List Reader) (n : ℕ) (r : Reader) → AllByRecursion P rs → P r → AllByRecursion P (set rs n r)
  each_set [] n r each here = tt
  each_set (s ∷ rs) zero r each here = (here, each.1)
  each_set (s ∷ rs) (suc m) r each here = (each.0, each_set rs m r each.1 here)

pub map-set : {X : Type 0} (f : Reader → X) (readers : List Reader) (n : ℕ) (r : Reader) → map f (set readers n r) ≡ set (map f readers) n (f r)
map-set f [] n r = refl
map-set f (s ∷ rs) zero r = refl
map-set {X} f (s ∷ rs) (suc n) r = ap (λ (t : List X). f s ∷ t) (map-set f rs n r)

-- what one reader keeps, the list keeps
pub map-kept : {X : Type 0} (f : Reader → X) (rs : List Reader) (n : ℕ) (old new : Reader) → n < length rs → old ≡ get_or rs n old → f new ≡ f old → map f (set rs n new) ≡ map f rs
map-kept f [] n old new lt is same = refl
map-kept {X} f (s ∷ rs) zero old new lt is same = ap (λ (t : X). t ∷ map f rs) (same ∙ ap f is)
map-kept {X} f (s ∷ rs) (suc m) old new lt is same = ap (λ (t : List X). f s ∷ t) (map-kept f rs m old new (omega (arith, lt)) is same)

pub room-set : (rs : List Reader) (n : ℕ) (old new : Reader) → n < length rs → old ≡ get_or rs n old → new.room < old.room → room_of (set rs n new) < room_of rs
room-set [] n old new lt is less = absurd (omega (arith, lt))
room-set (s ∷ rs) zero old new lt is less = let same = ap (λ (r : Reader). r.room) is in omega (arith, less, same)
room-set (s ∷ rs) (suc m) old new lt is less = let rest = room-set rs m old new (omega (arith, lt)) is less in omega (arith, rest)

-- ---- what is current is passed

abbrev rest_placed : List Placed → List Placed
rest_placed [] = []
rest_placed (y ∷ ys) = ys

then_rest : (a b : Placed) (m k : Merged) → then a m ≡ then b k → m ≡ k
then_rest a b m k e = ap (λ (t : Merged). record { items = rest_placed t.items; fault = t.fault }) e

pub goes-item : (m : Merge) (n : ℕ) (x : Item Classes) (old new : Reader) (over : Bool) → over ≡ false → EachFetched m.readers → first_now m ≡ item n x → old ≡ get_or m.readers n old
    → OrRefused (rest_of old) (coming new) → GoesOn (coming_of m) (coming_of (record { readers = set m.readers n new; over = over }))
goes-item m n x old new over open_ each e is went =
    let here = open_item m n x e in
    let at = front m.readers n x old here.1 is in
    let is_item = coming-item m n x each e in
    let rest_is : without_first (run_at n (map coming m.readers)) ≡ rest_of old = ap without_first at.2 ∙ rest_by old.ahead old.cut old.after x at.1 in
    let gone = gone_on (map coming m.readers) n x (coming new) (first-coming m.readers each ∙ here.1) (subst (λ (t : Run Classes). OrRefused t (coming new)) (sym rest_is) went) in
    let now : coming_of (record { readers = set m.readers n new; over = over }) ≡ merged (set (map coming m.readers) n (coming new)) =
    ap (λ (b : Bool). cond b (ends None) (merged (map coming (set m.readers n new)))) open_ ∙ ap merged (map-set coming m.readers n new) in
    record {
      after_item = λ y rest h. subst (λ (t : Merged). MergedOrRefused rest t) (sym now)
          (subst (λ (t : Merged). MergedOrRefused t (merged (set (map coming m.readers) n (coming new)))) (then_rest _ y _ rest (sym is_item ∙ h)) gone);
      after_fault = λ none. absurd (let no = sym none ∙ ap (λ (t : Merged). t.items) is_item in cc);
    }

pub goes-fault : (old new : Merged) (f : MergeFault) → old ≡ ends (Some f) → new ≡ ends None → GoesOn old new
goes-fault old new f is now = record {
  after_item = λ y rest h. absurd (let no = sym (ap (λ (t : Merged). t.items) is) ∙ ap (λ (t : Merged). t.items) h in cc);
  after_fault = λ none. now;
}

pub goes-nothing : (m : Merged) → m ≡ ends None → GoesOn m m
goes-nothing m is = record {
  after_item = λ y rest h. absurd (let no = sym (ap (λ (t : Merged). t.items) is) ∙ ap (λ (t : Merged). t.items) h in cc);
  after_fault = λ none. is;
}

-- ---- a merge that was made

abbrev rest_readers : List Reader → List Reader
rest_readers [] = []
rest_readers (r ∷ rs) = rs

pub each_told : (old new : List Reader) → EachTells old → EachIsFetched old new → AllZip OrRefused (map coming old) (map coming new)
each_told [] [] tells each = tt
each_told [] (s ∷ ss) tells each = absurd each
each_told (r ∷ rs) [] tells each = absurd each
each_told (r ∷ rs) (s ∷ ss) tells each = (each.0.told tells.0, each_told rs ss tells.1 each.1)

pub told_at_first : (old new : List Reader) → EachTells old → EachIsFetched old new → MergedOrRefused (merged (map coming old)) (merged (map coming new))
told_at_first old new tells each = all_fetched (map coming old) (map coming new) (each_told old new tells each)

pub each_fetched : (old new : List Reader) → EachIsFetched old new → EachFetched new
each_fetched [] [] each = tt
each_fetched [] (s ∷ ss) each = absurd each
each_fetched (r ∷ rs) [] each = absurd each
each_fetched (r ∷ rs) (s ∷ ss) each = (each.0.fetched, each_fetched rs ss each.1)

pub tells_at_first : (old new : List Reader) → EachIsFetched old new → EachTells old → EachTells new
tells_at_first [] [] each tells = tt
tells_at_first [] (s ∷ ss) each tells = absurd each
tells_at_first (r ∷ rs) [] each tells = absurd each
tells_at_first (r ∷ rs) (s ∷ ss) each tells = (each.0.tells tells.0, tells_at_first rs ss each.1 tells.1)

pub names_at_first : (old new : List Reader) → EachIsFetched old new → names_of new ≡ names_of old
names_at_first [] [] each = refl
names_at_first [] (s ∷ ss) each = absurd each
names_at_first (r ∷ rs) [] each = absurd each
names_at_first (r ∷ rs) (s ∷ ss) each = λ i. each.0.name i ∷ names_at_first rs ss each.1 i

pub traces_at_first : (old new : List Reader) → EachIsFetched old new → traces_of new ≡ traces_of old
traces_at_first [] [] each = refl
traces_at_first [] (s ∷ ss) each = absurd each
traces_at_first (r ∷ rs) [] each = absurd each
traces_at_first (r ∷ rs) (s ∷ ss) each = λ i. each.0.trace i ∷ traces_at_first rs ss each.1 i

pub writes_at_first : (old new : List Reader) → EachIsFetched old new → writes_of new ≡ writes_of old
writes_at_first [] [] each = refl
writes_at_first [] (s ∷ ss) each = absurd each
writes_at_first (r ∷ rs) [] each = absurd each
writes_at_first (r ∷ rs) (s ∷ ss) each = λ i. each.0.writes i ∷ writes_at_first rs ss each.1 i

pub given_at_first : (old new : List Reader) → EachIsFetched old new → EachTells old → given_of new ≡ given_of old
given_at_first [] [] each tells = refl
given_at_first [] (s ∷ ss) each tells = absurd each
given_at_first (r ∷ rs) [] each tells = absurd each
given_at_first (r ∷ rs) (s ∷ ss) each tells = λ i. each.0.counted tells.0 i ∷ given_at_first rs ss each.1 tells.1 i

pub on_line_at_first : (old new : List Reader) → EachIsFetched old new → EachOnLine old → EachOnLine new
on_line_at_first [] [] each on = tt
on_line_at_first [] (s ∷ ss) each on = absurd each
on_line_at_first (r ∷ rs) [] each on = absurd each
on_line_at_first (r ∷ rs) (s ∷ ss) each on = (each.0.on_line on.0, on_line_at_first rs ss each.1 on.1)

pub all_taken_at_first : (old new : List Reader) → EachIsFetched old new → EachTells old → EachAllTaken old → EachAllTaken new
all_taken_at_first [] [] each tells all = tt
all_taken_at_first [] (s ∷ ss) each tells all = absurd each
all_taken_at_first (r ∷ rs) [] each tells all = absurd each
all_taken_at_first (r ∷ rs) (s ∷ ss) each tells all = (each.0.all_taken tells.0 all.0, all_taken_at_first rs ss each.1 tells.1 all.1)

pub fetched_more : (i : ℕ) (old new : List Reader) (r s : Reader) → FetchedUpTo i old new → i < length new → r ≡ get_or new i r → Fetched r s → FetchedUpTo (suc i) old (set new i s)
fetched_more i [] [] r s up lt is here = absurd (omega (arith, lt))
fetched_more zero [] (t ∷ ts) r s up lt is here = absurd cc
fetched_more (suc i) [] (t ∷ ts) r s up lt is here = absurd up
fetched_more i (q ∷ qs) [] r s up lt is here = absurd (omega (arith, lt))
fetched_more zero (q ∷ qs) (t ∷ ts) r s up lt is here = (subst (λ (x : Reader). Fetched x s) (is ∙ ap (λ (l : List Reader). get_or l 0 t) up) here, ap (λ (l : List Reader). rest_readers l) up)
fetched_more (suc i) (q ∷ qs) (t ∷ ts) r s up lt is here = (up.0, fetched_more i qs ts r s up.1 (omega (arith, lt)) is here)

pub fetched_all : (i : ℕ) (old new : List Reader) → FetchedUpTo i old new → length new ≤ i → EachIsFetched old new
fetched_all zero [] [] up le = tt
fetched_all zero [] (t ∷ ts) up le = absurd (omega (arith, le))
fetched_all zero (q ∷ qs) [] up le = absurd cc
fetched_all zero (q ∷ qs) (t ∷ ts) up le = absurd (omega (arith, le))
fetched_all (suc i) [] [] up le = tt
fetched_all (suc i) [] (t ∷ ts) up le = absurd up
fetched_all (suc i) (q ∷ qs) [] up le = absurd up
fetched_all (suc i) (q ∷ qs) (t ∷ ts) up le = (up.0, fetched_all i qs ts up.1 (omega (arith, le)))

-- ---- what a search found

pub finds_item : (f : First) (n : ℕ) → Finds f (firsts.Item n) → (x : Item Classes) × (f ≡ item n x)
finds_item (item i x) n h = (x, ap (λ (k : ℕ). item k x) (sym h))
finds_item (broken i f) n h = absurd h
finds_item nothing n h = absurd h

pub finds_fault : (f : First) (n : ℕ) (g : StreamFault) → Finds f (firsts.Fault n g) → f ≡ broken n g
finds_fault (item i x) n g h = absurd h
finds_fault (broken i f) n g h = λ k. broken (sym h.0 k) (sym h.1 k)
finds_fault nothing n g h = absurd h

pub finds_nothing : (f : First) → Finds f firsts.Nothing → f ≡ nothing
finds_nothing (item i x) h = absurd h
finds_nothing (broken i f) h = absurd h
finds_nothing nothing h = refl

-- the reader of the item that a search found
pub record InFront (m : Merge) (n : ℕ) (x : Item Classes) : Type 0 where
  pub first : first_now m ≡ item n x
  pub heads : first_of (map (λ r. r.ahead) m.readers) ≡ item n x
  pub within : n < length m.readers

pub in_front : (m : Merge) (n : ℕ) (x : Item Classes) → m.over ≡ false → first_of (map (λ r. r.ahead) m.readers) ≡ item n x → InFront m n x
in_front m n x going heads =
    record { first = ap (λ (b : Bool). cond b nothing (first_of (map (λ r. r.ahead) m.readers))) going ∙ heads; heads = heads; within = in_range m.readers n x heads }

-- its item took room
pub room-front : (m : Merge) (n : ℕ) (x : Item Classes) (old new : Reader) → InFront m n x → old ≡ get_or m.readers n old → RoomTaken old.ahead old.room new.room
    → RoomLeft (first_now m) (room_of m.readers) (room_of (set m.readers n new))
room-front m n x old new at is taken =
    let here = front m.readers n x old at.heads is in
    let less : new.room < old.room = subst (λ (h : reader.Peeked). RoomTaken h old.room new.room) here.1 taken in
    subst (λ (f : First). RoomLeft f (room_of m.readers) (room_of (set m.readers n new))) (sym at.first) (room-set m.readers n old new here.0 is less)

-- what is written to a part of a list as long as it is there then
pub written : (xs ys : List Reader) (n : ℕ) → n ≡ length xs → length ys ≡ length xs → take n (ys ++ drop (length ys) xs) ≡ ys
written xs ys n e l = grind (arith, common_steps)

pub length-fetched : (old new : List Reader) → EachIsFetched old new → length new ≡ length old
length-fetched [] [] each = refl
length-fetched [] (s ∷ ss) each = absurd each
length-fetched (r ∷ rs) [] each = absurd each
length-fetched (r ∷ rs) (s ∷ ss) each = let more = length-fetched rs ss each.1 in omega (arith, more)

-- the reader of the current item goes on to its next one
pub leaves_one : (readers : List Reader) (n : ℕ) (x : Item Classes) (before after : Reader) → first_of (map (λ s. s.ahead) readers) ≡ item n x → before ≡ get_or readers n before
    → IsFetched after.ahead → (IsTrue before.tells → OrRefused (rest_of before) (coming after)) → LeavesOne n readers (set readers n after)
leaves_one readers n x before after first is fetched goes =
    let at = front readers n x before first is in
    record { before = before; after = after; left = x; at = slice_get_read readers (length readers) n before refl at.0 is; ahead = at.1; others = refl; fetched = fetched; goes_on = goes }

-- what was to come of each reader that was fetched is to come
pub comes_at_first : (old new : List Reader) → EachIsFetched old new → EachComes old new
comes_at_first [] [] each = each
comes_at_first [] (s ∷ ss) each = each
comes_at_first (r ∷ rs) [] each = each
comes_at_first (r ∷ rs) (s ∷ ss) each = (each.0.told, comes_at_first rs ss each.1)
