-- The turns of streams, and which item comes first.
use Rattle.std.proofs.Common.{◌≡◌, ℕ, zero, suc, ◌<◌, Bool, true, false, cond, List, [], ◌∷◌, ◌++◌, length, map, set, get_or, take, slice_get, Option, Some, None, IfSome, refl, sym, ap, ◌∙◌, subst, arith}
use Rattle.std.specs.Ordering.{is_lt}
use Rattle.std.specs.List.{AllByRecursion}
use Rattle.std.proofs.Math.Seq.{take-suc-set}
use Rattle.std.proofs.lemmas.List.{length-set}
use Rattle.ctf_packet.specs.Classes.{Classes}
use Rattle.ctf_packet.specs.Items.{Item}
use Rattle.ctf_packet.specs.declared.fault.StreamFault.{StreamFault}
use Rattle.ctf_packet.specs.ItemTimes.{time_of}
use Rattle.ctf_stream.specs.Peeked.{told}
use Rattle.ctf_stream.specs.Reader as reader
use Rattle.ctf_stream.specs.Reader.{Reader, coming}
use Rattle.stream_laws.specs.Times.{is_before}
use Rattle.ctf_merge.specs.Merged.{First, item, broken, nothing, later, least, with_first, first_of, ends, merged, advance}
use Rattle.ctf_merge.specs.Turns.{Turn, turn_cmp, turn_at, turns_from, fault_at, LinedUp}
use Rattle.ctf_merge.specs.Trees.{IsLow, IsFirst}
use Rattle.ctf_merge.specs.Merges.{Merge, first_now, coming_of, EachFetched, EachNotBefore, AheadNotBefore, IsNext}
use Rattle.ctf_merge.specs.Stages.{is_over, stage_of, Stands}
use Rattle.ctf_merge.specs.declared.merge.Stage.{Stage}
use Rattle.ctf_merge.specs.declared.merge.Stage.TheVariants as stages
use Rattle.ctf_merge.proofs.Going.{map-set, InFront, in_front, open_item, front, coming-item}
use Rattle.ctf_merge.proofs.Turning.{same_turn, not_before, turn_of, turns_length, turns_set, turns_more, turn_there, turn_number, NoTurns, no_turns, lows, all_append}

-- ---- what comes first of streams that are lined up

abbrev AllSound : List reader.Peeked → Type 0
AllSound hs = AllByRecursion (λ h. fault_at (told h) ≡ None) hs

not_broken_by : (h : reader.Peeked) (hs : List reader.Peeked) (i : ℕ) (f : StreamFault) → ((j : ℕ) (k : StreamFault) → first_of hs ≡ broken j k → ⊥) → fault_at (told h) ≡ None
    → first_of (h ∷ hs) ≡ broken i f → ⊥
not_broken_by h hs i f others sound e = by_head h sound e
  where
    after : (g : First) → first_of hs ≡ g → later g ≡ broken i f → ⊥
    after (item j x) is l = absurd cc
    after (broken j k) is l = others j k is
    after nothing is l = absurd cc

    by_item : (y : Item Classes) (g : First) → first_of hs ≡ g → least y (later g) ≡ broken i f → ⊥
    by_item y (item j z) is l = either (is_before (time_of z) (time_of y)) l
      where
        either : (b : Bool) → cond b (item (suc j) z) (item 0 y) ≡ broken i f → ⊥
        either true l = absurd cc
        either false l = absurd cc
    by_item y (broken j k) is l = others j k is
    by_item y nothing is l = absurd cc

    by_head : (h : reader.Peeked) → fault_at (told h) ≡ None → with_first h (later (first_of hs)) ≡ broken i f → ⊥
    by_head reader.start s l = after (first_of hs) refl l
    by_head (reader.item y) s l = by_item y (first_of hs) refl l
    by_head reader.ended s l = after (first_of hs) refl l
    by_head (reader.fault g) s l = absurd cc

pub not_broken : (hs : List reader.Peeked) (i : ℕ) (f : StreamFault) → AllSound hs → first_of hs ≡ broken i f → ⊥
not_broken [] i f sound e = absurd cc
not_broken (h ∷ hs) i f sound e = not_broken_by h hs i f (λ j k is. not_broken hs j k sound.1 is) sound.0 e

all_at : {X : Type 0} (P : X → Type 0) (xs : List X) (n : ℕ) (x : X) → AllByRecursion P xs → slice_get xs n ≡ Some x → P x
all_at P [] n x all e = absurd cc
all_at P (y ∷ ys) zero x all e = subst P (let same : y ≡ x = cc in same) all.0
all_at P (y ∷ ys) (suc m) x all e = all_at P ys m x all.1 e

no_turn_at : (turns : List (Option Turn)) (n : ℕ) (t : Turn) → NoTurns turns → slice_get turns n ≡ Some (Some t) → ⊥
no_turn_at turns n t none e = let is = all_at (λ (u : Option Turn). u ≡ None) turns n (Some t) none e in cc

-- the least turn is that of the first item
pub first_turn : (hs : List reader.Peeked) (turns : List (Option Turn)) (n : ℕ) → LinedUp hs turns → IsFirst turns n → (x : Item Classes) × (first_of hs ≡ item n x)
first_turn hs turns n lined first = by_first (first_of hs) refl
  where
    t : Turn
    t = first.turn

    at : slice_get (turns_from 0 hs) n ≡ Some (Some t)
    at = subst (λ (ts : List (Option Turn)). slice_get ts n ≡ Some (Some t)) lined.turns_are first.at

    by_first : (f : First) → first_of hs ≡ f → (x : Item Classes) × (first_of hs ≡ item n x)
    by_first (item m x) e =
        let there = turn_there 0 m hs m x (omega arith) e in
        let first_low = all_at (λ (u : Option Turn). IfSome u (λ v. is_lt (turn_cmp v (turn_of m x)) ≡ false)) (turns_from 0 hs) n (Some t) (lows 0 m hs m x (omega arith) e) at in
        let second_low = all_at (λ (u : Option Turn). IfSome u (λ v. is_lt (turn_cmp v t) ≡ false)) (turns_from 0 hs) m (Some (turn_of m x))
        (subst (λ (ts : List (Option Turn)). IsLow t ts) lined.turns_are first.low) there in
        let same = same_turn t (turn_of m x) first_low second_low in
        let its = turn_number 0 n hs t at in
        let number = ap (λ (u : Turn). u.number) same in
        (x, e ∙ ap (λ (k : ℕ). item k x) (let q : m ≡ n = omega (arith, its, number) in q))
    by_first (broken i f) e = absurd (not_broken hs i f lined.sound e)
    by_first nothing e = absurd (no_turn_at (turns_from 0 hs) n t (no_turns 0 hs e) at)

pub no_turn : (hs : List reader.Peeked) (turns : List (Option Turn)) → LinedUp hs turns → NoTurns turns → first_of hs ≡ nothing
no_turn hs turns lined none = by_first (first_of hs) refl
  where
    by_first : (f : First) → first_of hs ≡ f → first_of hs ≡ nothing
    by_first (item m x) e =
        absurd (no_turn_at (turns_from 0 hs) m (turn_of m x) (subst NoTurns lined.turns_are none) (turn_there 0 m hs m x (omega arith) e))
    by_first (broken i f) e = absurd (not_broken hs i f lined.sound e)
    by_first nothing e = e

-- ---- one stream went on

sound_set : (hs : List reader.Peeked) (n : ℕ) (h : reader.Peeked) → AllSound hs → fault_at (told h) ≡ None → AllSound (set hs n h)
sound_set [] n h all here = tt
sound_set (g ∷ hs) zero h all here = (here, all.1)
sound_set (g ∷ hs) (suc m) h all here = (all.0, sound_set hs m h all.1 here)

pub lined_again : (hs : List reader.Peeked) (old new : List (Option Turn)) (n : ℕ) (h : reader.Peeked) → LinedUp hs old → new ≡ set old n (turn_at n (told h)) → fault_at (told h) ≡ None
    → LinedUp (set hs n h) new
lined_again hs old new n h lined is sound = record {
  sound = sound_set hs n h lined.sound sound;
  turns_are = is ∙ (ap (λ (ts : List (Option Turn)). set ts n (turn_at n (told h))) lined.turns_are ∙ sym (turns_set 0 n n hs h (omega arith)));
}

fault_is : (h : reader.Peeked) (f : StreamFault) → fault_at (told h) ≡ Some f → h ≡ reader.fault f
fault_is reader.start f e = absurd cc
fault_is (reader.item y) f e = absurd cc
fault_is reader.ended f e = absurd cc
fault_is (reader.fault g) f e = ap (λ (k : StreamFault). reader.fault k) (let same : g ≡ f = cc in same)

after_sound : (h : reader.Peeked) (g : First) (i : ℕ) (f : StreamFault) → fault_at (told h) ≡ None → g ≡ broken i f → with_first h (later g) ≡ broken (suc i) f
after_sound reader.start g i f sound e = rw e refl
after_sound (reader.item y) g i f sound e = rw e refl
after_sound reader.ended g i f sound e = rw e refl
after_sound (reader.fault k) g i f sound e = absurd cc

pub broken_again : (hs : List reader.Peeked) (n : ℕ) (h : reader.Peeked) (f : StreamFault) → AllSound hs → n < length hs → fault_at (told h) ≡ Some f → first_of (set hs n h) ≡ broken n f
broken_again [] n h f sound lt e = absurd (omega (arith, lt))
broken_again (g ∷ hs) zero h f sound lt e = rw (fault_is h f e) refl
broken_again (g ∷ hs) (suc m) h f sound lt e = after_sound g (first_of (set hs m h)) m f sound.0 (broken_again hs m h f sound.1 (omega (arith, lt)) e)

-- ---- the streams are lined up one after the other

abbrev heads_of : List Reader → List reader.Peeked
heads_of readers = map (λ r. r.ahead) readers

heads_more : (rs : List Reader) (i : ℕ) (r : Reader) → i < length rs → r ≡ get_or rs i r → heads_of (take (suc i) rs) ≡ heads_of (take i rs) ++ r.ahead ∷ []
heads_more [] i r lt is = absurd (omega (arith, lt))
heads_more (s ∷ rs) zero r lt is = λ i. (sym is i).ahead ∷ []
heads_more (s ∷ rs) (suc m) r lt is = λ i. s.ahead ∷ heads_more rs m r (omega (arith, lt)) is i

heads_length : (rs : List Reader) (i : ℕ) → i < length rs → length (heads_of (take i rs)) ≡ i
heads_length [] i lt = absurd (omega (arith, lt))
heads_length (s ∷ rs) zero lt = refl
heads_length (s ∷ rs) (suc m) lt = let rest = heads_length rs m (omega (arith, lt)) in omega (arith, rest)

-- the first streams are lined up, and there is a place for each other one
pub record LinedUpTo (i : ℕ) (readers : List Reader) (turns : List (Option Turn)) : Type 0 where
  pub sound : AllSound (heads_of (take i readers))
  pub turns_are : take i turns ≡ turns_from 0 (heads_of (take i readers))
  pub sized : length turns ≡ length readers

pub lined_more : (rs : List Reader) (i : ℕ) (r : Reader) (old new : List (Option Turn)) → i < length rs → r ≡ get_or rs i r → LinedUpTo i rs old
    → new ≡ set old i (turn_at i (told r.ahead)) → fault_at (told r.ahead) ≡ None → LinedUpTo (suc i) rs new
lined_more rs i r old new lt is lined new_is sound = record {
  sound = subst AllSound (sym heads) (all_append (λ h. fault_at (told h) ≡ None) (heads_of (take i rs)) (r.ahead ∷ []) lined.sound (sound, tt));
  turns_are = ap (take (suc i)) new_is
      ∙ (take-suc-set old i (turn_at i (told r.ahead)) (let len = lined.sized in omega (arith, lt, len))
      ∙ (ap (λ (ts : List (Option Turn)). ts ++ turn_at i (told r.ahead) ∷ []) lined.turns_are
      ∙ (sym (turns_more 0 i (heads_of (take i rs)) r.ahead (let len = heads_length rs i lt in omega (arith, len))) ∙ ap (turns_from 0) (sym heads))));
  sized = ap length new_is ∙ (length-set old i (turn_at i (told r.ahead)) ∙ lined.sized);
}
  where
    heads : heads_of (take (suc i) rs) ≡ heads_of (take i rs) ++ r.ahead ∷ []
    heads = heads_more rs i r lt is

pub broken_first : (rs : List Reader) (i : ℕ) (r : Reader) (f : StreamFault) → i < length rs → r ≡ get_or rs i r → AllSound (heads_of (take i rs)) → fault_at (told r.ahead) ≡ Some f
    → first_of (heads_of rs) ≡ broken i f
broken_first [] i r f lt is sound e = absurd (omega (arith, lt))
broken_first (s ∷ rs) zero r f lt is sound e = rw (sym (ap (λ (q : Reader). q.ahead) is) ∙ fault_is r.ahead f e) refl
broken_first (s ∷ rs) (suc m) r f lt is sound e = after_sound s.ahead (first_of (heads_of rs)) m f sound.0 (broken_first rs m r f (omega (arith, lt)) is sound.1 e)

length-heads : (rs : List Reader) → length (heads_of rs) ≡ length rs
length-heads [] = refl
length-heads (r ∷ rs) = let rest = length-heads rs in omega (arith, rest)

-- ---- a stage

pub lined_going : (stage : Stage) (hs : List reader.Peeked) (turns : List (Option Turn)) → stage ≡ stages.Going → Stands stage hs turns → LinedUp hs turns
lined_going stage hs turns e stands = subst (λ (s : Stage). Stands s hs turns) e stands

pub first_going : (m : Merge) (readers : List Reader) (stage : Stage) (f : First) → record { readers = readers; over = is_over stage } ≡ m → stage ≡ stages.Going
    → first_of (heads_of readers) ≡ f → first_now m ≡ f
first_going m readers stage f view e is =
    sym (ap first_now view) ∙ (ap (λ (s : Stage). cond (is_over s) nothing (first_of (heads_of readers))) e ∙ is)

pub open_coming : (readers : List Reader) (stage : Stage) → is_over stage ≡ false → coming_of (record { readers = readers; over = is_over stage }) ≡ merged (map coming readers)
open_coming readers stage open_ = ap (λ (b : Bool). cond b (ends None) (merged (map coming readers))) open_

-- the least turn is that of the item in front
pub turn_front : (readers : List Reader) (stage : Stage) (turns : List (Option Turn)) (n : ℕ) → stage ≡ stages.Going → Stands stage (heads_of readers) turns → IsFirst turns n
    → (x : Item Classes) × InFront (record { readers = readers; over = is_over stage }) n x
turn_front readers stage turns n going stands first =
    let at = first_turn (heads_of readers) turns n (lined_going stage (heads_of readers) turns going stands) first in
    (at.0, in_front (record { readers = readers; over = is_over stage }) n at.0 (ap is_over going) at.1)

-- an item comes next where no fault does
pub next_front : (m : Merge) (readers : List Reader) (stage : Stage) (n : ℕ) → record { readers = readers; over = is_over stage } ≡ m → IsNext m n
    → (x : Item Classes) × InFront (record { readers = readers; over = is_over stage }) n x
next_front m readers stage n view it =
    let now : Merge = record { readers = readers; over = is_over stage } in
    let opened = open_item now n it.next (ap first_now view ∙ it.first) in
    (it.next, in_front now n it.next opened.0 opened.1)

pub next_going : (readers : List Reader) (stage : Stage) (turns : List (Option Turn)) (n : ℕ) (x : Item Classes) → InFront (record { readers = readers; over = is_over stage }) n x
    → Stands stage (heads_of readers) turns → stage ≡ stages.Going
next_going readers stages.Going turns n x at stands = refl
next_going readers (stages.Broken k f) turns n x at stands = absurd (let no : broken k f ≡ item n x = sym stands ∙ at.heads in cc)
next_going readers stages.Over turns n x at stands = absurd (let no : nothing ≡ item n x = at.first in cc)

-- there is a place for its turn
pub turn_within : (readers : List Reader) (stage : Stage) (turns : List (Option Turn)) (n : ℕ) → stage ≡ stages.Going → Stands stage (heads_of readers) turns → n < length readers → n < length turns
turn_within readers stage turns n going stands within =
    let lined = lined_going stage (heads_of readers) turns going stands in
    let long = ap length lined.turns_are in
    let each = turns_length 0 (heads_of readers) in
    let heads = length-heads readers in
    omega (arith, within, long, each, heads)

-- the streams once its stream went on
pub stands_again : (readers : List Reader) (stage next : Stage) (turns new : List (Option Turn)) (n : ℕ) (r : Reader) → stage ≡ stages.Going → Stands stage (heads_of readers) turns
    → n < length readers → new ≡ set turns n (turn_at n (told r.ahead)) → next ≡ stage_of n (fault_at (told r.ahead)) → Stands next (heads_of (set readers n r)) new
stands_again readers stage next turns new n r going stands within is next_is =
    subst (λ (s : Stage). Stands s (heads_of (set readers n r)) new) (sym next_is)
    (subst (λ (hs : List reader.Peeked). Stands (stage_of n (fault_at (told r.ahead))) hs new) (sym (map-set (λ (q : Reader). q.ahead) readers n r))
    (by_fault (fault_at (told r.ahead)) refl))
  where
    lined : LinedUp (heads_of readers) turns
    lined = lined_going stage (heads_of readers) turns going stands

    by_fault : (f : Option StreamFault) → fault_at (told r.ahead) ≡ f → Stands (stage_of n f) (set (heads_of readers) n r.ahead) new
    by_fault None e = lined_again (heads_of readers) turns new n r.ahead lined is e
    by_fault (Some f) e = broken_again (heads_of readers) n r.ahead f lined.sound (let len = length-heads readers in omega (arith, within, len)) e

pub stage_open : (n : ℕ) (f : Option StreamFault) → is_over (stage_of n f) ≡ false
stage_open n None = refl
stage_open n (Some f) = refl

pub first_broken : (m : Merge) (readers : List Reader) (stage : Stage) (turns : List (Option Turn)) (n : ℕ) (f : StreamFault) → record { readers = readers; over = is_over stage } ≡ m
    → stage ≡ stages.Broken n f → Stands stage (heads_of readers) turns → first_now m ≡ broken n f
first_broken m readers stage turns n f view e stands =
    let heads : first_of (heads_of readers) ≡ broken n f = subst (λ (s : Stage). Stands s (heads_of readers) turns) e stands in
    sym (ap first_now view) ∙ (ap (λ (s : Stage). cond (is_over s) nothing (first_of (heads_of readers))) e ∙ heads)

-- ---- the item that comes next

low_by : (from : ℕ) (h : reader.Peeked) (rs : List Reader) (t : Turn) → (IsLow t (turns_from (suc from) (heads_of rs)) → EachNotBefore t.time rs) → IsLow t (turns_from from (h ∷ heads_of rs))
    → AheadNotBefore t.time h × EachNotBefore t.time rs
low_by from reader.start rs t others low = (tt, others low.1)
low_by from (reader.item x) rs t others low = (not_before (turn_of from x) t low.0, others low.1)
low_by from reader.ended rs t others low = (tt, others low.1)
low_by from (reader.fault f) rs t others low = (tt, others low.1)

each_low : (from : ℕ) (readers : List Reader) (t : Turn) → IsLow t (turns_from from (heads_of readers)) → EachNotBefore t.time readers
each_low from [] t low = tt
each_low from (r ∷ rs) t low = low_by from r.ahead rs t (λ l. each_low (suc from) rs t l) low

slice_at : (rs : List Reader) (n : ℕ) (r : Reader) → n < length rs → r ≡ get_or rs n r → slice_get rs n ≡ Some r
slice_at [] n r lt is = absurd (omega (arith, lt))
slice_at (s ∷ rs) zero r lt is = ap (λ (t : Reader). Some t) (sym is)
slice_at (s ∷ rs) (suc m) r lt is = slice_at rs m r (omega (arith, lt)) is

reader_is : (rs : List Reader) (n : ℕ) → n < length rs → (r : Reader) × (r ≡ get_or rs n r)
reader_is [] n lt = absurd (omega (arith, lt))
reader_is (r ∷ rs) zero lt = (r, refl)
reader_is (r ∷ rs) (suc m) lt = reader_is rs m (omega (arith, lt))

-- of the reader of its number
pub next_at : (m : Merge) (n : ℕ) (x : Item Classes) (r : Reader) → EachFetched m.readers → first_now m ≡ item n x → r ≡ get_or m.readers n r
    → (it : IsNext m n) × (it.front ≡ r) × (it.next ≡ x)
next_at m n x r each e is =
    let opened = open_item m n x e in
    let at = in_front m n x opened.0 opened.1 in
    let here = front m.readers n x r opened.1 is in
    let it : IsNext m n = record {
      front = r;
      next = x;
      rest = merged (advance n (map coming m.readers));
      at = slice_at m.readers n r at.within is;
      ahead = here.1;
      first = e;
      least = each_low 0 m.readers (turn_of n x) (lows 0 n (heads_of m.readers) n x (omega arith) opened.1);
      coming = λ tells. coming-item m n x each e;
    } in
    (it, refl, refl)

pub is_next : (m : Merge) (n : ℕ) (x : Item Classes) → EachFetched m.readers → first_now m ≡ item n x → IsNext m n
is_next m n x each e =
    let opened = open_item m n x e in
    let it = reader_is m.readers n (in_front m n x opened.0 opened.1).within in
    (next_at m n x it.0 each e it.1).0
