-- An item is given by value.
use Rattle.std.proofs.Common.{◌≡◌, ℕ, zero, suc, ◌≤◌, ◌<◌, inl, inr, IsTrue, List, [], ◌∷◌, length, set, get_or, Option, Some, None, Result, Ok, Err, refl, sym, ap, ◌∙◌, subst, arith}
use Rattle.ctf_packet.specs.Classes.{Classes}
use Rattle.ctf_packet.specs.Items.{Item}
use Rattle.ctf_packet.specs.declared.fault.StreamFault.{StreamFault}
use Rattle.ctf_packet.specs.declared.fault.StreamFault.TheVariants as faults
use Rattle.ctf_stream.specs.Owned as owned
use Rattle.ctf_stream.specs.Owned.{item_of, GivesOf, IsOf}
use Rattle.ctf_stream.specs.Reader as reader
use Rattle.ctf_stream.specs.Reader.{Reader, HasItem, IsFetched, OrRefused, coming, rest_of}
use Rattle.ctf_stream.specs.declared.owned.OwnedItem.{OwnedItem}
use Rattle.ctf_merge.specs.Merged.{Merged, Placed, First, item, broken, nothing, ends, then, PlacedRise}
use Rattle.ctf_merge.specs.Merges.{Merge, coming_of, first_now, room_of, EachFetched, EachTells, GoesOn, LeavesFront}
use Rattle.ctf_merge.specs.Given.{Gives, GivesFirst, GivesFront, GivesRoom, IsTold}
use Rattle.ctf_merge.specs.declared.fault.MergeFault.{MergeFault}
use Rattle.ctf_merge.specs.declared.fault.MergeFault.TheVariants.{Stream}
use Rattle.ctf_merge.proofs.Going.{InFront, front, coming-item, coming-broken, coming-nothing, leaves_one, room-set}
use Rattle.ctf_merge.proofs.Lining.{next_at}
use Rattle.ctf_merge.proofs.Rising.{refused_rises, rest_rises}

pub has_item : (m : Merge) (n : ℕ) (x : Item Classes) (old : Reader) → InFront m n x → old ≡ get_or m.readers n old → HasItem old.ahead
has_item m n x old at is = subst HasItem (sym (front m.readers n x old at.heads is).1) cc

item_same : (h : reader.Peeked) (x y : Item Classes) → h ≡ reader.item x → h ≡ reader.item y → x ≡ y
item_same h x y e f = let both : reader.item x ≡ reader.item y = sym e ∙ f in cc

pub first_given : (m : Merge) (n : ℕ) (x : Item Classes) (old : Reader) (o : Option OwnedItem) → EachFetched m.readers → InFront m n x → old ≡ get_or m.readers n old
    → GivesFront old.ahead (Ok o) → GivesOf old.trace old.name (Ok o) → GivesFirst m (Ok o)
first_given m n x old (Some y) each at is told of =
    let here = next_at m n x old each at.first is in
    let same : x ≡ item_of y told.0 told.1 = item_same old.ahead x (item_of y told.0 told.1) (front m.readers n x old at.heads is).1 told.2 in
    record {
      number = n;
      it = here.0;
      end = told.0;
      length = told.1;
      same = here.2 ∙ same;
      of = subst (λ (r : Reader). IsOf r.trace r.name y) (sym here.1) of;
    }
first_given m n x old None each at is told of = absurd told

pub gives_item : (m : Merge) (new : Merged) (h : reader.Peeked) (o : Option OwnedItem) → EachTells m.readers → GivesFront h (Ok o) → GivesFirst m (Ok o) → GoesOn (coming_of m) new → Gives (coming_of m) new (Ok o)
gives_item m new h (Some y) tells told first goes =
    let here = first.it.coming tells in (
      first.number,
      first.end,
      first.length,
      first.it.rest,
      here ∙ ap (λ (z : Item Classes). then (record { number = first.number; item = z }) first.it.rest) first.same,
      goes.after_item (record { number = first.number; item = first.it.next }) first.it.rest here,
    )
gives_item m new h None tells told first goes = absurd told

-- the reader of the current item has gone on to its next one
pub leaves_front : (m : Merge) (n : ℕ) (x : Item Classes) (before after : Reader) → InFront m n x → before ≡ get_or m.readers n before → IsFetched after.ahead
    → (IsTrue before.tells → OrRefused (rest_of before) (coming after)) → LeavesFront (first_now m) m.readers (set m.readers n after)
leaves_front m n x before after at is fetched goes =
    subst (λ (f : First). LeavesFront f m.readers (set m.readers n after)) (sym at.first) (leaves_one m.readers n x before after at.heads is fetched goes)

-- the allocation that failed for the item is reported
pub refused_told : (m : Merge) (n : ℕ) (x : Item Classes) (f : StreamFault) → first_now m ≡ item n x → f ≡ faults.NoMemory → IsTold (first_now m) (Stream n f)
refused_told m n x f e is = subst (λ (t : First). IsTold t (Stream n f)) (sym e) (ap (λ (g : StreamFault). Stream n g) is)

pub gives_refused : (m : Merge) (n : ℕ) (x : Item Classes) (f : StreamFault) → EachFetched m.readers → first_now m ≡ item n x → f ≡ faults.NoMemory → Gives (coming_of m) (ends None) (Err (Stream n f))
gives_refused m n x f each e is = (inr (λ none. absurd (let no = sym none ∙ ap (λ (t : Merged). t.items) (coming-item m n x each e) in cc), is), refl)

pub gives_broken : (m : Merge) (n : ℕ) (f : StreamFault) → EachFetched m.readers → first_now m ≡ broken n f → Gives (coming_of m) (ends None) (Err (Stream n f))
gives_broken m n f each e = (inl (coming-broken m n f each e), refl)

pub gives_nothing : (m : Merge) → EachFetched m.readers → first_now m ≡ nothing → (coming_of m ≡ ends None) × (coming_of m ≡ ends None)
gives_nothing m each e = (coming-nothing m each e, coming-nothing m each e)

pub room_given : (m : Merge) (n : ℕ) (old new : Reader) (o : Option OwnedItem) → n < length m.readers → old ≡ get_or m.readers n old → GivesFront old.ahead (Ok o)
    → owned.GivesRoom old.room new.room (Ok o) → GivesRoom (room_of m.readers) (room_of (set m.readers n new)) (Ok o)
room_given m n old new (Some y) lt is told less = room-set m.readers n old new lt is less
room_given m n old new None lt is told less = absurd told

pub room_kept : (rs : List Reader) (n : ℕ) (old new : Reader) → n < length rs → old ≡ get_or rs n old → new.room ≤ old.room → room_of (set rs n new) ≤ room_of rs
room_kept [] n old new lt is less = absurd (omega (arith, lt))
room_kept (s ∷ rs) zero old new lt is less = let same = ap (λ (r : Reader). r.room) is in omega (arith, less, same)
room_kept (s ∷ rs) (suc m) old new lt is less = let rest = room_kept rs m old new (omega (arith, lt)) is less in omega (arith, rest)

-- the times of what is left don't fall
pub rises_given : (old new : Merged) (result : Result (Option OwnedItem) MergeFault) → Gives old new result → PlacedRise None old.items → PlacedRise None new.items
rises_given old new (Ok (Some y)) gives rises =
    let x : Placed = record { number = gives.0; item = item_of y gives.1 gives.2 } in
    let all : PlacedRise None (x ∷ gives.3.items) = subst (λ (m : Merged). PlacedRise None m.items) gives.4 rises in
    refused_rises gives.3 new gives.5 (rest_rises _ gives.3.items all.1)
rises_given old new (Ok None) gives rises = subst (λ (m : Merged). PlacedRise None m.items) (sym gives.1) tt
rises_given old new (Err f) gives rises = subst (λ (m : Merged). PlacedRise None m.items) (sym gives.1) tt
