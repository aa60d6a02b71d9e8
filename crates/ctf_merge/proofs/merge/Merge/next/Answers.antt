use Rattle.std.proofs.Common.{◌≡◌, ◌<◌, ◌+◌, length, set, IsTrue, Option, Ok, refl, sym, ap, ◌∙◌, subst, arith}
use Rattle.ctf_merge.specs.Merged.{First}
use Rattle.ctf_packet.specs.declared.fault.StreamFault.{StreamFault}
use Rattle.ctf_stream.specs.Peeked.{told}
use Rattle.ctf_stream.specs.Reader.{IsFetched}
use Rattle.ctf_stream.specs.declared.peeked.Peeked.{Peeked}
use Rattle.ctf_merge.specs.Given.{Gives, GivesFirst, GivesRoom}
use Rattle.ctf_merge.specs.Merges.{Merge, EachTells, LeavesFront, coming_of, room_of}
use Rattle.ctf_merge.specs.Stages.{is_over, stage_of}
use Rattle.ctf_merge.specs.Turns.{turn_at, fault_at}
use Rattle.ctf_merge.proofs.Giving.{has_item, first_given, gives_item, refused_told, gives_refused, gives_broken, gives_nothing, leaves_front, room_given, room_kept, rises_given}
use Rattle.ctf_merge.proofs.Going.{each_at, each_set, map-kept, goes-item}
use Rattle.ctf_merge.proofs.Lining.{turn_front, turn_within, stands_again, stage_open, first_going, first_broken, no_turn, lined_going}
use Rattle.ctf_merge.proofs.merge.Merge.next.Goals as goal

pub index_mut-reader-requires : goal.index_mut-reader-requires
index_mut-reader-requires g c =
    let at = turn_front c.self.inside.readers.items c.self.inside.stage c.self.inside.turns c.in-Some.number c.in-Going.is c.self.invariant.stands c.in-Some.ensures.first in
    let within : c.in-Some.number < length c.self.inside.readers.items = at.1.within in
    let len = c.self.inside.readers.ok.0 in
    omega (arith, within, len)

pub give-requires : goal.give-requires
give-requires g c =
    let at = turn_front c.self.inside.readers.items c.self.inside.stage c.self.inside.turns c.in-Some.number c.in-Going.is c.self.invariant.stands c.in-Some.ensures.first in
    has_item _ c.in-Some.number at.0 c.index_mut-reader.result.now at.1 c.index_mut-reader.ensures.value

pub line_up-fault-requires-clause-number : goal.line_up-fault-requires-clause-number
line_up-fault-requires-clause-number g c = c.in-Some.ensures.bounded

pub line_up-fault-requires-clause-within : goal.line_up-fault-requires-clause-within
line_up-fault-requires-clause-within g c =
    let at = turn_front c.self.inside.readers.items c.self.inside.stage c.self.inside.turns c.in-Some.number c.in-Going.is c.self.invariant.stands c.in-Some.ensures.first in
    turn_within c.self.inside.readers.items c.self.inside.stage c.self.inside.turns c.in-Some.number c.in-Going.is c.self.invariant.stands at.1.within

pub invariant_of-self : goal.invariant_of-self
invariant_of-self g c =
    let at = turn_front c.self.inside.readers.items c.self.inside.stage c.self.inside.turns c.in-Some.number c.in-Going.is c.self.invariant.stands c.in-Some.ensures.first in
    let told_is = c.ahead-ahead.ensures in
    let turns_is : c.line_up-fault.new.turns ≡ set c.self.inside.turns c.in-Some.number (turn_at c.in-Some.number (told c.give.new.reader.ahead)) =
    subst (λ (a : Peeked). c.line_up-fault.new.turns ≡ set c.self.inside.turns c.in-Some.number (turn_at c.in-Some.number a)) told_is c.line_up-fault.ensures.turns in
    let next = c.meet.ensures ∙ ap (λ (f : Option StreamFault). stage_of c.in-Some.number f) (c.line_up-fault.ensures.fault ∙ ap fault_at told_is) in
    record {
      fetched = each_set (λ r. IsFetched r.ahead) c.self.inside.readers.items c.in-Some.number c.give.new.reader c.self.invariant.fetched c.in-Ok.ensures.fetched;
      stands = stands_again c.self.inside.readers.items c.self.inside.stage c.meet.new.self c.self.inside.turns c.line_up-fault.new.turns c.in-Some.number c.give.new.reader c.in-Going.is c.self.invariant.stands at.1.within turns_is next;
    }

pub returns-in-Ok-clause-first : goal.returns-in-Ok-clause-first
returns-in-Ok-clause-first g c =
    let at = turn_front c.self.inside.readers.items c.self.inside.stage c.self.inside.turns c.in-Some.number c.in-Going.is c.self.invariant.stands c.in-Some.ensures.first in
    let m : Merge = record { readers = c.self.inside.readers.items; over = is_over c.self.inside.stage } in
    subst (λ (t : Merge). GivesFirst t (Ok c.in-Ok.item)) c.self.view_is (first_given m c.in-Some.number at.0 c.index_mut-reader.result.now c.in-Ok.item c.self.invariant.fetched at.1 c.index_mut-reader.ensures.value c.in-Ok.ensures.told c.in-Ok.ensures.of)

pub returns-in-Ok-clause-gives : goal.returns-in-Ok-clause-gives
returns-in-Ok-clause-gives g c =
    let at = turn_front c.self.inside.readers.items c.self.inside.stage c.self.inside.turns c.in-Some.number c.in-Going.is c.self.invariant.stands c.in-Some.ensures.first in
    let m : Merge = record { readers = c.self.inside.readers.items; over = is_over c.self.inside.stage } in
    let new : Merge = record { readers = set c.self.inside.readers.items c.in-Some.number c.give.new.reader; over = is_over c.meet.new.self } in
    let open_ = ap is_over c.meet.ensures ∙ stage_open c.in-Some.number c.line_up-fault.result in
    let first = first_given m c.in-Some.number at.0 c.index_mut-reader.result.now c.in-Ok.item c.self.invariant.fetched at.1 c.index_mut-reader.ensures.value c.in-Ok.ensures.told c.in-Ok.ensures.of in
    subst (λ (t : Merge). EachTells t.readers → Gives (coming_of t) (coming_of new) (Ok c.in-Ok.item)) c.self.view_is (λ tells.
    let goes = goes-item m c.in-Some.number at.0 c.index_mut-reader.result.now c.give.new.reader (is_over c.meet.new.self) open_ c.self.invariant.fetched at.1.first c.index_mut-reader.ensures.value
    (c.in-Ok.ensures.goes_on (each_at (λ r. IsTrue r.tells) c.self.inside.readers.items c.in-Some.number c.index_mut-reader.result.now at.1.within c.index_mut-reader.ensures.value tells)) in
    gives_item m (coming_of new) c.index_mut-reader.result.now.ahead c.in-Ok.item tells c.in-Ok.ensures.told first goes)

pub returns-in-Ok-clause-rises : goal.returns-in-Ok-clause-rises
returns-in-Ok-clause-rises g c =
    let new : Merge = record { readers = set c.self.inside.readers.items c.in-Some.number c.give.new.reader; over = is_over c.meet.new.self } in
    λ tells rises. rises_given (coming_of c.args.self.now) (coming_of new) (Ok c.in-Ok.item) (returns-in-Ok-clause-gives g c tells) rises

pub returns-in-Ok-clause-room : goal.returns-in-Ok-clause-room
returns-in-Ok-clause-room g c =
    let at = turn_front c.self.inside.readers.items c.self.inside.stage c.self.inside.turns c.in-Some.number c.in-Going.is c.self.invariant.stands c.in-Some.ensures.first in
    let m : Merge = record { readers = c.self.inside.readers.items; over = is_over c.self.inside.stage } in
    subst (λ (t : Merge). GivesRoom (room_of t.readers) (room_of (set c.self.inside.readers.items c.in-Some.number c.give.new.reader)) (Ok c.in-Ok.item)) c.self.view_is (room_given m c.in-Some.number c.index_mut-reader.result.now c.give.new.reader c.in-Ok.item at.1.within c.index_mut-reader.ensures.value c.in-Ok.ensures.told c.in-Ok.ensures.room)

pub returns-in-Ok-clause-names : goal.returns-in-Ok-clause-names
returns-in-Ok-clause-names g c =
    let at = turn_front c.self.inside.readers.items c.self.inside.stage c.self.inside.turns c.in-Some.number c.in-Going.is c.self.invariant.stands c.in-Some.ensures.first in
    rw (← c.self.view_is) (map-kept (λ r. r.name) c.self.inside.readers.items c.in-Some.number c.index_mut-reader.result.now c.give.new.reader at.1.within c.index_mut-reader.ensures.value c.give.ensures.name)

pub returns-in-Ok-clause-traces : goal.returns-in-Ok-clause-traces
returns-in-Ok-clause-traces g c =
    let at = turn_front c.self.inside.readers.items c.self.inside.stage c.self.inside.turns c.in-Some.number c.in-Going.is c.self.invariant.stands c.in-Some.ensures.first in
    rw (← c.self.view_is) (map-kept (λ r. r.trace) c.self.inside.readers.items c.in-Some.number c.index_mut-reader.result.now c.give.new.reader at.1.within c.index_mut-reader.ensures.value c.give.ensures.trace)

pub returns-in-Ok-clause-writes : goal.returns-in-Ok-clause-writes
returns-in-Ok-clause-writes g c =
    let at = turn_front c.self.inside.readers.items c.self.inside.stage c.self.inside.turns c.in-Some.number c.in-Going.is c.self.invariant.stands c.in-Some.ensures.first in
    rw (← c.self.view_is) (map-kept (λ r. r.writes) c.self.inside.readers.items c.in-Some.number c.index_mut-reader.result.now c.give.new.reader at.1.within c.index_mut-reader.ensures.value c.give.ensures.writes)

pub returns-in-Ok-clause-counted : goal.returns-in-Ok-clause-counted
returns-in-Ok-clause-counted g c =
    let at = turn_front c.self.inside.readers.items c.self.inside.stage c.self.inside.turns c.in-Some.number c.in-Going.is c.self.invariant.stands c.in-Some.ensures.first in
    rw (← c.self.view_is) (λ tells.
    map-kept (λ r. r.taken + length r.left) c.self.inside.readers.items c.in-Some.number c.index_mut-reader.result.now c.give.new.reader at.1.within c.index_mut-reader.ensures.value
    (c.give.ensures.counted (each_at (λ r. IsTrue r.tells) c.self.inside.readers.items c.in-Some.number c.index_mut-reader.result.now at.1.within c.index_mut-reader.ensures.value tells)))

pub returns-in-Err-clause-names : goal.returns-in-Err-clause-names
returns-in-Err-clause-names g c =
    let at = turn_front c.self.inside.readers.items c.self.inside.stage c.self.inside.turns c.in-Some.number c.in-Going.is c.self.invariant.stands c.in-Some.ensures.first in
    rw (← c.self.view_is) (map-kept (λ r. r.name) c.self.inside.readers.items c.in-Some.number c.index_mut-reader.result.now c.give.new.reader at.1.within c.index_mut-reader.ensures.value c.give.ensures.name)

pub returns-in-Err-clause-traces : goal.returns-in-Err-clause-traces
returns-in-Err-clause-traces g c =
    let at = turn_front c.self.inside.readers.items c.self.inside.stage c.self.inside.turns c.in-Some.number c.in-Going.is c.self.invariant.stands c.in-Some.ensures.first in
    rw (← c.self.view_is) (map-kept (λ r. r.trace) c.self.inside.readers.items c.in-Some.number c.index_mut-reader.result.now c.give.new.reader at.1.within c.index_mut-reader.ensures.value c.give.ensures.trace)

pub returns-in-Err-clause-writes : goal.returns-in-Err-clause-writes
returns-in-Err-clause-writes g c =
    let at = turn_front c.self.inside.readers.items c.self.inside.stage c.self.inside.turns c.in-Some.number c.in-Going.is c.self.invariant.stands c.in-Some.ensures.first in
    rw (← c.self.view_is) (map-kept (λ r. r.writes) c.self.inside.readers.items c.in-Some.number c.index_mut-reader.result.now c.give.new.reader at.1.within c.index_mut-reader.ensures.value c.give.ensures.writes)

pub returns-in-Err-clause-counted : goal.returns-in-Err-clause-counted
returns-in-Err-clause-counted g c =
    let at = turn_front c.self.inside.readers.items c.self.inside.stage c.self.inside.turns c.in-Some.number c.in-Going.is c.self.invariant.stands c.in-Some.ensures.first in
    rw (← c.self.view_is) (λ tells.
    map-kept (λ r. r.taken + length r.left) c.self.inside.readers.items c.in-Some.number c.index_mut-reader.result.now c.give.new.reader at.1.within c.index_mut-reader.ensures.value
    (c.give.ensures.counted (each_at (λ r. IsTrue r.tells) c.self.inside.readers.items c.in-Some.number c.index_mut-reader.result.now at.1.within c.index_mut-reader.ensures.value tells)))

pub returns-in-Err-clause-gives : goal.returns-in-Err-clause-gives
returns-in-Err-clause-gives g c =
    let at = turn_front c.self.inside.readers.items c.self.inside.stage c.self.inside.turns c.in-Some.number c.in-Going.is c.self.invariant.stands c.in-Some.ensures.first in
    rw (← c.self.view_is) (λ tells. gives_refused _ c.in-Some.number at.0 c.in-Err.fault c.self.invariant.fetched at.1.first c.in-Err.ensures.told)

pub returns-in-Err-clause-first : goal.returns-in-Err-clause-first
returns-in-Err-clause-first g c =
    let at = turn_front c.self.inside.readers.items c.self.inside.stage c.self.inside.turns c.in-Some.number c.in-Going.is c.self.invariant.stands c.in-Some.ensures.first in
    let m : Merge = record { readers = c.self.inside.readers.items; over = is_over c.self.inside.stage } in
    rw (← c.self.view_is) (refused_told m c.in-Some.number at.0 c.in-Err.fault at.1.first c.in-Err.ensures.told)

pub returns-in-Err-clause-room : goal.returns-in-Err-clause-room
returns-in-Err-clause-room g c =
    let at = turn_front c.self.inside.readers.items c.self.inside.stage c.self.inside.turns c.in-Some.number c.in-Going.is c.self.invariant.stands c.in-Some.ensures.first in
    rw (← c.self.view_is) (room_kept c.self.inside.readers.items c.in-Some.number c.index_mut-reader.result.now c.give.new.reader at.1.within c.index_mut-reader.ensures.value c.in-Err.ensures.room)

pub returns-in-None-clause-gives : goal.returns-in-None-clause-gives
returns-in-None-clause-gives g c =
    let m : Merge = record { readers = c.self.inside.readers.items; over = is_over c.self.inside.stage } in
    let is = first_going m c.self.inside.readers.items c.self.inside.stage _ refl c.in-Going.is (no_turn _ c.self.inside.turns (lined_going c.self.inside.stage _ c.self.inside.turns c.in-Going.is c.self.invariant.stands) c.in-None.ensures.none) in
    rw (← c.self.view_is) (λ tells. gives_nothing m c.self.invariant.fetched is)

pub returns-in-None-clause-first : goal.returns-in-None-clause-first
returns-in-None-clause-first g c =
    let m : Merge = record { readers = c.self.inside.readers.items; over = is_over c.self.inside.stage } in
    let is = first_going m c.self.inside.readers.items c.self.inside.stage _ refl c.in-Going.is (no_turn _ c.self.inside.turns (lined_going c.self.inside.stage _ c.self.inside.turns c.in-Going.is c.self.invariant.stands) c.in-None.ensures.none) in
    rw (← c.self.view_is) is

pub returns-in-Broken-clause-gives : goal.returns-in-Broken-clause-gives
returns-in-Broken-clause-gives g c =
    let m : Merge = record { readers = c.self.inside.readers.items; over = is_over c.self.inside.stage } in
    let is = first_broken m c.self.inside.readers.items c.self.inside.stage c.self.inside.turns c.in-Broken.number c.in-Broken.fault refl c.in-Broken.is c.self.invariant.stands in
    rw (← c.self.view_is) (λ tells. gives_broken m c.in-Broken.number c.in-Broken.fault c.self.invariant.fetched is)

pub returns-in-Ok-clause-each : goal.returns-in-Ok-clause-each
returns-in-Ok-clause-each g c =
    let m : Merge = record { readers = c.self.inside.readers.items; over = is_over c.self.inside.stage } in
    let at = turn_front c.self.inside.readers.items c.self.inside.stage c.self.inside.turns c.in-Some.number c.in-Going.is c.self.invariant.stands c.in-Some.ensures.first in
    rw (← c.self.view_is) (leaves_front m c.in-Some.number at.0 c.index_mut-reader.result.now c.give.new.reader at.1 c.index_mut-reader.ensures.value c.give.ensures.fetched c.give.ensures.goes_on)

pub returns-in-Err-clause-each : goal.returns-in-Err-clause-each
returns-in-Err-clause-each g c =
    let m : Merge = record { readers = c.self.inside.readers.items; over = is_over c.self.inside.stage } in
    let at = turn_front c.self.inside.readers.items c.self.inside.stage c.self.inside.turns c.in-Some.number c.in-Going.is c.self.invariant.stands c.in-Some.ensures.first in
    rw (← c.self.view_is) (leaves_front m c.in-Some.number at.0 c.index_mut-reader.result.now c.give.new.reader at.1 c.index_mut-reader.ensures.value c.give.ensures.fetched c.give.ensures.goes_on)

pub returns-in-None-clause-each : goal.returns-in-None-clause-each
returns-in-None-clause-each g c =
    let m : Merge = record { readers = c.self.inside.readers.items; over = is_over c.self.inside.stage } in
    let is = first_going m c.self.inside.readers.items c.self.inside.stage _ refl c.in-Going.is (no_turn _ c.self.inside.turns (lined_going c.self.inside.stage _ c.self.inside.turns c.in-Going.is c.self.invariant.stands) c.in-None.ensures.none) in
    rw (← c.self.view_is) (subst (λ (f : First). LeavesFront f m.readers m.readers) (sym is) refl)
