use Rattle.std.proofs.Common.{◌≡◌, ◌<◌, ◌+◌, length, set, IsTrue, Option, ap, ◌∙◌, subst, arith}
use Rattle.ctf_packet.specs.declared.fault.StreamFault.{StreamFault}
use Rattle.ctf_stream.specs.Peeked.{told}
use Rattle.ctf_stream.specs.Reader.{IsFetched}
use Rattle.ctf_stream.specs.declared.peeked.Peeked.{Peeked}
use Rattle.ctf_merge.specs.Stages.{is_over, stage_of}
use Rattle.ctf_merge.specs.Turns.{turn_at, fault_at}
use Rattle.ctf_merge.proofs.Going.{each_at, each_set, map-kept, room-front, goes-item, leaves_one}
use Rattle.ctf_merge.proofs.Lining.{next_front, next_going, turn_within, stands_again, stage_open}
use Rattle.ctf_merge.proofs.Rising.{rises_on}
use Rattle.ctf_merge.proofs.merge.Merge.leave.Goals as goal

pub index_mut-reader-requires : goal.index_mut-reader-requires
index_mut-reader-requires g c =
    let at = next_front c.args.self.now c.self.inside.readers.items c.self.inside.stage c.args.number c.self.view_is c.requires in
    let within : c.args.number < length c.self.inside.readers.items = at.1.within in
    let len = c.self.inside.readers.ok.0 in
    omega (arith, within, len)

pub line_up-fault-requires-clause-number : goal.line_up-fault-requires-clause-number
line_up-fault-requires-clause-number g c =
    let at = next_front c.args.self.now c.self.inside.readers.items c.self.inside.stage c.args.number c.self.view_is c.requires in
    let within : c.args.number < length c.self.inside.readers.items = at.1.within in
    let len = c.self.inside.readers.ok.0 in
    omega (arith, within, len)

pub line_up-fault-requires-clause-within : goal.line_up-fault-requires-clause-within
line_up-fault-requires-clause-within g c =
    let at = next_front c.args.self.now c.self.inside.readers.items c.self.inside.stage c.args.number c.self.view_is c.requires in
    let going = next_going c.self.inside.readers.items c.self.inside.stage c.self.inside.turns c.args.number at.0 at.1 c.self.invariant.stands in
    turn_within c.self.inside.readers.items c.self.inside.stage c.self.inside.turns c.args.number going c.self.invariant.stands at.1.within

pub meet-requires : goal.meet-requires
meet-requires g c =
    let at = next_front c.args.self.now c.self.inside.readers.items c.self.inside.stage c.args.number c.self.view_is c.requires in
    next_going c.self.inside.readers.items c.self.inside.stage c.self.inside.turns c.args.number at.0 at.1 c.self.invariant.stands

pub invariant_of-self : goal.invariant_of-self
invariant_of-self g c =
    let at = next_front c.args.self.now c.self.inside.readers.items c.self.inside.stage c.args.number c.self.view_is c.requires in
    let going = next_going c.self.inside.readers.items c.self.inside.stage c.self.inside.turns c.args.number at.0 at.1 c.self.invariant.stands in
    let told_is = c.ahead-ahead.ensures in
    let turns_is : c.line_up-fault.new.turns ≡ set c.self.inside.turns c.args.number (turn_at c.args.number (told c.go_on.new.self.ahead)) =
    subst (λ (a : Peeked). c.line_up-fault.new.turns ≡ set c.self.inside.turns c.args.number (turn_at c.args.number a)) told_is c.line_up-fault.ensures.turns in
    let next = c.meet.ensures ∙ ap (λ (f : Option StreamFault). stage_of c.args.number f) (c.line_up-fault.ensures.fault ∙ ap fault_at told_is) in
    record {
      fetched = each_set (λ r. IsFetched r.ahead) c.self.inside.readers.items c.args.number c.go_on.new.self c.self.invariant.fetched c.go_on.ensures.fetched;
      stands = stands_again c.self.inside.readers.items c.self.inside.stage c.meet.new.self c.self.inside.turns c.line_up-fault.new.turns c.args.number c.go_on.new.self going c.self.invariant.stands at.1.within turns_is next;
    }

pub returns-clause-fetched : goal.returns-clause-fetched
returns-clause-fetched g c = (invariant_of-self g c).fetched

pub returns-clause-goes_on : goal.returns-clause-goes_on
returns-clause-goes_on g c =
    let at = next_front c.args.self.now c.self.inside.readers.items c.self.inside.stage c.args.number c.self.view_is c.requires in
    let is = c.index_mut-reader.ensures.value in
    let open_ = ap is_over c.meet.ensures ∙ stage_open c.args.number c.line_up-fault.result in
    rw (← c.self.view_is) (λ tells.
    goes-item _ c.args.number at.0 c.index_mut-reader.result.now c.go_on.new.self (is_over c.meet.new.self) open_ c.self.invariant.fetched at.1.first is
    (c.go_on.ensures.goes_on (each_at (λ r. IsTrue r.tells) c.self.inside.readers.items c.args.number c.index_mut-reader.result.now at.1.within is tells)))

pub returns-clause-each : goal.returns-clause-each
returns-clause-each g c =
    let at = next_front c.args.self.now c.self.inside.readers.items c.self.inside.stage c.args.number c.self.view_is c.requires in
    rw (← c.self.view_is)
    (leaves_one c.self.inside.readers.items c.args.number at.0 c.index_mut-reader.result.now c.go_on.new.self at.1.heads c.index_mut-reader.ensures.value c.go_on.ensures.fetched c.go_on.ensures.goes_on)

pub returns-clause-rises : goal.returns-clause-rises
returns-clause-rises g c = λ tells rises. rises_on _ _ (returns-clause-goes_on g c tells) rises

pub returns-clause-names : goal.returns-clause-names
returns-clause-names g c =
    let at = next_front c.args.self.now c.self.inside.readers.items c.self.inside.stage c.args.number c.self.view_is c.requires in
    rw (← c.self.view_is)
    (map-kept (λ r. r.name) c.self.inside.readers.items c.args.number c.index_mut-reader.result.now c.go_on.new.self at.1.within c.index_mut-reader.ensures.value c.go_on.ensures.name)

pub returns-clause-traces : goal.returns-clause-traces
returns-clause-traces g c =
    let at = next_front c.args.self.now c.self.inside.readers.items c.self.inside.stage c.args.number c.self.view_is c.requires in
    rw (← c.self.view_is)
    (map-kept (λ r. r.trace) c.self.inside.readers.items c.args.number c.index_mut-reader.result.now c.go_on.new.self at.1.within c.index_mut-reader.ensures.value c.go_on.ensures.trace)

pub returns-clause-writes : goal.returns-clause-writes
returns-clause-writes g c =
    let at = next_front c.args.self.now c.self.inside.readers.items c.self.inside.stage c.args.number c.self.view_is c.requires in
    rw (← c.self.view_is)
    (map-kept (λ r. r.writes) c.self.inside.readers.items c.args.number c.index_mut-reader.result.now c.go_on.new.self at.1.within c.index_mut-reader.ensures.value c.go_on.ensures.writes)

pub returns-clause-room : goal.returns-clause-room
returns-clause-room g c =
    let at = next_front c.args.self.now c.self.inside.readers.items c.self.inside.stage c.args.number c.self.view_is c.requires in
    rw (← c.self.view_is)
    (room-front _ c.args.number at.0 c.index_mut-reader.result.now c.go_on.new.self at.1 c.index_mut-reader.ensures.value c.go_on.ensures.room)

pub returns-clause-counted : goal.returns-clause-counted
returns-clause-counted g c =
    let at = next_front c.args.self.now c.self.inside.readers.items c.self.inside.stage c.args.number c.self.view_is c.requires in
    let is = c.index_mut-reader.ensures.value in
    rw (← c.self.view_is) (λ tells.
    map-kept (λ r. r.taken + length r.left) c.self.inside.readers.items c.args.number c.index_mut-reader.result.now c.go_on.new.self at.1.within is
    (c.go_on.ensures.counted (each_at (λ r. IsTrue r.tells) c.self.inside.readers.items c.args.number c.index_mut-reader.result.now at.1.within is tells)))
