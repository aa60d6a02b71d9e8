use Rattle.std.proofs.Common.{refl, sym, ap, ◌∙◌, subst}
use Rattle.ctf_merge.specs.Merged.{First}
use Rattle.ctf_merge.specs.Merges.{Merge, RoomLeft, LeavesFront, room_of, first_now}
use Rattle.ctf_merge.specs.Stages.{is_over}
use Rattle.ctf_merge.proofs.Going.{goes-fault, goes-nothing, coming-broken, coming-nothing}
use Rattle.ctf_merge.proofs.Lining.{turn_front, is_next, first_going, first_broken, no_turn, lined_going}
use Rattle.ctf_merge.proofs.merge.Merge.go_on.Goals as goal

pub leave-requires : goal.leave-requires
leave-requires g c =
    let m : Merge = record { readers = c.self.inside.readers.items; over = is_over c.self.inside.stage } in
    let at = turn_front c.self.inside.readers.items c.self.inside.stage c.self.inside.turns c.in-Some.number c.in-Going.is c.self.invariant.stands c.in-Some.ensures.first in
    rw (← c.self.view_is) (is_next m c.in-Some.number at.0 c.self.invariant.fetched at.1.first)

pub returns-in_default-clause-goes_on : goal.returns-in_default-clause-goes_on
returns-in_default-clause-goes_on g c =
    let m : Merge = record { readers = c.self.inside.readers.items; over = is_over c.self.inside.stage } in
    let is = first_going m c.self.inside.readers.items c.self.inside.stage _ refl c.in-Going.is (no_turn _ c.self.inside.turns (lined_going c.self.inside.stage _ c.self.inside.turns c.in-Going.is c.self.invariant.stands) c.in_default.ensures.none) in
    rw (← c.self.view_is) (λ tells. goes-nothing _ (coming-nothing m c.self.invariant.fetched is))

pub returns-in_default-clause-room : goal.returns-in_default-clause-room
returns-in_default-clause-room g c =
    let m : Merge = record { readers = c.self.inside.readers.items; over = is_over c.self.inside.stage } in
    let is = first_going m c.self.inside.readers.items c.self.inside.stage _ refl c.in-Going.is (no_turn _ c.self.inside.turns (lined_going c.self.inside.stage _ c.self.inside.turns c.in-Going.is c.self.invariant.stands) c.in_default.ensures.none) in
    rw (← c.self.view_is) (subst (λ (f : First). RoomLeft f (room_of m.readers) (room_of m.readers)) (sym is) refl)

pub returns-in-Broken-clause-goes_on : goal.returns-in-Broken-clause-goes_on
returns-in-Broken-clause-goes_on g c =
    let m : Merge = record { readers = c.self.inside.readers.items; over = is_over c.self.inside.stage } in
    let is = first_broken m c.self.inside.readers.items c.self.inside.stage c.self.inside.turns c.in-Broken._number c.in-Broken._fault refl c.in-Broken.is c.self.invariant.stands in
    rw (← c.self.view_is) (λ tells. goes-fault _ _ _ (coming-broken m c.in-Broken._number c.in-Broken._fault c.self.invariant.fetched is) refl)

pub returns-in-Some-clause-each : goal.returns-in-Some-clause-each
returns-in-Some-clause-each g c =
    let at = turn_front c.self.inside.readers.items c.self.inside.stage c.self.inside.turns c.in-Some.number c.in-Going.is c.self.invariant.stands c.in-Some.ensures.first in
    let first = sym (ap first_now c.self.view_is) ∙ at.1.first in
    subst (λ (f : First). LeavesFront f c.args.self.now.readers c.leave.new.self.readers) (sym first) c.leave.ensures.each

pub returns-in_default-clause-each : goal.returns-in_default-clause-each
returns-in_default-clause-each g c =
    let m : Merge = record { readers = c.self.inside.readers.items; over = is_over c.self.inside.stage } in
    let is = first_going m c.self.inside.readers.items c.self.inside.stage _ refl c.in-Going.is (no_turn _ c.self.inside.turns (lined_going c.self.inside.stage _ c.self.inside.turns c.in-Going.is c.self.invariant.stands) c.in_default.ensures.none) in
    rw (← c.self.view_is) (subst (λ (f : First). LeavesFront f m.readers m.readers) (sym is) refl)

pub returns-in-Broken-clause-each : goal.returns-in-Broken-clause-each
returns-in-Broken-clause-each g c =
    let m : Merge = record { readers = c.self.inside.readers.items; over = is_over c.self.inside.stage } in
    let is = first_broken m c.self.inside.readers.items c.self.inside.stage c.self.inside.turns c.in-Broken._number c.in-Broken._fault refl c.in-Broken.is c.self.invariant.stands in
    rw (← c.self.view_is) (subst (λ (f : First). LeavesFront f m.readers m.readers) (sym is) refl)
