use Rattle.std.proofs.Common.{sym, refl, ap, ◌∙◌, subst, None}
use Rattle.ctf_merge.specs.Merged.{Merged, PlacedRise}
use Rattle.ctf_merge.specs.Merges.{coming_of, names_of}
use Rattle.ctf_timestamp.specs.Trims.{verdict_of}
use Rattle.ctf_session.specs.Answers.{Setting}
use Rattle.ctf_session.specs.Endings.{ended_by}
use Rattle.ctf_session.specs.Sessions.{left_by}
use Rattle.ctf_session.proofs.Stepping.{open_coming, leaves_first, not_ended, went, ended_after, Writes-none, still_rises, rises_left, not_quiet}
use Rattle.ctf_session.proofs.session.Session.step.Goals as goal

pub returns-in-After-clause-steps : goal.returns-in-After-clause-steps
returns-in-After-clause-steps g c = rw (← c.self.view_is) (λ tells open_ out err.
    let is = c.in-Some-next_stream.ensures.item in
    ended_after _ (coming_of c.self.inside.merge) _ is.rest _ _ _ (open_coming _ _ open_) (is.coming tells.sources)
    (subst (λ (m : Merged). PlacedRise None m.items) (open_coming _ _ open_) tells.rises)
    (sym (c.in-After.ensures ∙ ap (verdict_of c.self.inside.trim) (c.front_time.ensures is.next is.first))))

pub returns-in-Before-clause-steps : goal.returns-in-Before-clause-steps
returns-in-Before-clause-steps g c = rw (← c.self.view_is) (λ tells open_ out err.
    let is = c.in-Some-next_stream.ensures.item in
    went _ _ _ (coming_of c.self.inside.merge) (coming_of c.leave.new.self) _ is.rest _ (open_coming _ _ open_) (open_coming _ _ open_) (is.coming tells.sources) (c.leave.ensures.goes_on tells.sources)
    (sym (c.in-Before.ensures ∙ ap (verdict_of c.self.inside.trim) (c.front_time.ensures is.next is.first))) refl (Writes-none _ _ _) refl)

pub returns-in-Before-clause-tells : goal.returns-in-Before-clause-tells
returns-in-Before-clause-tells g c = rw (← c.self.view_is) (λ tells.
    let is = c.in-Some-next_stream.ensures.item in
    record {
      sources = c.leave.ensures.tells tells.sources;
      rises = rises_left _ (coming_of c.self.inside.merge) (coming_of c.leave.new.self) tells.rises
          (still_rises (coming_of c.self.inside.merge) (coming_of c.leave.new.self) _ is.rest (is.coming tells.sources) (c.leave.ensures.goes_on tells.sources));
    })

pub returns-in-Ok-clause-steps : goal.returns-in-Ok-clause-steps
returns-in-Ok-clause-steps g c = rw (← c.self.view_is) (λ tells open_ out err.
    let is = c.in-Some-next_stream.ensures.item in
    went _ _ _ (coming_of c.self.inside.merge) (coming_of c.leave-in-Ok.new.self) _ is.rest _ (open_coming _ _ open_) (open_coming _ _ open_) (is.coming tells.sources) (c.leave-in-Ok.ensures.goes_on tells.sources)
    (sym (c.in-Within.ensures ∙ ap (verdict_of c.self.inside.trim) (c.front_time.ensures is.next is.first))) refl (c.in-Ok.ensures.prints out err is.next is.first) (c.in-Ok.ensures.last is.next is.first))

pub returns-in-Ok-clause-tells : goal.returns-in-Ok-clause-tells
returns-in-Ok-clause-tells g c = rw (← c.self.view_is) (λ tells.
    let is = c.in-Some-next_stream.ensures.item in
    record {
      sources = c.leave-in-Ok.ensures.tells tells.sources;
      rises = rises_left _ (coming_of c.self.inside.merge) (coming_of c.leave-in-Ok.new.self) tells.rises
          (still_rises (coming_of c.self.inside.merge) (coming_of c.leave-in-Ok.new.self) _ is.rest (is.coming tells.sources) (c.leave-in-Ok.ensures.goes_on tells.sources));
    })

pub returns-in-Before-clause-readers : goal.returns-in-Before-clause-readers
returns-in-Before-clause-readers g c = rw (← c.self.view_is)
    (leaves_first _ c.self.inside.merge c.in-Some-next_stream.number c.leave.new.self.readers (not_ended c.self.inside.ended c.in_default.not-Some) c.in-Some-next_stream.ensures.item c.leave.ensures.each)

pub returns-in-Ok-clause-readers : goal.returns-in-Ok-clause-readers
returns-in-Ok-clause-readers g c = rw (← c.self.view_is)
    (leaves_first _ c.self.inside.merge c.in-Some-next_stream.number c.leave-in-Ok.new.self.readers (not_ended c.self.inside.ended c.in_default.not-Some) c.in-Some-next_stream.ensures.item c.leave-in-Ok.ensures.each)

pub returns-in-Ok-clause-quiet : goal.returns-in-Ok-clause-quiet
returns-in-Ok-clause-quiet g c = rw (← c.self.view_is) (λ tells open_ quiet.
    let is = c.in-Some-next_stream.ensures.item in
    let inside = c.self.inside in
    let setting : Setting = record { trim = inside.trim; style = inside.printer.style; traces = inside.traces.items; names = names_of inside.merge.readers } in
    absurd (not_quiet setting (left_by (ended_by inside.ended) (coming_of inside.merge)) (coming_of inside.merge) _ is.rest (open_coming _ _ open_) (is.coming tells.sources)
    (sym (c.in-Within.ensures ∙ ap (verdict_of c.self.inside.trim) (c.front_time.ensures is.next is.first))) quiet))

pub returns-in-Err-clause-quiet : goal.returns-in-Err-clause-quiet
returns-in-Err-clause-quiet g c = rw (← c.self.view_is) (λ tells open_ quiet.
    let is = c.in-Some-next_stream.ensures.item in
    let inside = c.self.inside in
    let setting : Setting = record { trim = inside.trim; style = inside.printer.style; traces = inside.traces.items; names = names_of inside.merge.readers } in
    absurd (not_quiet setting (left_by (ended_by inside.ended) (coming_of inside.merge)) (coming_of inside.merge) _ is.rest (open_coming _ _ open_) (is.coming tells.sources)
    (sym (c.in-Within.ensures ∙ ap (verdict_of c.self.inside.trim) (c.front_time.ensures is.next is.first))) quiet))

pub returns-in-After-clause-room : goal.returns-in-After-clause-room
returns-in-After-clause-room g c = rw (← c.self.view_is) refl

pub returns-in-After-clause-readers : goal.returns-in-After-clause-readers
returns-in-After-clause-readers g c = rw (← c.self.view_is) refl

pub print_front-requires-clause-wanted : goal.print_front-requires-clause-wanted
print_front-requires-clause-wanted g c = record {
  trim = c.self.inside.trim;
  asked = c.self.invariant;
  within = λ next first. sym (c.in-Within.ensures ∙ ap (verdict_of c.self.inside.trim) (c.front_time.ensures next first));
}
