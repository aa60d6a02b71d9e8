use Rattle.std.proofs.Common.{◌≡◌, map, Some, None, sym, ◌∙◌, subst, refl, inl, inr, ◌⊎◌}
use Rattle.std.specs.Prelude.{Contains}
use Rattle.std.proofs.lemmas.Result.{err_from_is_err_and}
use Rattle.tsdl_tree.specs.declared.tree.BlockKind.TheVariants as kind
use Rattle.ctf_meaning.specs.declared.fault.ResolveFault.TheVariants as fault
use Rattle.ctf_meaning.specs.Blocks.{block_faults}
use Rattle.ctf_meaning.specs.Faults.{link_faults}
use Rattle.ctf_meaning.specs.Reading.{entry_of}
use Rattle.ctf_meaning.specs.Scopes.{Home}
use Rattle.ctf_meaning.specs.Written.{Block}
use Rattle.ctf_types.specs.Whole.{stream_at}
use Rattle.ctf_types.proofs.Heads.{widened}
use Rattle.ctf_types.proofs.Eventing.{no_fault, said, unknown_stream, second_of_id, new_in_stream, home_is, class_fails, row_made, more_ids}
use Rattle.ctf_types.proofs.text.KnownText.event_row.Goals as goal

pub returns-in_err-event-clause-row : goal.returns-in_err-event-clause-row
returns-in_err-event-clause-row g c =
    let d = Block kind.Event (map entry_of c.args.entries.now) in
    let p = err_from_is_err_and c.from_residual.result c.from_residual.ensures.1 in rw (p.1, p.2)
    (no_fault (block_faults d) c.in_err-event.field-0.0 (c.requires.0.settled c.args.number d c.requires.1.0) c.in_err-event.ensures.told)

pub returns-in_default-clause-row : goal.returns-in_default-clause-row
returns-in_default-clause-row g c =
    let es = map entry_of c.args.entries.now in
    inr (unknown_stream g.text c.args.number es (said g.text es c.in_ok-event.event c.args.self.now.streams.now None c.in_ok-event.ensures.told.1 c.requires.0.streams c.in_default.ensures.said))

pub returns-in_err-add-clause-row : goal.returns-in_err-add-clause-row
returns-in_err-add-clause-row g c =
    let es = map entry_of c.args.entries.now in
    let st = c.in-Some.stream.now in
    let here = said g.text es c.in_ok-event.event c.args.self.now.streams.now (Some (stream_at st)) c.in_ok-event.ensures.told.1 c.requires.0.streams c.in-Some.ensures.said in
    let p = err_from_is_err_and c.from_residual-in_err-add.result c.from_residual-in_err-add.ensures.1 in rw (p.1, p.2)
    (elim c.in_err-add.ensures.told as (λ _. (c.in_err-add.field-0.0 ≡ fault.NoMemory) ⊎ Contains (link_faults g.text (c.args.number, Block kind.Event es)) c.in_err-add.field-0.0) [
      | inl none ↦ inl none
      | inr q ↦ inr (subst (λ f. Contains (link_faults g.text (c.args.number, Block kind.Event es)) f) (sym q.0)
          (second_of_id g.text c.args.number es (stream_at st) c.in_ok-event.event.id here c.in_ok-event.ensures.told.1.id
          (sym (c.requires.1.1 st.id c.in_ok-event.event.id c.in_err-add.ensures.fits) ∙ q.1)))
    ])

pub returns-in_err-class-clause-row : goal.returns-in_err-class-clause-row
returns-in_err-class-clause-row g c =
    let es = map entry_of c.args.entries.now in
    let st = c.in-Some.stream.now in
    let here = said g.text es c.in_ok-event.event c.args.self.now.streams.now (Some (stream_at st)) c.in_ok-event.ensures.told.1 c.requires.0.streams c.in-Some.ensures.said in
    let home : Home = record { trace = c.args.self.now.trace; stream = st.block; event = Some c.args.number } in
    let p = err_from_is_err_and c.from_residual-in_err-class.result c.from_residual-in_err-class.ensures.1 in rw (p.1, p.2)
    (widened c.in_err-class.field-0.0
    (class_fails g.text c.args.number es home c.in_err-class.field-0.0 (home_is g.text c.args.number es c.args.self.now.trace st.block (stream_at st) c.requires.0.trace here refl))
    c.in_err-class.ensures)

pub returns-clause-row : goal.returns-clause-row
returns-clause-row g c =
    let es = map entry_of c.args.entries.now in
    let st = c.in-Some.stream.now in
    let here = said g.text es c.in_ok-event.event c.args.self.now.streams.now (Some (stream_at st)) c.in_ok-event.ensures.told.1 c.requires.0.streams c.in-Some.ensures.said in
    let home : Home = record { trace = c.args.self.now.trace; stream = st.block; event = Some c.args.number } in
    row_made g.text c.args.number es c.args.self.now.order home c.in_ok-event.event c.args.self.now.streams.now st c.in_ok-class.class c.in-Some.ensures.stands.0
    (home_is g.text c.args.number es c.args.self.now.trace st.block (stream_at st) c.requires.0.trace here refl)
    c.in_ok-event.ensures.told.1 c.requires.0.streams c.requires.0.places here c.in-Some.ensures.stands.1
    (new_in_stream g.text c.args.number es (stream_at st) c.in_ok-event.event.id here c.in_ok-event.ensures.told.1.id (sym (c.requires.1.1 st.id c.in_ok-event.event.id c.in_ok-add.ensures.fits) ∙ c.in_ok-add.ensures.told))
    c.in_ok-class.ensures

pub returns-clause-ids : goal.returns-clause-ids
returns-clause-ids g c =
    let es = map entry_of c.args.entries.now in
    let st = c.in-Some.stream.now in
    let here = said g.text es c.in_ok-event.event c.args.self.now.streams.now (Some (stream_at st)) c.in_ok-event.ensures.told.1 c.requires.0.streams c.in-Some.ensures.said in
    more_ids g.text c.args.number es c.args.ids.now c.add.new.self st c.in_ok-event.event.id c.requires.1.0 here c.in_ok-event.ensures.told.1.id c.requires.1.1 c.in_ok-add.ensures.kept
