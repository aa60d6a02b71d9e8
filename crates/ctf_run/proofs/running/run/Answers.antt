use Rattle.std.proofs.Common.{◌≡◌, List, refl, sym, subst}
use Rattle.ctf_class.specs.declared.trace.TraceClass.{TraceClass}
use Rattle.ctf_session.specs.Inputs.{Given, Input, given_by}
use Rattle.ctf_session.specs.Inputs as sessions
use Rattle.ctf_run.specs.Traces.{Trace, traces_of, inputs_from, are_several}
use Rattle.ctf_run.proofs.Classed.{have_length}
use Rattle.ctf_run.proofs.Refused.{run_broken, have_same}
use Rattle.ctf_session.proofs.Reaching.{said, same_counts}
use Rattle.ctf_run.proofs.Whole.{run_whole, inputs_tell}
use Rattle.ctf_run.proofs.running.run.Goals as goal

pub returns-in-Err-Broken-clause-runs : goal.returns-in-Err-Broken-clause-runs
returns-in-Err-Broken-clause-runs g c = λ tells out err.
    run_broken (given_by g.S.Source.tells g.S.Source.left g.S.Source.ending) c.args.traces.items c.args.options.now c.in-Err-Broken.trace c.in-Err-Broken.fault c.tell.result _
    (rw (← c.deref.ensures.value) (rw c.in-Err-Broken.field-0-is at c.in-Err-Broken.ensures)) (rw (← c.deref-in-Err-Broken.ensures.value) (c.tell.ensures.told out err))
    c.tell.ensures.after (said g.E.Sink.accepted _ _ _ c.tell.ensures.settled)

pub name_traces-requires : goal.name_traces-requires
name_traces-requires g c = rw c.deref-2.ensures.value (have_length c.args.traces.items c.in-Ok.classes.items (rw (← c.deref.ensures.value) c.in-Ok.ensures))

pub returns-in-Ok-new-clause-runs : goal.returns-in-Ok-new-clause-runs
returns-in-Ok-new-clause-runs g c = λ tells out err.
    let given : g.row.S.Denot → Given = given_by g.S.Source.tells g.S.Source.left g.S.Source.ending in
    let all : List Trace = traces_of given c.args.traces.items in
    let classes : List TraceClass = c.in-Ok.classes.items in
    let inputs : List Input = sessions.inputs_from given 0 c.in-Ok-name_traces.streams.items in
    let same : inputs ≡ inputs_from (are_several all) 0 all classes = subst (λ (cs : List TraceClass). inputs ≡ inputs_from (are_several all) 0 all cs) c.deref-2.ensures.value (c.in-Ok-name_traces.ensures given) in
    let each : sessions.AllTell inputs = subst sessions.AllTell (sym same) (inputs_tell (are_several all) 0 all classes tells) in
    run_whole all c.args.options.now classes inputs c.in-Ok-new.session c.print_all.result _
    (have_same given c.args.traces.items classes (rw (← c.deref.ensures.value) c.in-Ok.ensures)) same
    (c.in-Ok-new.ensures.told each) c.in-Ok-new.ensures.setting c.in-Ok-new.ensures.begins
    (c.print_all.ensures.named c.in-Ok-new.ensures.open) (c.print_all.ensures.runs c.in-Ok-new.ensures.open (c.in-Ok-new.ensures.tells each) out err)

pub returns-in-Err-Broken-clause-settled : goal.returns-in-Err-Broken-clause-settled
returns-in-Err-Broken-clause-settled g c = same_counts g.E.Sink.failures g.E.Sink.refusals _ _ _ _ refl refl c.tell.ensures.settled
