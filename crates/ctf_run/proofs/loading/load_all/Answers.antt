use Rattle.std.proofs.Common.{◌≡◌, refl, suc, sym, ap, ◌∙◌, subst, arith, ◌+◌, ◌++◌, ◌∷◌, [], take, slice_get, Some}
use Rattle.std.proofs.lemmas.Option.{slice_get_read}
use Rattle.ctf_faults.specs.Table.{is_refusal}
use Rattle.ctf_run.specs.Loaded.{HaveClasses, IsUnloaded}
use Rattle.ctf_run.proofs.Classed.{have_more, have_all, told_so}
use Rattle.ctf_run.proofs.loading.load_all.Goals as goal

pub loop-trace-init : goal.loop-trace-init
loop-trace-init g c = record { number = refl; loaded = rw c.new-classes.ensures.items tt }

pub returns-in-Err : goal.returns-in-Err
returns-in-Err g c =
    let at : slice_get c.args.traces.now c.loop-trace.trace-index ≡ Some c.trace-item.result = slice_get_read c.args.traces.now _ c.loop-trace.trace-index c.trace-item.result refl c.loop-trace-test.true c.trace-item.is in
    subst (IsUnloaded c.args.traces.now) (sym c.of_trace.ensures) (told_so (is_refusal c.in-Err.fault) c.args.traces.now c.loop-trace.number c.in-Err.fault
    (λ named. record {
      trace = c.trace-item.result;
      at = ap (slice_get c.args.traces.now) c.loop-trace.invariant.number ∙ at;
      classes = c.loop-trace.classes.items;
      before = rw c.loop-trace.invariant.number c.loop-trace.invariant.loaded;
      broken = rw (← c.deref.ensures.value) c.in-Err.ensures;
      named = named;
    }))

pub loop-trace-preserved : goal.loop-trace-preserved
loop-trace-preserved g c =
    let at : slice_get c.args.traces.now c.loop-trace.trace-index ≡ Some c.trace-item.result = slice_get_read c.args.traces.now _ c.loop-trace.trace-index c.trace-item.result refl c.loop-trace-test.true c.trace-item.is in
    record {
      number = ap (λ n. n + 1) c.loop-trace.invariant.number;
      loaded = rw c.in_ok-push-in-Ok.ensures.items (let next : suc c.loop-trace.trace-index ≡ c.loop-trace.trace-index + 1 = omega arith in subst (λ k. HaveClasses (take k c.args.traces.now) (c.loop-trace.classes.items ++ c.in-Ok.class ∷ [])) next
          (have_more c.loop-trace.trace-index c.args.traces.now c.trace-item.result c.loop-trace.classes.items c.in-Ok.class at c.loop-trace.invariant.loaded (rw (← c.deref.ensures.value) c.in-Ok.ensures)));
    }

pub returns : goal.returns
returns g c = have_all c.loop-trace.trace-index c.args.traces.now c.loop-trace.classes.items c.loop-trace-test.false c.loop-trace.invariant.loaded
