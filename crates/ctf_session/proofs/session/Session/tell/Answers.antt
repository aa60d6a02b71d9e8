use Rattle.std.proofs.Common.{ap, refl}
use Rattle.ctf_faults.specs.declared.outcome.RunFault.TheVariants as faults
use Rattle.ctf_session.proofs.Stepping.{line_is}
use Rattle.ctf_session.proofs.session.Session.tell.Goals as goal

pub returns-in-None : goal.returns-in-None
returns-in-None g c = record {
  told = λ out err. (
    ap (λ trace. faults.Stream trace c.args.fault) c.trace.ensures,
    rw (line_is c.args.fault _ c.in_default.not-NoMemory, ← c.name.ensures, ← c.in-Ok.ensures, ← c.deref.ensures.value) (c.in-None.ensures.prints out err),
  );
  counts = c.in-None.ensures.counts;
  named = c.in_default.not-NoMemory;
  settled = c.in-None.ensures.settled;
  after = c.in-None.ensures.after refl;
  out_tells = c.in-None.ensures.out_tells;
  err_tells = c.in-None.ensures.err_tells;
}
