use Rattle.std.proofs.Common.{refl}
use Rattle.ctf_run.specs.Traces.{traces_of}
use Rattle.ctf_cli.specs.Ends.{printed, side_of, plain_side_of}
use Rattle.ctf_cli.specs.Files.{given_by}
use Rattle.ctf_cli.proofs.Endings.{stopped}
use Rattle.ctf_cli.proofs.printing.print.Goals as goal

pub returns-in-Ok-clause-ends : goal.returns-in-Ok-clause-ends
returns-in-Ok-clause-ends g c = λ tells out_tells err_tells.
    printed (traces_of (given_by g.F.Stream.Source.tells g.F.Stream.Source.left g.F.Stream.Source.ending) c.in-Ok.traces.items) (rw c.as_slice.ensures at (c.in-Ok.ensures tells)) (record {
      between = record {
        out = side_of g.W.Sink.accepted g.W.Log.settled g.W.Sink.failures g.W.Sink.refusals c.run-outcome.new.out;
        err = plain_side_of g.E.Sink.accepted g.E.Sink.failures g.E.Sink.refusals c.run-outcome.new.err;
      };
      outcome = c.run-outcome.result;
      told = c.pass_on-told.result;
      runs = λ each. c.run-outcome.ensures.runs each out_tells err_tells;
      counts = c.run-outcome.ensures.counts;
      after = c.run-outcome.ensures.after;
      settled = c.run-outcome.ensures.settled;
      settles = c.pass_on-told.ensures.passes (c.run-outcome.ensures.out_tells out_tells);
      says = c.end.ensures.says (c.run-outcome.ensures.err_tells err_tells);
      status_is = c.end.ensures.status;
    })

pub returns-in-Err-clause-ends : goal.returns-in-Err-clause-ends
returns-in-Err-clause-ends g c = λ tells out_tells err_tells.
    stopped c.args.options.now (g.F.Folders.holds c.args.folders.now) _ _ _ c.in-Err.stop (rw c.as_slice.ensures at (c.in-Err.ensures tells)) (record {
      untouched = refl;
      says = rw c.line.ensures at (c.say.ensures.says err_tells);
      status_is = c.say.ensures.status;
    })
