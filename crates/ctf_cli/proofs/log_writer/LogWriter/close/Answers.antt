use Rattle.ctf_cli.proofs.Settled.{all_passed}
use Rattle.ctf_cli.proofs.log_writer.LogWriter.close.Goals as goal

pub returns-clause-settled : goal.returns-clause-settled
returns-clause-settled g c = λ nothing.
    let log = c.args.self in
    all_passed (g.O.Write.contents log.writer) log.held.bytes nothing
