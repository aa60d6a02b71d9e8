use Rattle.std.proofs.Common.{map, refl}
use Rattle.std.proofs.lemmas.Result.{err_from_is_err_and}
use Rattle.tsdl_tree.specs.declared.tree.BlockKind.TheVariants.{Trace, Event}
use Rattle.ctf_meaning.specs.Reading.{entry_of}
use Rattle.ctf_meaning.specs.Written.{Block}
use Rattle.ctf_meaning.specs.Blocks.{block_faults, twice_faults}
use Rattle.ctf_declarations.proofs.Remembered.{nothing_kept}
use Rattle.ctf_declarations.proofs.Settled.{front_fault}
use Rattle.ctf_declarations.proofs.declared_once.DeclaredOnce.add_block.Goals as goal

pub returns-in_err-read-in-Trace-clause-told : goal.returns-in_err-read-in-Trace-clause-told
returns-in_err-read-in-Trace-clause-told c before r =
    let p = err_from_is_err_and c.from_residual.result c.from_residual.ensures.1 in rw (c.in-Trace.is, p.1, p.2)
    (front_fault (block_faults (Block Trace (map entry_of c.args.entries.now))) (twice_faults before (Block Trace (map entry_of c.args.entries.now))) c.in_err-read-in-Trace.field-0.0 c.in_err-read-in-Trace.ensures.told)

pub returns-in_ok-read-in-Event-clause-kept : goal.returns-in_ok-read-in-Event-clause-kept
returns-in_ok-read-in-Event-clause-kept c before r = rw c.in-Event.is (nothing_kept c.args.self.now before (Block Event (map entry_of c.args.entries.now)) r refl refl refl)
