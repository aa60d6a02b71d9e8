use Rattle.std.proofs.Common.{inr, map, sym, ap, ◌∙◌}
use Rattle.std.proofs.lemmas.Result.{err_from_is_err_and}
use Rattle.tsdl_tree.specs.declared.tree.BlockKind.TheVariants as kind
use Rattle.ctf_meaning.specs.Blocks.{block_faults}
use Rattle.ctf_meaning.specs.Reading.{entry_of}
use Rattle.ctf_meaning.specs.Written.{Block}
use Rattle.ctf_types.proofs.Eventing.{no_fault}
use Rattle.ctf_types.proofs.Rowing.{row_trace, told_of, ids_trace, ids_stream}
use Rattle.ctf_types.proofs.text.KnownText.block_row.Goals as goal

pub returns-in_ok-header-in-Trace-clause-row : goal.returns-in_ok-header-in-Trace-clause-row
returns-in_ok-header-in-Trace-clause-row g c =
    let es = map entry_of c.args.block.now.entries.now in
    row_trace g.text c.args.self.now.order c.args.block.now.number (Block c.args.block.now.kind es) es c.in_ok-header-in-Trace.field-0 (ap (λ k. Block k es) c.in-Trace.is) c.in_ok-header-in-Trace.ensures

pub returns-in_ok-header-in-Trace-clause-ids : goal.returns-in_ok-header-in-Trace-clause-ids
returns-in_ok-header-in-Trace-clause-ids g c =
    let es = map entry_of c.args.block.now.entries.now in
    ids_trace g.text c.args.block.now.number (Block c.args.block.now.kind es) es c.args.ids.now (ap (λ k. Block k es) c.in-Trace.is) c.requires.1.0 c.requires.1.1

pub returns-in_ok-head-in-Stream-clause-ids : goal.returns-in_ok-head-in-Stream-clause-ids
returns-in_ok-head-in-Stream-clause-ids g c =
    let es = map entry_of c.args.block.now.entries.now in
    ids_stream g.text c.args.block.now.number (Block c.args.block.now.kind es) es c.args.ids.now (ap (λ k. Block k es) c.in-Stream.is) c.requires.1.0 c.requires.1.1

pub returns-in_err-head-in-Stream-clause-row : goal.returns-in_err-head-in-Stream-clause-row
returns-in_err-head-in-Stream-clause-row g c =
    let es = map entry_of c.args.block.now.entries.now in
    let p = err_from_is_err_and c.from_residual-in_err-head-in-Stream.result c.from_residual-in_err-head-in-Stream.ensures.1 in rw (p.1, p.2)
    (told_of g.text c.args.block.now.number (Block c.args.block.now.kind es) (Block kind.Stream es) c.in_err-head-in-Stream.field-0.0 (ap (λ k. Block k es) c.in-Stream.is) c.in_err-head-in-Stream.ensures)

pub returns-in_err-id-in-Stream-clause-row : goal.returns-in_err-id-in-Stream-clause-row
returns-in_err-id-in-Stream-clause-row g c =
    let es = map entry_of c.args.block.now.entries.now in
    let p = err_from_is_err_and c.from_residual-in_err-id-in-Stream.result c.from_residual-in_err-id-in-Stream.ensures.1 in rw (p.1, p.2)
    (no_fault (block_faults (Block kind.Stream es)) c.in_err-id-in-Stream.field-0.0
    (ap (λ k. block_faults (Block k es)) (sym c.in-Stream.is) ∙ c.requires.0.settled c.args.block.now.number (Block c.args.block.now.kind es) c.requires.1.0) (inr c.in_err-id-in-Stream.ensures.told))
