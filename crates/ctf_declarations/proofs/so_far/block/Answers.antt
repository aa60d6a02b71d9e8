use Rattle.std.proofs.Common.{map}
use Rattle.ctf_meaning.specs.Reading.{entry_of}
use Rattle.ctf_declarations.specs.DeclaredSoFar.{walked, placed_seen}
use Rattle.ctf_declarations.proofs.Declarations.{block_follows}
use Rattle.ctf_declarations.proofs.so_far.block.Goals as goal

pub returns-clause-told : goal.returns-clause-told
returns-clause-told c before r =
    block_follows before (walked c.args.so_far.now) c.args.kind (map entry_of c.args.entries.now) (λ _. walked c.push_row.new.self) c.push_row.result (map placed_seen c.in_ok-row.row)
    (c.in_ok-add_block.ensures.told before r).0 c.in_ok-row.ensures c.push_row.ensures
