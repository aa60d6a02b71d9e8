use Rattle.std.specs.Ordering.{nat_cmp}
use Rattle.std.specs.Cmp.Lexicographic.{slice_cmp}
use Rattle.std.specs.BTreeSet.{contains, contains_by}
use Rattle.tsdl_tree.specs.declared.tree.BlockKind.TheVariants.{Trace}
use Rattle.ctf_meaning.specs.Written.{Block}
use Rattle.ctf_declarations.proofs.Remembered.{remembered, or_false, or_true}
use Rattle.ctf_declarations.proofs.declared_once.DeclaredOnce.add_trace.Goals as goal

pub returns-clause-kept : goal.returns-clause-kept
returns-clause-kept c before entries r =
    remembered c.args.self.now before (Block Trace entries) r _
    (or_true c.args.self.now.has_trace)
    (λ id. or_false (contains nat_cmp c.args.self.now.streams id))
    (λ name. or_false (contains_by (λ k. slice_cmp nat_cmp name k.items) c.args.self.now.clocks))
