use Rattle.std.proofs.Common.{inr, sym, ap, ◌∙◌}
use Rattle.std.specs.Prelude.{◌||◌, nat_eq, false}
use Rattle.std.specs.Option.{option_map_or}
use Rattle.std.specs.Ordering.{nat_cmp, is_eq}
use Rattle.std.specs.Cmp.Lexicographic.{slice_cmp}
use Rattle.std.specs.BTreeSet.{contains, contains_by}
use Rattle.tsdl_tree.specs.declared.tree.BlockKind.TheVariants.{Stream}
use Rattle.ctf_meaning.specs.declared.fault.ResolveFault.TheVariants as faults
use Rattle.ctf_meaning.specs.Written.{Block}
use Rattle.ctf_declarations.proofs.Remembered.{remembered, or_false, cond_or, same_id, not_true, not_false, when_true, when_false}
use Rattle.ctf_declarations.proofs.declared_once.DeclaredOnce.add_stream.Goals as goal

pub returns-then-not-branch-clause-told : goal.returns-then-not-branch-clause-told
returns-then-not-branch-clause-told c before r =
    inr (when_true _ faults.Twice (sym (r.streams c.args.id) ∙ not_true (contains nat_cmp c.args.self.now.streams c.args.id) (sym c.in_ok-insert.ensures.added ∙ c.if-not-branch.true)))

pub returns-clause-told : goal.returns-clause-told
returns-clause-told c before r =
    (when_false _ faults.Twice (sym (r.streams c.args.id) ∙ not_false (contains nat_cmp c.args.self.now.streams c.args.id) (sym c.in_ok-insert.ensures.added ∙ c.if-not-branch.false)), tt)

pub returns-clause-kept : goal.returns-clause-kept
returns-clause-kept c before entries is r =
    remembered c.args.self.now before (Block Stream entries) r _
    (or_false c.args.self.now.has_trace)
    (λ id. c.in_ok-insert.ensures.updates.0 id ∙ cond_or (is_eq (nat_cmp c.args.id id)) (contains nat_cmp c.args.self.now.streams id) ∙ ap (λ b. contains nat_cmp c.args.self.now.streams id || b) (same_id c.args.id id ∙ ap (λ o. option_map_or (nat_eq id) o false) (sym is)))
    (λ name. or_false (contains_by (λ k. slice_cmp nat_cmp name k.items) c.args.self.now.clocks))
