use Rattle.std.proofs.Common.{inr, sym, ap, ◌∙◌}
use Rattle.std.specs.Prelude.{◌||◌, nat_eq, true, false}
use Rattle.std.specs.Option.{option_map_or}
use Rattle.std.specs.Ordering.{nat_cmp}
use Rattle.std.specs.Cmp.Lexicographic.{slice_cmp, pointwise}
use Rattle.std.specs.BTreeSet.{contains, contains_by}
use Rattle.tsdl_tree.specs.declared.tree.TableKind.TheVariants.{Clock}
use Rattle.ctf_meaning.specs.Name.{same_word}
use Rattle.ctf_meaning.specs.Written.{Table}
use Rattle.ctf_declarations.proofs.Kept.{set_updates}
use Rattle.ctf_declarations.proofs.Remembered.{remembered, or_false, cond_or, not_true, not_false, when_true, when_false}
use Rattle.ctf_meaning.specs.declared.fault.ResolveFault.TheVariants as faults
use Rattle.ctf_declarations.proofs.declared_once.DeclaredOnce.add_clock.Goals as goal

pub returns-then-not-branch-clause-told : goal.returns-then-not-branch-clause-told
returns-then-not-branch-clause-told c before r =
    inr (when_true _ faults.Twice (sym (r.clocks c.args.name.items) ∙ not_true (contains_by (λ k. slice_cmp nat_cmp c.args.name.items k.items) c.args.self.now.clocks) (sym c.in_ok-insert.ensures.added ∙ c.if-not-branch.true)))

pub returns-clause-told : goal.returns-clause-told
returns-clause-told c before r =
    (when_false _ faults.Twice (sym (r.clocks c.args.name.items) ∙ not_false (contains_by (λ k. slice_cmp nat_cmp c.args.name.items k.items) c.args.self.now.clocks) (sym c.in_ok-insert.ensures.added ∙ c.if-not-branch.false)), tt)

pub returns-clause-kept : goal.returns-clause-kept
returns-clause-kept c before settings clock is same r =
    remembered c.args.self.now before (Table Clock settings) r _
    (or_false c.args.self.now.has_trace)
    (λ id. or_false (contains nat_cmp c.args.self.now.streams id))
    (λ name. set_updates (λ k. k.items) c.args.name.items c.args.self.now.clocks c.insert.new.self true c.in_ok-insert.ensures.updates name
    ∙ cond_or (pointwise nat_eq c.args.name.items name) (contains_by (λ k. slice_cmp nat_cmp name k.items) c.args.self.now.clocks)
    ∙ ap (λ b. contains_by (λ k. slice_cmp nat_cmp name k.items) c.args.self.now.clocks || b)
    (ap (λ n. same_word n name) (sym same) ∙ ap (λ o. option_map_or (λ c. same_word c.name name) o false) (sym is)))
