use Rattle.std.proofs.Common.{◌+◌, ◌-◌, ◌^◌, ◌∙◌, ap, sym, map, take, arith, List, add_assoc}
use Rattle.std.specs.Prelude.{min, sum}
use Rattle.std.proofs.lemmas.List.{take_all}
use Rattle.ctf_meaning.specs.Shapes.{nodes_of}
use Rattle.ctf_declared_class.specs.Knowns.{known}
use Rattle.ctf_declarations.specs.DeclaredSoFar.{placed_seen}
use Rattle.ctf_declarations.specs.declared.placing.ScopeShape.{ScopeShape}
use Rattle.ctf_declarations.proofs.Counted.{one_more, too_many, few_enough, stopped_more}
use Rattle.ctf_declarations.proofs.so_far.count_all.Goals as goal

pub loop-class-preserved : goal.loop-class-preserved
loop-class-preserved c =
    let before = c.args.nodes + sum (map (λ p. nodes_of p.1) (map placed_seen (take c.loop-class.class-index c.args.row.now))) in
    stopped_more c.loop-class.total before (nodes_of (known c.class-item.result.shape)) c.saturating_add-total.result c.loop-class.invariant
    (c.saturating_add-total.ensures ∙ ap (λ n. min (c.loop-class.total + n) (2 ^ 32 - 1)) c.nodes.ensures)
    ∙ ap (λ n. min n (2 ^ 32 - 1))
    (add_assoc c.args.nodes _ (nodes_of (known c.class-item.result.shape))
    ∙ ap (λ n. c.args.nodes + n) (sym (one_more (λ p. nodes_of p.1) placed_seen c.args.row.now c.loop-class.class-index c.class-item.result c.class-item.is c.loop-class-test.true)))

pub returns : goal.returns
returns c = sym (few_enough c.loop-class.total _ (c.loop-class.invariant ∙ ap (λ (l : List ScopeShape). min (c.args.nodes + sum (map (λ p. nodes_of p.1) (map placed_seen l))) (2 ^ 32 - 1)) (take_all c.loop-class.class-index c.args.row.now c.loop-class-test.false)) (omega arith))

pub returns-then-total-gt-MOST_NODES : goal.returns-then-total-gt-MOST_NODES
returns-then-total-gt-MOST_NODES c = sym (too_many c.loop-class.total _ (c.loop-class.invariant ∙ ap (λ (l : List ScopeShape). min (c.args.nodes + sum (map (λ p. nodes_of p.1) (map placed_seen l))) (2 ^ 32 - 1)) (take_all c.loop-class.class-index c.args.row.now c.loop-class-test.false)) (omega arith))
