use Rattle.std.proofs.Common.{◌++◌, List, [], take, subst, arith}
use Rattle.ctf_class.specs.declared.trace.Clock.{Clock}
use Rattle.ctf_meaning.specs.Shapes.{fields_in}
use Rattle.ctf_declared_class.specs.Views as views
use Rattle.ctf_paths.specs.Spots.{spot_by}
use Rattle.ctf_paths.specs.MovedClocks.{Tells, each_moved, member_moved, option_moved}
use Rattle.ctf_paths.proofs.Lists.{there}
use Rattle.ctf_paths.proofs.Movement.{each_step, structure_moved, variant_moved}
use Rattle.ctf_paths.proofs.moved.+moved.Goals as goal

pub moved_in-returns-in-Structure : goal.moved_in-returns-in-Structure
moved_in-returns-in-Structure t c =
    let same = structure_moved c.args.clocks.now.clocks.now (spot_by c.args.spot.now) c.args.shape.now c.in-Structure.align c.in-Structure.members c.in-Structure.is in
    λ old tells. subst (λ (more : List Clock). Tells c.moved_members.result (old ++ more)) same (c.moved_members.ensures old tells)

pub moved_in-returns-in-Variant : goal.moved_in-returns-in-Variant
moved_in-returns-in-Variant t c =
    let same = variant_moved c.args.clocks.now.clocks.now (spot_by c.args.spot.now) (spot_by c.below-below.result) c.args.shape.now c.in-Variant.tag c.in-Variant.options c.below-below.ensures c.in-Variant.is in
    λ old tells. subst (λ (more : List Clock). Tells c.moved_options.result (old ++ more)) same (c.moved_options.ensures old tells)

pub moved_members-loop-place-preserved : goal.moved_members-loop-place-preserved
moved_members-loop-place-preserved t c =
    let fields = fields_in (views.members c.args.members.now) in
    let at = member_moved c.args.clocks.now.clocks.now (spot_by c.args.spot.now) in
    let i = c.loop-place.place in
    let f = there fields i (omega (arith, c.len-place-end.ensures)) in
    λ old tells. subst (Tells c.moved_member-moved.result) (each_step at fields i f.0 old f.1) (c.moved_member-moved.ensures f.0 f.1 (old ++ each_moved at [] (take i fields)) (c.loop-place.invariant old tells))

pub moved_options-loop-place-preserved : goal.moved_options-loop-place-preserved
moved_options-loop-place-preserved t c =
    let fields = fields_in (views.members c.args.options.now) in
    let at = option_moved c.args.clocks.now.clocks.now (spot_by c.args.spot.now) in
    let i = c.loop-place.place in
    let f = there fields i (omega (arith, c.len-place-end.ensures)) in
    λ old tells. subst (Tells c.moved_option-moved.result) (each_step at fields i f.0 old f.1) (c.moved_option-moved.ensures f.0 f.1 (old ++ each_moved at [] (take i fields)) (c.loop-place.invariant old tells))
