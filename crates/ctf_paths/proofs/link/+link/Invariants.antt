use Rattle.std.proofs.Common.{◌≡◌, ◌+◌, ◌*◌, ◌++◌, [], take, drop, Ok}
use Rattle.ctf_meaning.specs.Shapes.{depth_of, depth_of_members, fields_in}
use Rattle.ctf_meaning_steps.specs.Told.{◌>>=◌}
use Rattle.ctf_declared_class.specs.Views as views
use Rattle.ctf_paths.specs.Spots.{spot_by}
use Rattle.ctf_paths.specs.Telling.{each_told, member_told, option_told}
use Rattle.ctf_paths.proofs.link.+link.Given as goal

abbrev pub decreases-class_of : goal.decreases-class_of
decreases-class_of l = 4 * depth_of (views.shape l.shape.now)

abbrev pub decreases-structure_class : goal.decreases-structure_class
decreases-structure_class l = 4 * depth_of_members (views.members l.members.now) + 3

abbrev pub decreases-members_in : goal.decreases-members_in
decreases-members_in l = 4 * depth_of_members (views.members l.members.now) + 2

abbrev pub decreases-member_at : goal.decreases-member_at
decreases-member_at l = 4 * depth_of_members (views.members l.members.now) + 1

abbrev pub decreases-variant_class : goal.decreases-variant_class
decreases-variant_class l = 4 * depth_of_members (views.members l.options.now) + 3

abbrev pub decreases-options_in : goal.decreases-options_in
decreases-options_in l = 4 * depth_of_members (views.members l.options.now) + 2

abbrev pub decreases-option_at : goal.decreases-option_at
decreases-option_at l = 4 * depth_of_members (views.members l.options.now) + 1

abbrev pub decreases-array_class : goal.decreases-array_class
decreases-array_class l = 4 * depth_of (views.shape l.element.now) + 1

abbrev pub decreases-sequence_class : goal.decreases-sequence_class
decreases-sequence_class l = 4 * depth_of (views.shape l.element.now) + 1

abbrev pub invariant-members_in-loop-place : goal.invariant-members_in-loop-place
invariant-members_in-loop-place l =
    let fields = fields_in (views.members l.members) in
    let at = member_told l.linker.order l.linker.clocks.now.clocks.now (spot_by l.spot) in
    (each_told at (take l.place fields) (drop l.place fields) >>= λ ms. Ok (l.made ++ ms)) ≡ each_told at [] fields

abbrev pub invariant-options_in-loop-place : goal.invariant-options_in-loop-place
invariant-options_in-loop-place l =
    let fields = fields_in (views.members l.options) in
    let at = option_told l.linker.order l.linker.clocks.now.clocks.now (spot_by l.spot) in
    (each_told at (take l.place fields) (drop l.place fields) >>= λ ms. Ok (l.made ++ ms)) ≡ each_told at [] fields
