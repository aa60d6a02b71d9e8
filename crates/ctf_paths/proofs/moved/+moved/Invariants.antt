use Rattle.std.proofs.Common.{◌+◌, ◌*◌, ◌++◌, List, [], take}
use Rattle.ctf_class.specs.declared.trace.Clock.{Clock}
use Rattle.ctf_meaning.specs.Shapes.{depth_of, depth_of_members, fields_in}
use Rattle.ctf_declared_class.specs.Views as views
use Rattle.ctf_paths.specs.Spots.{spot_by}
use Rattle.ctf_paths.specs.MovedClocks.{Tells, each_moved, member_moved, option_moved}
use Rattle.ctf_paths.proofs.moved.+moved.Given as goal

abbrev pub decreases-moved_in : goal.decreases-moved_in
decreases-moved_in l = 4 * depth_of (views.shape l.shape.now)

abbrev pub decreases-moved_members : goal.decreases-moved_members
decreases-moved_members l = 4 * depth_of_members (views.members l.members.now) + 2

abbrev pub decreases-moved_member : goal.decreases-moved_member
decreases-moved_member l = 4 * depth_of_members (views.members l.members.now) + 1

abbrev pub decreases-moved_options : goal.decreases-moved_options
decreases-moved_options l = 4 * depth_of_members (views.members l.options.now) + 2

abbrev pub decreases-moved_option : goal.decreases-moved_option
decreases-moved_option l = 4 * depth_of_members (views.members l.options.now) + 1

abbrev pub invariant-moved_members-loop-place : goal.invariant-moved_members-loop-place
invariant-moved_members-loop-place l =
    (old : List Clock) → Tells l.initial.moved old → Tells l.moved (old ++ each_moved (member_moved l.clocks.clocks.now (spot_by l.spot)) [] (take l.place (fields_in (views.members l.members))))

abbrev pub invariant-moved_options-loop-place : goal.invariant-moved_options-loop-place
invariant-moved_options-loop-place l =
    (old : List Clock) → Tells l.initial.moved old → Tells l.moved (old ++ each_moved (option_moved l.clocks.clocks.now (spot_by l.spot)) [] (take l.place (fields_in (views.members l.options))))
