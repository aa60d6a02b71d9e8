use Rattle.std.proofs.Common.{◌≡◌, drop, option_map}
use Rattle.ctf_declared_class.specs.Views as views
use Rattle.ctf_paths.specs.Finding.{further, down}
use Rattle.ctf_paths.proofs.find.down.Given as goal

abbrev pub invariant-loop-word : goal.invariant-loop-word
invariant-loop-word l = option_map (further l.steps) (down (views.shape l.at) (drop l.word-index l.words)) ≡ option_map (further l.initial.steps) (down (views.shape l.shape) l.words)
