use Rattle.std.proofs.Common.{◌≡◌, map}
use Rattle.ctf_declared_class.proofs.parts.parts_of.Given as goal

abbrev pub invariant-loop-field : goal.invariant-loop-field
invariant-loop-field l = record {
  names : l.names.items ≡ map (λ f. f.name) l.yielded;
  shapes : l.shapes.items ≡ map (λ f. f.known.shape) l.yielded;
}
