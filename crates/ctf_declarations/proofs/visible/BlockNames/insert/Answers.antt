use Rattle.std.proofs.Common.{◌≡◌, Some, refl, ap, ◌∙◌}
use Rattle.std.specs.Prelude.{Bool, true, false, cond, Option, option_map, nat_eq}
use Rattle.std.specs.BTreeMap.{get_by}
use Rattle.std.specs.Cmp.Lexicographic.{slice_cmp, pointwise}
use Rattle.std.specs.Ordering.{nat_cmp}
use Rattle.ctf_declared_class.specs.declared.known.Known.{Known}
use Rattle.ctf_declared_class.specs.Knowns.{known}
use Rattle.ctf_declarations.specs.Keys.{key_of}
use Rattle.ctf_declarations.proofs.SameKeys.{same_keys}
use Rattle.ctf_declarations.proofs.Kept.{map_updates}
use Rattle.ctf_declarations.proofs.visible.BlockNames.insert.Goals as goal

at_cond : (b : Bool) (k : Known) (o : Option Known) → option_map known (cond b (Some k) o) ≡ cond b (Some (known k)) (option_map known o)
at_cond true k o = refl
at_cond false k o = refl

pub returns : goal.returns
returns c name is = λ j other.
    (ap (option_map known) (map_updates (λ k. k.items) c.args.key.items c.args.self.now.classes c.insert.new.self (Some c.args.class) c.in_ok-insert.ensures.updates (key_of other))
    ∙ at_cond (pointwise nat_eq c.args.key.items (key_of other)) c.args.class (get_by (λ k. slice_cmp nat_cmp (key_of other) k.items) c.args.self.now.classes)
    ∙ ap (λ b. cond b (Some (known c.args.class)) (option_map known (get_by (λ k. slice_cmp nat_cmp (key_of other) k.items) c.args.self.now.classes)))
    (ap (λ l. pointwise nat_eq l (key_of other)) is ∙ same_keys name other)) j
