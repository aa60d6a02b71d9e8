use Rattle.std.proofs.Common.{◌≡◌, ℕ, List, Option, Some, None, refl, sym}
use mathlib.Core.Bool.{true≢false}
use Rattle.uuid.specs.Text.{parsed}
use Rattle.ctf_attributes.proofs.trace.parse.Goals as goal

missing : (o : Option (List ℕ)) → ((u : List ℕ) → o ≡ Some u → ⊥) → None ≡ o
missing None h = refl
missing (Some u) h = absurd (h u refl)

pub returns-in-Err : goal.returns-in-Err
returns-in-Err c = missing (parsed c.args.text.now) (λ u h. true≢false (sym (c.in-Err.ensures.ok.1 (u, h))))
