-- The option that the member before a variant names.
use Rattle.std.proofs.Common.{◌≡◌, ℤ, List, [], ◌∷◌, Option, refl}
use Rattle.ctf_class.specs.declared.route.Scope.{Scope}
use Rattle.ctf_class.specs.declared.route.Origin.TheVariants.{Enclosing}
use Rattle.ctf_class.specs.declared.route.Route.{Route}
use Rattle.ctf_class.specs.declared.span.Choice.{Choice}
use Rattle.ctf_decode.specs.Values.{Val, label}
use Rattle.ctf_decode.specs.Input.{Env}
use Rattle.ctf_decode.specs.Routes.{found, chosen, option_at}

-- the option that the first member of the innermost structure names
pub option_first : (tag : Route) (choices : List Choice) (earlier : Scope → Option Val) (env : Env) (z : ℤ) → tag.origin ≡ Enclosing 0 → tag.steps ≡ 0 ∷ [] → option_at tag choices earlier ((label z ∷ []) ∷ env) ≡ chosen choices z
unfolding found
option_first tag choices earlier env z o s = rw (o, s) refl
