-- Values of the packet that routes lead to.
use Rattle.std.proofs.Common.{◌≡◌, ◌-◌, ◌⊎◌, inl, inr, [], Option, Some, sym, ap, subst, ◌∙◌, rules}
use Rattle.std.specs.Prelude.{option_and_then}
use Rattle.ctf_class.specs.declared.route.Origin.TheVariants.{Earlier}
use Rattle.ctf_class.specs.declared.route.Route.{Route}
use Rattle.ctf_class.specs.declared.route.Scope.{Scope}
use Rattle.ctf_class.specs.declared.route.Scope.TheVariants.{PacketHeader, PacketContext}
use Rattle.ctf_decode.specs.Input.{Env}
use Rattle.ctf_decode.specs.Known.{Known}
use Rattle.ctf_decode.specs.Routes.{found, found_from}
use Rattle.ctf_decode.specs.Values.{Val, down}
use Rattle.ctf_decode.specs.Views as views
use Rattle.ctf_decode.specs.declared.place.Frame as frames
use Rattle.ctf_decode.specs.declared.place.Frame.TheVariants as frame
use Rattle.ctf_format.specs.Found.{Finds, SharesPacket}
use Rattle.ctf_format.specs.Standing.{ValueIs}
use Rattle.ctf_format.specs.declared.standing.Last.{Last}
use Rattle.ctf_format.specs.declared.standing.Last.TheVariants as lasts

-- a value that is known is found
pub finds_value : (l : Last) (v : Val) → ValueIs l v → Finds l (Some v)
finds_value lasts.Unknown v is = tt
finds_value (lasts.Unsigned n) v is = ap Some is
finds_value (lasts.Label z) v is = ap Some is

-- without a structure around it a value has no members before it
pub env-Top : views.env frame.Top ≡ []
env-Top = search (rules, frames.the_lemmas)

-- the packet's values are those that are known
found_at : (known : Known) (route : Route) (scope : Scope) (earlier : Scope → Option Val) (env : Env) → route.origin ≡ Earlier scope → earlier scope ≡ views.earlier known scope → found route earlier env ≡ found route (views.earlier known) []
unfolding found
found_at known route scope earlier env origin same =
    ap (λ o. found_from o route.steps earlier env) origin ∙ ap (option_and_then (down route.steps)) same ∙ ap (λ o. found_from o route.steps (views.earlier known) []) (sym origin)

found_in_packet : (known : Known) (route : Route) (earlier : Scope → Option Val) (env : Env) → (route.origin ≡ Earlier PacketHeader) ⊎ (route.origin ≡ Earlier PacketContext) → SharesPacket known earlier → found route earlier env ≡ found route (views.earlier known) []
found_in_packet known route earlier env (inl origin) shares = found_at known route PacketHeader earlier env origin shares.0
found_in_packet known route earlier env (inr origin) shares = found_at known route PacketContext earlier env origin shares.1

-- what is found in the packet's values is found so from a record's scopes
pub finds_in_packet : (l : Last) (o : Option Val) (known : Known) (route : Route) (earlier : Scope → Option Val) → (route.origin ≡ Earlier PacketHeader) ⊎ (route.origin ≡ Earlier PacketContext) → SharesPacket known earlier → o ≡ found route (views.earlier known) (views.env frame.Top) → Finds l o → Finds l (found_from route.origin route.steps earlier [])
unfolding found
finds_in_packet l o known route earlier origin shares at finds =
    let same : found route earlier [] ≡ o = found_in_packet known route earlier [] origin shares ∙ ap (found route (views.earlier known)) (sym env-Top) ∙ sym at in
    subst (Finds l) (sym same) finds
