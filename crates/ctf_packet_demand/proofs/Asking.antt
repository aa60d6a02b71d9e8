-- What is in a scope, as the code puts it.
use Rattle.std.proofs.Common.{◌≡◌, ℕ, [], Option, Some, None, Ok, refl, sym, ap, ◌∙◌, subst}
use Rattle.ctf_class.specs.declared.route.Scope.{Scope}
use Rattle.ctf_decode.specs.Values.{Val}
use Rattle.ctf_decode.specs.Forms.{Form}
use Rattle.ctf_decode.specs.Input.{Input}
use Rattle.ctf_decode.specs.Known.{Known, without_value}
use Rattle.ctf_decode.specs.Walk.{walk}
use Rattle.ctf_packet.specs.Scopes.{Values, put}
use Rattle.ctf_packet.specs.Views.{values_of}
use Rattle.ctf_packet.proofs.Standing.{without_is, without_spent}
use Rattle.ctf_packet_demand.specs.Wants.{asked, asked_at}
use Rattle.ctf_packet_demand.specs.Gives.{PutsAsked}

none_put : (scope : Scope) (old after : Known) (place : ℕ) → after ≡ without_value old scope
    → PutsAsked scope (values_of old) (Ok (record { value = None; end = place; spent = old.spent })) place after
none_put scope old after place e =
    (record { value = None; end = place; spent = old.spent }, refl, refl, ap (λ (x : Known). x.spent) e ∙ without_spent old scope, ap values_of e ∙ without_is old scope)

-- a scope without a class
pub at_none : (k : Option Form) (input : Input) (scope : Scope) (old after : Known) (place : ℕ) → k ≡ None → after ≡ without_value old scope
    → PutsAsked scope (values_of old) (asked_at k input place old.spent) place after
at_none k input scope old after place e h =
    subst (λ (x : Option Form). PutsAsked scope (values_of old) (asked_at x input place old.spent) place after) (sym e) (none_put scope old after place h)

-- the value of a class
pub at_ok : (k : Option Form) (f : Form) (input : Input) (scope : Scope) (before : Values) (place spent q : ℕ) (v : Val) (after : Known) → k ≡ Some f
    → walk f input [] place spent ≡ Ok (v, q, after.spent) → values_of after ≡ put scope (Some v) before → PutsAsked scope before (asked_at k input place spent) q after
at_ok k f input scope before place spent q v after e found puts =
    subst (λ (x : Option Form). PutsAsked scope before (asked_at x input place spent) q after) (sym e)
    (record { value = Some v; end = q; spent = after.spent }, ap asked found, refl, refl, puts)
