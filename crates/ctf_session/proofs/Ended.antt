-- What an answer says of whether a session had ended.
use Rattle.std.proofs.Common.{◌≡◌, Option, Some, None, refl, sym, ◌∙◌}
use Rattle.ctf_faults.specs.declared.outcome.Outcome.{Outcome}
use Rattle.ctf_session.specs.declared.step.Step.TheVariants as steps
use Rattle.ctf_session.specs.Steps.{IsRepeated}

-- one that went had not
pub went_open : (ended : Option Outcome) → IsRepeated ended steps.Went → ended ≡ None
went_open None again = refl
went_open (Some o) again = absurd cc

pub not_both : (ended : Option Outcome) (o : Outcome) → ended ≡ None → ended ≡ Some o → ⊥
not_both ended o open_ is = cc

-- one that had answers as before
pub answered_again : (ended : Option Outcome) (o answer : Outcome) → ended ≡ Some o → IsRepeated ended (steps.Ended answer) → answer ≡ o
answered_again None o answer is again = absurd cc
answered_again (Some before) o answer is again = cc
