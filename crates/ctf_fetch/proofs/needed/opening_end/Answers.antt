use Rattle.std.proofs.Common.{rules, ◌≡◌, ◌<◌, ◌++◌, IfErr, Err, subst, sym}
use Rattle.std.specs.Int.{next_multiple_of}
use Rattle.ctf_decode.specs.declared.scopes.TheConstants.{MOST_VALUES}
use Rattle.ctf_fetch.specs.Demand.{FailsToOpen}
use Rattle.ctf_fetch.specs.Fetching.{OrNoMemory}
use Rattle.ctf_fetch.specs.Openings.{TakesMore}
use Rattle.ctf_fetch.proofs.Parts.{open_short}
use Rattle.ctf_fetch.proofs.needed.opening_end.Goals as goal

pub returns-in_err-fill_front-clause-faulty : goal.returns-in_err-fill_front-clause-faulty
returns-in_err-fill_front-clause-faulty g c = λ tells.
    let place = c.args.place.now in
    let fault = c.in_err-fill_front.field-0.0 in
    let b = next_multiple_of place.end c.args.align in
    let ending = g.S.Source.ending c.args.intake.now.source.now in
    let bytes = c.fill_front.new.intake.buffer.now in
    let left = g.S.Source.left c.fill_front.new.intake.source.now in
    let few : place.spent < MOST_VALUES = search rules in
    let same : c.from.result ≡ b = search rules in
    let takes = subst (λ n. TakesMore ending n bytes left (Err fault)) same (c.in_err-fill_front.ensures.takes tells) in
    let e : c.from_residual.result ≡ Err fault = search rules in
    subst (λ r. IfErr r (OrNoMemory (FailsToOpen ending place b (bytes ++ left)))) (sym e) (open_short ending place b bytes left fault few takes)
