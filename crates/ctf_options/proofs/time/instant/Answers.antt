use Rattle.std.proofs.Common.{◌≡◌, ◌∙◌, arith, refl, sym}
use Rattle.std.proofs.lemmas.Grind.{common_steps}
use Rattle.ctf_timestamp.specs.Zones.{instant_in}
use Rattle.ctf_options.specs.Times as times
use Rattle.ctf_options.proofs.Instants.{none_there, settled}
use Rattle.ctf_options.proofs.time.instant.Goals as goal

pub returns-in_default-civil : goal.returns-in_default-civil
returns-in_default-civil c =
    (refl, (sym c.seconds.ensures ∙ c.in_default.is, none_there c.args.zone.now (times.civil_in c.args.text.now) c.in_default-civil.ensures))

pub returns : goal.returns
returns c =
    let there : instant_in c.args.zone.now c.in-Some-civil.civil ≡ c.in_ok-instant.field-0 = grind (arith, common_steps, c.instant.ensures, c.in_ok-instant.was) in
    rw c.ok_or.ensures.value (settled c.args.zone.now c.args.text.now c.in-Some-civil.civil c.in_ok-instant.field-0 (sym c.seconds.ensures ∙ c.in_default.is) c.in-Some-civil.ensures there)
