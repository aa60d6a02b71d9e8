use Rattle.std.proofs.Common.{rules, ◌≡◌, Ok, ap, sym, ◌∙◌}
use Rattle.jiff_tz.specs.Ambiguous.{compatible_offset}
use Rattle.jiff_tz.specs.Zone.{ambiguous_at}
use Rattle.ctf_timestamp.proofs.Instants.{no_value, has_value}
use Rattle.ctf_timestamp.proofs.zone.Zone.library_instant.Goals as goal

pub returns-in_err-instant : goal.returns-in_err-instant
returns-in_err-instant c =
    let offsets = c.to_ambiguous_timestamp-instants.ensures.offsets ∙ ap (λ zone. ambiguous_at zone c.args.civil) c.to_jiff.ensures.zone in
    let same = ap compatible_offset offsets in
    c.from_residual.ensures
    ∙ no_value c.args.self.now c.args.civil _ _ c.disambiguate.result c.disambiguate.ensures (sym c.in_err-instant.was ∙ c.ok.ensures.value) c.to_ambiguous_timestamp-instants.ensures.datetime same

pub returns : goal.returns
returns c =
    let made : c.disambiguate.result ≡ Ok c.in_ok-instant.instant = has_value c.disambiguate.result c.in_ok-instant.instant (sym c.in_ok-instant.was ∙ c.ok.ensures.value) in
    search (rules, made)
