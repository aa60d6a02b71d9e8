use Rattle.std.proofs.Common.{Some, ◌∙◌, ap, option_map, sym}
use Rattle.std.specs.Option.{option_copied}
use Rattle.ctf_decode.specs.Views.{val}
use Rattle.ctf_format.proofs.FoundLemmas.{finds_in_packet, finds_value}
use Rattle.ctf_format.proofs.given.given_number.Goals as goal

pub returns-in-Some : goal.returns-in-Some
returns-in-Some c = λ earlier shares.
    let route = c.args.route.now in
    let v = val c.in-Some.value.now in
    let at = sym (ap (λ found. option_map val (option_copied found)) c.in-Some.is) ∙ c.value_at.ensures in
    finds_in_packet c.last_of.result (Some v) c.args.scopes.now route earlier (c.is_in_packet.ensures c.if-not-is_in_packet.false) shares at (finds_value c.last_of.result v c.last_of.ensures)
