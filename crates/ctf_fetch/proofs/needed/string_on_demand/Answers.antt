use Rattle.std.proofs.Common.{rules, ◌<◌, length}
use Rattle.ctf_decode.specs.declared.scopes.TheConstants.{MOST_VALUES}
use Rattle.ctf_fetch.proofs.Parts.{string_near}
use Rattle.ctf_fetch.proofs.needed.string_on_demand.Goals as goal

pub returns-clause-near : goal.returns-clause-near
returns-clause-near g c =
    let few : c.args.place.now.spent < MOST_VALUES = search rules in
    string_near c.args.class.now c.args.place.now (length c.args.intake.now.buffer.now) c.take_text.new.intake.buffer.now c.leaf_on_demand.new.intake.buffer.now c.leaf_on_demand.result c.requires.string few
    c.in_ok-take_text.ensures.near c.leaf_on_demand.ensures.keeps.bytes.first c.leaf_on_demand.ensures.value c.leaf_on_demand.ensures.near
