use Rattle.std.proofs.Common.{subst}
use Rattle.ctf_meaning.specs.Reading.{declaration_of}
use Rattle.ctf_types.specs.Whole.{IsTraceBlock}
use Rattle.ctf_types.proofs.Numbers.{stands}
use Rattle.ctf_types.proofs.First.{passed_one, number_here, entries_here}
use Rattle.ctf_types.proofs.trace.trace.Goals as goal

pub settings_of-requires : goal.settings_of-requires
settings_of-requires c = c.requires c.loop-number.number (declaration_of c.index-declarations-number.result) (stands c.args.declarations.now c.loop-number.number c.index-declarations-number.result c.loop-number-test.true c.index-declarations-number.is)

pub returns-in-Some : goal.returns-in-Some
returns-in-Some c =
    let block = subst (IsTraceBlock (declaration_of c.index-declarations-number.result)) c.in-Some.is c.in_ok-settings.ensures in (
      block.0,
      number_here c.args.declarations.now c.loop-number.number c.index-declarations-number.result block.0 c.loop-number-test.true c.index-declarations-number.is block.1 c.loop-number.invariant,
      entries_here c.args.declarations.now c.loop-number.number c.index-declarations-number.result block.0 c.loop-number-test.true c.index-declarations-number.is block.1 c.loop-number.invariant,
      block.2,
    )

pub loop-number-preserved : goal.loop-number-preserved
loop-number-preserved c =
    passed_one c.args.declarations.now c.loop-number.number c.index-declarations-number.result c.loop-number-test.true c.index-declarations-number.is
    (subst (IsTraceBlock (declaration_of c.index-declarations-number.result)) c.in_default.is c.in_ok-settings.ensures) c.loop-number.invariant
