use Rattle.std.proofs.Common.{map, sym, ◌∙◌}
use Rattle.ctf_meaning.specs.Blocks.{clocks_of}
use Rattle.ctf_meaning.specs.Reading.{declaration_of}
use Rattle.ctf_types.proofs.Numbers.{stands}
use Rattle.ctf_types.proofs.Clocked.{clock_one, clock_none}
use Rattle.ctf_types.proofs.clocks.clocks.Goals as goal
use Rattle.ctf_types.proofs.clocks.clocks.Goals.{in-Some+in_ok-push, in_default}

pub clock_of-requires : goal.clock_of-requires
clock_of-requires c = c.requires c.loop-declaration.declaration-index (declaration_of c.declaration-item.result) (stands c.args.declarations.now c.loop-declaration.declaration-index c.declaration-item.result c.loop-declaration-test.true c.declaration-item.is)

pub loop-declaration-preserved : goal.loop-declaration-preserved
loop-declaration-preserved c =
    let all = clocks_of (map declaration_of c.args.declarations.now) in
    elim c.match-branch-2.branch [
      | in-Some+in_ok-push w ↦ rw w.found-is (rw w.in_ok-push.ensures.items (clock_one c.args.declarations.now all c.loop-declaration.found.items c.loop-declaration.declaration-index c.declaration-item.result w.in-Some.clock c.loop-declaration-test.true c.declaration-item.is (sym c.in_ok-clock.ensures ∙ w.in-Some.is) c.loop-declaration.invariant))
      | in_default w ↦ rw w.found-is (clock_none c.args.declarations.now all c.loop-declaration.found.items c.loop-declaration.declaration-index c.declaration-item.result c.loop-declaration-test.true c.declaration-item.is (sym c.in_ok-clock.ensures ∙ w.in_default.is) c.loop-declaration.invariant)
    ]
