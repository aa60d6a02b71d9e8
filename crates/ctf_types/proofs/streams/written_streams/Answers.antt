use Rattle.std.proofs.Common.{◌≤◌, length, map, refl, sym, ◌∙◌, arith}
use Rattle.std.specs.Prelude.{filter_map}
use Rattle.ctf_meaning.specs.Reading.{declaration_of}
use Rattle.ctf_meaning.specs.Streams as meaning
use Rattle.ctf_types.proofs.Numbers.{stands}
use Rattle.ctf_types.proofs.Found.{found_one, found_none, found_all}
use Rattle.ctf_types.proofs.streams.written_streams.Goals as goal
use Rattle.ctf_types.proofs.streams.written_streams.Goals.{in-Some+in_ok-push, in_default}

pub loop-number-init : goal.loop-number-init
loop-number-init c = rw c.new-found.ensures (record { part = refl; placed = tt })

pub id_of-requires : goal.id_of-requires
id_of-requires c = c.requires c.loop-number.number (declaration_of c.index-declarations-number.result) (stands c.args.declarations.now c.loop-number.number c.index-declarations-number.result c.loop-number-test.true c.index-declarations-number.is)

pub loop-number-preserved : goal.loop-number-preserved
loop-number-preserved c =
    let all = filter_map meaning.stream_by (meaning.numbered (map declaration_of c.args.declarations.now)) in
    elim c.match-branch-2.branch [
      | in-Some+in_ok-push w ↦ rw w.found-is (rw w.in_ok-push.ensures.ok (found_one c.args.declarations.now all c.loop-number.found c.loop-number.number c.index-declarations-number.result w.in-Some.id w.len.result w.len.ensures c.loop-number-test.true c.index-declarations-number.is (sym c.in_ok-id.ensures ∙ w.in-Some.is) c.loop-number.invariant))
      | in_default w ↦ rw w.found-is (found_none c.args.declarations.now all c.loop-number.found c.loop-number.number c.index-declarations-number.result c.loop-number-test.true c.index-declarations-number.is (sym c.in_ok-id.ensures ∙ w.in_default.is) c.loop-number.invariant)
    ]

pub returns : goal.returns
returns c =
    let all = filter_map meaning.stream_by (meaning.numbered (map declaration_of c.args.declarations.now)) in
    let end : length c.args.declarations.now ≤ c.loop-number.number = grind (arith, c.loop-number-test.false) in
    (found_all c.args.declarations.now all c.loop-number.found c.loop-number.number end c.loop-number.invariant, c.loop-number.invariant.placed)
