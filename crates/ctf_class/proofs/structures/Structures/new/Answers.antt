use Rattle.std.proofs.Common.{◌≡◌, ◌<◌, ◌≤◌, ◌+◌, ◌%◌, [], length, IsTrue, sym, subst, rules, arith}
use Rattle.ctf_class.specs.Alignment.{IsAlignment}
use Rattle.ctf_class.specs.PlanBuilding.{IsMade}
use Rattle.ctf_class.specs.Records.{member_slots}
use Rattle.ctf_class.specs.declared.class.Kind as kinds
use Rattle.ctf_class.proofs.AlignmentLemmas.{whole_bytes}
use Rattle.ctf_class.proofs.RecordsLemmas.{made_nothing}
use Rattle.ctf_class.proofs.structures.Structures.new.Goals as goal

pub returns-clause-is : goal.returns-clause-is
returns-clause-is c =
    let k = c.args.class.now in
    let ms = c.as_slice-members.result.now in
    let built = c.add_integers.new.self in
    let is : k.kind ≡ kinds.Structure ms = search rules in
    let some : 0 < length ms = grind (arith, c.is_empty.ensures, c.if-is_empty.ensures, c.if-is_empty.false) in
    let took : IsTrue c.in_ok-add_integers.field-0 = search rules in
    let begins : built.align ≡ k.align = search rules in
    let count : length ms + 1 ≡ 1 + length ms = omega arith in
    let made : IsMade (member_slots k.align ms) built = c.in_ok-add_integers.ensures.made took [] (made_nothing _ c.new-builder.result c.new-builder.ensures.made) in
    let large : 8 ≤ k.align = search rules in
    let power : IsAlignment k.align = search rules in
    let whole : built.align % 8 ≡ 0 = subst (λ n. n % 8 ≡ 0) (sym begins) (whole_bytes k.align power large) in
    c.into_structures.ensures.is k ms is some count begins whole made
