use Rattle.std.proofs.Common.{◌≡◌, ◌%◌, refl, rules, subst, arith}
use Rattle.ctf_class.specs.Alignment.{IsAlignment}
use Rattle.ctf_format.specs.declared.passed_record.Element.{Element}
use Rattle.ctf_format.proofs.PassingLemmas.{structure_element}
use Rattle.ctf_format.proofs.passed_record.structure_as_element.Goals as goal

pub returns : goal.returns
returns c = λ packet k is.
    let s = c.args.are.now in
    let e : Element = record { align = s.align; span = s.span; count = s.count } in
    let power : IsAlignment s.align = subst IsAlignment c.bits.ensures.value c.bits.ensures.power in
    let whole : s.align % 8 ≡ 0 = search (rules, arith) in
    structure_element packet e s k is whole power refl refl refl
