use Rattle.std.proofs.Common.{rules, ◌≡◌, ◌+◌, ◌*◌, ◌∙◌, ap, arith}
use Rattle.ctf_class.specs.declared.class.Kind as kind
use Rattle.ctf_class.specs.declared.route.Length.{Length}
use Rattle.ctf_fetch.specs.Demand.{TakesAtLeast, MembersTake, ElementsTake}
use Rattle.ctf_fetch.proofs.Taking.{on_some, sums_more, sums_all, elements_take, structure_takes, array_takes}
use Rattle.ctf_fetch.proofs.least.+least.Goals as goal

pub bits_of_structure-loop-member-preserved : goal.bits_of_structure-loop-member-preserved
bits_of_structure-loop-member-preserved t c =
    let sum = c.loop-member.bits in
    let more = c.in_ok-more.more in
    let next = c.in_ok-bits.bits in
    let is : next ≡ sum + more = (let value = c.in_ok-bits.ensures.value in omega (arith, value)) in
    record {
      bounded = c.in_ok-bits.ensures.bounded;
      taken = sums_more c.args.members.now c.loop-member.member-index c.member-item.result c.loop-member-test.true c.member-item.is sum more next is c.in_ok-more.ensures.least c.loop-member.invariant.taken;
    }

pub bits_of_structure-returns-clause-least : goal.bits_of_structure-returns-clause-least
bits_of_structure-returns-clause-least t c =
    sums_all c.args.members.now c.loop-member.member-index c.loop-member.bits c.loop-member-test.false c.loop-member.invariant.taken

pub bits_of_elements-returns-clause-least : goal.bits_of_elements-returns-clause-least
bits_of_elements-returns-clause-least t c =
    let element = c.args.element.now in
    let count = c.args.count in
    let bits = c.in_ok-bits.bits in
    let one : c.from.result ≡ bits = search rules in
    let many : c.from-2.result ≡ count = search rules in
    let value = c.in_packet.ensures.value in
    on_some c.in_packet.result (λ n. n ≡ bits * count) (ElementsTake element count) (λ n is. elements_take element count bits n c.in_ok-bits.ensures.least is) (rw (one, many) at value)

pub least_bits-returns-in-Structure-clause-least : goal.least_bits-returns-in-Structure-clause-least
least_bits-returns-in-Structure-clause-least t c =
    let class = c.args.class.now in
    let members = c.in-Structure.members in
    on_some c.bits_of_structure.result (MembersTake members) (TakesAtLeast class) (λ n each. structure_takes class members n c.in-Structure.is each) (rw c.as_slice.ensures at c.bits_of_structure.ensures.least)

pub least_bits-returns-in-Fixed-clause-least : goal.least_bits-returns-in-Fixed-clause-least
least_bits-returns-in-Fixed-clause-least t c =
    let class = c.args.class.now in
    let element = c.in-Array.element in
    let count = c.in-Fixed.count in
    let is = c.in-Array.is ∙ ap (λ (l : Length). kind.Array l element) c.in-Fixed.is in
    on_some c.bits_of_elements.result (ElementsTake element count) (TakesAtLeast class) (λ n each. array_takes class element count n is each) (rw c.get.ensures at c.bits_of_elements.ensures.least)
