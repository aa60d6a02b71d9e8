use Rattle.std.proofs.Common.{◌≤◌, ◌+◌, pos, List, Some, IfSome, refl, sym, ap, subst, ◌∙◌, rules}
use Rattle.std.specs.Prelude.{FitsSigned, ◌%◌}
use Rattle.std.specs.Int.{w128}
use Rattle.std.proofs.lemmas.Int.{to_z-of_z}
use Rattle.ctf_class.specs.HeaderPlans.{Chooses, IsOption}
use Rattle.ctf_class.specs.Integers.{bits_of}
use Rattle.ctf_class.specs.declared.class.Kind as kind
use Rattle.ctf_class.specs.declared.class.Member.{Member}
use Rattle.ctf_class.specs.declared.integer.Integer.{Integer}
use Rattle.ctf_class.proofs.HeaderPlanLemmas.{chosen_first, tag_ends}
use Rattle.ctf_class.proofs.header_plan.tagged_plan.Goals as goal

pub returns : goal.returns
returns c = λ k align is.
    let choice = c.in_ok-choice.choice in
    let i = c.numbered.result.integer in
    let integer = sym c.numbered.ensures.integer in
    let options = c.in-Variant.options in
    let last = c.in_ok-last.last in
    let first_fits : FitsSigned w128 choice.span.first = search rules in
    let last_fits : FitsSigned w128 choice.span.last = search rules in
    let first_is = sym (to_z-of_z w128 choice.span.first first_fits) ∙ c.in_ok-unsigned.ensures in
    let last_is = sym (to_z-of_z w128 choice.span.last last_fits) ∙ c.in_ok-last.ensures in
    let usual = c.in_ok-integers.field-0 in
    let of_usual : IsOption (bits_of i) options choice.option usual =
    subst (λ (j : Integer). IsOption (bits_of j) options choice.option usual) integer (subst (λ (ms : List Member). IsOption (bits_of c.in-Enumeration.container) ms choice.option usual) c.as_slice-2.ensures c.in_ok-integers.ensures.is)
    in
    record {
      align = sym align;
      chosen = record {
        member = c.args.tag.now;
        variant = c.args.variant.now;
        labels = c.in-Enumeration.labels;
        route = c.in-Variant.route;
        choices = c.in-Variant.choices;
        options = options;
        is = is;
        of_tag = c.in-Enumeration.is ∙ ap (λ (j : Integer). kind.Enumeration j c.in-Enumeration.labels) integer;
        named = search rules;
        unsigned = search rules;
        divides = ap (λ a. a % c.args.tag.now.class.align) align ∙ c.if-not-divides.ensures refl;
        of_variant = c.in-Variant.is;
        origin = c.if-not-leads_to_first.ensures.origin refl;
        steps = c.if-not-leads_to_first.ensures.steps refl;
        usual = λ n above below. record {
          i = choice.option;
          chooses = chosen_first c.in-Variant.choices choice c.in_ok-unsigned.field-0 last n (sym c.in_ok-choice.ensures) first_is last_is above below;
          option = of_usual;
        };
        other = subst (λ (j : Integer). IfSome c.integers_after.result (Chooses (bits_of j) c.in-Variant.choices options (pos (last + 1)))) integer
            (subst (λ (ms : List Member). IfSome c.integers_after.result (Chooses (bits_of c.in-Enumeration.container) c.in-Variant.choices ms (pos (last + 1)))) c.as_slice-2.ensures c.integers_after.ensures.chooses);
      };
      near = record {
        tag = record {
          begin = c.numbered.ensures.distance;
          usual = tag_ends c.numbered.result (Some usual) c.numbered.ensures.distance c.numbered.ensures.read (subst (λ (j : Integer). bits_of j ≤ usual.skipped) integer c.in_ok-integers.ensures.after);
          other = tag_ends c.numbered.result c.integers_after.result c.numbered.ensures.distance c.numbered.ensures.read (subst (λ (j : Integer). IfSome c.integers_after.result (λ are. bits_of j ≤ are.skipped)) integer c.integers_after.ensures.after);
        };
        usual = c.in_ok-integers.ensures.near;
        other = c.integers_after.ensures.near;
      };
    }
