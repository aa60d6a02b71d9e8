use Rattle.std.proofs.Common.{◌≡◌, ◌<◌, pos, true, length, get_or, Some, sym, ap, ◌∙◌, rules}
use Rattle.std.proofs.Math.Facts.{to_z-of_z}
use Rattle.std.proofs.lemmas.List.{get_or_default}
use Rattle.ctf_class.specs.Labels.{covers}
use Rattle.ctf_class.specs.ListedChoices.{no_choice, choice_at}
use Rattle.ctf_class.specs.declared.span.Choice.{Choice}
use Rattle.ctf_class.proofs.ChoicesLemmas.{chosen_apart}
use Rattle.ctf_class.proofs.listed_choices.ListedChoices.likely_option.Goals as goal

pub returns-then-covers : goal.returns-then-covers
returns-then-covers c =
    let choices = c.args.self.now.list in
    let place = c.in_ok-place.place in
    let unset : Choice = record { span = record { first = pos 0; last = pos 0 }; option = 0 } in
    let within : place < length choices = search rules in
    let is : get_or c.as_slice-choices.result.now place unset ≡ choice_at choices place =
    ap (λ xs. get_or xs place unset) c.as_slice-choices.ensures ∙ get_or_default choices place unset no_choice within in
    let tested = rw (to_z-of_z c.ranges.number) at c.covers.ensures.is in
    let here : covers (choice_at choices place).span c.args.number ≡ true =
    ap (λ (k : Choice). covers k.span c.args.number) (sym is) ∙ (sym tested ∙ c.if-covers.true) in
    chosen_apart choices c.args.number place (c.args.self.now.apart c.if-not-self.false) within here ∙ ap (λ (k : Choice). Some k.option) (sym is)
