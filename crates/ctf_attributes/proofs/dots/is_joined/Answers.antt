use Rattle.std.proofs.Common.{ap, ◌∙◌}
use Rattle.ctf_meaning.specs.Integers.{after}
use Rattle.ctf_attributes.proofs.DottedLemmas.{joined-found, joined-missing}
use Rattle.ctf_attributes.proofs.dots.is_joined.Goals as goal

pub returns-in-Some : goal.returns-in-Some
returns-in-Some c =
    let first = c.first-item.result in
    let text = c.args.text.now in
    c.is_dotted.ensures ∙ joined-found c.args.words.now first text c.after.result c.in-Some.rest c.in-len1-up.len_at_least c.first-item.is (c.after.ensures ∙ ap (λ w. after w text) c.as_slice.ensures) c.in-Some.is

pub returns-in-None : goal.returns-in-None
returns-in-None c =
    let first = c.first-item.result in
    let text = c.args.text.now in
    joined-missing c.args.words.now first text c.after.result c.in-len1-up.len_at_least c.first-item.is (c.after.ensures ∙ ap (λ w. after w text) c.as_slice.ensures) c.in-None.is
