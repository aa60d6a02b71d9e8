use Rattle.std.proofs.Common.{inr, Ok, map, sym, ap, ◌∙◌}
use Rattle.ctf_declared_class.specs.Views.{shape, joined}
use Rattle.ctf_declared_class.proofs.KeptLemmas.{told-twins, told-single, joined-from}
use Rattle.ctf_declared_class.proofs.parts.distinct_members.Goals as goal

pub returns-then-has_twins : goal.returns-then-has_twins
returns-then-has_twins c =
    inr (told-twins c.args.fields.items c.in_ok-names-2.names (c.in_ok-names-2.ensures ∙ c.in_ok-names.ensures.names) (sym c.has_twins.ensures ∙ c.if-has_twins.true))

pub returns : goal.returns
returns c =
    let fields = c.args.fields.items in
    let names = c.in_ok-names-2.ensures ∙ c.in_ok-names.ensures.names in
    let told = told-single fields c.in_ok-names-2.names names (sym c.has_twins.ensures ∙ c.if-has_twins.false) in
    let words = ap (λ ws. joined ws (map shape c.in_ok-shapes.shapes)) (c.in_ok-names-3.ensures ∙ names) in
    let classes = ap (λ ss. joined (map (λ f. f.name) fields) (map shape ss)) (c.in_ok-shapes.ensures ∙ c.in_ok-names.ensures.shapes) in
    told ∙ ap (λ ms. Ok ms) (sym (c.new-4.ensures ∙ (words ∙ (classes ∙ joined-from fields))))
