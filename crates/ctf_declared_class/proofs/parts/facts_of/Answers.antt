use Rattle.std.proofs.Common.{[], ◌∷◌, ◌++◌, map, take, get_or, sym, ap, ◌∙◌}
use Rattle.std.proofs.lemmas.List.{take_more, map-append}
use Rattle.ctf_declared_class.specs.Knowns.{field}
use Rattle.ctf_declared_class.proofs.KeptLemmas.{KeepsAll-push}
use Rattle.ctf_declared_class.proofs.parts.facts_of.Goals as goal

pub loop-field-preserved : goal.loop-field-preserved
loop-field-preserved c =
    let fields = c.args.fields.now in
    let i = c.loop-field.field-index in
    let item = c.field-item.result in
    let more = ap (map field) (take_more fields i item c.loop-field-test.true) ∙ (map-append field (take i fields) (get_or fields i item ∷ []) ∙ ap (λ f. map field (take i fields) ++ field f ∷ []) (sym c.field-item.is)) in
    let with = c.beside-facts.ensures in
    rw more (KeepsAll-push c.args.least (map field (take i fields)) (field item) c.loop-field.facts c.facts.result c.beside-facts.result c.loop-field.invariant c.facts.ensures with.align with.depth with.nodes with.float)
