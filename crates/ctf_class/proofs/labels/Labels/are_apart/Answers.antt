use Rattle.std.proofs.Common.{◌≡◌, ◌+◌, true, List, subst}
use Rattle.ctf_class.specs.declared.span.Label.{Label}
use Rattle.ctf_class.specs.Labels.{shows_at, NoneShown}
use Rattle.ctf_class.specs.LabelSearch.{Finds}
use Rattle.ctf_class.proofs.LabelsLemmas.{alone-apart}
use Rattle.ctf_class.proofs.labels.Labels.are_apart.Goals as goal

pub returns-in-Apart : goal.returns-in-Apart
returns-in-Apart c = λ _ z place.
    let labels = c.self.inside.labels in
    let found = subst (Finds labels) c.in-Apart.is c.self.invariant in
    subst (λ (all : List Label). shows_at all z place ≡ true → NoneShown all z (place + 1)) c.self.view_is (alone-apart labels c.in-Apart.field-0 found.0 found.1 z place)
