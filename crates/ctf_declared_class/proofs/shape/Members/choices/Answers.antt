use Rattle.std.proofs.Common.{◌≡◌, List, length, map, take, IfOk, ap, sym, subst, ◌∙◌}
use Rattle.ctf_class.specs.declared.span.Choice.{Choice}
use Rattle.ctf_class.specs.Choices.{choices_by}
use Rattle.ctf_meaning.specs.Shapes.{fields_in}
use Rattle.ctf_meaning.specs.Links.{choices_of}
use Rattle.ctf_declared_class.specs.Views.{shape}
use Rattle.ctf_declared_class.proofs.JoinedLemmas.{choices-joined}
use Rattle.ctf_declared_class.proofs.ViewsLemmas.{members-is}
use Rattle.ctf_declared_class.proofs.shape.Members.choices.Goals as goal

pub returns : goal.returns
returns c =
    let ms = c.args.self.now in
    let labels = c.args.labels.now in
    let fields = ap (λ xs. fields_in xs) (members-is ms) in
    let count = c.len.ensures ∙ ap length fields in
    let made = choices-joined ms.names (map shape ms.shapes) labels in
    let same =
    ap (λ names. choices_by (take c.len.result names) c.in_ok-labels.labels) c.in_ok-names.ensures.cases
    ∙ ap (choices_by (take c.len.result ms.names)) c.in_ok-labels.ensures.cases
    ∙ ap (λ n. choices_by (take n ms.names) labels) count
    ∙ made ∙ sym (ap (λ fs. choices_of fs labels) fields)
    in
    subst (λ (all : List Choice). IfOk c.new.result (λ choices. choices ≡ all)) same c.new.ensures
