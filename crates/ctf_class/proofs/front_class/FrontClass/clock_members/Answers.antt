use Rattle.std.proofs.Common.{List, drop, ap, subst, sym, ◌∙◌}
use Rattle.std.proofs.lemmas.List.{take-append-drop}
use Rattle.std.specs.List.{All}
use Rattle.ctf_class.specs.Fronts.{SetsNoClock, members_of}
use Rattle.ctf_class.specs.declared.class.Member.{Member}
use Rattle.ctf_class.proofs.front_class.FrontClass.clock_members.Goals as goal

pub returns : goal.returns
returns c =
    let count = c.self.inside.clock_count in
    let members = c.members.result.now in
    let same = c.members.ensures ∙ ap members_of (sym c.self.view_is) in (
      drop count members,
      sym c.members.ensures ∙ sym (take-append-drop count members),
      subst (λ (xs : List Member). All (λ (m : Member). SetsNoClock m.class) (drop count xs)) (sym same) c.self.invariant.4,
    )
