use Rattle.std.proofs.Common.{◌≤◌, Bool, List, drop, length, ap, subst, ◌∙◌}
use Rattle.std.specs.List.{All, prefix_len}
use Rattle.ctf_class.specs.Fronts.{ArePlaces, SetsNoClock, are_of_packet}
use Rattle.ctf_class.specs.declared.class.Member.{Member}
use Rattle.ctf_class.proofs.front_class.FrontClass.new.Goals as goal

pub invariant_of-result : goal.invariant_of-result
invariant_of-result c =
    let is = c.members_in-members.ensures in
    let count = c.clock_count_in-clock_count in (
      subst (λ (ms : List Member). ArePlaces ms c.places_in-places.result) is c.places_in-places.ensures,
      c.in_ok-hidden.ensures ∙ ap are_of_packet is,
      c.count_hidden_first-first_shown.ensures ∙ ap (prefix_len (λ (hidden : Bool). hidden)) c.as_slice.ensures,
      subst (λ (ms : List Member). count.result ≤ length ms) is count.ensures.within,
      subst (λ (ms : List Member). All (λ (m : Member). SetsNoClock m.class) (drop count.result ms)) is count.ensures.none,
    )
