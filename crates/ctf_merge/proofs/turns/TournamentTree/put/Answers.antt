use Rattle.std.proofs.Common.{ℕ, List, drop, map, sym, ap, ◌∙◌, subst}
use Rattle.ctf_merge.specs.Trees.{IsTree, AreNodes, turn_in}
use Rattle.ctf_merge.proofs.Nodes.{put_again, put_turns, rewritten}
use Rattle.ctf_merge.proofs.turns.TournamentTree.put.Goals as goal

pub invariant_of-self : goal.invariant_of-self
invariant_of-self c =
    let old = c.self.inside.nodes.items in
    let leaves = c.self.inside.leaves in
    let same = rewritten leaves old c.renew.new.nodes c.self.inside.nodes.len c.self.inside.nodes.ok.0 c.self.invariant.0 c.renew.ensures.tree in
    subst (λ (ks : List ℕ). IsTree leaves ks × AreNodes 0 (drop leaves ks)) (sym same)
    (put_again leaves c.args.number c.key_of-key.result old c.as_mut_slice.result.now c.renew.new.nodes c.as_mut_slice.ensures.value c.self.invariant.1
    (c.key_of-key.ensures.node c.args.number c.requires.own) c.renew.ensures.tree c.renew.ensures.leaves)

pub returns : goal.returns
returns c =
    let old = c.self.inside.nodes.items in
    let leaves = c.self.inside.leaves in
    let same = rewritten leaves old c.renew.new.nodes c.self.inside.nodes.len c.self.inside.nodes.ok.0 c.self.invariant.0 c.renew.ensures.tree in
    rw (← c.self.view_is)
    (ap (λ (ks : List ℕ). map turn_in (drop leaves ks)) same
    ∙ put_turns leaves c.args.number c.key_of-key.result c.args.turn old c.as_mut_slice.result.now c.renew.new.nodes c.as_mut_slice.ensures.value c.key_of-key.ensures.turn c.renew.ensures.leaves)
