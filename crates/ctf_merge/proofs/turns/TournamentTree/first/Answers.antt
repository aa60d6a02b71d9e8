use Rattle.std.proofs.Common.{◌<◌, length, sym, subst}
use Rattle.std.proofs.lemmas.Bool.{ltb-true}
use Rattle.ctf_merge.proofs.Nodes.{root_is, first_found, none_found}
use Rattle.ctf_merge.proofs.turns.TournamentTree.first.Goals as goal

pub returns-in-Some-clause-first : goal.returns-in-Some-clause-first
returns-in-Some-clause-first c =
    let nodes = c.self.inside.nodes.items in
    let lookup = c.in-Some.ensures.lookup in
    let some = ltb-true 1 (length c.deref.result.now) (sym lookup.0) in
    let root = root_is c.deref.result.now nodes c.in-Some.least.now c.deref.ensures.value some lookup.1 in
    rw (← c.self.view_is) (first_found c.number_in.result c.self.inside.leaves c.in-Some.least.now nodes c.self.invariant.0 c.self.invariant.1
    (subst (λ ks. 1 < length ks) c.deref.ensures.value some) root c.number_in.ensures.number c.number_in.ensures.bounded)

pub returns-in-Some-clause-none : goal.returns-in-Some-clause-none
returns-in-Some-clause-none c =
    let nodes = c.self.inside.nodes.items in
    let lookup = c.in-Some.ensures.lookup in
    let some = ltb-true 1 (length c.deref.result.now) (sym lookup.0) in
    let root = root_is c.deref.result.now nodes c.in-Some.least.now c.deref.ensures.value some lookup.1 in
    rw (← c.self.view_is) (none_found c.number_in.result c.self.inside.leaves c.in-Some.least.now nodes c.self.invariant.0 c.self.invariant.1 root c.number_in.ensures.none)
