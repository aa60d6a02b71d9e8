use Rattle.std.proofs.Common.{◌≡◌, ℕ, ◌*◌, ◌∙◌, [], length, Ok, ap, arith, append-nil}
use Rattle.ctf_decode.specs.Values.{Val}
use Rattle.ctf_decode.specs.Views.{form}
use Rattle.ctf_decode.specs.Walk.{walk}
use Rattle.ctf_decode.proofs.Views.{env-Top}
use Rattle.ctf_packet.proofs.Standing.{form_of}
use Rattle.ctf_fetch.specs.Demand.{there}
use Rattle.ctf_fetch.proofs.Opening.{put_found, near_put}
use Rattle.ctf_fetch.proofs.scope.class_on_demand.Goals as goal

pub returns-in-Some-scope_at_hand-clause-near : goal.returns-in-Some-scope_at_hand-clause-near
returns-in-Some-scope_at_hand-clause-near g c =
    let next = c.args.next.now in
    let class = form c.args.class.now in
    let known = c.args.scopes.now in
    let bytes = c.fill_ahead.new.intake.buffer.now in
    let put = rw (append-nil bytes) at (c.in-Some-scope_at_hand.ensures.puts []) in
    let found = put_found next class (ap form_of c.requires.class) known bytes c.in-Some-scope_at_hand.end c.scope_at_hand.new.scopes put in
    let after = c.in-Some.ensures.least bytes found.0 ((λ i. walk class (there bytes known) (env-Top i) next.end (c.spent.ensures.value i)) ∙ found.1) in
    let same = found.2 in
    let near = c.in_ok-fill_ahead.ensures.near in
    omega (arith, after, same, near)

pub returns-in-None-clause-puts : goal.returns-in-None-clause-puts
returns-in-None-clause-puts g c = λ more. rw c.in-None.ensures.none at (c.parts_on_demand-in-None.ensures.puts more)

pub returns-in-None-clause-near : goal.returns-in-None-clause-near
returns-in-None-clause-near g c =
    let next = c.args.next.now in
    let class = form c.args.class.now in
    let known = c.args.scopes.now in
    let bytes = c.parts_on_demand-in-None.new.intake.buffer.now in
    let ends = λ (x : Val × ℕ × ℕ) (found : walk class (there bytes known) [] next.end known.spent ≡ Ok x). c.in-Some.ensures.least bytes x ((λ i. walk class (there bytes known) (env-Top i) next.end (c.spent.ensures.value i)) ∙ found) in
    let put = rw (c.in-None.ensures.none, append-nil bytes) at (c.parts_on_demand-in-None.ensures.puts []) in
    near_put next class (ap form_of c.requires.class) known bytes c.in-Some.least (8 * length c.args.intake.now.buffer.now) (8 * length c.fill_ahead.new.intake.buffer.now) (8 * length bytes) ends c.in_ok-fill_ahead.ensures.near c.parts_on_demand-in-None.result c.parts_on_demand-in-None.new.scopes put c.parts_on_demand-in-None.ensures.near

pub returns-in-None-clause-faulty : goal.returns-in-None-clause-faulty
returns-in-None-clause-faulty g c = λ tells.
    rw (c.in-None.ensures.none, c.fill_ahead.ensures.keeps.bytes.same_end tells) at (c.parts_on_demand-in-None.ensures.faulty (c.fill_ahead.ensures.keeps.bytes.tells tells))
