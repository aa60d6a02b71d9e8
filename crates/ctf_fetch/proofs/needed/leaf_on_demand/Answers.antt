use Rattle.std.proofs.Common.{rules, ◌≡◌, ◌-◌, ◌<◌, ◌∙◌, [], length, IfErr, Err, ◌++◌, ap, subst, sym, arith, append-nil}
use Rattle.ctf_decode.specs.Views.{form, val, env}
use Rattle.ctf_fetch.specs.Demand.{found_at, Failed}
use Rattle.ctf_fetch.specs.Fetching.{longest_bytes, OrNoMemory}
use Rattle.ctf_fetch.specs.Openings.{TakesMore}
use Rattle.ctf_fetch.proofs.Keeping.{keeps_on}
use Rattle.ctf_fetch.proofs.Parts.{forward_at, asks_past, near_more, fails_short, fails_many, fails_option}
use Rattle.ctf_fetch.proofs.needed.leaf_on_demand.Goals as goal

pub returns-in-Ok-clause-forward : goal.returns-in-Ok-clause-forward
returns-in-Ok-clause-forward g c =
    let p = c.args.place.now in
    let d = c.in-Ok.decoded in
    forward_at (form c.args.class.now) (env p.frame.now) p.scopes.now p.end p.spent c.as_slice.result.now (val d.value, d.end, d.spent) c.in-Ok.ensures.decodes

pub returns-in-Ok-clause-near : goal.returns-in-Ok-clause-near
returns-in-Ok-clause-near g c =
    let d = c.in-Ok.decoded in
    let found = ap (found_at c.args.class.now c.args.place.now) (append-nil c.loop-decoded.intake.buffer.now ∙ sym c.as_slice.ensures) ∙ c.in-Ok.ensures.decodes in
    c.loop-decoded.invariant.near [] (val d.value, d.end, d.spent) found

pub fill_front-requires : goal.fill_front-requires
fill_front-requires g c =
    let p = c.args.place.now in
    let asks = ap (found_at c.args.class.now p) (sym c.as_slice.ensures) ∙ (rw c.in-Err-ContentEnds.field-0-is at c.in-Err-ContentEnds.ensures.decodes) in
    record { beyond = asks_past (form c.args.class.now) (env p.frame.now) p.scopes.now p.end p.spent c.loop-decoded.intake.buffer.now c.in-Err-ContentEnds.bits asks }

pub loop-decoded-smaller : goal.loop-decoded-smaller
loop-decoded-smaller g c =
    let p = c.args.place.now in
    let asks = ap (found_at c.args.class.now p) (sym c.as_slice.ensures) ∙ (rw c.in-Err-ContentEnds.field-0-is at c.in-Err-ContentEnds.ensures.decodes) in
    let beyond = asks_past (form c.args.class.now) (env p.frame.now) p.scopes.now p.end p.spent c.loop-decoded.intake.buffer.now c.in-Err-ContentEnds.bits asks in
    let ends = c.in_ok-fill_front-in-Err-ContentEnds.ensures.bits in
    let bounded = c.in_ok-fill_front-in-Err-ContentEnds.ensures.bounded in
    let few = c.loop-decoded.invariant.few in
    let less : longest_bytes - length c.fill_front.new.intake.buffer.now < longest_bytes - length c.loop-decoded.intake.buffer.now = omega (arith, beyond, ends, bounded, few) in
    less

pub loop-decoded-preserved : goal.loop-decoded-preserved
loop-decoded-preserved g c =
    let p = c.args.place.now in
    let before = c.loop-decoded.invariant in
    let asks = ap (found_at c.args.class.now p) (sym c.as_slice.ensures) ∙ (rw c.in-Err-ContentEnds.field-0-is at c.in-Err-ContentEnds.ensures.decodes) in
    record {
      keeps = keeps_on before.keeps c.fill_front.ensures.keeps;
      few = c.fill_front.ensures.few before.few;
      near = near_more (form c.args.class.now) (env p.frame.now) p.scopes.now p.end p.spent (length c.args.intake.now.buffer.now) c.loop-decoded.intake.buffer.now c.fill_front.new.intake.buffer.now c.in-Err-ContentEnds.bits asks c.fill_front.ensures.keeps.bytes.first c.in_ok-fill_front-in-Err-ContentEnds.ensures.bits;
    }

pub returns-in_err-fill_front-in-Err-ContentEnds-clause-faulty :
    goal.returns-in_err-fill_front-in-Err-ContentEnds-clause-faulty
returns-in_err-fill_front-in-Err-ContentEnds-clause-faulty g c = λ tells.
    let p = c.args.place.now in
    let class = c.args.class.now in
    let before = c.loop-decoded.invariant in
    let fault = c.in_err-fill_front-in-Err-ContentEnds.field-0.0 in
    let bits = c.in-Err-ContentEnds.bits in
    let later = c.fill_front.new.intake.buffer.now in
    let left = g.S.Source.left c.fill_front.new.intake.source.now in
    let ending = g.S.Source.ending c.args.intake.now.source.now in
    let asks = ap (found_at class p) (sym c.as_slice.ensures) ∙ (rw c.in-Err-ContentEnds.field-0-is at c.in-Err-ContentEnds.ensures.decodes) in
    let takes = subst (λ e. TakesMore e bits later left (Err fault)) (before.keeps.bytes.same_end tells) (c.in_err-fill_front-in-Err-ContentEnds.ensures.takes (before.keeps.bytes.tells tells)) in
    let told = fails_short (form class) (env p.frame.now) p.scopes.now p.end p.spent ending c.loop-decoded.intake.buffer.now later left bits fault asks c.fill_front.ensures.keeps.bytes.first takes in
    let e : c.from_residual.result ≡ Err fault = search rules in
    subst (λ r. IfErr r (OrNoMemory (Failed ending (found_at class p (later ++ left))))) (sym e) told

pub returns-in-Err-NoOption-clause-faulty : goal.returns-in-Err-NoOption-clause-faulty
returns-in-Err-NoOption-clause-faulty g c = λ tells.
    let p = c.args.place.now in
    let asks = ap (found_at c.args.class.now p) (sym c.as_slice.ensures) ∙ (rw c.in-Err-NoOption.field-0-is at c.in-Err-NoOption.ensures.decodes) in
    fails_option (form c.args.class.now) (env p.frame.now) p.scopes.now p.end p.spent (g.S.Source.ending c.args.intake.now.source.now) c.loop-decoded.intake.buffer.now (g.S.Source.left c.loop-decoded.intake.source.now) asks

pub returns-in-Err-TooManyValues-clause-faulty : goal.returns-in-Err-TooManyValues-clause-faulty
returns-in-Err-TooManyValues-clause-faulty g c = λ tells.
    let p = c.args.place.now in
    let asks = ap (found_at c.args.class.now p) (sym c.as_slice.ensures) ∙ (rw c.in-Err-TooManyValues.field-0-is at c.in-Err-TooManyValues.ensures.decodes) in
    fails_many (form c.args.class.now) (env p.frame.now) p.scopes.now p.end p.spent (g.S.Source.ending c.args.intake.now.source.now) c.loop-decoded.intake.buffer.now (g.S.Source.left c.loop-decoded.intake.source.now) asks
