use Rattle.std.proofs.Common.{◌≡◌, to_z, of_z, w64, FitsSigned, sym, ap, ◌∙◌, arith}
use Rattle.std.proofs.lemmas.Int.{ints}
use Rattle.ctf_timestamp.proofs.Putting.{put_both, put_as}
use Rattle.ctf_timestamp.proofs.Parts.{end_plain, end_delta}
use Rattle.ctf_timestamp.specs.Stamps.{delta_text}
use Rattle.ctf_timestamp.specs.declared.style.Style.{Style}
use Rattle.ctf_timestamp.proofs.stamper.Stamper.put_end.Goals as goal

pub returns-then-not-self-clause-put : goal.returns-then-not-self-clause-put
returns-then-not-self-clause-put c =
    put_as c.put_two.ensures (end_plain c.args.self.now c.args.last c.args.time (ap (λ (s : Style). s.delta) (sym c.self.view_is) ∙ c.if-not-self.true))

pub returns-in_default-clause-put : goal.returns-in_default-clause-put
returns-in_default-clause-put c =
    let fits : FitsSigned w64 c.args.time = c.ranges.time in
    let time : c.args.time ≡ to_z w64 (of_z w64 c.args.time) = omega (arith, ints) in
    put_as c.put_any_delta.ensures.put (end_delta c.args.self.now c.args.last c.args.time _ (ap (λ (s : Style). s.delta) (sym c.self.view_is) ∙ c.if-not-self.false) (ap (delta_text c.args.last) time))

pub returns-clause-put : goal.returns-clause-put
returns-clause-put c =
    let fits : FitsSigned w64 c.args.time = c.ranges.time in
    let time : c.args.time ≡ to_z w64 (of_z w64 c.args.time) = omega (arith, ints) in
    put_as (put_both (put_both c.put_bytes-at.ensures c.put_nine-at.ensures) c.put_two-2.ensures)
    (end_delta c.args.self.now c.args.last c.args.time _ (ap (λ (s : Style). s.delta) (sym c.self.view_is) ∙ c.if-not-self.false) (ap (delta_text c.args.last) time ∙ c.in-Some.ensures.text))
