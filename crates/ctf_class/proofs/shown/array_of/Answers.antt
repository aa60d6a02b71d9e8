use Rattle.std.proofs.Common.{refl}
use Rattle.std.proofs.lemmas.Result.{IfOk-weaker}
use Rattle.ctf_class.proofs.shown.array_of.Goals as goal

pub returns-in-Integer : goal.returns-in-Integer
returns-in-Integer c = λ index m length is long.
    (length, long, (c.args.element.now, is, (c.in-Integer.is, refl)))

pub returns : goal.returns
returns c = IfOk-weaker c.structures_of.result _ _ (λ shown made index m length is long.
    made index m (λ are one. (length, long, (c.args.element.now, is, one)))) c.structures_of.ensures
