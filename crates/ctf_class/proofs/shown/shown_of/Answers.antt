use Rattle.std.proofs.Common.{◌∙◌, ap, sym}
use Rattle.std.proofs.lemmas.Result.{IfOk-weaker}
use Rattle.ctf_class.specs.declared.class.Kind as kinds
use Rattle.ctf_class.proofs.shown.shown_of.Goals as goal

pub returns-in-Some : goal.returns-in-Some
returns-in-Some c = IfOk-weaker c.array_of.result _ _ (λ shown made. made c.args.index c.args.class.now c.in-Array.length (c.in-Array.is ∙ ap (kinds.Array c.in-Array.length) (sym c.get.ensures)) c.in-Some.ensures) c.array_of.ensures

pub returns-in-Text : goal.returns-in-Text
returns-in-Text c = c.text_of.ensures c.args.class.now c.in-Text.is
