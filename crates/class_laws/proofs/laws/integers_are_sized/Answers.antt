use Rattle.class_laws.proofs.Widths.{denoted_sized}
use Rattle.class_laws.proofs.laws.integers_are_sized.Goals as goal

pub returns : goal.returns
returns c = λ tree class shift d. denoted_sized tree class shift d
