use Rattle.std.proofs.Common.{◌≡◌, false, sym, refl}
use Rattle.std.specs.Str.Parse.{starts_with_minus}
use Rattle.std.specs.Char.{encode_utf8}
use Rattle.ctf_options.proofs.Digits.{no_minus}
use Rattle.ctf_options.proofs.number.sign.Goals as goal

pub returns-in-None-clause-minus : goal.returns-in-None-clause-minus
unfolding encode_utf8
returns-in-None-clause-minus c =
    sym (no_minus c.args.text.now c.in-None.ensures.cases)

pub returns-in-None-clause-rest : goal.returns-in-None-clause-rest
unfolding encode_utf8
returns-in-None-clause-rest c =
    let none : starts_with_minus c.args.text.now ≡ false = no_minus c.args.text.now c.in-None.ensures.cases in
    rw none refl
