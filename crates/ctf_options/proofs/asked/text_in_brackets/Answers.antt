use Rattle.std.proofs.Common.{arith}
use Rattle.std.specs.Char.{encode_utf8}
use Rattle.ctf_options.proofs.LastByte.{bracketed, plain}
use Rattle.std.proofs.lemmas.Str.Pattern.{strip_prefix_char, strip_suffix_char}
use Rattle.ctf_options.proofs.asked.text_in_brackets.Goals as goal

pub returns-in-Some : goal.returns-in-Some
unfolding encode_utf8
returns-in-Some c =
    let front = strip_prefix_char 91 c.args.text.now c.strip_prefix.result c.strip_prefix.ensures.cases (omega arith) in
    let here = rw c.in-Some.is at front in
    bracketed c.args.text.now c.in-Some.rest.now c.strip_suffix.result
    here
    (strip_suffix_char 93 c.in-Some.rest.now c.strip_suffix.result c.strip_suffix.ensures.cases (omega arith))

pub returns-in-None : goal.returns-in-None
unfolding encode_utf8
returns-in-None c = plain c.args.text.now c.in-None.ensures.cases
