-- What a beginning of a packet holds.
use Rattle.std.specs.Prelude.{ℕ, ◌*◌, ◌≤◌, List, [], ◌++◌, length}
use Rattle.ctf_decode.specs.Values.{Val}
use Rattle.ctf_decode.specs.Forms.{Form}
use Rattle.ctf_decode.specs.Stands.{Stands}
use Rattle.ctf_decode.specs.Breaks.{Fault, too_many, no_option}
use Rattle.ctf_decode.specs.Known.{Known}
use Rattle.ctf_decode.specs.Views.{input_in}
use Rattle.ctf_decode.specs.declared.decoding.Decoded.{Decoded}
use Rattle.ctf_decode.specs.declared.fault.DecodeFault.{DecodeFault}
use Rattle.ctf_decode.specs.declared.fault.DecodeFault.TheVariants.{ContentEnds, NoOption, TooManyValues, NoMemory}
use Rattle.ctf_decode.specs.declared.front.Front.{Front}
use Rattle.ctf_decode.specs.declared.front.Front.TheVariants.{Done, Need}

abbrev pub OnDone : (Decoded → Type 0) → Front → Type 0
OnDone P (Done d) = P d
OnDone P (Need n) = Unit {0}

abbrev pub OnNeed : (ℕ → Type 0) → Front → Type 0
OnNeed P (Done d) = Unit {0}
OnNeed P (Need n) = P n

-- every packet with this beginning in which a value is there has a content of at least n bits (own)
abbrev pub Needed : Form → List ℕ → Known → ℕ → ℕ → Type 0
Needed k front known start n =
    (more : List ℕ) (whole : ℕ) (v : Val) (q : ℕ) → 8 * length front ≤ whole
    → Stands k (input_in (front ++ more) whole known) [] start v q → n ≤ whole

-- the reported fault is there, unless memory ran out; a content that ends is none
abbrev pub ToldInFront : (Fault → Type 0) → DecodeFault → Type 0
ToldInFront B (ContentEnds e) = ⊥
ToldInFront B NoOption = B no_option
ToldInFront B TooManyValues = B too_many
ToldInFront B NoMemory = Unit {0}
