use Rattle.std.proofs.Common.{◌≡◌, ◌*◌, length, take, min, vec_len}
use Rattle.ctf_class.specs.Words.{first_bytes}
use Rattle.ctf_class.proofs.words.words_of.Given as goal

-- the words so far hold the text as far as they go
abbrev pub invariant-loop-i : goal.invariant-loop-i
invariant-loop-i l = record {
  counted : vec_len l.words ≡ l.i;
  bytes : first_bytes l.words.items (min (8 * l.i) (length l.text)) ≡ take (min (8 * l.i) (length l.text)) l.text;
}
