use Rattle.std.proofs.Common.{◌≡◌, ◌+◌, ◌*◌, ◌%◌, ◌≤◌, take, vec_len}
use Rattle.ctf_decode.specs.Forms as forms
use Rattle.ctf_format.proofs.ArrayLemmas.{Going}
use Rattle.ctf_format.specs.Texts.{integer_text}
use Rattle.ctf_format.proofs.StandingLemmas.{mark_at}
use Rattle.ctf_format.proofs.byte_integers.ByteIntegers.put_elements.Given as goal

abbrev pub invariant-loop-i : goal.invariant-loop-i
invariant-loop-i l = record {
  held : l.text ≤ vec_len l.buffer;
  there : l.first ≡ l.self.first + l.self.step * l.i;
  begins : (8 * l.first) % l.self.align ≡ 0;
  marked : l.mark ≡ mark_at 91 l.i;
  going : Going (forms.integer l.self.align l.self.integer.now) (integer_text l.self.integer.now) 1 l.self.count l.self.packet.now.bytes.now l.self.packet.now.end (8 * l.self.first) l.i (8 * l.first) (take l.fn.at l.fn.buffer.items) (take l.text l.buffer.items);
}
