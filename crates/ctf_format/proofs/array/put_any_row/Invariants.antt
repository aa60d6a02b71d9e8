use Rattle.std.proofs.Common.{◌≡◌, take}
use Rattle.ctf_decode.specs.Forms as forms
use Rattle.ctf_format.proofs.ArrayLemmas.{Going}
use Rattle.ctf_format.specs.Put.{IsWithin}
use Rattle.ctf_format.specs.Texts.{integer_text}
use Rattle.ctf_format.proofs.StandingLemmas.{mark_at}
use Rattle.ctf_format.proofs.array.put_any_row.Given as goal

abbrev pub invariant-loop-i : goal.invariant-loop-i
invariant-loop-i l = record {
  within : IsWithin l.packet l.at.place l.buffer l.at.text;
  marked : l.mark ≡ mark_at 91 l.i;
  going : Going (forms.integer l.class.align l.class.integer.now) (integer_text l.class.integer.now) 1 l.count l.packet.bytes.now l.packet.end l.fn.from.place l.i l.at.place (take l.fn.from.text l.fn.buffer.items) (take l.at.text l.buffer.items);
}
