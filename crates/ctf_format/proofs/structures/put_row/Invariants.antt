use Rattle.std.proofs.Common.{◌≡◌, take}
use Rattle.ctf_class.specs.Records.{IsStructure}
use Rattle.ctf_class.specs.declared.class.Class.{Class}
use Rattle.ctf_decode.specs.Views.{form}
use Rattle.ctf_format.proofs.ArrayLemmas.{Going}
use Rattle.ctf_format.specs.Put.{IsWithin}
use Rattle.ctf_format.specs.Texts.{value_text}
use Rattle.ctf_format.proofs.StandingLemmas.{mark_at}
use Rattle.ctf_format.proofs.structures.put_row.Given as goal

abbrev pub invariant-loop-i : goal.invariant-loop-i
invariant-loop-i l = record {
  within : IsWithin l.packet l.at.place l.buffer l.at.text;
  marked : l.mark ≡ mark_at 91 l.i;
  going : (k : Class) → IsStructure k l.are → Going (form k) (value_text k) l.are.count l.count l.packet.bytes.now l.packet.end l.fn.from.place l.i l.at.place (take l.fn.from.text l.fn.buffer.items) (take l.at.text l.buffer.items);
}
