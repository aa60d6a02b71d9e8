use Rattle.std.proofs.Common.{◌≡◌, ◌≤◌, take}
use Rattle.ctf_class.specs.Records.{IsShown}
use Rattle.ctf_class.specs.declared.class.Class.{Class}
use Rattle.ctf_decode.specs.Views.{form}
use Rattle.ctf_decode.specs.declared.scopes.TheConstants.{MOST_VALUES}
use Rattle.ctf_format.specs.Branches.{Anywhere}
use Rattle.ctf_format.specs.Put.{IsWithin}
use Rattle.ctf_format.specs.Texts.{value_text}
use Rattle.ctf_format.proofs.ElementsLemmas.{Going}
use Rattle.ctf_format.proofs.StandingLemmas.{mark_at}
use Rattle.ctf_format.proofs.shown_row.put_shown_row.Given as goal

abbrev pub invariant-loop-i : goal.invariant-loop-i
invariant-loop-i l = record {
  within : IsWithin l.packet l.at.place l.buffer l.at.text;
  few : l.more ≤ MOST_VALUES;
  marked : l.mark ≡ mark_at 91 l.i;
  going : (k : Class) → IsShown 0 k l.shown → Going Anywhere l.packet.bytes.now l.packet.end (form k) (value_text k) l.count l.fn.from.place l.i l.at.place l.more (take l.fn.from.text l.fn.buffer.items) (take l.at.text l.buffer.items);
}
