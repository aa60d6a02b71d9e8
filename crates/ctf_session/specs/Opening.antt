-- Readers of streams that have fetched nothing.
use Rattle.std.specs.Prelude.{◌≡◌, ℕ, ℤ, List, Option, IsTrue}
use Rattle.std.specs.List.{All, AllZip}
use Rattle.ctf_merge.specs.Merged.{item}
use Rattle.ctf_merge.specs.Merges.{Merge, first_now, writes_of}
use Rattle.ctf_packet.specs.Classes.{Classes}
use Rattle.ctf_packet.specs.Items.{Item}
use Rattle.ctf_packet.specs.ItemTimes.{time_of}
use Rattle.ctf_stream.specs.Asked.{texts_of}
use Rattle.ctf_stream.specs.Reader.{Reader, start, coming, IsOnLine}
use Rattle.ctf_session.specs.Inputs.{Input, run_in}
use Rattle.ctf_stream.specs.declared.texts.Texts.{Texts}
use Rattle.ctf_options.specs.declared.options.Options.{Options}
use Rattle.ctf_timestamp.specs.Trims.{verdict_of}
use Rattle.ctf_timestamp.specs.declared.trim.Trim.{Trim}
use Rattle.ctf_timestamp.specs.declared.trim.Verdict.TheVariants.{Within}

-- a reader of a stream, at its start, asked for texts from the beginning on
pub record Opens (asked : Options) (i : Input) (r : Reader) : Type 0 where
  pub told : IsTrue i.given.tells → coming r ≡ run_in asked.shift i
  pub writes : r.writes ≡ texts_of asked.trim.begin
  pub name : r.name ≡ i.name
  pub tells : r.tells ≡ i.given.tells
  pub left : r.left ≡ i.given.bytes
  pub taken : r.taken ≡ 0
  pub ahead : r.ahead ≡ start
  pub on_line : IsOnLine r

abbrev pub EachOpens : Options → List Input → List Reader → Type 0
EachOpens asked inputs readers = AllZip (Opens asked) inputs readers

-- readers are asked for texts from a time on, if it is given
abbrev pub AreAsked : Option ℤ → List Texts → Type 0
AreAsked begin writes = All (λ w. w ≡ texts_of begin) writes

-- the item that comes next is within an interval, and texts are asked for from its beginning on
pub record IsWanted (m : Merge) (number : ℕ) : Type 0 where
  pub trim : Trim
  pub asked : AreAsked trim.begin (writes_of m.readers)
  pub within : (next : Item Classes) → first_now m ≡ item number next
      → verdict_of trim (time_of next) ≡ Within
