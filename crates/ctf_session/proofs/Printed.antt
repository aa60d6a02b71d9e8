-- Texts that were put to a sink.
use Rattle.std.proofs.Common.{◌≡◌, ℕ, Bool, List, [], ◌++◌, Result, Ok, Err, OnOk, OnErr, sym, ◌∙◌}
use Rattle.std.proofs.lemmas.List.{append-nil}
use Rattle.ctf_bits.specs.declared.sink.SinkFault.{SinkFault}
use Rattle.ctf_bits.specs.declared.sink.SinkFault.TheVariants as sink
use Rattle.ctf_session.specs.Printing.{Prints, stop_of}
use Rattle.ctf_session.specs.Writing.{Texts, WritesPart, WritesParts}
use Rattle.ctf_session.proofs.Pieces.{WritesPart-none}
use Rattle.ctf_session.proofs.Reaching.{written}

same : (old new text : List ℕ) → new ≡ old → WritesPart old new text
same old new text e = rw e (WritesPart-none old text)

-- a line
pub printed_line : (r : Result Unit SinkFault) (text line o0 o1 err : List ℕ) (settled : Bool) → text ≡ line → OnOk r (o1 ≡ o0 ++ text) → OnErr r (WritesPart o0 o1 text)
    → Prints (record { output = line; messages = [] }) (stop_of r) (written o0 o1 err err settled)
printed_line (Ok done) text line o0 o1 err settled is all part = record { output = rw is at all; messages = sym (append-nil err) }
printed_line (Err sink.Failed) text line o0 o1 err settled is all part = record { output = rw is at part; messages = WritesPart-none err [] }
printed_line (Err sink.NoMemory) text line o0 o1 err settled is all part = record { output = rw is at part; messages = WritesPart-none err [] }

-- a message, after a log that was passed on
pub printed_message : (r : Result Unit SinkFault) (text o0 o1 e0 e1 : List ℕ) (settled : Bool) → o1 ≡ o0 → OnOk r (e1 ≡ e0 ++ text) → OnErr r (WritesPart e0 e1 text)
    → Prints (record { output = []; messages = text }) (stop_of r) (written o0 o1 e0 e1 settled)
printed_message (Ok done) text o0 o1 e0 e1 settled kept all part = record { output = kept ∙ sym (append-nil o0); messages = all }
printed_message (Err sink.Failed) text o0 o1 e0 e1 settled kept all part = record { output = same o0 o1 [] kept; messages = part }
printed_message (Err sink.NoMemory) text o0 o1 e0 e1 settled kept all part = record { output = same o0 o1 [] kept; messages = part }

-- nothing, where the log was not passed on
pub printed_nothing : (fault : SinkFault) (texts : Texts) (o0 o1 err : List ℕ) (settled : Bool) → o1 ≡ o0 → Prints texts (stop_of (Err fault)) (written o0 o1 err err settled)
printed_nothing sink.Failed texts o0 o1 err settled kept = record { output = same o0 o1 texts.output kept; messages = WritesPart-none err texts.messages }
printed_nothing sink.NoMemory texts o0 o1 err settled kept = record { output = same o0 o1 texts.output kept; messages = WritesPart-none err texts.messages }

pub WritesParts-nothing : (out err : List ℕ) (settled : Bool) (texts : Texts) → WritesParts (written out out err err settled) texts
WritesParts-nothing out err settled texts = record { output = WritesPart-none out texts.output; messages = WritesPart-none err texts.messages }
