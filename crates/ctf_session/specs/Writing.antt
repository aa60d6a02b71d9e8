-- What a call writes to two sinks.
use Rattle.std.specs.Prelude.{◌≡◌, ◌⊎◌, ℕ, Bool, IsTrue, List, [], ◌∷◌, ◌++◌}

-- what goes to the two sinks: lines and messages
pub record Texts : Type 0 where
  pub output : List ℕ
  pub messages : List ℕ

abbrev pub no_texts : Texts
no_texts = record { output = []; messages = [] }

abbrev pub and_then : Texts → Texts → Texts
and_then a b = record { output = a.output ++ b.output; messages = a.messages ++ b.messages }

-- pieces, one after the other
abbrev pub joined : List Texts → Texts
joined [] = no_texts
joined (t ∷ ts) = and_then t (joined ts)

-- what both sinks held before a call and hold after it, and whether nothing of the log is held back then
pub record Written : Type 0 where
  pub old_output : List ℕ
  pub new_output : List ℕ
  pub old_messages : List ℕ
  pub new_messages : List ℕ
  pub settled : Bool

-- what both sinks held and hold, by the sinks themselves
module _ {O E : Type 0} (lines : O → List ℕ) (settled : O → Bool) (messages : E → List ℕ) where
  abbrev pub written_by : O → E → O → E → Written
  written_by old_out old_err new_out new_err = record {
    old_output = lines old_out;
    new_output = lines new_out;
    old_messages = messages old_err;
    new_messages = messages new_err;
    settled = settled new_out;
  }

-- the texts, all of them
pub record Writes (w : Written) (texts : Texts) : Type 0 where
  pub output : w.new_output ≡ w.old_output ++ texts.output
  pub messages : w.new_messages ≡ w.old_messages ++ texts.messages

-- a first part of a text, and no more
pub record WritesPart (old new text : List ℕ) : Type 0 where
  pub piece : List ℕ
  pub rest : List ℕ
  pub splits : text ≡ piece ++ rest
  pub wrote : new ≡ old ++ piece

-- a first part of each
pub record WritesParts (w : Written) (texts : Texts) : Type 0 where
  pub output : WritesPart w.old_output w.new_output texts.output
  pub messages : WritesPart w.old_messages w.new_messages texts.messages

-- ---- pieces in their order

-- what was written after these texts
abbrev pub after_texts : Texts → Written → Written
after_texts texts w = record w {
  old_output = w.old_output ++ texts.output;
  old_messages = w.old_messages ++ texts.messages;
}

-- no message was written, or nothing of the log is held back
abbrev pub SaysSettled : Written → Type 0
SaysSettled w = (w.new_messages ≡ w.old_messages) ⊎ IsTrue w.settled

-- the first piece, or no text where there is none
abbrev pub first_of : List Texts → Texts
first_of [] = no_texts
first_of (t ∷ ts) = t

-- The first pieces were written, each of them whole and in their order, then a first part of the next one, and nothing
-- after that. Where it is a part of a message, nothing of the log is held back.
pub record Stopped (pieces : List Texts) (w : Written) : Type 0 where
  pub before : List Texts
  pub after : List Texts
  pub splits : pieces ≡ before ++ after
  pub wrote : WritesParts (after_texts (joined before) w) (first_of after)
  pub settled : SaysSettled (after_texts (joined before) w)

-- the last piece has a message
abbrev pub EndsInMessage : List Texts → Type 0
EndsInMessage [] = ⊥
EndsInMessage (t ∷ []) = t.messages ≡ [] → ⊥
EndsInMessage (t ∷ (u ∷ ts)) = EndsInMessage (u ∷ ts)

-- All pieces were written. Where the last is a message, nothing of the log is held back.
pub record Finished (pieces : List Texts) (w : Written) : Type 0 where
  pub wrote : Writes w (joined pieces)
  pub settled : EndsInMessage pieces → IsTrue w.settled
