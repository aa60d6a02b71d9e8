-- Laws of sessions.
use Rattle.std.specs.Prelude.{◌≡◌, ◌⊎◌, ℕ, ℤ, ◌+◌, ◌++◌, List, [], map, length, Option, Some, slice_get}
use Rattle.std.specs.List.{AllByRecursion}
use Rattle.ctf_merge.specs.Merged.{Merged, Placed, run_at}
use Rattle.ctf_merge.specs.Merges.{EachFetched, EachOnLine, EachAllTaken}
use Rattle.ctf_stream.specs.Reader.{Reader, coming}
use Rattle.ctf_session.specs.Answers.{Setting, answer}
use Rattle.ctf_session.specs.Passing.{Pass, without, HasGiven}
use Rattle.ctf_session.specs.Writing.{Texts, joined, Written, WritesParts, Stopped}

-- Whatever items were gone past, while no allocation failed: each stream has given the bytes to the end of the packet
-- of its next item, at its end all, and before a fault at most a packet and a byte more than the packets before it.
abbrev pub BytesGiven : Type 0
BytesGiven =
    (items : List Placed) (first readers : List Reader) → EachFetched first
    → Pass items first readers → EachOnLine readers → EachAllTaken readers
    → (i : ℕ) (r : Reader) → slice_get readers i ≡ Some r
    → HasGiven (run_at i (without items (map coming first))) (r.taken + length r.left) r

-- What was written where a run stopped is a first part of the whole output, and a first part of all messages.
abbrev pub FirstParts : Type 0
FirstParts = (pieces : List Texts) (w : Written) → Stopped pieces w → WritesParts w (joined pieces)

-- Each piece of an answer goes to one sink: it is a line, or it is a message.
abbrev pub OneSinkEach : Type 0
OneSinkEach = (setting : Setting) (last : Option ℤ) (m : Merged)
    → AllByRecursion (λ t. (t.output ≡ []) ⊎ (t.messages ≡ [])) (answer setting last m).pieces

-- So where a run stopped, nothing of its next piece went to one of the sinks, which has whole pieces.
abbrev pub WholeInOne : Type 0
WholeInOne =
    (setting : Setting) (last : Option ℤ) (m : Merged) (w : Written)
    → (s : Stopped (answer setting last m).pieces w)
    → (w.new_output ≡ w.old_output ++ (joined s.before).output)
    ⊎ (w.new_messages ≡ w.old_messages ++ (joined s.before).messages)
