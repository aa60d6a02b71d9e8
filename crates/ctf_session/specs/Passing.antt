-- What streams have given of their bytes, and what of these is held.
use Rattle.std.specs.Prelude.{◌≡◌, ℕ, ◌+◌, ◌≤◌, false, List, [], ◌∷◌, Option, Some, None}
use Rattle.std.specs.List.{AllZip}
use Rattle.ctf_merge.specs.Merged.{Placed, advance}
use Rattle.ctf_merge.specs.Merges.{LeavesOne}
use Rattle.ctf_packet.specs.Classes.{Classes}
use Rattle.ctf_packet.specs.Items.{Run, Item}
use Rattle.ctf_packet.specs.declared.fault.StreamFault.{StreamFault}
use Rattle.ctf_fetch.specs.Fetching.{longest_bytes}
use Rattle.ctf_stream.specs.Reader.{Reader, coming, rest_of, OrRefused, packet_end, packet_length}
use Rattle.ctf_session.specs.Answers.{Setting, verdict, is_after}

-- what is to come of each reader is what its stream means, unless an allocation failed
abbrev pub EachMeans : List (Run Classes) → List Reader → Type 0
EachMeans runs readers = AllZip (λ run r. OrRefused run (coming r)) runs readers

-- Where this is to come of a stream of so many bytes: with a next item it has given exactly the bytes to the end of the
-- packet that holds the item, which is held; at its end all, and nothing is held; before a fault those of the packets
-- before the faulty one and at most a packet and a byte more, and nothing is held.
abbrev pub GivenBy : List (Item Classes) → Option StreamFault → ℕ → ℕ → ℕ → ℕ → Type 0
GivenBy (x ∷ xs) fault at all taken held = (taken ≡ packet_end x) × (held ≡ packet_length x)
GivenBy [] None at all taken held = (taken ≡ all) × (held ≡ 0)
GivenBy [] (Some f) at all taken held = (at ≤ taken) × (taken ≤ at + longest_bytes + 1) × (held ≡ 0)

abbrev pub HasGiven : Run Classes → ℕ → Reader → Type 0
HasGiven run all r = GivenBy run.items run.fault run.at all r.taken r.held

-- the runs of several streams of which these items were gone past, one after the other
abbrev pub without : List Placed → List (Run Classes) → List (Run Classes)
without [] runs = runs
without (x ∷ xs) runs = without xs (advance x.number runs)

-- From these readers come those, each by one reader that goes past its item, while no allocation fails.
abbrev pub Pass : List Placed → List Reader → List Reader → Type 0
Pass [] old new = new ≡ old
Pass (x ∷ xs) old new =
    (next : List Reader) × (it : LeavesOne x.number old next) × (it.left ≡ x.item)
    × (coming it.after ≡ rest_of it.before) × Pass xs next new

-- From these readers come those, each by one reader that goes past its item, none that is after the end of what is
-- asked for.
pub data PassesWithin (setting : Setting) (old : List Reader) : List Reader → Type 0 where
  still : PassesWithin setting old old
  passed : (now new : List Reader) (x : Placed) → PassesWithin setting old now
      → (it : LeavesOne x.number now new) → it.left ≡ x.item
      → is_after (verdict setting x) ≡ false → PassesWithin setting old new
