-- Event records that are passed over by their plan (all own).
use Rattle.std.specs.Prelude.{◌≡◌, ℕ, ◌+◌, ◌≤◌, List, ◌++◌, Option}
use Rattle.std.specs.Int.{next_multiple_of}
use Rattle.ctf_class.specs.Records.{Slot}
use Rattle.ctf_class.specs.declared.class.Class.{Class}
use Rattle.ctf_decode.specs.Views.{form}
use Rattle.ctf_format.specs.Records.{PutsField, PutsFields, PutsOther, IsLastOf, after_number, reached}
use Rattle.ctf_format.specs.Standing.{PutsSome}
use Rattle.ctf_format.specs.Texts.{value_text}
use Rattle.ctf_format.specs.declared.content.Content.{Content}
use Rattle.ctf_format.specs.declared.passed_record.Element.{Element}
use Rattle.ctf_format.specs.declared.placed_run.PlacedRun.{PlacedRun}
use Rattle.ctf_format.specs.declared.planned_record.Reach.{Reach}
use Rattle.ctf_format.specs.declared.standing.Last.TheVariants as lasts
use Rattle.ctf_format.specs.declared.standing.Next.{Next}

-- values whose text would be put so after any text
abbrev pub Passes : (List ℕ → List ℕ → Type 0) → Type 0
Passes Puts = (before : List ℕ) → (after : List ℕ) × Puts before after

-- a value goes as far as this
abbrev pub next_at : Reach → Next
next_at r = record { place = r.place; text = 0; more = r.more; last = lasts.Unknown }

-- the first of some fields go from a place to another, and the others are left
abbrev pub PassesFields : List Slot → List Slot → Content → Reach → Reach → Type 0
PassesFields slots others packet from to =
    Passes (λ before after. (used : List Slot) × (slots ≡ used ++ others)
    × PutsFields used packet.bytes.now packet.end (reached from before) (reached to after))

-- such an element takes so many bits from a multiple of its alignment on, wherever it is in the content, and is so many
-- values
pub record IsElement (packet : Content) (e : Element) (k : Class) : Type 0 where
  pub align : e.align ≡ k.align
  pub stands : (place : ℕ) → next_multiple_of place e.align + e.span ≤ packet.end
      → Passes (PutsSome (form k) (value_text k) e.count packet.bytes.now packet.end place
      (next_multiple_of place e.align + e.span))

-- a field after the numbers of a run goes from a place to another
abbrev pub PassesField : Slot → PlacedRun → Reach → Reach → Type 0
PassesField slot placed from to =
    Passes (λ before after. (last : Option ℕ) × IsLastOf placed last
    × PutsField slot placed.packet.now.bytes.now placed.packet.now.end
    (after_number from last before) (reached to after))

-- a value of a class after so many members of its structure, and after the numbers of a run, goes from a place to
-- another
abbrev pub PassesOther : ℕ → Class → PlacedRun → Reach → Reach → Type 0
PassesOther index class placed from to =
    Passes (λ before after. (last : Option ℕ) × IsLastOf placed last
    × PutsOther index last (form class) (value_text class)
    placed.packet.now.bytes.now placed.packet.now.end from before to after)
