-- Laws of what the bytes of a stream mean.
use Rattle.std.specs.Prelude.{◌≡◌, ℕ, Bool, true, List, [], ◌∷◌, ◌++◌, take, None}
use Rattle.ctf_bits.specs.declared.source.Ending.{Ending}
use Rattle.ctf_bits.specs.declared.source.Ending.TheVariants.{Clean}
use Rattle.ctf_packet.specs.Classes.{Classes, TraceForm}
use Rattle.ctf_packet.specs.Items.{Item, run_of}
use Rattle.stream_laws.specs.Times.{Rises, AreTimed}
use Rattle.stream_laws.specs.Holding.{packet_end, is_in_rest, IsHeld}

-- the times of a stream's items never fall
abbrev pub TimesRise : Type 0
TimesRise =
    (trace : TraceForm Classes) (ending : Ending) (bytes : List ℕ)
    → Rises None (run_of trace ending bytes).items

-- of a stream's items either each has a time or none has
abbrev pub AllTimedOrNone : Type 0
AllTimedOrNone =
    (trace : TraceForm Classes) (ending : Ending) (bytes : List ℕ)
    → (timed : Bool) × AreTimed timed (run_of trace ending bytes).items

-- the packet of each item of a stream is there
abbrev pub ItemsAreHeld : Type 0
ItemsAreHeld =
    (trace : TraceForm Classes) (ending : Ending) (bytes : List ℕ)
    (first rest : List (Item Classes)) (x : Item Classes)
    → (run_of trace ending bytes).items ≡ first ++ x ∷ rest → IsHeld trace ending bytes x

-- Let an item be among those of a stream. Each stream that begins with the same bytes up to the end of the item's
-- packet, whatever follows there and however it ends, has the same items up to this one and this one. Only where the
-- packet is the rest of the stream, the other stream must end there too, and cleanly.
abbrev pub LaterBytesChangeNothing : Type 0
LaterBytesChangeNothing =
    (trace : TraceForm Classes) (ending other_ending : Ending) (bytes more : List ℕ)
    (first rest : List (Item Classes)) (x : Item Classes)
    → (run_of trace ending bytes).items ≡ first ++ x ∷ rest
    → (is_in_rest trace bytes x ≡ true → (other_ending ≡ Clean) × (more ≡ []))
    → (others : List (Item Classes))
    × ((run_of trace other_ending (take (packet_end x) bytes ++ more)).items ≡ first ++ x ∷ others)
