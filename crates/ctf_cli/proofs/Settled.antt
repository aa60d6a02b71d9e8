-- What a log holds where nothing is held back.
use Rattle.std.proofs.Common.{◌≡◌, ℕ, Option, Some, None, List, [], ◌∷◌, IsTrue, unwrap_or, refl, sym, append-nil}
use Rattle.std.proofs.lemmas.Bool.{false≢true}
use Rattle.std.specs.Io.KnownBytes.{append_known}
use Rattle.ctf_cli.specs.LogWriters.{is_empty}

-- then the inner writer has all of it
pub all_passed : (known : Option (List ℕ)) (held : List ℕ) → IsTrue (is_empty held) → unwrap_or known [] ≡ unwrap_or (append_known known held) []
all_passed None [] nothing = refl
all_passed (Some bytes) [] nothing = sym (append-nil bytes)
all_passed known (byte ∷ held) nothing = absurd (false≢true nothing)
