-- What is known of structures of numbers before they are written (all own).
use Rattle.std.specs.Prelude.{◌≡◌, ◌+◌, ◌^◌, ◌≤◌}
use Rattle.std.specs.List.{All}
use Rattle.ctf_class.specs.Integers.{bits_of}
use Rattle.ctf_class.specs.Records.{have_special, numbers_room}
use Rattle.ctf_class.specs.declared.structures.Structures.{Structures}
use Rattle.ctf_format.specs.RunNumbers.{IsPlaced}

-- How much room the text of one takes, that its span is short, whether it has special numbers, that all its numbers are
-- within its span, and that their windows are those of their integers.
pub record IsNearStructure (s : Structures) : Type 0 where
  pub room : s.room ≡ numbers_room s.numbers
  pub bounded : s.span ≤ 2 ^ 33
  pub special : s.has_special ≡ have_special s.numbers
  pub within_span : All (λ n. n.window.place + bits_of n.integer ≤ s.span) s.numbers
  pub placed : All IsPlaced s.numbers
