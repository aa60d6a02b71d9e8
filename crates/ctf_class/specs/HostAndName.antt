-- What is printed between an event's time and its fields.
use Rattle.std.specs.Prelude.{ℕ, Bool, true, false, List, [], ◌++◌, Option, Some, None, codes}
use Rattle.ctf_class.specs.Escapes.{escaped}

-- the host of a trace, and the name of an event class
pub record HostAndName : Type 0 where
  pub host : Option (List ℕ)
  pub name : List ℕ

-- the host and a space, where there is one (own)
abbrev pub host_text : Option (List ℕ) → List ℕ
host_text None = []
host_text (Some host) = escaped host ++ codes " "

-- the host, the name and a colon (own)
abbrev pub heading_text : HostAndName → List ℕ
heading_text heading = host_text heading.host ++ (escaped heading.name ++ codes ": ")

-- the host's text, where it is a text of its own
abbrev pub text_apart : Bool → Option (List ℕ) → List ℕ
text_apart true host = host_text host
text_apart false _ = []

-- a text after another, where there is one
abbrev pub host_then : Option (List ℕ) → List ℕ → List ℕ
host_then None rest = rest
host_then (Some host) rest = host ++ rest
