-- What a route finds: lengths, tags and options.
use Rattle.std.specs.Prelude.{ℕ, ℤ, List, [], ◌∷◌, Option, Some, None, option_and_then, slice_get}
pub use Rattle.ctf_class.specs.Choices.{chosen}
pub use Rattle.ctf_class.specs.Labels.{covers}
use Rattle.ctf_class.specs.declared.route.Scope.{Scope}
use Rattle.ctf_class.specs.declared.route.Origin.{Origin}
use Rattle.ctf_class.specs.declared.route.Origin.TheVariants.{Enclosing, Earlier}
use Rattle.ctf_class.specs.declared.route.Route.{Route}
use Rattle.ctf_class.specs.declared.route.Length.{Length}
use Rattle.ctf_class.specs.declared.route.Length.TheVariants.{Fixed, Field}
use Rattle.ctf_class.specs.declared.span.Choice.{Choice}
use Rattle.ctf_decode.specs.Values.{Val, unsigned, label, down}
use Rattle.ctf_decode.specs.Input.{Env}

-- what some steps find among the earlier members of one structure
abbrev pub inside : List ℕ → List Val → Option Val
inside [] vs = None
inside (i ∷ is) vs = option_and_then (down is) (slice_get vs i)

abbrev pub found_from : Origin → List ℕ → (Scope → Option Val) → Env → Option Val
found_from (Enclosing k) steps earlier env = option_and_then (inside steps) (slice_get env k)
found_from (Earlier scope) steps earlier env = option_and_then (down steps) (earlier scope)

-- the value that a route leads to: an earlier member of an enclosing structure, or a field of an earlier
-- scope (CTF 1.8.3, section 7.3.2)
unfoldable pub found : Route → (Scope → Option Val) → Env → Option Val
found route earlier env = found_from route.origin route.steps earlier env

-- a length that is not there is 0 (own)
abbrev pub number_of : Option Val → ℕ
number_of (Some (unsigned n)) = n
number_of _ = 0

-- how many elements an array has (CTF 1.8.3, sections 4.2.3 and 4.2.4)
abbrev pub length_of : Length → (Scope → Option Val) → Env → ℕ
length_of (Fixed n) earlier env = n
length_of (Field route) earlier env = number_of (found route earlier env)

abbrev pub tag_of : Option Val → Option ℤ
tag_of (Some (label z)) = Some z
tag_of _ = None

-- the option that the tag names (CTF 1.8.3, section 4.2.2)
abbrev pub option_at : Route → List Choice → (Scope → Option Val) → Env → Option ℕ
option_at tag choices earlier env =
    option_and_then (chosen choices) (tag_of (found tag earlier env))
