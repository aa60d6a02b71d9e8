-- Lengths and tags that are there where they are looked for.
use Rattle.std.specs.Prelude.{◌≡◌, ℕ, ℤ, List, [], ◌∷◌, ◌++◌, Option, Some, None}
use Rattle.ctf_class.specs.declared.route.Length.{Length}
use Rattle.ctf_class.specs.declared.route.Length.TheVariants.{Fixed, Field}
use Rattle.ctf_class.specs.declared.route.Route.{Route}
use Rattle.ctf_decode.specs.Values.{Val, unsigned, label}
use Rattle.ctf_decode.specs.Forms.{Form, Parts, structure, variant, array, text, no_parts, part}
use Rattle.ctf_decode.specs.Input.{Input, Env}
use Rattle.ctf_decode.specs.Routes.{found}
use Rattle.ctf_decode.specs.Stands.{Stands}

-- a length that a field says is an unsigned integer's
abbrev pub HasLength : Length → Input → Env → Type 0
HasLength (Fixed n) c env = Unit {0}
HasLength (Field route) c env = (n : ℕ) × (found route c.earlier env ≡ Some (unsigned n))

-- a tag is an enumeration's number
abbrev pub HasTag : Route → Input → Env → Type 0
HasTag route c env = (z : ℤ) × (found route c.earlier env ≡ Some (label z))

abbrev mutual
  -- Each length and each tag that is looked for where a value of a class is decoded is found: at whatever place; in
  -- each member, whatever is before it; in each option; in each element.
  pub FindsAll : Form → Input → Env → Type 0
  FindsAll (structure a ps) c env = FindsInMembers ps c env []
  FindsAll (variant a tag choices ps) c env = HasTag tag c env × FindsInOptions ps c env
  FindsAll (array a many k) c env = HasLength many c env × FindsAll k c env
  FindsAll (text a many) c env = HasLength many c env
  FindsAll _ c env = Unit {0}

  -- the members after those that are done
  pub FindsInMembers : Parts → Input → Env → List Val → Type 0
  FindsInMembers no_parts c env done = Unit {0}
  FindsInMembers (part name k ps) c env done =
      FindsAll k c (done ∷ env)
      × ((p : ℕ) (v : Val) (q : ℕ) → Stands k c (done ∷ env) p v q
      → FindsInMembers ps c env (done ++ v ∷ []))

  pub FindsInOptions : Parts → Input → Env → Type 0
  FindsInOptions no_parts c env = Unit {0}
  FindsInOptions (part name k ps) c env = FindsAll k c env × FindsInOptions ps c env

-- each length and each tag of a scope is found; it may have no class
abbrev pub FindsIn : Option Form → Input → Type 0
FindsIn None c = Unit {0}
FindsIn (Some k) c = FindsAll k c []
