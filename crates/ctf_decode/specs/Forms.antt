-- What a field class says, as a tree that holds no memory.
use Rattle.std.specs.Prelude.{ℕ, List, [], ◌∷◌}
use Rattle.ctf_class.specs.declared.integer.Integer.{Integer}
use Rattle.ctf_class.specs.declared.route.Length.{Length}
use Rattle.ctf_class.specs.declared.route.Route.{Route}
use Rattle.ctf_class.specs.declared.span.Choice.{Choice}

-- a class, with its alignment in bits
mutual
  pub data Form : Type 0 where
    integer : ℕ → Integer → Form
    enumeration : ℕ → Integer → Form
    string : ℕ → Form
    structure : ℕ → Parts → Form
    variant : ℕ → Route → List Choice → Parts → Form
    array : ℕ → Length → Form → Form
    text : ℕ → Length → Form

  -- named classes, in their order
  pub data Parts : Type 0 where
    no_parts : Parts
    part : List ℕ → Form → Parts → Parts

abbrev pub Part : Type 0
Part = List ℕ × Form

abbrev pub parts_of : List Part → Parts
parts_of [] = no_parts
parts_of (p ∷ ps) = part p.0 p.1 (parts_of ps)

-- the alignment that is kept in a class
abbrev pub align_of : Form → ℕ
align_of (integer a i) = a
align_of (enumeration a i) = a
align_of (string a) = a
align_of (structure a ps) = a
align_of (variant a tag choices ps) = a
align_of (array a many k) = a
align_of (text a many) = a
