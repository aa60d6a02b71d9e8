-- Declared names, and which of them a use means. (CTF 1.8.3, section 7.3.1: lexical scopes.)
use Rattle.std.specs.Prelude.{ℕ, nat_eq, nat_lt, Bool, ◌&&◌, List, [], ◌∷◌, ◌++◌, map, Option, None, find, option_map, option_and_then}
use Rattle.std.specs.Option.{option_or}
use lib.Pointwise.{pointwise}
use Rattle.ctf_meaning.specs.Name.{Name, same_name}
use Rattle.ctf_meaning.specs.Written.{Declaration, Form}
use Rattle.ctf_meaning.specs.Parts.{Place, Located, class_of, given_of, located_from}
use Rattle.ctf_meaning.specs.Shapes.{Shape, arrays, shape_by}

-- A declared name: the block in which it is declared, the number of the part that declares it, the name, and the class
-- that it stands for, where that is known.
pub record Entry : Type 0 where
  pub block : Place
  pub number : ℕ
  pub name : Name
  pub shape : Option Shape

abbrev pub same_place : Place → Place → Bool
same_place = pointwise nat_eq

-- The first entry of the name that an earlier part of the block declares: a name is seen after its declaration alone.
-- (Of two, which is R2, the first counts: own.)
abbrev pub earlier_entry : List Entry → Place → ℕ → Name → Option Entry
earlier_entry entries block number name =
    find (λ e. same_place e.block block && nat_lt e.number number && same_name e.name name) entries

-- What a name means at a place: the earlier entry in the innermost block around it that has one. Inner names hide outer
-- ones, and the names of a block end with it.
abbrev pub meaning : List Entry → Place → Name → Option Entry
meaning entries [] name = None
meaning entries (number ∷ block) name =
    option_or (earlier_entry entries block number name) (meaning entries block name)

abbrev pub shape_named : List Entry → Place → Name → Option Shape
shape_named entries at name = option_and_then (λ e. e.shape) (meaning entries at name)

-- the class that is written at a place
abbrev pub shape_of : List Entry → Place → Form → Option Shape
shape_of entries = shape_by (shape_named entries)

-- The names that a part declares, each for the part's class with the name's arrays around it.
abbrev pub entries_of : List Entry → Located → List Entry
entries_of earlier ([], part) = []
entries_of earlier (number ∷ block, part) =
    map (λ g. record {
      block = block;
      number = number;
      name = g.name;
      shape =
          option_map (arrays g.lengths)
          (option_and_then (shape_of earlier (number ∷ block)) (class_of part));
    }) (given_of part)

-- The entries of some parts after earlier ones. The parts are in the order in which they end, so that each entry is
-- made from those before it.
abbrev pub entries_after : List Entry → List Located → List Entry
entries_after earlier [] = earlier
entries_after earlier (p ∷ ps) = entries_after (earlier ++ entries_of earlier p) ps

-- the entries of a text
abbrev pub entries_in : List Declaration → List Entry
entries_in text = entries_after [] (located_from 0 text)
