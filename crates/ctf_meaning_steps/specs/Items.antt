-- Classes as they are written, item by item: each sees the names before it and those around its body.
-- (CTF 1.8.3, sections 4, 7.2 and 7.3.1.)
use Rattle.std.specs.Prelude.{List, [], ◌++◌, Ok}
use Rattle.ctf_meaning.specs.Written.{Form, Item, Items, Integer, Float, String, Struct, Variant, Enum, Named, Fields, Alias, Definition, Compound, no_item, some_items}
use Rattle.ctf_meaning.specs.Parts.{given_in}
use Rattle.ctf_meaning.specs.Shapes.{Shape, Field, integer, float, variant, structure, members_from, with_tag}
use Rattle.ctf_meaning.specs.Settings.{minus_faults}
use Rattle.ctf_meaning.specs.Own.{align_faults}
use Rattle.ctf_meaning_steps.specs.Told.{Told, ◌>>=◌, unless}
use Rattle.ctf_meaning_steps.specs.Seen.{Seen, nothing_seen, within, declare}
use Rattle.ctf_meaning_steps.specs.Classes.{integer_told, string_told, enum_told, named_told, compound_told, fields_told, field_faults}

-- the names of a block after an item, and the class that is written in the item
pub record Made : Type 0 where
  pub shape : Shape
  pub own : Seen

abbrev made_by : Seen → Item → Shape → Told Made
made_by own i shape =
    declare own shape (given_in i) >>= λ after. Ok (record { shape = shape; own = after })

abbrev mutual
  -- the class that is written, by the names that it sees
  pub shape_told : Seen → Form → Told Shape
  shape_told seen (Integer settings) = integer_told settings >>= λ i. Ok (integer i)
  shape_told seen (Float settings) = unless (minus_faults settings) (Ok float)
  shape_told seen (String settings) = string_told settings
  shape_told seen (Struct name is align) =
      body_told seen nothing_seen [] is
      >>= λ fields.
      unless (align_faults (Struct name is align))
      (compound_told fields (structure align fields))
  shape_told seen (Variant name tag is) =
      body_told seen nothing_seen [] is
      >>= λ fields. compound_told fields (variant tag (members_from fields))
  shape_told seen (Enum name c ls) = enum_told seen c ls
  shape_told seen (Named name tag) = named_told seen name >>= λ shape. Ok (with_tag tag shape)

  -- an item of a block, by the names of the block before it and those around the block
  pub item_told : Seen → Seen → Item → Told Made
  item_told outer own (Fields form declarators) =
      shape_told (within own outer) form >>= made_by own (Fields form declarators)
  item_told outer own (Alias form words) =
      shape_told (within own outer) form >>= made_by own (Alias form words)
  item_told outer own (Definition form declarators) =
      shape_told (within own outer) form >>= made_by own (Definition form declarators)
  item_told outer own (Compound form) =
      shape_told (within own outer) form >>= made_by own (Compound form)

  -- The members of a body, after some earlier ones. None is deeper than classes may be: the compound around it is
  -- deeper still.
  pub body_told : Seen → Seen → List Field → Items → Told (List Field)
  body_told outer own fields no_item = Ok fields
  body_told outer own fields (some_items i is) =
      item_told outer own i >>= λ made.
      unless (field_faults (fields_told i made.shape))
      (body_told outer made.own (fields ++ fields_told i made.shape) is)
