-- Classes and members, level by level.
use Rattle.std.proofs.Common.{◌≡◌, ℕ, List, map, Option, rules}
use Rattle.ctf_class.specs.declared.span.Label.{Label}
use Rattle.ctf_meaning.specs.declared.integer.DeclaredInteger.{DeclaredInteger}
use Rattle.ctf_meaning.specs.Name.{Words}
use Rattle.ctf_meaning.specs.Shapes as plain
use Rattle.ctf_declared_class.specs.declared.shape.Shape as shapes
use Rattle.ctf_declared_class.specs.declared.shape.Shape.{Shape}
use Rattle.ctf_declared_class.specs.declared.shape.Members.{Members}
use Rattle.ctf_declared_class.specs.Views.{shape, members, joined}

pub members-is : (m : Members) → members m ≡ joined m.names (map shape m.shapes)
members-is m = search (rules, shapes.the_lemmas)

pub shape-Integer : (i : DeclaredInteger) → shape (shapes.Integer i) ≡ plain.integer i
shape-Integer i = search (rules, shapes.the_lemmas)

pub shape-Float : shape shapes.Float ≡ plain.float
shape-Float = search (rules, shapes.the_lemmas)

pub shape-String : shape shapes.String ≡ plain.string
shape-String = search (rules, shapes.the_lemmas)

pub shape-Enumeration : (i : DeclaredInteger) (ls : List Label) → shape (shapes.Enumeration i ls) ≡ plain.enum i ls
shape-Enumeration i ls = search (rules, shapes.the_lemmas)

pub shape-Structure : (align : ℕ) (ms : Members) → shape (shapes.Structure align ms) ≡ plain.struct align (members ms)
shape-Structure align ms = search (rules, shapes.the_lemmas)

pub shape-Variant : (tag : Option Words) (ms : Members) → shape (shapes.Variant tag ms) ≡ plain.variant tag (members ms)
shape-Variant tag ms = search (rules, shapes.the_lemmas)

pub shape-Array : (count : ℕ) (element : Shape) → shape (shapes.Array count element) ≡ plain.array count (shape element)
shape-Array count element = search (rules, shapes.the_lemmas)

pub shape-Sequence : (path : Words) (element : Shape) → shape (shapes.Sequence path element) ≡ plain.sequence path (shape element)
shape-Sequence path element = search (rules, shapes.the_lemmas)
