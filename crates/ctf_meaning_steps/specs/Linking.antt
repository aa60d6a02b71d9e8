-- The class that a shape is at its place, or the first of its lengths, tags and mappings that fails.
-- (CTF 1.8.3, sections 4, 7.3.2 and 8.)
use Rattle.std.specs.Prelude.{false, List, [], ◌∷◌, ◌++◌, is_some, Ok, Err}
use Rattle.ctf_bits.specs.declared.number.Order.{Order}
use Rattle.ctf_class.specs.declared.class.Class.{Class}
use Rattle.ctf_class.specs.declared.class.Kind.TheVariants as kind
use Rattle.ctf_class.specs.declared.class.Member.{Member}
use Rattle.ctf_class.specs.declared.route.Length.TheVariants as lengths
use Rattle.ctf_class.specs.declared.trace.Clock.{Clock}
use Rattle.ctf_meaning.specs.declared.fault.ResolveFault.TheVariants.{LengthOrTag, FloatingPoint}
use Rattle.ctf_meaning.specs.Shapes.{Shape, Field, Members, integer, float, string, enum, struct, variant, array, sequence, no_member, member, fields_in}
use Rattle.ctf_meaning.specs.Paths.{Spot, at_member, below, length_at, tag_at}
use Rattle.ctf_meaning.specs.Clocks.{moved_clock}
use Rattle.ctf_meaning.specs.Links.{mapping_faults, array_kind, choices_of, class_by, named_by, placed}
use Rattle.ctf_meaning_steps.specs.Told.{Told, ◌>>=◌, unless, there_or}

-- The trace's order and clocks.
module _ (order : Order) (clocks : List Clock) where
  abbrev mutual
    pub class_told : Spot → Shape → Told Class
    class_told spot (integer i) =
        unless (mapping_faults clocks (spot, integer i))
        (Ok (class_by (integer i)
        (kind.Integer (placed order (is_some (moved_clock clocks spot i)) i))))
    class_told spot string = Ok (class_by string kind.String)
    class_told spot (enum i labels) =
        unless (mapping_faults clocks (spot, enum i labels))
        (Ok (class_by (enum i labels) (kind.Enumeration (placed order false i) labels)))
    class_told spot (struct align members) =
        members_told spot [] members
        >>= λ ms. Ok (class_by (struct align members) (kind.Structure ms))
    class_told spot (variant tag options) =
        there_or LengthOrTag (tag_at spot tag) >>= λ found.
        options_told (below spot) options >>= λ os.
        Ok (class_by (variant tag options)
        (kind.Variant found.0 (choices_of (fields_in options) found.1) os))
    class_told spot (array count element) =
        class_told (below spot) element
        >>= λ c. Ok (class_by (array count element) (array_kind (lengths.Fixed count) element c))
    class_told spot (sequence path element) =
        there_or LengthOrTag (length_at spot path) >>= λ route.
        class_told (below spot) element >>= λ c.
        Ok (class_by (sequence path element) (array_kind (lengths.Field route) element c))
    class_told spot float = Err FloatingPoint

    -- the members of a structure after some earlier ones
    pub members_told : Spot → List Field → Members → Told (List Member)
    members_told spot earlier no_member = Ok []
    members_told spot earlier (member word shape more) =
        class_told (at_member spot earlier word) shape >>= λ c.
        members_told spot (earlier ++ record { name = word; shape = shape } ∷ []) more >>= λ ms.
        Ok (named_by word c ∷ ms)

    pub options_told : Spot → Members → Told (List Member)
    options_told spot no_member = Ok []
    options_told spot (member word shape more) =
        class_told spot shape >>= λ c.
        options_told spot more >>= λ os.
        Ok (named_by word c ∷ os)
