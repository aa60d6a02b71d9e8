-- A class at its place in a scope: its paths are resolved and its clock is known. (CTF 1.8.3, sections 4, 7.3.2 and 8.)
use Rattle.std.specs.Prelude.{Bool, false, ◌&&◌, ◌==◌, if◌then◌else◌, List, [], ◌∷◌, ◌++◌, Option, Some, None, unwrap_or, option_map, option_and_then, is_some, is_none, flat_map, filter_map}
use Rattle.std.specs.Option.{option_map_or}
use Rattle.ctf_bits.specs.declared.number.Order.{Order}
use Rattle.ctf_class.specs.declared.class.Class.{Class, roll-Class}
use Rattle.ctf_class.specs.declared.class.Kind.{Kind}
use Rattle.ctf_class.specs.declared.class.Kind.TheVariants as kind
use Rattle.ctf_class.specs.declared.class.Member.{Member, roll-Member}
use Rattle.ctf_class.specs.declared.integer.Integer.{Integer}
use Rattle.ctf_class.specs.declared.route.Length.{Length}
use Rattle.ctf_class.specs.declared.route.Length.TheVariants as lengths
use Rattle.ctf_class.specs.declared.span.Label.{Label}
use Rattle.ctf_class.specs.declared.span.Choice.{Choice}
use Rattle.ctf_class.specs.declared.trace.Clock.{Clock}
use Rattle.ctf_meaning.specs.declared.fault.ResolveFault.{ResolveFault}
use Rattle.ctf_meaning.specs.declared.fault.ResolveFault.TheVariants.{LengthOrTag, Clock as UnknownClock}
use Rattle.ctf_meaning.specs.Name.{Word}
use Rattle.ctf_meaning.specs.There.{◌>>=◌}
use Rattle.ctf_meaning.specs.Settings.{when}
use Rattle.ctf_meaning.specs.declared.integer.DeclaredInteger.{DeclaredInteger}
use Rattle.ctf_meaning.specs.Shapes.{Shape, Field, Members, integer, float, string, enum, struct, variant, array, sequence, no_member, member, fields_in, align_of, depth_of, nodes_of}
use Rattle.ctf_meaning.specs.Paths.{Spot, at_member, below, member_named, length_at, tag_at}
use Rattle.ctf_meaning.specs.Clocks.{clock_named, moved_clock}

-- A class, with the spot where it is.
abbrev pub Standing : Type 0
Standing = Spot × Shape

abbrev mutual
  -- A class and all in it, at their places.
  pub standing : Spot → Shape → List Standing
  standing spot (struct align members) =
      (spot, struct align members) ∷ standing_members spot [] members
  standing spot (variant tag options) =
      (spot, variant tag options) ∷ standing_options (below spot) options
  standing spot (array count element) = (spot, array count element) ∷ standing (below spot) element
  standing spot (sequence path element) =
      (spot, sequence path element) ∷ standing (below spot) element
  standing spot shape = (spot, shape) ∷ []

  -- the members of a structure after some earlier ones
  pub standing_members : Spot → List Field → Members → List Standing
  standing_members spot earlier no_member = []
  standing_members spot earlier (member word shape more) =
      standing (at_member spot earlier word) shape
      ++ standing_members spot (earlier ++ record { name = word; shape = shape } ∷ []) more

  pub standing_options : Spot → Members → List Standing
  standing_options spot no_member = []
  standing_options spot (member word shape more) = standing spot shape ++ standing_options spot more

-- A length or tag that is not found or does not fit: R6.
abbrev pub path_faults : Standing → List ResolveFault
path_faults (spot, variant tag options) = when (is_none (tag_at spot tag)) LengthOrTag
path_faults (spot, sequence path element) = when (is_none (length_at spot path)) LengthOrTag
path_faults _ = []

-- the integer of an integer or of an enumeration's container
abbrev pub integer_by : Shape → Option DeclaredInteger
integer_by (integer i) = Some i
integer_by (enum i labels) = Some i
integer_by _ = None

-- A mapping to an unknown clock, a container's too: R7.
abbrev pub mapping_faults : List Clock → Standing → List ResolveFault
mapping_faults clocks (spot, shape) =
    option_map_or (λ name. when (is_none (clock_named clocks name)) UnknownClock)
    (option_and_then (λ i. i.clock) (integer_by shape)) []

-- what is wrong with a class at a spot, and with all in it
abbrev pub link_faults_at : List Clock → Spot → Shape → List ResolveFault
link_faults_at clocks spot shape =
    flat_map (λ p. path_faults p ++ mapping_faults clocks p) (standing spot shape)

-- The clocks that a class at a spot sets, those of each integer in it: an enumeration's container sets none.
abbrev pub moved_by : List Clock → Standing → Option Clock
moved_by clocks (spot, integer i) = moved_clock clocks spot i
moved_by clocks _ = None

abbrev pub moved_clocks : List Clock → Spot → Shape → List Clock
moved_clocks clocks spot shape = filter_map (moved_by clocks) (standing spot shape)

-- Elements that are integers of size 8, align 8, with an encoding of characters make an array a text. (4.2.3; own.)
abbrev pub is_character : Shape → Bool
is_character (integer i) = i.size == 8 && i.align == 8 && i.is_text
is_character _ = false

abbrev pub array_kind : Length → Shape → Class → Kind
array_kind count element c = if is_character element then kind.Text count else kind.Array count c

-- The option of a variant is that of the first label, in the order of the declaration, that covers the tag's number and
-- names an option (own): a label names the option of its name, and one without such an option gives no choice.
abbrev pub choice_of : List Field → Label → Option Choice
choice_of options label =
    option_map (λ p. record { span = label.span; option = p.0 }) (member_named label.name options)

abbrev pub choices_of : List Field → List Label → List Choice
choices_of options labels = filter_map (choice_of options) labels

-- A class keeps its alignment, its depth and its count of nodes.
abbrev pub class_by : Shape → Kind → Class
class_by shape what =
    roll-Class (record {
      align = align_of shape;
      depth = depth_of shape;
      nodes = nodes_of shape;
      kind = what;
    })

abbrev pub named_by : Word → Class → Member
named_by word c = roll-Member (record { name = word; «class» = c })

-- Native byte order is the trace's.
abbrev pub placed : Order → Bool → DeclaredInteger → Integer
placed order is_moving i = record {
  size = i.size;
  is_signed = i.is_signed;
  base = i.base;
  order = unwrap_or i.order order;
  is_moving = is_moving;
}

-- The trace's order and clocks.
module _ (order : Order) (clocks : List Clock) where
  abbrev mutual
    -- The class that a shape is at a spot. There is none where a path finds nothing that fits, and none of a float.
    pub class_at : Spot → Shape → Option Class
    class_at spot (integer i) =
        Some (class_by (integer i)
        (kind.Integer (placed order (is_some (moved_clock clocks spot i)) i)))
    class_at spot string = Some (class_by string kind.String)
    class_at spot (enum i labels) =
        Some (class_by (enum i labels) (kind.Enumeration (placed order false i) labels))
    class_at spot (struct align members) = do
      ms ← members_at spot [] members
      Some (class_by (struct align members) (kind.Structure ms))
    class_at spot (variant tag options) = do
      found ← tag_at spot tag
      os ← options_at (below spot) options
      Some (class_by (variant tag options)
          (kind.Variant found.0 (choices_of (fields_in options) found.1) os))
    class_at spot (array count element) = do
      c ← class_at (below spot) element
      Some (class_by (array count element) (array_kind (lengths.Fixed count) element c))
    class_at spot (sequence path element) = do
      route ← length_at spot path
      c ← class_at (below spot) element
      Some (class_by (sequence path element) (array_kind (lengths.Field route) element c))
    class_at spot float = None

    -- the members of a structure after some earlier ones
    pub members_at : Spot → List Field → Members → Option (List Member)
    members_at spot earlier no_member = Some []
    members_at spot earlier (member word shape more) = do
      c ← class_at (at_member spot earlier word) shape
      ms ← members_at spot (earlier ++ record { name = word; shape = shape } ∷ []) more
      Some (named_by word c ∷ ms)

    pub options_at : Spot → Members → Option (List Member)
    options_at spot no_member = Some []
    options_at spot (member word shape more) = do
      c ← class_at spot shape
      os ← options_at spot more
      Some (named_by word c ∷ os)
