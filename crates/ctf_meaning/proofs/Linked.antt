-- A class without floats and without link faults is there at its place.
use Rattle.std.proofs.Common.{◌≡◌, false, List, [], ◌∷◌, ◌++◌, Option, refl, arith}
use Rattle.std.specs.Prelude.{is_none}
use Rattle.ctf_bits.specs.declared.number.Order.{Order}
use Rattle.ctf_class.specs.declared.trace.Clock.{Clock}
use Rattle.ctf_meaning.specs.declared.fault.ResolveFault.TheVariants.{LengthOrTag}
use Rattle.ctf_meaning.specs.Name.{Words}
use Rattle.ctf_meaning.specs.Shapes.{Shape, Field, Members, integer, float, string, enum, struct, variant, array, sequence, no_member, member, has_float, has_float_member}
use Rattle.ctf_meaning.specs.Paths.{Spot, at_member, below, tag_at, length_at}
use Rattle.ctf_meaning.specs.Links.{Standing, standing, standing_members, standing_options, path_faults, mapping_faults, link_faults_at, class_at, members_at, options_at}
use Rattle.ctf_meaning.proofs.Lists.{Each, IsThere, each_front, each_back, each_none, append_left, there_unless, or_left, or_right, then_there}
use Rattle.ctf_meaning.proofs.Shaped.{when_not}

module _ (order : Order) (clocks : List Clock) where
  abbrev pub Links : Standing → Type 0
  Links p = path_faults p ++ mapping_faults clocks p ≡ []

  tag_there : (spot : Spot) (tag : Option Words) (options : Members) → Links (spot, variant tag options) → IsThere (tag_at spot tag)
  tag_there spot tag options h =
      there_unless (tag_at spot tag) (when_not (is_none (tag_at spot tag)) LengthOrTag
      (append_left (path_faults (spot, variant tag options)) (mapping_faults clocks (spot, variant tag options)) h))

  length_there : (spot : Spot) (path : Words) (element : Shape) → Links (spot, sequence path element) → IsThere (length_at spot path)
  length_there spot path element h =
      there_unless (length_at spot path) (when_not (is_none (length_at spot path)) LengthOrTag
      (append_left (path_faults (spot, sequence path element)) (mapping_faults clocks (spot, sequence path element)) h))

  mutual
    pub class_there : (spot : Spot) (shape : Shape) → has_float shape ≡ false → Each Links (standing spot shape) → IsThere (class_at order clocks spot shape)
    class_there spot (integer i) solid h = (_, refl)
    class_there spot float solid h = absurd (grind (arith, solid))
    class_there spot string solid h = (_, refl)
    class_there spot (enum i labels) solid h = (_, refl)
    class_there spot (struct align members) solid h =
        then_there _ (members_at order clocks spot [] members) (members_there spot [] members solid h.1) (_, refl)
    class_there spot (variant tag options) solid h =
        then_there _ (tag_at spot tag) (tag_there spot tag options h.0)
        (then_there _ (options_at order clocks (below spot) options) (options_there (below spot) options solid h.1) (_, refl))
    class_there spot (array count element) solid h =
        then_there _ (class_at order clocks (below spot) element) (class_there (below spot) element solid h.1) (_, refl)
    class_there spot (sequence path element) solid h =
        then_there _ (length_at spot path) (length_there spot path element h.0)
        (then_there _ (class_at order clocks (below spot) element) (class_there (below spot) element solid h.1) (_, refl))

    pub members_there : (spot : Spot) (earlier : List Field) (members : Members) → has_float_member members ≡ false → Each Links (standing_members spot earlier members) →
        IsThere (members_at order clocks spot earlier members)
    members_there spot earlier no_member solid h = (_, refl)
    members_there spot earlier (member word shape more) solid h =
        let here : List Standing = standing (at_member spot earlier word) shape in
        let others : List Standing = standing_members spot (earlier ++ record { name = word; shape = shape } ∷ []) more in
        then_there _ (class_at order clocks (at_member spot earlier word) shape)
        (class_there (at_member spot earlier word) shape (or_left (has_float shape) (has_float_member more) solid) (each_front Links here others h))
        (then_there _ (members_at order clocks spot (earlier ++ record { name = word; shape = shape } ∷ []) more)
        (members_there spot (earlier ++ record { name = word; shape = shape } ∷ []) more (or_right (has_float shape) (has_float_member more) solid) (each_back Links here others h))
        (_, refl))

    pub options_there : (spot : Spot) (options : Members) → has_float_member options ≡ false → Each Links (standing_options spot options) → IsThere (options_at order clocks spot options)
    options_there spot no_member solid h = (_, refl)
    options_there spot (member word shape more) solid h =
        then_there _ (class_at order clocks spot shape)
        (class_there spot shape (or_left (has_float shape) (has_float_member more) solid) (each_front Links (standing spot shape) (standing_options spot more) h))
        (then_there _ (options_at order clocks spot more)
        (options_there spot more (or_right (has_float shape) (has_float_member more) solid) (each_back Links (standing spot shape) (standing_options spot more) h))
        (_, refl))

  pub linked_there : (spot : Spot) (shape : Shape) → has_float shape ≡ false → link_faults_at clocks spot shape ≡ [] → IsThere (class_at order clocks spot shape)
  linked_there spot shape solid h = class_there spot shape solid (each_none (λ p. path_faults p ++ mapping_faults clocks p) (standing spot shape) h)
