-- Linking a shape gives the class that it is at its place, or one of its link faults.
use Rattle.std.proofs.Common.{◌≡◌, false, List, [], ◌∷◌, ◌++◌, Some, Ok, Err, refl, ap, sym, ◌∙◌, subst, append-nil, Contains, flat_map, is_none, option_and_then, arith}
use Rattle.std.proofs.lemmas.Grind.{flat_map-append}
use Rattle.ctf_bits.specs.declared.number.Order.{Order}
use Rattle.ctf_class.specs.declared.class.Class.{Class}
use Rattle.ctf_class.specs.declared.trace.Clock.{Clock}
use Rattle.ctf_meaning.specs.declared.fault.ResolveFault.{ResolveFault}
use Rattle.ctf_meaning.specs.declared.fault.ResolveFault.TheVariants.{LengthOrTag}
use Rattle.ctf_meaning.specs.Settings.{when}
use Rattle.ctf_meaning.specs.Shapes.{Shape, Field, Members, integer, float, string, enum, struct, variant, array, sequence, no_member, member, has_float, has_float_member}
use Rattle.ctf_meaning.specs.Paths.{Spot, at_member, below, length_at, tag_at}
use Rattle.ctf_meaning.specs.Links.{Standing, standing, standing_members, standing_options, path_faults, mapping_faults, link_faults_at, class_at, members_at, options_at}
use Rattle.ctf_meaning_steps.specs.Told.{there_or}
use Rattle.ctf_meaning_steps.specs.Linking.{class_told, members_told, options_told}
use Rattle.ctf_meaning.proofs.Lists.{or_left, or_right}
use Rattle.ctf_meaning_steps.proofs.Telling.{Tells, tells_then, tells_made, tells_unless, tells_there, tells_same, tells_under}

module _ (order : Order) (clocks : List Clock) where
  abbrev link : Standing → List ResolveFault
  link p = path_faults p ++ mapping_faults clocks p

  abbrev links : List Standing → List ResolveFault
  links = flat_map link

  abbrev Solid : Shape → Type 0
  Solid shape = has_float shape ≡ false

  abbrev SolidMembers : Members → Type 0
  SolidMembers members = has_float_member members ≡ false

  mutual
    pub tells_class : (spot : Spot) (shape : Shape) → Tells (Solid shape) (class_told order clocks spot shape) (links (standing spot shape)) (λ c. class_at order clocks spot shape ≡ Some c)
    tells_class spot (integer i) = tells_unless (Solid (integer i)) (mapping_faults clocks (spot, integer i)) _ [] _ (λ e. (refl, refl))
    tells_class spot string = (refl, refl)
    tells_class spot (enum i labels) = tells_unless (Solid (enum i labels)) (mapping_faults clocks (spot, enum i labels)) _ [] _ (λ e. (refl, refl))
    tells_class spot (struct align members) =
        tells_made (SolidMembers members) (members_told order clocks spot [] members) _ (links (standing_members spot [] members))
        (λ ms. members_at order clocks spot [] members ≡ Some ms) _ (tells_members spot [] members)
        (λ ms e there. ap (option_and_then _) there)
    tells_class spot (variant tag options) =
        tells_then (SolidMembers options) (there_or LengthOrTag (tag_at spot tag)) _ (when (is_none (tag_at spot tag)) LengthOrTag ++ []) (links (standing_options (below spot) options))
        (λ found. tag_at spot tag ≡ Some found) _
        (tells_same (SolidMembers options) (there_or LengthOrTag (tag_at spot tag)) (when (is_none (tag_at spot tag)) LengthOrTag) (when (is_none (tag_at spot tag)) LengthOrTag ++ []) _
        (sym (append-nil _)) (tells_there (SolidMembers options) LengthOrTag (tag_at spot tag)))
        (λ found e here. tells_made (SolidMembers options) (options_told order clocks (below spot) options) _ (links (standing_options (below spot) options))
        (λ os. options_at order clocks (below spot) options ≡ Some os) _ (tells_options (below spot) options)
        (λ os f there. ap (option_and_then _) here ∙ ap (option_and_then _) there))
    tells_class spot (array count element) =
        tells_made (Solid element) (class_told order clocks (below spot) element) _ (links (standing (below spot) element))
        (λ c. class_at order clocks (below spot) element ≡ Some c) _ (tells_class (below spot) element)
        (λ c e there. ap (option_and_then _) there)
    tells_class spot (sequence path element) =
        tells_then (Solid element) (there_or LengthOrTag (length_at spot path)) _ (when (is_none (length_at spot path)) LengthOrTag ++ []) (links (standing (below spot) element))
        (λ found. length_at spot path ≡ Some found) _
        (tells_same (Solid element) (there_or LengthOrTag (length_at spot path)) (when (is_none (length_at spot path)) LengthOrTag) (when (is_none (length_at spot path)) LengthOrTag ++ []) _
        (sym (append-nil _)) (tells_there (Solid element) LengthOrTag (length_at spot path)))
        (λ found e here. tells_made (Solid element) (class_told order clocks (below spot) element) _ (links (standing (below spot) element))
        (λ c. class_at order clocks (below spot) element ≡ Some c) _ (tells_class (below spot) element)
        (λ c f there. ap (option_and_then _) here ∙ ap (option_and_then _) there))
    tells_class spot float = λ solid. absurd (grind (arith, solid))

    pub tells_members : (spot : Spot) (earlier : List Field) (members : Members) →
        Tells (SolidMembers members) (members_told order clocks spot earlier members) (links (standing_members spot earlier members)) (λ ms. members_at order clocks spot earlier members ≡ Some ms)
    tells_members spot earlier no_member = (refl, refl)
    tells_members spot earlier (member word shape more) =
        let solid : Type 0 = SolidMembers (member word shape more) in
        let others : List Field = earlier ++ record { name = word; shape = shape } ∷ [] in
        tells_same solid (members_told order clocks spot earlier (member word shape more)) (links (standing (at_member spot earlier word) shape) ++ links (standing_members spot others more)) (links (standing_members spot earlier (member word shape more))) _
        (sym (flat_map-append link (standing (at_member spot earlier word) shape) (standing_members spot others more)))
        (tells_then solid (class_told order clocks (at_member spot earlier word) shape) _ (links (standing (at_member spot earlier word) shape)) (links (standing_members spot others more))
        (λ c. class_at order clocks (at_member spot earlier word) shape ≡ Some c) _
        (tells_under solid (Solid shape) (class_told order clocks (at_member spot earlier word) shape) _ _ (or_left (has_float shape) (has_float_member more)) (tells_class (at_member spot earlier word) shape))
        (λ c e here. tells_made solid (members_told order clocks spot others more) _ (links (standing_members spot others more))
        (λ ms. members_at order clocks spot others more ≡ Some ms) _
        (tells_under solid (SolidMembers more) (members_told order clocks spot others more) _ _ (or_right (has_float shape) (has_float_member more)) (tells_members spot others more))
        (λ ms f there. ap (option_and_then _) here ∙ ap (option_and_then _) there)))

    pub tells_options : (spot : Spot) (options : Members) →
        Tells (SolidMembers options) (options_told order clocks spot options) (links (standing_options spot options)) (λ os. options_at order clocks spot options ≡ Some os)
    tells_options spot no_member = (refl, refl)
    tells_options spot (member word shape more) =
        let solid : Type 0 = SolidMembers (member word shape more) in
        tells_same solid (options_told order clocks spot (member word shape more)) (links (standing spot shape) ++ links (standing_options spot more)) (links (standing_options spot (member word shape more))) _
        (sym (flat_map-append link (standing spot shape) (standing_options spot more)))
        (tells_then solid (class_told order clocks spot shape) _ (links (standing spot shape)) (links (standing_options spot more))
        (λ c. class_at order clocks spot shape ≡ Some c) _
        (tells_under solid (Solid shape) (class_told order clocks spot shape) _ _ (or_left (has_float shape) (has_float_member more)) (tells_class spot shape))
        (λ c e here. tells_made solid (options_told order clocks spot more) _ (links (standing_options spot more))
        (λ os. options_at order clocks spot more ≡ Some os) _
        (tells_under solid (SolidMembers more) (options_told order clocks spot more) _ _ (or_right (has_float shape) (has_float_member more)) (tells_options spot more))
        (λ os f there. ap (option_and_then _) here ∙ ap (option_and_then _) there)))

  pub linking_gives_class : (spot : Spot) (shape : Shape) (c : Class) → class_told order clocks spot shape ≡ Ok c →
      (link_faults_at clocks spot shape ≡ []) × (class_at order clocks spot shape ≡ Some c)
  linking_gives_class spot shape c e =
      subst (λ t. Tells (Solid shape) t (links (standing spot shape)) (λ made. class_at order clocks spot shape ≡ Some made)) e (tells_class spot shape)

  pub linking_tells_fault : (spot : Spot) (shape : Shape) (fault : ResolveFault) → has_float shape ≡ false → class_told order clocks spot shape ≡ Err fault →
      Contains (link_faults_at clocks spot shape) fault
  linking_tells_fault spot shape fault solid e =
      (subst (λ t. Tells (Solid shape) t (links (standing spot shape)) (λ made. class_at order clocks spot shape ≡ Some made)) e (tells_class spot shape)) solid
