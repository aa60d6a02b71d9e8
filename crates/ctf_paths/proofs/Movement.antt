-- The clocks that members and options move, one after another.
use Rattle.std.proofs.Common.{◌≡◌, ℕ, ◌+◌, List, [], ◌∷◌, ◌++◌, take, Option, Some, refl, ap, sym, ◌∙◌, append_assoc}
use Rattle.std.specs.Prelude.{filter_map, slice_get}
use Rattle.std.proofs.lemmas.List.{append-nil}
use Rattle.std.proofs.lemmas.List.Elements.{filter_map-append}
use Rattle.ctf_class.specs.declared.trace.Clock.{Clock}
use Rattle.ctf_meaning.specs.Name.{Words}
use Rattle.ctf_meaning.specs.Shapes.{Field, Members, no_member, member, fields_in}
use Rattle.ctf_meaning.specs.Paths.{Spot, at_member, below}
use Rattle.ctf_meaning.specs.Links.{standing, standing_members, standing_options, moved_by, moved_clocks}
use Rattle.ctf_declared_class.specs.declared.shape.Members as code
use Rattle.ctf_declared_class.specs.declared.shape.Shape as shapes
use Rattle.ctf_declared_class.specs.Views as views
use Rattle.ctf_declared_class.proofs.ViewsLemmas.{shape-Structure, shape-Variant}
use Rattle.ctf_paths.specs.MovedClocks.{each_moved, member_moved, option_moved}
use Rattle.ctf_paths.proofs.Lists.{take_get}

each_more : (at : List Field → Field → List Clock) (earlier fs : List Field) (f : Field) → each_moved at earlier (fs ++ f ∷ []) ≡ each_moved at earlier fs ++ at (earlier ++ fs) f
each_more at earlier [] f = append-nil (at earlier f) ∙ ap (λ (e : List Field). at e f) (sym (append-nil earlier))
each_more at earlier (x ∷ fs) f =
    ap (λ ys. at earlier x ++ ys) (each_more at (earlier ++ x ∷ []) fs f)
    ∙ ap (λ (e : List Field). at earlier x ++ (each_moved at (earlier ++ x ∷ []) fs ++ at e f)) (append_assoc earlier (x ∷ []) fs)
    ∙ sym (append_assoc (at earlier x) (each_moved at (earlier ++ x ∷ []) fs) (at (earlier ++ x ∷ fs) f))

-- one member more
pub each_step : (at : List Field → Field → List Clock) (fs : List Field) (i : ℕ) (f : Field) (old : List Clock) → slice_get fs i ≡ Some f
    → (old ++ each_moved at [] (take i fs)) ++ at (take i fs) f ≡ old ++ each_moved at [] (take (i + 1) fs)
each_step at fs i f old here =
    append_assoc old (each_moved at [] (take i fs)) (at (take i fs) f)
    ∙ ap (λ ys. old ++ ys) (sym (each_more at [] (take i fs) f) ∙ ap (each_moved at []) (sym (take_get fs i f here)))

-- The trace's clocks.
module _ (clocks : List Clock) where
  members-moved : (spot : Spot) (earlier : List Field) (ms : Members) → filter_map (moved_by clocks) (standing_members spot earlier ms) ≡ each_moved (member_moved clocks spot) earlier (fields_in ms)
  members-moved spot earlier no_member = refl
  members-moved spot earlier (member word shape more) =
      let next = earlier ++ record { name = word; shape = shape } ∷ [] in
      filter_map-append (moved_by clocks) (standing (at_member spot earlier word) shape) (standing_members spot next more)
      ∙ ap (λ ys. moved_clocks clocks (at_member spot earlier word) shape ++ ys) (members-moved spot next more)

  options-moved : (spot : Spot) (earlier : List Field) (ms : Members) → filter_map (moved_by clocks) (standing_options spot ms) ≡ each_moved (option_moved clocks spot) earlier (fields_in ms)
  options-moved spot earlier no_member = refl
  options-moved spot earlier (member word shape more) =
      let next = earlier ++ record { name = word; shape = shape } ∷ [] in
      filter_map-append (moved_by clocks) (standing spot shape) (standing_options spot more)
      ∙ ap (λ ys. moved_clocks clocks spot shape ++ ys) (options-moved spot next more)

  pub structure_moved : (spot : Spot) (shape : shapes.Shape) (align : ℕ) (ms : code.Members) → shape ≡ shapes.Structure align ms
      → each_moved (member_moved clocks spot) [] (fields_in (views.members ms)) ≡ moved_clocks clocks spot (views.shape shape)
  structure_moved spot shape align ms is =
      sym (members-moved spot [] (views.members ms)) ∙ ap (moved_clocks clocks spot) (sym (ap views.shape is ∙ shape-Structure align ms))

  pub variant_moved : (spot inner : Spot) (shape : shapes.Shape) (tag : Option Words) (ms : code.Members) → inner ≡ below spot → shape ≡ shapes.Variant tag ms
      → each_moved (option_moved clocks inner) [] (fields_in (views.members ms)) ≡ moved_clocks clocks spot (views.shape shape)
  variant_moved spot inner shape tag ms at is =
      ap (λ (s : Spot). each_moved (option_moved clocks s) [] (fields_in (views.members ms))) at
      ∙ sym (options-moved (below spot) [] (views.members ms)) ∙ ap (moved_clocks clocks spot) (sym (ap views.shape is ∙ shape-Variant tag ms))
