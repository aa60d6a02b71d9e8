use Rattle.std.proofs.Common.{◌≡◌, ◌<◌, ◌+◌, ◌∷◌, ◌++◌, ◌∙◌, [], length, map, IsTrue, List, refl, ap, subst, rules, arith}
use Rattle.ctf_class.specs.PlanBuilding.{AddsPieces, IsMade, before_scope, empty_scope, moved_by, with_scope, with_structure}
use Rattle.ctf_class.specs.Records.{Slot, first_at}
use Rattle.ctf_class.specs.declared.class.Kind as kinds
use Rattle.ctf_class.specs.declared.known.Move.TheVariants.{Inside, Later}
use Rattle.ctf_class.proofs.RecordsLemmas.{made_empty, made_scope}
use Rattle.ctf_class.proofs.plan_builder.PlanBuilder.add_scope.Goals as goal
use Rattle.ctf_class.proofs.plan_builder.PlanBuilder.add_scope.Goals.{then-is_empty+in_ok-took, else-is_empty+in_ok-extend_from_slice+in_ok-took-2, then-branch, else-branch}

empty : {A : Type 0} (xs : List A) → length xs ≡ 0 → xs ≡ []
empty [] none = refl
empty (x ∷ xs) none = absurd (omega (arith, none))

pub returns-clause-made : goal.returns-clause-made
returns-clause-made c = λ took given ks of.
    let k = c.args.class.now in
    let ms = c.as_slice-members.result.now in
    let scope = c.args.scope in
    let old = c.args.self.now in
    let from = c.go.new.self in
    let new = c.go-2.new.self in
    let is : k.kind ≡ kinds.Structure ms = search rules in
    let goes_in : from ≡ record old { trail = from.trail; known = map (moved_by Inside) old.known } = search rules in
    let goes_on : new ≡ record c.if-is_empty.self { known = map (moved_by (Later scope)) c.if-is_empty.self.known } = search rules in
    let leads : c.in_ok-text.text ≡ before_scope old.count old.ended = search rules in
    elim c.if-is_empty.branch [
      | then-is_empty+in_ok-took w ↦ (
          let none : length ms ≡ 0 = grind (arith, c.is_empty.ensures, w.if-is_empty.true) in
          let bare : k.kind ≡ kinds.Structure [] = is ∙ ap kinds.Structure (empty ms none) in
          let text : w.as_slice.result.now ≡ before_scope old.count old.ended = search rules in
          let yes : IsTrue w.in_ok-took.took = subst IsTrue w.took-is took in
          let same : c.if-is_empty.self ≡ with_scope from (empty_scope w.as_slice.result.now k.align) = w.self-is ∙ w.in_ok-took.ensures yes in
          made_empty given ks scope k w.as_slice.result.now k.align old from c.if-is_empty.self new bare refl text goes_in same goes_on of)
      | else-is_empty+in_ok-extend_from_slice+in_ok-took-2 w ↦ elim w.if-branch.branch [
        | then-branch w' ↦ (
            let some : 0 < length ms = grind (arith, c.is_empty.ensures, w.if-is_empty.false) in
            let mid = w.add_members.new.self in
            let lead : w.extend_from_slice.new.self ≡ before_scope old.count old.ended ++ (123 ∷ 32 ∷ []) = search rules in
            let members : IsTrue w.in_ok-took-2.took = search rules in
            let yes : IsTrue w'.end_structure.result = subst IsTrue (w.took-is ∙ w'.took-is) took in
            let closed : c.if-is_empty.self ≡ with_structure mid (length ms + 1) = w.self-is ∙ w'.self-is ∙ w'.end_structure.ensures yes in
            let adds : (done : List Slot) → IsMade done from → AddsPieces (first_at w.extend_from_slice.new.self k.align from.known) ms done from mid = w.in_ok-took-2.ensures.made members in
            made_scope given ks scope k ms w.extend_from_slice.new.self old from mid c.if-is_empty.self new is some lead goes_in adds closed goes_on of)
        | else-branch w' ↦ (let yes : IsTrue w.in_ok-took-2.took = subst IsTrue (w.took-is ∙ w'.took-is) took in absurd (search rules))
      ]
    ]
