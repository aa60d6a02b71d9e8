use Rattle.std.proofs.Common.{refl, length, map, slice_get, option_map, Some, sym, ap, ◌∙◌}
use Rattle.std.specs.List.{position}
use Rattle.std.proofs.lemmas.Option.{slice_get_past, slice_get_read}
use Rattle.ctf_meaning.specs.Name.{same_word}
use Rattle.ctf_meaning.specs.Shapes.{fields_in}
use Rattle.ctf_meaning.specs.Paths.{member_named}
use Rattle.ctf_declared_class.specs.Views.{shape, place_and_class, place_and_shape}
use Rattle.ctf_declared_class.proofs.ViewsLemmas.{members-is}
use Rattle.ctf_declared_class.proofs.JoinedLemmas.{nowhere-joined, somewhere-joined, slice_get-map}
use Rattle.ctf_declared_class.proofs.shape.Members.get.Goals as goal

pub returns-in_err-place : goal.returns-in_err-place
returns-in_err-place c =
    let ms = c.args.self.now in
    let word = c.args.name.now in
    let nowhere = nowhere-joined word ms.names (map shape ms.shapes) (ap (position (λ w. same_word w word)) (sym c.get.ensures) ∙ sym c.in_err-place.ensures) in
    let here = ap (λ xs. option_map place_and_class (member_named word (fields_in xs))) (members-is ms) in
    ap (option_map place_and_shape) c.from_residual.ensures ∙ sym (here ∙ nowhere)

pub returns-in_err-shape : goal.returns-in_err-shape
returns-in_err-shape c =
    let ms = c.args.self.now in
    let word = c.args.name.now in
    let i = c.in_ok-place.place in
    let somewhere = somewhere-joined word ms.names (map shape ms.shapes) i (ap (position (λ w. same_word w word)) (sym c.get.ensures) ∙ sym c.in_ok-place.ensures) in
    let here = ap (λ xs. option_map place_and_class (member_named word (fields_in xs))) (members-is ms) in
    let past = slice_get_past c.as_slice.result.now i c.in_err-shape.ensures.lookup.3 in
    let read = slice_get-map shape ms.shapes i ∙ (ap (λ xs. option_map shape (slice_get xs i)) (sym (c.as_slice.ensures ∙ c.get-2.ensures)) ∙ ap (option_map shape) past) in
    ap (option_map place_and_shape) c.from_residual-in_err-shape.ensures ∙ sym (here ∙ (somewhere ∙ ap (option_map (λ s. (i, s))) read))

pub returns : goal.returns
returns c =
    let ms = c.args.self.now in
    let word = c.args.name.now in
    let i = c.in_ok-place.place in
    let somewhere = somewhere-joined word ms.names (map shape ms.shapes) i (ap (position (λ w. same_word w word)) (sym c.get.ensures) ∙ sym c.in_ok-place.ensures) in
    let here = ap (λ xs. option_map place_and_class (member_named word (fields_in xs))) (members-is ms) in
    let at = slice_get_read c.as_slice.result.now (length c.as_slice.result.now) i c.in_ok-shape.shape.now refl c.in_ok-shape.ensures.lookup.3.0 c.in_ok-shape.ensures.lookup.1 in
    let read = slice_get-map shape ms.shapes i ∙ (ap (λ xs. option_map shape (slice_get xs i)) (sym (c.as_slice.ensures ∙ c.get-2.ensures)) ∙ ap (option_map shape) at) in
    ap (λ s. Some (i, shape s)) c.get-4.ensures ∙ sym (here ∙ (somewhere ∙ ap (option_map (λ s. (i, s))) read))
