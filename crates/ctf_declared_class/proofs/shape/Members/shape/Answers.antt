use Rattle.std.proofs.Common.{arith, length, map, slice_get, option_map, Some, sym, ap, ◌∙◌}
use Rattle.std.proofs.lemmas.List.{length-map}
use Rattle.ctf_meaning.specs.Shapes.{fields_in}
use Rattle.ctf_declared_class.specs.Views.{shape, members}
use Rattle.ctf_declared_class.proofs.ViewsLemmas.{members-is}
use Rattle.ctf_declared_class.proofs.JoinedLemmas.{length-joined, shape-joined, depth-member, slice_get-map}
use Rattle.ctf_declared_class.proofs.shape.Members.shape.Goals as goal

pub item_at-requires : goal.item_at-requires
item_at-requires c =
    let ms = c.args.self.now in
    let same = ap (λ xs. length (fields_in xs)) (members-is ms) in
    let joins = length-joined ms.names (map shape ms.shapes) in
    omega (arith, length-map ms.shapes shape, ap length c.as_slice.ensures, ap length c.get.ensures)

pub returns-clause-value : goal.returns-clause-value
returns-clause-value c =
    let ms = c.args.self.now in
    let same = ap (λ xs. length (fields_in xs)) (members-is ms) in
    let here = ap (λ xs. option_map (λ f. f.shape) (slice_get (fields_in xs) c.args.place)) (members-is ms) in
    let read = ap (λ xs. option_map shape (slice_get xs c.args.place)) (sym (c.as_slice.ensures ∙ c.get.ensures)) in
    here
    ∙ (shape-joined ms.names (map shape ms.shapes) c.args.place (omega arith)
    ∙ (slice_get-map shape ms.shapes c.args.place
    ∙ (read ∙ (ap (option_map shape) c.item_at.ensures ∙ ap (λ s. Some (shape s)) (sym c.get-2.ensures)))))

pub returns-clause-depth : goal.returns-clause-depth
returns-clause-depth c =
    depth-member (members c.args.self.now) c.args.place (shape c.get-2.result.now) (returns-clause-value c)
