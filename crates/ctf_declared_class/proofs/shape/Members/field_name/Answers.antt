use Rattle.std.proofs.Common.{arith, length, map, slice_get, option_map, sym, ap, ◌∙◌}
use Rattle.ctf_meaning.specs.Shapes.{fields_in}
use Rattle.ctf_declared_class.specs.Views.{shape}
use Rattle.ctf_declared_class.proofs.ViewsLemmas.{members-is}
use Rattle.ctf_declared_class.proofs.JoinedLemmas.{length-joined, name-joined}
use Rattle.ctf_declared_class.proofs.shape.Members.field_name.Goals as goal

pub item_at-requires : goal.item_at-requires
item_at-requires c =
    let ms = c.args.self.now in
    let same = ap (λ xs. length (fields_in xs)) (members-is ms) in
    let joins = length-joined ms.names (map shape ms.shapes) in
    omega (arith, ap length c.as_slice.ensures, ap length c.get.ensures)

pub returns : goal.returns
returns c =
    let ms = c.args.self.now in
    let same = ap (λ xs. length (fields_in xs)) (members-is ms) in
    let here = ap (λ xs. option_map (λ f. f.name) (slice_get (fields_in xs) c.args.place)) (members-is ms) in
    let read = ap (λ xs. slice_get xs c.args.place) (sym (c.as_slice.ensures ∙ c.get.ensures)) in
    here ∙ (name-joined ms.names (map shape ms.shapes) c.args.place (omega arith) ∙ (read ∙ c.item_at.ensures))
