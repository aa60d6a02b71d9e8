use Rattle.std.proofs.Common.{arith, length, map, ap}
use Rattle.std.proofs.lemmas.List.{length-map}
use Rattle.ctf_meaning.specs.Shapes.{fields_in}
use Rattle.ctf_declared_class.specs.Views.{shape}
use Rattle.ctf_declared_class.proofs.ViewsLemmas.{members-is}
use Rattle.ctf_declared_class.proofs.JoinedLemmas.{length-joined}
use Rattle.ctf_declared_class.proofs.shape.Members.len.Goals as goal

pub returns : goal.returns
returns c =
    let ms = c.args.self.now in
    let same = ap (λ xs. length (fields_in xs)) (members-is ms) in
    let joins = length-joined ms.names (map shape ms.shapes) in
    omega (arith, length-map ms.shapes shape, ap length c.as_slice-names.ensures, ap length c.get.ensures, ap length c.get-2.ensures)
