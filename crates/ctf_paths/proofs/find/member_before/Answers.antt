use Rattle.std.proofs.Common.{◌≡◌, None, option_map, ◌∙◌, rules}
use Rattle.ctf_meaning.specs.Shapes.{fields_in}
use Rattle.ctf_declared_class.specs.Views as views
use Rattle.ctf_declared_class.specs.Views.{place_and_shape}
use Rattle.ctf_paths.proofs.Finding.{named_nowhere, named_before, named_after}
use Rattle.ctf_paths.proofs.find.member_before.Goals as goal

pub returns-in_err-place : goal.returns-in_err-place
returns-in_err-place c =
    let none : option_map place_and_shape c.from_residual.result ≡ None = search rules in
    none ∙ named_nowhere c.args.word.now c.args.count (fields_in (views.members c.args.members.now)) c.in_err-place.ensures

pub returns-then-place-count : goal.returns-then-place-count
returns-then-place-count c =
    named_before c.args.word.now c.args.count c.in_ok-place.place (views.shape c.in_ok-place.shape.now) (fields_in (views.members c.args.members.now)) c.if-place-count.true c.in_ok-place.ensures

pub returns-else-place-count : goal.returns-else-place-count
returns-else-place-count c =
    named_after c.args.word.now c.args.count c.in_ok-place.place (views.shape c.in_ok-place.shape.now) (fields_in (views.members c.args.members.now)) c.if-place-count.false c.in_ok-place.ensures
