use Rattle.std.proofs.Common.{◌∙◌, ◌+◌, ◌++◌, List, Ok, take, drop, ap, arith}
use Rattle.std.proofs.lemmas.Result.{err_from_is_err_and}
use Rattle.ctf_class.specs.declared.class.Member.{Member}
use Rattle.ctf_meaning.specs.Shapes.{fields_in}
use Rattle.ctf_meaning_steps.specs.Told.{◌>>=◌}
use Rattle.ctf_declared_class.specs.Views as views
use Rattle.ctf_paths.specs.Finding.{tag_by}
use Rattle.ctf_paths.specs.Spots.{spot_by}
use Rattle.ctf_paths.specs.Telling.{each_told, member_told, option_told}
use Rattle.ctf_paths.proofs.Lists.{there}
use Rattle.ctf_paths.proofs.Telling.{same_fails, row_ok, row_fails, structure_told, structure_fails, variant_told, variant_fails, array_told, sequence_told}
use Rattle.ctf_paths.proofs.link.+link.Goals as goal

pub array_class-returns : goal.array_class-returns
array_class-returns t c =
    array_told c.args.linker.now.order c.args.linker.now.clocks.now.clocks.now (spot_by c.args.spot.now) (spot_by c.below-below.result) c.args.count (views.shape c.args.element.now) c.in_ok-class.class c.in_ok-array_of.field-0 c.below-below.ensures c.in_ok-class.ensures c.in_ok-array_of.ensures

pub sequence_class-returns : goal.sequence_class-returns
sequence_class-returns t c =
    sequence_told c.args.linker.now.order c.args.linker.now.clocks.now.clocks.now (spot_by c.args.spot.now) (spot_by c.below-below.result) c.args.path.now (views.shape c.args.element.now) c.in_ok-route.route c.in_ok-class.class c.in_ok-array_of.field-0 c.in_ok-route.ensures c.below-below.ensures c.in_ok-class.ensures c.in_ok-array_of.ensures

pub structure_class-returns : goal.structure_class-returns
structure_class-returns t c =
    structure_told c.args.linker.now.order c.args.linker.now.clocks.now.clocks.now (spot_by c.args.spot.now) c.args.align (views.members c.args.members.now) c.in_ok-made.made c.in_ok-structure_of.field-0 c.in_ok-made.ensures c.in_ok-structure_of.ensures

pub structure_class-returns-in_err-made : goal.structure_class-returns-in_err-made
structure_class-returns-in_err-made t c =
    let r = err_from_is_err_and c.from_residual.result c.from_residual.ensures.1 in
    rw (r.1, r.2) (structure_fails c.args.linker.now.order c.args.linker.now.clocks.now.clocks.now (spot_by c.args.spot.now) c.args.align (views.members c.args.members.now) c.in_err-made.field-0.0 c.in_err-made.ensures)

pub variant_class-returns : goal.variant_class-returns
variant_class-returns t c =
    variant_told c.args.linker.now.order c.args.linker.now.clocks.now.clocks.now (spot_by c.args.spot.now) (spot_by c.below-below.result) c.args.tag.now (views.members c.args.options.now) (tag_by c.in_ok-found.found) c.in_ok-made.made c.in_ok-variant_of.field-0 c.in_ok-found.ensures c.below-below.ensures c.in_ok-made.ensures c.in_ok-variant_of.ensures

pub variant_class-returns-in_err-made : goal.variant_class-returns-in_err-made
variant_class-returns-in_err-made t c =
    let r = err_from_is_err_and c.from_residual-in_err-made.result c.from_residual-in_err-made.ensures.1 in
    rw (r.1, r.2) (variant_fails c.args.linker.now.order c.args.linker.now.clocks.now.clocks.now (spot_by c.args.spot.now) (spot_by c.below-below.result) c.args.tag.now (views.members c.args.options.now) (tag_by c.in_ok-found.found) c.in_err-made.field-0.0 c.in_ok-found.ensures c.below-below.ensures c.in_err-made.ensures)

pub members_in-returns-in_err-member : goal.members_in-returns-in_err-member
members_in-returns-in_err-member t c =
    let fields = fields_in (views.members c.args.members.now) in
    let at = member_told c.args.linker.now.order c.args.linker.now.clocks.now.clocks.now (spot_by c.args.spot.now) in
    let f = there fields c.loop-place.place (omega (arith, c.len-place-end.ensures)) in
    let r = err_from_is_err_and c.from_residual-in_err-member.result c.from_residual-in_err-member.ensures.1 in
    let row = row_fails at fields c.loop-place.place f.0 c.loop-place.made c.in_err-member.field-0.0 f.1 (c.in_err-member.ensures f.0 f.1) in
    rw (r.1, r.2) (same_fails _ _ c.in_err-member.field-0.0 c.loop-place.invariant row)

pub members_in-loop-place-preserved : goal.members_in-loop-place-preserved
members_in-loop-place-preserved t c =
    let fields = fields_in (views.members c.args.members.now) in
    let at = member_told c.args.linker.now.order c.args.linker.now.clocks.now.clocks.now (spot_by c.args.spot.now) in
    let i = c.loop-place.place in
    let f = there fields i (omega (arith, c.len-place-end.ensures)) in
    ap (λ (made : List Member). each_told at (take (i + 1) fields) (drop (i + 1) fields) >>= λ ms. Ok (made ++ ms)) c.in_ok-push.ensures.ok
    ∙ row_ok at fields i f.0 c.in_ok-member.member c.loop-place.made f.1 (c.in_ok-member.ensures f.0 f.1)
    ∙ c.loop-place.invariant

pub options_in-returns-in_err-option : goal.options_in-returns-in_err-option
options_in-returns-in_err-option t c =
    let fields = fields_in (views.members c.args.options.now) in
    let at = option_told c.args.linker.now.order c.args.linker.now.clocks.now.clocks.now (spot_by c.args.spot.now) in
    let f = there fields c.loop-place.place (omega (arith, c.len-place-end.ensures)) in
    let r = err_from_is_err_and c.from_residual-in_err-option.result c.from_residual-in_err-option.ensures.1 in
    let row = row_fails at fields c.loop-place.place f.0 c.loop-place.made c.in_err-option.field-0.0 f.1 (c.in_err-option.ensures f.0 f.1) in
    rw (r.1, r.2) (same_fails _ _ c.in_err-option.field-0.0 c.loop-place.invariant row)

pub options_in-loop-place-preserved : goal.options_in-loop-place-preserved
options_in-loop-place-preserved t c =
    let fields = fields_in (views.members c.args.options.now) in
    let at = option_told c.args.linker.now.order c.args.linker.now.clocks.now.clocks.now (spot_by c.args.spot.now) in
    let i = c.loop-place.place in
    let f = there fields i (omega (arith, c.len-place-end.ensures)) in
    ap (λ (made : List Member). each_told at (take (i + 1) fields) (drop (i + 1) fields) >>= λ ms. Ok (made ++ ms)) c.in_ok-push.ensures.ok
    ∙ row_ok at fields i f.0 c.in_ok-option.option c.loop-place.made f.1 (c.in_ok-option.ensures f.0 f.1)
    ∙ c.loop-place.invariant
