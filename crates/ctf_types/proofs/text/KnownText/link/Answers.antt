use Rattle.std.proofs.Common.{◌≡◌, ◌≤◌, ◌+◌, map, length, Some, sym, ap, ◌∙◌, subst, arith}
use Rattle.std.specs.Prelude.{slice_get, Contains}
use Rattle.std.proofs.lemmas.Result.{err_from_is_err_and}
use Rattle.std.proofs.lemmas.List.{length-map}
use Rattle.ctf_meaning.specs.Reading.{declaration_of}
use Rattle.ctf_meaning.specs.Faults.{link_faults, first_faults}
use Rattle.ctf_meaning.specs.Streams.{numbered, streams}
use Rattle.ctf_types.specs.Events.{IsRow}
use Rattle.ctf_types.specs.Gone.{AllGiven}
use Rattle.ctf_types.specs.Ids.{AreIds}
use Rattle.ctf_types.specs.Whole.{stream_at}
use Rattle.ctf_types.proofs.Going.{none_gone, one_gone, all_gone, told_here}
use Rattle.ctf_types.proofs.Heads.{widened}
use Rattle.ctf_types.proofs.Numbers.{stands}
use Rattle.ctf_types.proofs.text.KnownText.link.Goals as goal

pub loop-number-init : goal.loop-number-init
loop-number-init g c = (
  none_gone c.args.declarations.now c.args.self.now.order c.in_ok-parts.parts c.in_ok-parts.ensures.parted
      (c.in_ok-parts.ensures.lists ∙ ap length c.as_slice.ensures ∙ sym (length-map c.args.self.now.streams.now stream_at) ∙ ap length (c.requires.1.streams ∙ ap streams c.requires.0)),
  λ stream id l. c.new-ids.ensures stream id,
)

pub row-requires : goal.row-requires
row-requires g c = (
  c.requires.1,
  (
    subst (λ t. slice_get t c.loop-number.number ≡ Some (declaration_of c.index-declarations-number.result)) (sym c.requires.0)
        (stands c.args.declarations.now c.loop-number.number c.index-declarations-number.result c.loop-number-test.true c.index-declarations-number.is),
    subst (λ t. AreIds t c.loop-number.number c.loop-number.ids) (sym c.requires.0) c.loop-number.invariant.1,
  ),
)

pub returns-in_err-row : goal.returns-in_err-row
returns-in_err-row g c =
    let p = err_from_is_err_and c.from_residual-in_err-row.result c.from_residual-in_err-row.ensures.1 in rw (p.1, p.2)
    (widened c.in_err-row.field-0.0
    (λ told. subst (λ t. Contains (first_faults (map (link_faults t) (numbered t))) c.in_err-row.field-0.0) (sym c.requires.0)
    (told_here c.args.declarations.now c.args.self.now.order c.loop-number.number c.index-declarations-number.result c.loop-number.parts c.in_err-row.field-0.0 c.loop-number-test.true c.index-declarations-number.is c.loop-number.invariant.0
    (subst (λ t. Contains (link_faults t (c.loop-number.number, declaration_of c.index-declarations-number.result)) c.in_err-row.field-0.0) c.requires.0 told)))
    c.in_err-row.ensures.row)

pub loop-number-preserved : goal.loop-number-preserved
loop-number-preserved g c =
    let row = subst (λ t. IsRow t c.args.self.now.order (c.loop-number.number, declaration_of c.index-declarations-number.result) c.in_ok-row.row) c.requires.0 c.in_ok-row.ensures.row in (
      one_gone c.args.declarations.now c.args.self.now.order c.loop-number.number c.index-declarations-number.result c.in_ok-row.row c.loop-number.parts c.put.new.self c.loop-number-test.true c.index-declarations-number.is
          c.loop-number.invariant.0 row.linked (c.in_ok-put.ensures.parted c.loop-number.invariant.0.rows c.loop-number.invariant.0.parted) c.in_ok-put.ensures.lists,
      subst (λ t. AreIds t (c.loop-number.number + 1) c.row.new.ids) c.requires.0 c.in_ok-row.ensures.ids,
    )

pub returns : goal.returns
returns g c =
    let end : length c.args.declarations.now ≤ c.loop-number.number = grind (arith, c.loop-number-test.false) in
    subst (λ t. AllGiven t c.args.self.now.order c.loop-number.parts) (sym c.requires.0)
    (all_gone c.args.declarations.now c.args.self.now.order c.loop-number.number c.loop-number.parts end c.loop-number.invariant.0)
