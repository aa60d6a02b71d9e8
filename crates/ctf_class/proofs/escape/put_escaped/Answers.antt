use Rattle.std.proofs.Common.{arith, rules}
use Rattle.ctf_class.proofs.EscapesLemmas.{shown-plain, shown-escape}
use Rattle.ctf_class.proofs.escape.put_escaped.Goals as goal
use Rattle.ctf_class.proofs.escape.put_escaped.Goals.{then-not-is_plain+in_ok-extend_from_slice+in_ok-put_escape, else-not-is_plain}

pub loop-place-preserved : goal.loop-place-preserved
loop-place-preserved c =
    let kept = c.loop-place.invariant in
    elim c.if-not-is_plain.branch [
      | then-not-is_plain+in_ok-extend_from_slice+in_ok-put_escape w ↦
          let shown = shown-escape c.loop-place.text.items c.args.text.now.items c.args.bytes.now c.loop-place.start c.loop-place.place c.loop-place-test.true kept.shown in
          record { after = omega arith; shown = cc (w.in_ok-put_escape.ensures, w.in_ok-extend_from_slice.ensures.items) }
      | else-not-is_plain w ↦
          let shown = shown-plain c.loop-place.text.items c.args.text.now.items c.args.bytes.now c.loop-place.start c.loop-place.place kept.after c.loop-place-test.true (w.if-not-is_plain.ensures (search rules)) kept.shown in
          record { after = omega arith; shown = cc }
    ]
