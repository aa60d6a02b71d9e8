use Rattle.std.proofs.Common.{map, take, drop}
use Rattle.std.proofs.Math.Facts.{to_z-of_z}
use Rattle.ctf_class.specs.Names.{label_text}
use Rattle.ctf_format.specs.Labels.{names_after}
use Rattle.ctf_format.proofs.NamesLemmas.{row_next_name, row_all_names}
use Rattle.ctf_format.proofs.label.put_others.Goals as goal

pub loop-place-preserved : goal.loop-place-preserved
loop-place-preserved c =
    let labels = c.args.labels.now in
    let z = c.args.number in
    let all = map label_text (names_after (take c.args.from labels) (drop c.args.from labels) z) in
    let so_far = rw (to_z-of_z c.ranges.number) at c.loop-place.invariant in
    let next = rw (to_z-of_z c.ranges.number) at c.in-Some.ensures.next in
    rw (to_z-of_z c.ranges.number) (record {
      held = c.in_ok-end.ensures.put.held;
      text = row_next_name labels z c.loop-place.begin c.in-Some.place (take c.loop-place.end c.loop-place.buffer.items) (take c.in_ok-end.end c.put_name.new.buffer.items) (take c.args.at c.args.buffer.now.items) 44 44 all next so_far.text c.in_ok-end.ensures.put.text;
    })

pub returns : goal.returns
returns c =
    let labels = c.args.labels.now in
    let z = c.args.number in
    let all = map label_text (names_after (take c.args.from labels) (drop c.args.from labels) z) in
    let so_far = rw (to_z-of_z c.ranges.number) at c.loop-place.invariant in
    let none = rw (to_z-of_z c.ranges.number) at c.in_default.ensures.next in
    record {
      held = c.loop-place.invariant.held;
      text = row_all_names labels z c.loop-place.begin (take c.loop-place.end c.loop-place.buffer.items) (take c.args.at c.args.buffer.now.items) 44 44 all none so_far.text;
    }
