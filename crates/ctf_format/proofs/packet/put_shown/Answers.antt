use Rattle.std.proofs.Common.{◌≡◌, ℕ, drop, ◌+◌, ◌++◌, ◌<◌, ◌≤◌, min, false, List, map, length, get_or, take, ap, sym, ◌∙◌, arith}
use Rattle.std.proofs.Math.Nat.{min-le_left, min-le_right, le-min}
use Rattle.std.proofs.lemmas.List.{length-map}
use Rattle.std.specs.List.{prefix_len}
use Rattle.ctf_class.specs.Fronts.{are_of_packet}
use Rattle.ctf_class.specs.declared.class.Member.{Member}
use Rattle.ctf_decode.specs.Values.{vals_of}
use Rattle.ctf_decode.specs.Views.{val}
use Rattle.ctf_format.specs.Lines.{shown_members}
use Rattle.ctf_format.specs.Rows.{row}
use Rattle.ctf_format.proofs.LinesLemmas.{hidden_same, shown_all, shown_from}
use Rattle.ctf_format.proofs.packet.put_shown.Goals as goal

pub loop-i-init : goal.loop-i-init
loop-i-init c =
    let ms = c.members-members.result.now in
    let vs = c.args.values.now in
    let before = take c.args.at c.args.buffer.now.items in
    let first = c.first_shown-i.ensures ∙ ap (λ (xs : List Member). prefix_len (λ hidden. hidden) (are_of_packet xs)) (sym c.members-members.ensures) in
    record {
      held = c.requires;
      text = ap (λ (i : ℕ). before ++ row 123 (shown_members (drop i ms) (vals_of (map val (drop i vs))))) first ∙ ap (λ texts. before ++ row 123 texts) (shown_from ms vs);
    }

pub loop-i-preserved-then-hidden-i : goal.loop-i-preserved-then-hidden-i
loop-i-preserved-then-hidden-i c =
    let ms = c.members-members.result.now in
    let vs = c.args.values.now in
    let hs = c.hidden-hidden.result.now in
    let same : hs ≡ are_of_packet ms = c.hidden-hidden.ensures ∙ ap are_of_packet (sym c.members-members.ensures) in
    let count : length hs ≡ length ms = ap length same ∙ length-map ms _ in
    let in_ms : c.loop-i.i < length ms = omega (arith, c.loop-i-test.true, c.min-count.ensures, count, min-le_left (length hs) (length vs)) in
    let in_vs : c.loop-i.i < length vs = omega (arith, c.loop-i-test.true, c.min-count.ensures, min-le_right (length hs) (length vs)) in
    record {
      held = c.loop-i.invariant.held;
      text = hidden_same ms vs c.loop-i.i (take c.loop-i.end c.loop-i.buffer.items) (take c.args.at c.args.buffer.now.items) c.loop-i.lead 123 _ in_ms in_vs (sym (ap (λ h. get_or h c.loop-i.i false) same) ∙ c.if-hidden-i.true) c.loop-i.invariant.text;
    }

pub returns : goal.returns
returns c =
    let ms = c.members-members.result.now in
    let vs = c.args.values.now in
    let hs = c.hidden-hidden.result.now in
    let before = take c.args.at c.args.buffer.now.items in
    let same : hs ≡ are_of_packet ms = c.hidden-hidden.ensures ∙ ap are_of_packet (sym c.members-members.ensures) in
    let count : length ms ≡ length hs = sym (ap length same ∙ length-map ms _) in
    let past : c.loop-i.i < length ms → c.loop-i.i < length vs → ⊥ =
    λ a b.
    let in_hs : c.loop-i.i + 1 ≤ length hs = omega (arith, a, count) in
    let in_vs : c.loop-i.i + 1 ≤ length vs = omega (arith, b) in
    let more : c.loop-i.i + 1 ≤ min (length hs) (length vs) = le-min in_hs in_vs in
    omega (arith, c.loop-i-test.false, c.min-count.ensures, more)
    in
    record {
      held = c.loop-i.invariant.held;
      text = shown_all ms vs c.loop-i.i (take c.loop-i.end c.loop-i.buffer.items) before c.loop-i.lead 123 _ past c.loop-i.invariant.text
          ∙ ap (λ (xs : List Member). before ++ row 123 (shown_members xs (vals_of (map val vs)))) c.members-members.ensures;
    }
