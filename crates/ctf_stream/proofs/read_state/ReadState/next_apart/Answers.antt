use Rattle.std.proofs.Common.{◌≡◌, ◌∙◌, sym}
use Rattle.ctf_stream.proofs.ReadStates.{if_none, reads_after}
use Rattle.ctf_stream.proofs.read_state.ReadState.next_apart.Goals as goal
use Rattle.ctf_stream.proofs.read_state.ReadState.next_apart.Goals.{then-is_early+in_default, else-is_early}

pub returns : goal.returns
returns c =
    let old = c.args.self.now in
    let now = c.if-is_early.self in
    let same : now ≡ record old { line = now.line } = elim c.if-is_early.branch [
      | then-is_early+in_default w ↦ w.self-is ∙ if_none w.next_early.result _ w.in_default.is w.next_early.ensures.none ∙ (λ j. record old { line = (sym w.self-is j).line })
      | else-is_early w ↦ w.self-is ∙ (λ j. record old { line = (sym w.self-is j).line })
    ] in
    reads_after old now c.next_text.new.self c.next_text.result same c.next_text.ensures
