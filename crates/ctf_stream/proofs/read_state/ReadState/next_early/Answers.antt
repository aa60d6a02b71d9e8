use Rattle.ctf_stream.proofs.ReadStates.{if_none, reads_after}
use Rattle.ctf_stream.proofs.read_state.ReadState.next_early.Goals as goal

pub returns : goal.returns
returns c =
    let passed = if_none c.next_passed.result _ c.in_default.is c.next_passed.ensures.none in
    reads_after c.args.self.now c.next_passed.new.self c.next_text.new.self c.next_text.result passed c.next_text.ensures
