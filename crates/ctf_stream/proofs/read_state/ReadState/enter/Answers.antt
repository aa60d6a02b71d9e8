use Rattle.ctf_stream.proofs.read_state.ReadState.enter.Goals as goal

pub fetch-fetched-requires-clause-knows : goal.fetch-fetched-requires-clause-knows
fetch-fetched-requires-clause-knows g c = c.requires.shared.header
