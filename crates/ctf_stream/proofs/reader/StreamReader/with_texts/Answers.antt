use Rattle.std.proofs.Common.{subst, sym}
use Rattle.ctf_stream.specs.Standing.{IsStanding}
use Rattle.ctf_stream.proofs.Asking.{still_standing}
use Rattle.ctf_stream.proofs.reader.StreamReader.with_texts.Goals as goal

pub invariant_of-reader : goal.invariant_of-reader
invariant_of-reader g c = subst (λ s. IsStanding s c.reader.inside.head) (sym c.ask.ensures) (still_standing c.reader.inside.read_state c.args.begin c.reader.inside.head c.reader.invariant)
