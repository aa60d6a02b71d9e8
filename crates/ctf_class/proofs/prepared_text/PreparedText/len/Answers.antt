use Rattle.std.proofs.Common.{◌∷◌, sym, arith}
use Rattle.ctf_class.proofs.WordsLemmas.{length-text}
use Rattle.ctf_class.proofs.prepared_text.PreparedText.len.Goals as goal

pub returns-clause-is : goal.returns-clause-is
returns-clause-is c =
    let inside = c.self.inside in
    sym (length-text (inside.first ∷ inside.second ∷ inside.third ∷ inside.rest) c.args.self.now inside.length (omega (arith, c.self.invariant)) c.self.view_is)
