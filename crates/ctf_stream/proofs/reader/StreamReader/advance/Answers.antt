use Rattle.std.proofs.Common.{inl, refl, ◌≡◌, ◌∙◌, ap, sym}
use Rattle.ctf_stream.specs.ReadState.{coming_of}
use Rattle.ctf_stream.specs.Reader.{coming, after_ahead, with_ahead}
use Rattle.ctf_stream.proofs.ReadStates.{comes}
use Rattle.ctf_stream.proofs.reader.StreamReader.advance.Goals as goal

pub returns-in-Some-clause-comes : goal.returns-in-Some-clause-comes
returns-in-Some-clause-comes g c = λ tells.
    let ending = g.S.Source.ending c.self.inside.source in
    let left = g.S.Source.left c.self.inside.source in
    let old = coming_of ending left c.self.inside.read_state in
    let new = c.next_apart.new.self in
    let front = c.in-Some.front in
    let now = c.args.self.now in
    let after : now.after ≡ old = rw (← c.self.view_is) refl in
    let is : coming now ≡ old = ap (λ a. with_ahead a (after_ahead a now.cut now.after)) c.requires ∙ after in
    inl (comes old (coming_of ending left new) new new.packet left front new.cut.at (c.in-Some.ensures.advances ending left) ∙ sym is)
