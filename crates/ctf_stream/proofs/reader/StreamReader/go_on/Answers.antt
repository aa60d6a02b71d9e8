use Rattle.std.proofs.Common.{inl, refl, ◌≡◌, ◌∙◌, sym}
use Rattle.ctf_stream.specs.ReadState.{coming_of}
use Rattle.ctf_stream.specs.Reader.{rest_of}
use Rattle.ctf_stream.proofs.ReadStates.{comes, after_item}
use Rattle.ctf_stream.proofs.reader.StreamReader.go_on.Goals as goal
use Rattle.ctf_stream.proofs.reader.StreamReader.go_on.Goals.{in-Item, in-Start}

pub returns-in-Some-clause-goes_on : goal.returns-in-Some-clause-goes_on
returns-in-Some-clause-goes_on g c = λ tells.
    let ending = g.S.Source.ending c.self.inside.source in
    let left = g.S.Source.left c.self.inside.source in
    let old = coming_of ending left c.self.inside.read_state in
    let new = c.next_written.new.self in
    let front = c.in-Some.front in
    let rest : rest_of c.args.self.now ≡ old = elim c.match-self.branch [ in-Item w ↦ rw (← c.self.view_is, w.in-Item.is) (after_item c.self.inside.read_state c.self.inside.read_state.packet w.in-Item.field-0 c.self.inside.read_state.cut.at old) | in-Start w ↦ rw (← c.self.view_is, w.in-Start.is) refl ] in
    inl (comes old (coming_of ending left new) new new.packet left front new.cut.at (c.in-Some.ensures.advances ending left) ∙ sym rest)
