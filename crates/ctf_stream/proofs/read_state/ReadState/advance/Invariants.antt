use Rattle.std.proofs.Common.{◌≡◌, ◌+◌, ◌≤◌, length, IsTrue}
use Rattle.ctf_stream.specs.ReadState.{coming_of, Stands, HasShared, room_of}
use Rattle.ctf_stream.proofs.read_state.ReadState.advance.Given as goal

abbrev pub invariant-loop-fault : goal.invariant-loop-fault
invariant-loop-fault g l = record {
  tells : IsTrue (g.S.Source.tells l.initial.source) → IsTrue (g.S.Source.tells l.source);
  ending : IsTrue (g.S.Source.tells l.initial.source) → g.S.Source.ending l.source ≡ g.S.Source.ending l.initial.source;
  coming : IsTrue (g.S.Source.tells l.initial.source) → coming_of (g.S.Source.ending l.initial.source) (g.S.Source.left l.initial.source) l.initial.self ≡ coming_of (g.S.Source.ending l.initial.source) (g.S.Source.left l.source) l.self;
  counted : IsTrue (g.S.Source.tells l.initial.source) → l.self.taken + length (g.S.Source.left l.source) ≡ l.initial.self.taken + length (g.S.Source.left l.initial.source);
  forward : l.initial.self.taken ≤ l.self.taken;
  trace : l.self.cut.trace ≡ l.initial.self.cut.trace;
  stands : Stands l.self;
  shared : HasShared l.self;
  writes : l.self.writes ≡ l.initial.self.writes;
  room : room_of l.self ≤ room_of l.initial.self;
}

abbrev pub decreases-loop-fault : goal.decreases-loop-fault
decreases-loop-fault g l = room_of l.self
