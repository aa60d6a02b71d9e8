use Rattle.ctf_types.proofs.Moving.{all_moved}
use Rattle.ctf_types.proofs.text.KnownText.moved_clock.Goals as goal

pub returns : goal.returns
returns g c =
    all_moved g.text c.args.number c.args.self.now.trace c.in_ok-moved-3.moved c.in_ok-clock.clock c.requires.trace
    (c.in_ok-moved-3.ensures _ (c.in_ok-moved-2.ensures _ (c.in_ok-moved.ensures _ c.none.ensures))) c.in_ok-clock.ensures
