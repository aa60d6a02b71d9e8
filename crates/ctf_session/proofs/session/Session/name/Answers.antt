use Rattle.ctf_session.proofs.Fronts.{name_none}
use Rattle.ctf_session.proofs.session.Session.name.Goals as goal

pub returns-in-None : goal.returns-in-None
returns-in-None g c = rw (← c.self.view_is) (name_none c.self.inside.merge.readers c.args.number c.in-None.ensures)
