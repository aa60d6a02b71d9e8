use Rattle.std.proofs.Common.{ap, sym, ◌∙◌}
use Rattle.std.specs.Prelude.{option_map}
use Rattle.ctf_types.specs.Whole.{stream_at}
use Rattle.ctf_types.proofs.Saying.{of_id, the_only, id_stands, only_stands, if_stands}
use Rattle.ctf_types.proofs.text.KnownText.stream_of.Goals as goal

pub returns-in-Some-clause-said : goal.returns-in-Some-clause-said
returns-in-Some-clause-said c = rw c.in-Some.is (ap (option_map stream_at) c.get.ensures ∙ of_id c.args.self.now.streams.now c.in-Some.id)

pub returns-in-Some-clause-stands : goal.returns-in-Some-clause-stands
returns-in-Some-clause-stands c = if_stands c.args.self.now.streams.now c.get.result (λ s e. id_stands c.args.self.now.streams.now c.in-Some.id s (sym c.get.ensures ∙ e))

pub returns-in-None-clause-said : goal.returns-in-None-clause-said
returns-in-None-clause-said c = rw c.in-None.is (ap (option_map stream_at) c.only.ensures ∙ the_only c.args.self.now.streams.now)

pub returns-in-None-clause-stands : goal.returns-in-None-clause-stands
returns-in-None-clause-stands c = if_stands c.args.self.now.streams.now c.only.result (λ s e. only_stands c.args.self.now.streams.now s (sym c.only.ensures ∙ e))
