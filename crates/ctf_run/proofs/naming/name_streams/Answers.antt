use Rattle.ctf_run.proofs.Shown.{same_names}
use Rattle.ctf_run.proofs.naming.name_streams.Goals as goal

pub returns-then-several : goal.returns-then-several
returns-then-several g c = λ given. rw c.if-several.true (c.join_names.ensures given)

pub returns-else-several : goal.returns-else-several
returns-else-several g c = λ given. rw c.if-several.false (same_names given c.args.trace.now c.args.streams.items)
