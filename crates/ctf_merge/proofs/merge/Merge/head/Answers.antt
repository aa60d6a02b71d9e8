use Rattle.ctf_merge.proofs.Heads.{head_shown}
use Rattle.ctf_merge.proofs.merge.Merge.head.Goals as goal

pub returns-clause-shows : goal.returns-clause-shows
returns-clause-shows g c =
    head_shown c.args.self.now c.in_ok-number.number c.in_ok-reader.reader.now c.told.result c.in_ok-number.ensures.item c.in_ok-reader.ensures c.told.ensures.tells c.told.ensures.asked
