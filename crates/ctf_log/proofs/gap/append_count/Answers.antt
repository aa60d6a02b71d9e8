use Rattle.std.proofs.Common.{◌++◌, codes}
use Rattle.std.specs.Fmt.{decimal}
use Rattle.ctf_log.proofs.Rows.{three}
use Rattle.ctf_log.proofs.gap.append_count.Goals as goal

pub returns : goal.returns
returns c =
    three c.args.text.now.items (codes "WARNING: tracer ") c.args.words.now.verb.now (decimal c.args.count ++ c.args.words.now.noun.now) c.extend_from_slice.new.self.items c.extend_from_slice-2.new.self.items c.append_number.new.text.items
    c.in_ok-extend_from_slice.ensures.items c.in_ok-extend_from_slice-2.ensures.items c.in_ok-append_number.ensures
