use Rattle.std.proofs.Common.{sym, ap, ◌∙◌, arith}
use Rattle.ctf_meaning.specs.Reading.{declaration_of}
use Rattle.ctf_types.proofs.Rowing.{ids_other}
use Rattle.ctf_types.proofs.text.KnownText.row.Goals as goal

pub returns-in-Table-clause-ids : goal.returns-in-Table-clause-ids
returns-in-Table-clause-ids g c =
    ids_other g.text c.args.number (declaration_of c.args.declaration.now) c.args.ids.now (λ es h. grind (arith, sym (ap declaration_of c.in-Table.is) ∙ h)) c.requires.1.0 c.requires.1.1

pub returns-in-Types-clause-ids : goal.returns-in-Types-clause-ids
returns-in-Types-clause-ids g c =
    ids_other g.text c.args.number (declaration_of c.args.declaration.now) c.args.ids.now (λ es h. grind (arith, sym (ap declaration_of c.in-Types.is) ∙ h)) c.requires.1.0 c.requires.1.1
