use Rattle.std.proofs.Common.{ap}
use Rattle.ctf_meaning.specs.Reading.{item_of}
use Rattle.ctf_meaning_steps.specs.Seen.{Seen}
use Rattle.ctf_declarations.specs.Members.{names_told}
use Rattle.ctf_declarations.specs.Views.{names_in}
use Rattle.ctf_declarations.proofs.Forms.{nothing_is}
use Rattle.ctf_declarations.proofs.Steps.{follows_same}
use Rattle.ctf_declarations.proofs.so_far.text_types.Goals as goal

pub returns : goal.returns
returns c =
    follows_same (λ _. names_in c.types.new.own) c.types.result _ _
    (ap (λ (s : Seen). names_told s (names_in c.args.names.now) (item_of c.args.declaration.now)) nothing_is) c.types.ensures
