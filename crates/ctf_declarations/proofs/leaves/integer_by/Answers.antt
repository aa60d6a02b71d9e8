use Rattle.std.proofs.Common.{Ok}
use Rattle.ctf_meaning.specs.Settings.{minus_faults}
use Rattle.ctf_meaning.specs.Integers.{integer_faults, integer_of}
use Rattle.ctf_meaning_steps.specs.Told.{unless}
use Rattle.ctf_declarations.proofs.Steps.{tells_value, follows_unless}
use Rattle.ctf_declarations.proofs.leaves.integer_by.Goals as goal

pub returns : goal.returns
returns c =
    let s = c.args.settings.now in
    follows_unless (λ i. i) c.integer.result (minus_faults s) (unless (integer_faults s) (Ok (integer_of s))) c.in_ok-numbers.ensures.told.0
    (tells_value (integer_faults s) (λ i. i) (integer_of s) c.integer.result c.integer.ensures.told)
