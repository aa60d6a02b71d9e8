use Rattle.std.proofs.Common.{ap, sym, refl}
use Rattle.tsdl_tree.specs.declared.tree.Declaration.{Declaration as TreeDeclaration}
use Rattle.ctf_meaning.specs.Reading.{declaration_of, item_of}
use Rattle.ctf_meaning.specs.Written.{Names}
use Rattle.ctf_meaning_steps.specs.Blocks.{declaration_told}
use Rattle.ctf_declarations.specs.DeclaredSoFar.{walked}
use Rattle.ctf_declarations.proofs.Remembered.{nothing_kept}
use Rattle.ctf_declarations.proofs.Settled.{on_ok}
use Rattle.ctf_declarations.proofs.Steps.{follows_same}
use Rattle.ctf_declarations.proofs.so_far.declaration.Goals as goal

pub returns-in-Types-clause-told : goal.returns-in-Types-clause-told
returns-in-Types-clause-told c before r =
    follows_same (λ _. walked c.names.new.so_far) c.names.result _ _
    (ap (λ (d : TreeDeclaration). declaration_told before (walked c.args.so_far.now) (declaration_of d)) (sym c.in-Types.is)) (c.names.ensures before)

pub returns-in-Types-clause-kept : goal.returns-in-Types-clause-kept
returns-in-Types-clause-kept c before r =
    on_ok c.names.result (rw c.in-Types.is (nothing_kept c.args.earlier.now before (Names (item_of c.in-Types.types)) r refl refl refl))
