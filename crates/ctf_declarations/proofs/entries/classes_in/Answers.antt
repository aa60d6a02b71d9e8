use Rattle.std.proofs.Common.{map, ◌∙◌}
use Rattle.std.proofs.lemmas.Result.{err_from_is_err_and}
use Rattle.ctf_meaning.specs.Reading.{entry_of}
use Rattle.ctf_declarations.specs.Views.{visible}
use Rattle.ctf_declarations.specs.DeclaredSoFar.{held, from_held, named_class}
use Rattle.ctf_declarations.proofs.Steps.{tell_same}
use Rattle.ctf_declarations.proofs.BlockClasses.{entry_next, entry_fault}
use Rattle.ctf_declarations.proofs.entries.classes_in.Goals as goal

pub loop-entry-init : goal.loop-entry-init
loop-entry-init c = λ j. from_held (visible c.args.outer.now)
    (record { own = c.new-names.ensures j; classes = map named_class (c.new-classes.ensures.items j) }) (map entry_of c.args.entries.now)

pub loop-entry-preserved : goal.loop-entry-preserved
loop-entry-preserved c =
    entry_next (visible c.args.outer.now) c.args.entries.now c.loop-entry.entry-index c.entry-item.result c.entry-item.is c.loop-entry-test.true (held c.loop-entry.names c.loop-entry.classes.items)
    (held c.entry_in.new.names c.entry_in.new.classes.items) c.in_ok-entry_in.ensures
    ∙ c.loop-entry.invariant

pub returns-in_err-entry_in : goal.returns-in_err-entry_in
returns-in_err-entry_in c =
    let f = c.in_err-entry_in.field-0.0 in
    let p = err_from_is_err_and c.from_residual.result c.from_residual.ensures.1 in rw (p.1, p.2)
    (tell_same _ _ f c.loop-entry.invariant
    (entry_fault (visible c.args.outer.now) c.args.entries.now c.loop-entry.entry-index c.entry-item.result c.entry-item.is c.loop-entry-test.true (held c.loop-entry.names c.loop-entry.classes.items)
    f c.in_err-entry_in.ensures))
