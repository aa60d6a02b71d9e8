use Rattle.std.proofs.Common.{refl, ◌++◌, ◌∙◌, subst, List}
use Rattle.std.proofs.lemmas.Result.{err_from_is_err_and}
use Rattle.tsdl_tree.specs.declared.tree.TableKind.TheVariants.{Clock, Env, Callsite}
use Rattle.ctf_meaning.specs.declared.fault.ResolveFault.{ResolveFault}
use Rattle.ctf_meaning.specs.Written.{Table}
use Rattle.ctf_meaning.specs.Settings.{minus_faults}
use Rattle.ctf_meaning.specs.Clocks.{clock_faults}
use Rattle.ctf_meaning.specs.Blocks.{twice_faults}
use Rattle.ctf_attributes.specs.Tells.{Tells, Nothing}
use Rattle.ctf_declarations.proofs.Remembered.{nothing_kept, clock_twice}
use Rattle.ctf_declarations.proofs.Settled.{front_fault, after_fault, both_empty, tells_after}
use Rattle.ctf_declarations.proofs.declared_once.DeclaredOnce.add_table.Goals as goal

pub returns-in_err-clock-in-Clock-clause-told : goal.returns-in_err-clock-in-Clock-clause-told
returns-in_err-clock-in-Clock-clause-told c before r =
    let p = err_from_is_err_and c.from_residual-in_err-clock-in-Clock.result c.from_residual-in_err-clock-in-Clock.ensures.1 in rw (c.in-Clock.is, p.1, p.2)
    (let s = c.args.settings.now in
    front_fault (minus_faults s ++ clock_faults s) (twice_faults before (Table Clock s)) c.in_err-clock-in-Clock.field-0.0
    (after_fault (minus_faults s) (clock_faults s) c.in_err-clock-in-Clock.field-0.0 c.in_ok-numbers.ensures.told.0 c.in_err-clock-in-Clock.ensures.told))

pub returns-in_ok-name-in-Clock-clause-told : goal.returns-in_ok-name-in-Clock-clause-told
returns-in_ok-name-in-Clock-clause-told c before r =
    rw c.in-Clock.is
    (let s = c.args.settings.now in
    tells_after (minus_faults s ++ clock_faults s) (twice_faults before (Table Clock s)) Nothing c.add_clock.result
    (both_empty (minus_faults s) (clock_faults s) c.in_ok-numbers.ensures.told.0 c.in_ok-clock-in-Clock.ensures.told.0)
    (subst (λ (fs : List ResolveFault). Tells fs Nothing c.add_clock.result) (clock_twice s before c.in_ok-clock-in-Clock.clock c.in_ok-name-in-Clock.name.items c.in_ok-clock-in-Clock.ensures.told.1 (c.in_ok-name-in-Clock.ensures.items ∙ c.as_slice.ensures ∙ c.get.ensures)) (c.add_clock.ensures.told before r)))

pub returns-in-Env-clause-kept : goal.returns-in-Env-clause-kept
returns-in-Env-clause-kept c before r = rw c.in-Env.is (nothing_kept c.args.self.now before (Table Env c.args.settings.now) r refl refl refl)

pub returns-in-Callsite-clause-kept : goal.returns-in-Callsite-clause-kept
returns-in-Callsite-clause-kept c before r = rw c.in-Callsite.is (nothing_kept c.args.self.now before (Table Callsite c.args.settings.now) r refl refl refl)
