use Rattle.std.proofs.Common.{map, ap, sym, ◌∙◌, refl, Ok}
use Rattle.std.proofs.lemmas.Result.{err_from_is_err_and}
use Rattle.ctf_meaning.specs.Reading.{entry_of}
use Rattle.ctf_meaning_steps.specs.Seen.{Seen}
use Rattle.ctf_meaning_steps.specs.Blocks.{placed}
use Rattle.ctf_declarations.specs.Views.{names_in}
use Rattle.ctf_declarations.specs.DeclaredSoFar.{classes_told, named_class, placed_seen}
use Rattle.ctf_declarations.proofs.Forms.{alone_is}
use Rattle.ctf_declarations.proofs.Steps.{tell_same, bind_fault, follows_bind}
use Rattle.ctf_declarations.proofs.so_far.block_row.Goals as goal

pub returns-in_err-classes : goal.returns-in_err-classes
returns-in_err-classes c =
    let es = map entry_of c.args.entries.now in
    let p = err_from_is_err_and c.from_residual.result c.from_residual.ensures.1 in rw (p.1, p.2)
    (bind_fault (classes_told (names_in c.args.names.now) es) (λ cs. Ok (placed c.args.kind cs)) c.in_err-classes.field-0.0
    (tell_same _ _ c.in_err-classes.field-0.0 (ap (λ (s : Seen). classes_told s es) (alone_is c.args.names _ refl)) c.in_err-classes.ensures))

pub returns : goal.returns
returns c =
    let es = map entry_of c.args.entries.now in
    follows_bind (map placed_seen) c.placed_classes.result (classes_told (names_in c.args.names.now) es) (λ cs. Ok (placed c.args.kind cs)) (map named_class c.in_ok-classes.classes.items)
    (sym (ap (λ (s : Seen). classes_told s es) (alone_is c.args.names _ refl)) ∙ c.in_ok-classes.ensures)
    (rw c.as_slice.ensures.value at c.placed_classes.ensures)
