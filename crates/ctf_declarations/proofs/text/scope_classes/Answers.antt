use Rattle.std.proofs.Common.{◌≡◌, List, [], map, take, drop, ap, sym, ◌∙◌, subst}
use Rattle.std.proofs.lemmas.Result.{err_from_is_err_and}
use Rattle.std.proofs.lemmas.List.{drop_all}
use Rattle.tsdl_tree.specs.declared.tree.Declaration.{Declaration as TreeDeclaration}
use Rattle.ctf_meaning.specs.Written.{Declaration}
use Rattle.ctf_meaning.specs.Reading.{declaration_of}
use Rattle.ctf_meaning_steps.specs.Blocks.{Walked, declarations_told, text_told}
use Rattle.ctf_declarations.specs.DeclaredSoFar.{walked, Remembers}
use Rattle.ctf_declarations.proofs.Declarations.{one_after, text_next, text_fault}
use Rattle.ctf_declarations.proofs.Steps.{tell_same}
use Rattle.ctf_declarations.proofs.text.scope_classes.Goals as goal

pub loop-item-init : goal.loop-item-init
loop-item-init c = record {
  told = ap (λ (w : Walked). declarations_told [] w (map declaration_of c.as_slice-item-items.result.now)) c.new-so_far.ensures;
  kept = c.new-earlier.ensures;
}

pub loop-item-preserved : goal.loop-item-preserved
loop-item-preserved c =
    let ds = c.as_slice-item-items.result.now in
    let i = c.loop-item.item-index in
    let before = map declaration_of (take i ds) in
    record {
      told = text_next ds i c.item-item.result c.item-item.is c.loop-item-test.true (walked c.loop-item.so_far) (walked c.declaration.new.so_far) (c.in_ok-declaration.ensures.told before c.loop-item.invariant.kept)
          ∙ c.loop-item.invariant.told;
      kept = subst (λ (l : List Declaration). Remembers c.declaration.new.earlier l) (one_after ds i c.item-item.result c.item-item.is c.loop-item-test.true) (c.in_ok-declaration.ensures.kept before c.loop-item.invariant.kept);
    }

pub returns-in_err-declaration : goal.returns-in_err-declaration
returns-in_err-declaration c =
    let p = err_from_is_err_and c.from_residual.result c.from_residual.ensures.1 in rw (p.1, p.2)
    (let ds = c.as_slice-item-items.result.now in
    let i = c.loop-item.item-index in
    let f = c.in_err-declaration.field-0.0 in
    tell_same _ _ f (c.loop-item.invariant.told ∙ ap (λ (l : List TreeDeclaration). text_told (map declaration_of l)) c.as_slice-item-items.ensures)
    (text_fault ds i c.item-item.result c.item-item.is c.loop-item-test.true (walked c.loop-item.so_far) f
    (c.in_err-declaration.ensures.told (map declaration_of (take i ds)) c.loop-item.invariant.kept)))

pub returns : goal.returns
returns c =
    let ds = c.as_slice-item-items.result.now in
    let i = c.loop-item.item-index in
    let end : drop i ds ≡ [] = drop_all i ds c.loop-item-test.false in (
      walked c.loop-item.so_far,
      sym (ap (λ (l : List TreeDeclaration). text_told (map declaration_of l)) c.as_slice-item-items.ensures) ∙ sym c.loop-item.invariant.told
          ∙ ap (λ (l : List TreeDeclaration). declarations_told (map declaration_of (take i ds)) (walked c.loop-item.so_far) (map declaration_of l)) end,
      c.into_rows.ensures,
    )
