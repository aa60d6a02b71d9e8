use Rattle.std.proofs.Common.{ap, sym, ◌∙◌, ◌++◌, inr, Some, map}
use Rattle.std.proofs.lemmas.Result.{err_from_is_err_and}
use Rattle.ctf_meaning.specs.Reading.{form_of}
use Rattle.ctf_meaning.specs.Written.{items_from}
use Rattle.ctf_meaning.specs.Written as written
use Rattle.ctf_meaning.specs.Shapes.{declared}
use Rattle.ctf_meaning_steps.specs.Seen.{Seen, nothing_seen}
use Rattle.ctf_meaning_steps.specs.Items.{shape_told, body_told}
use Rattle.ctf_declared_class.specs.Knowns.{known, field}
use Rattle.ctf_declarations.specs.Given.{body_form, item_form}
use Rattle.ctf_declarations.specs.Views.{names_in, visible}
use Rattle.ctf_declarations.proofs.Steps.{tell_same, follows_same}
use Rattle.ctf_declarations.proofs.Forms.{form-Compound, item-Fields, item-Types, inside_is}
use Rattle.ctf_declarations.proofs.Bodies.{body_next, body_fault, member_types, member_deep, member_fits}
use Rattle.ctf_declarations.proofs.classes.+classes.Goals as goal

pub class_of-returns-in-Compound : goal.class_of-returns-in-Compound
class_of-returns-in-Compound t c =
    follows_same known c.compound_class.result (shape_told (visible c.args.seen.now) (body_form c.in-Compound.compound c.in-Compound.name)) (shape_told (visible c.args.seen.now) (form_of c.args.specifier.now))
    (ap (shape_told (visible c.args.seen.now)) (sym (ap form_of c.in-Compound.is ∙ form-Compound c.in-Compound.name c.in-Compound.compound)))
    (c.compound_class.ensures c.in-Compound.name)

pub class_within-returns : goal.class_within-returns
class_within-returns t c =
    follows_same known c.class_of.result _ _ (ap (λ (seen : Seen). shape_told seen (form_of c.args.specifier.now)) (inside_is c.args.own c.args.outer)) c.class_of.ensures

pub compound_within-returns : goal.compound_within-returns
compound_within-returns t c word =
    follows_same known c.compound_class.result _ _ (ap (λ (seen : Seen). shape_told seen (body_form c.args.compound.now word)) (inside_is c.args.own c.args.outer)) (c.compound_class.ensures word)

pub body-loop-item-init : goal.body-loop-item-init
body-loop-item-init t c =
    ap (λ (own : Seen). body_told (visible c.args.outer.now) own (map field c.new-fields.result.items) (items_from (map item_form c.args.items.now))) c.new-own.ensures
    ∙ ap (λ fields. body_told (visible c.args.outer.now) nothing_seen (map field fields) (items_from (map item_form c.args.items.now))) c.new-fields.ensures.items

pub body-loop-item-preserved : goal.body-loop-item-preserved
body-loop-item-preserved t c =
    body_next (visible c.args.outer.now) (names_in c.loop-item.own) (map field c.loop-item.fields.items) c.args.items.now c.loop-item.item-index c.item-item.result c.item-item.is c.loop-item-test.true
    (names_in c.member.new.own, map field c.member.new.fields.items) c.in_ok-member.ensures
    ∙ c.loop-item.invariant

pub body-returns-in_err-member : goal.body-returns-in_err-member
body-returns-in_err-member t c =
    let p = err_from_is_err_and c.from_residual.result c.from_residual.ensures.1 in rw (p.1, p.2)
    (tell_same _ _ c.in_err-member.field-0.0 c.loop-item.invariant
    (body_fault (visible c.args.outer.now) (names_in c.loop-item.own) (map field c.loop-item.fields.items) c.args.items.now c.loop-item.item-index c.item-item.result c.item-item.is c.loop-item-test.true
    c.in_err-member.field-0.0 c.in_err-member.ensures))

pub member-returns-in-Types : goal.member-returns-in-Types
member-returns-in-Types t c =
    rw (ap item_form c.in-Types.is ∙ item-Types c.in-Types.declaration)
    (member_types (visible c.args.outer.now) (names_in c.args.own.now) (map field c.args.fields.now.items) c.in-Types.declaration (λ _. names_in c.types.new.own) c.types.result c.types.ensures)

pub member-returns-then-has_deep : goal.member-returns-then-has_deep
member-returns-then-has_deep t c =
    inr (member_deep (visible c.args.outer.now) (names_in c.args.own.now) (map field c.args.fields.now.items) c.args.item.now (form_of c.in-Fields.class) c.as_slice.result.now (known c.in_ok-known-in-Fields.known)
    (names_in c.declare_name.new.own) _ (ap item_form c.in-Fields.is ∙ item-Fields c.in-Fields.class c.in-Fields.declarators ∙ ap (written.Fields (form_of c.in-Fields.class)) (sym c.as_slice.ensures))
    c.in_ok-known-in-Fields.ensures c.own_name.ensures c.in_ok-declare_name-in-Fields.ensures (sym c.has_deep.ensures ∙ c.if-has_deep.true))

pub member-returns-in_ok-push_fields-in-Fields : goal.member-returns-in_ok-push_fields-in-Fields
member-returns-in_ok-push_fields-in-Fields t c =
    member_fits (visible c.args.outer.now) (names_in c.args.own.now) (map field c.args.fields.now.items) c.args.item.now (form_of c.in-Fields.class) c.as_slice.result.now (known c.in_ok-known-in-Fields.known)
    (names_in c.declare_name.new.own) _ (ap item_form c.in-Fields.is ∙ item-Fields c.in-Fields.class c.in-Fields.declarators ∙ ap (written.Fields (form_of c.in-Fields.class)) (sym c.as_slice.ensures))
    c.in_ok-known-in-Fields.ensures c.own_name.ensures c.in_ok-declare_name-in-Fields.ensures (sym c.has_deep.ensures ∙ c.if-has_deep.false)
    (map field c.push_fields.new.fields.items) (c.in_ok-push_fields-in-Fields.ensures ∙ ap (λ ds. map field c.args.fields.now.items ++ declared (Some (known c.in_ok-known-in-Fields.known)) ds) (c.as_slice-in-Fields.ensures ∙ sym c.as_slice.ensures))
