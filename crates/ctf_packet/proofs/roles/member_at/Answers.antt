use Rattle.std.proofs.Common.{◌≡◌, Bor, Option, Some, None, option_map, length, slice_get, refl, ap, sym, ◌∙◌}
use Rattle.std.proofs.lemmas.Bool.{ltb-true, ltb-false}
use Rattle.std.proofs.lemmas.Option.{slice_get_read, slice_get_past}
use Rattle.ctf_class.specs.declared.class.Class.{Class}
use Rattle.ctf_decode.specs.Forms.{Form}
use Rattle.ctf_decode.specs.Values.{Val}
use Rattle.ctf_decode.specs.Views.{form, val}
use Rattle.ctf_decode.specs.declared.value.Value.{Value}
use Rattle.ctf_packet.proofs.Named.{both, pair_at, named_at, no_value}
use Rattle.ctf_packet.proofs.roles.member_at.Goals as goal

abbrev shown : Option (Bor Class × Bor Value) → Option (Form × Val)
shown = option_map (λ f. (form f.0.now, val f.1.now))

pub returns-in_err-place : goal.returns-in_err-place
returns-in_err-place c = λ name at.
    let ms = c.args.members.now in
    let vs = c.args.values.now in
    ap shown c.from_residual.ensures ∙ ap (pair_at ms vs) (sym c.in_err-place.was ∙ at) ∙ named_at name ms vs

pub returns-in_err-member : goal.returns-in_err-member
returns-in_err-member c = λ name at.
    let ms = c.args.members.now in
    let vs = c.args.values.now in
    let i = c.in_ok-place.place in
    let none : slice_get ms i ≡ None = slice_get_past ms i (ltb-false i (length ms) (sym c.in_err-member.ensures.lookup.0)) in
    ap shown c.from_residual-in_err-member.ensures ∙ ap (λ m. both m (slice_get vs i)) (sym none) ∙ ap (pair_at ms vs) (sym c.in_ok-place.was ∙ at) ∙ named_at name ms vs

pub returns-in_err-value : goal.returns-in_err-value
returns-in_err-value c = λ name at.
    let ms = c.args.members.now in
    let vs = c.args.values.now in
    let i = c.in_ok-place.place in
    let none : slice_get vs i ≡ None = slice_get_past vs i (ltb-false i (length vs) (sym c.in_err-value.ensures.lookup.0)) in
    ap shown c.from_residual-in_err-value.ensures ∙ sym (no_value (slice_get ms i)) ∙ ap (both (slice_get ms i)) (sym none) ∙ ap (pair_at ms vs) (sym c.in_ok-place.was ∙ at) ∙ named_at name ms vs

pub returns : goal.returns
returns c = λ name at.
    let ms = c.args.members.now in
    let vs = c.args.values.now in
    let i = c.in_ok-place.place in
    let m = c.in_ok-member.member.now in
    let v = c.in_ok-value.value.now in
    let member : slice_get ms i ≡ Some m = slice_get_read ms (length ms) i m refl (ltb-true i (length ms) (sym c.in_ok-member.ensures.lookup.0)) c.in_ok-member.ensures.lookup.1 in
    let value : slice_get vs i ≡ Some v = slice_get_read vs (length vs) i v refl (ltb-true i (length vs) (sym c.in_ok-value.ensures.lookup.0)) c.in_ok-value.ensures.lookup.1 in
    (λ j. both (sym member j) (sym value j)) ∙ ap (pair_at ms vs) (sym c.in_ok-place.was ∙ at) ∙ named_at name ms vs
