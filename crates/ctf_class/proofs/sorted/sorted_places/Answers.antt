use Rattle.std.proofs.Common.{◌≡◌, eqb, nat_cmp, sym, ap, ◌∙◌, is_some, true}
use Rattle.std.specs.BTreeMap.{get}
use Rattle.ctf_class.proofs.PlacesLemmas.{position_from-more, found-kept, found-new, is_at-nat_cmp, same_from_eqb}
use Rattle.ctf_class.proofs.sorted.sorted_places.Goals as goal
use Rattle.ctf_class.proofs.sorted.sorted_places.Goals.{then-not-contains_key+in_ok-insert, else-not-contains_key}

pub loop-place-preserved : goal.loop-place-preserved
loop-place-preserved g c = λ id.
    let id_of = g.T.HasId.id_of in
    let key = id_of c.index-items-place.result in
    let places = c.loop-place.places in
    let more = position_from-more (λ item. eqb (id_of item) id) c.args.items.now c.loop-place.place c.index-items-place.result c.loop-place-test.true c.index-items-place.is in
    let named : eqb key id ≡ true → c.id-id.result ≡ id = λ same. c.id-id.ensures ∙ same_from_eqb key id same in
    let before = c.loop-place.invariant id in
    elim c.if-not-contains_key.branch [
      | then-not-contains_key+in_ok-insert w ↦
          let new = found-new (get nat_cmp places id) (eqb key id) c.loop-place.place (λ same. ap (λ k. is_some (get nat_cmp places k)) (sym (named same)) ∙ (sym c.contains_key.ensures ∙ w.if-not-contains_key.true)) in
          let test = is_at-nat_cmp c.id-id.result id in
          cc (w.in_ok-insert.ensures.updates.0 id)
      | else-not-contains_key w ↦
          let kept = found-kept (get nat_cmp places id) (eqb key id) c.loop-place.place (λ same. ap (λ k. is_some (get nat_cmp places k)) (sym (named same)) ∙ (sym c.contains_key.ensures ∙ w.if-not-contains_key.false)) in
          cc
    ]
