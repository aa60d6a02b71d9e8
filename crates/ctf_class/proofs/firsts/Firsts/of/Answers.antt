use Rattle.std.proofs.Common.{Vec, Global, ◌≡◌, ℕ, true, List, take, cond, Some, sym, ap, ◌∙◌, is_some}
use Rattle.std.specs.List.{list_any}
use Rattle.std.specs.Str.{bytes_eq}
use Rattle.std.specs.Ordering.{nat_cmp}
use Rattle.std.specs.Cmp.Lexicographic.{slice_cmp}
use Rattle.std.specs.BTreeMap.{get_by}
use Rattle.std.proofs.lemmas.Slice.Eq.{bytes_eq-Decides}
use Rattle.ctf_class.specs.SameNames.{has_twins}
use Rattle.ctf_class.proofs.KeysLemmas.{updates_bytes}
use Rattle.ctf_class.proofs.PlacesLemmas.{position_from-more, found-kept, found-new}
use Rattle.ctf_class.proofs.NamesLemmas.{or_found, or_none, is_some-position_from, has_twins-more}
use Rattle.ctf_class.proofs.firsts.Firsts.of.Goals as goal
use Rattle.ctf_class.proofs.firsts.Firsts.of.Goals.{then-contains_key, else-contains_key+in_ok-from_slice+in_ok-insert}

pub loop-place-preserved : goal.loop-place-preserved
loop-place-preserved c =
    let names = c.args.names.now in
    let i = c.loop-place.place in
    let name = c.index-names-place.result in
    let before = c.loop-place.places in
    let known = c.contains_key.ensures ∙ (ap (λ bytes. is_some (get_by (λ k. slice_cmp nat_cmp bytes k.items) before)) c.as_slice-bytes.ensures ∙ (ap is_some (c.loop-place.invariant.places name) ∙ is_some-position_from (λ w. bytes_eq w name) 0 (take i names))) in
    let twins = has_twins-more bytes_eq names i name c.loop-place-test.true c.index-names-place.is in
    let more = λ (word : List ℕ). position_from-more (λ w. bytes_eq w word) names i name c.loop-place-test.true c.index-names-place.is in
    elim c.if-contains_key.branch [
      | then-contains_key w ↦
          let there = sym known ∙ w.if-contains_key.true in
          let among = λ (word : List ℕ) (same : bytes_eq name word ≡ true). is_some-position_from (λ v. bytes_eq v word) 0 (take i names) ∙ (ap (λ bytes. list_any (λ v. bytes_eq v bytes) (take i names)) (sym ((bytes_eq-Decides name word).0 same)) ∙ there) in
          record {
            places = λ word. ap (get_by (λ k. slice_cmp nat_cmp word k.items)) w.places-is ∙ (c.loop-place.invariant.places word ∙ (sym (found-kept _ (bytes_eq name word) i (among word)) ∙ sym (more word)));
            twins = w.has_twins-is ∙ sym (twins ∙ or_found (has_twins bytes_eq (take i names)) _ there);
          }
      | else-contains_key+in_ok-from_slice+in_ok-insert w ↦
          let nowhere = sym known ∙ w.if-contains_key.false in
          let among = λ (word : List ℕ) (same : bytes_eq name word ≡ true). is_some-position_from (λ v. bytes_eq v word) 0 (take i names) ∙ (ap (λ bytes. list_any (λ v. bytes_eq v bytes) (take i names)) (sym ((bytes_eq-Decides name word).0 same)) ∙ nowhere) in
          let key = w.in_ok-from_slice.field-0 in
          let bytes = w.in_ok-from_slice.ensures.items ∙ c.as_slice-bytes.ensures in
          let read = λ (k : Vec ℕ Global). k.items in
          let updated = λ (word : List ℕ). updates_bytes read key.items before w.insert.new.self (Some i) w.in_ok-insert.ensures.updates word in
          record {
            places = λ word. ap (get_by (λ k. slice_cmp nat_cmp word k.items)) w.places-is ∙ (updated word ∙ (ap (λ bs. cond (bytes_eq bs word) (Some i) (get_by (λ k. slice_cmp nat_cmp word (read k)) before)) bytes ∙ (ap (cond (bytes_eq name word) (Some i)) (c.loop-place.invariant.places word) ∙ (sym (found-new _ (bytes_eq name word) i (among word)) ∙ sym (more word)))));
            twins = w.has_twins-is ∙ (c.loop-place.invariant.twins ∙ sym (twins ∙ or_none (has_twins bytes_eq (take i names)) _ nowhere));
          }
    ]
