use Rattle.std.proofs.Common.{Vec, Global, ◌≡◌, ℕ, ◌+◌, List, length, cond, nat_cmp, Some, unwrap_or, sym, ap, subst, ◌∙◌, rules}
use Rattle.std.specs.Str.{bytes_eq}
use Rattle.std.specs.Cmp.Lexicographic.{slice_cmp}
use Rattle.std.specs.BTreeMap.{get_by}
use Rattle.std.proofs.lemmas.List.{get_or_read, length_push}
use Rattle.ctf_class.specs.declared.span.Label.{Label}
use Rattle.ctf_class.specs.Labels.{no_label, label_at}
use Rattle.ctf_class.specs.LabelSearch.{IsLast}
use Rattle.ctf_class.proofs.KeysLemmas.{updates_bytes}
use Rattle.ctf_class.proofs.LabelsLemmas.{last-more, links-more}
use Rattle.ctf_class.proofs.chain.chain_of.Goals as goal

pub loop-place-preserved : goal.loop-place-preserved
loop-place-preserved c =
    let labels = c.args.labels.now in
    let i = c.loop-place.place in
    let before = c.loop-place.lasts in
    let earlier = c.loop-place.earlier.items in
    let kept = c.unwrap_or.result in
    let name = (label_at labels i).name in
    let read = λ (k : Vec ℕ Global). k.items in
    let stored = λ (bytes : List ℕ). get_by (λ (k : Vec ℕ Global). slice_cmp nat_cmp bytes k.items) before in
    let at = get_or_read labels i c.index-labels-place.result c.loop-place-test.true c.index-labels-place.is no_label in
    let named : c.as_slice-name.result.now ≡ name = c.as_slice-name.ensures ∙ ap (λ (l : Label). l.name) at in
    let found : kept ≡ unwrap_or (stored c.as_slice-name.result.now) 0 = search rules in
    let last = subst (IsLast labels i name) (sym (found ∙ ap (λ bytes. unwrap_or (stored bytes) 0) named)) (c.loop-place.invariant.lasts name) in
    let pushed = c.in_ok-push.ensures.items in
    let key = c.in_ok-from_slice.field-0 in
    let bytes : key.items ≡ name = c.in_ok-from_slice.ensures.items ∙ named in
    record {
      count = ap length pushed ∙ (length_push earlier kept ∙ ap (λ n. n + 1) c.loop-place.invariant.count);
      links = links-more labels i kept earlier c.push.new.self.items c.loop-place.invariant.count pushed last c.loop-place.invariant.links;
      lasts = λ word. last-more labels i word (stored word) (get_by (λ (k : Vec ℕ Global). slice_cmp nat_cmp word k.items) c.insert.new.self) (updates_bytes read key.items before c.insert.new.self (Some (i + 1)) c.in_ok-insert.ensures.updates word ∙ ap (λ bs. cond (bytes_eq bs word) (Some (i + 1)) (stored word)) bytes) (c.loop-place.invariant.lasts word);
    }
