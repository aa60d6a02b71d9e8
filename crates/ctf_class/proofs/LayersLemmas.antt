-- Labels in layers, in each of which no two cover one number.
use Rattle.std.proofs.Common.{◌≡◌, ℕ, ◌+◌, ◌<◌, ◌≤◌, ℤ, ◌≤ℤ◌, ◌<ℤ◌, true, false, not, ◌⊎◌, inl, inr, List, [], ◌∷◌, ◌++◌, length, take, get_or, refl, sym, ap, subst, ◌∙◌, ⊎_elim, arith}
use Rattle.std.specs.List.{range_with_len, Contains}
use Rattle.std.specs.List.Sorted.{IsPermutation}
use Rattle.std.specs.Str.{bytes_eq}
use Rattle.std.proofs.lemmas.Bool.{cases_lt, cases_Bool, both_ways, and_left, and_right, and_from, false_from_ne_true}
use Rattle.std.proofs.lemmas.List.{get_or_default, get_or_append_left, get_or_push, length_push}
use Rattle.std.proofs.lemmas.List.Sorted.{Contains-permutation}
use Rattle.ctf_class.specs.declared.span.Span.{Span}
use Rattle.ctf_class.specs.declared.span.Label.{Label}
use Rattle.ctf_class.specs.Labels.{covers, label_at, is_shown, shows_at, NoneShown, IsNextShown}
use Rattle.ctf_class.specs.LabelSearch.{span_in, AreApart, IsRanked, InLayers, AreLayers}
use Rattle.ctf_class.specs.Layers.{NoneCovers, IsNextCovering}
use Rattle.ctf_class.specs.Ranks.{place_in, Holds}
use Rattle.ctf_class.proofs.LabelsLemmas.{Ordered, ordered-more, stands, hidden, shown_by, none-before}
use Rattle.ctf_class.proofs.PlacesLemmas.{range-length, range-at}

-- each place has a rank in an order of all of them
pub holds-sorted : (count : ℕ) (order : List ℕ) (place : ℕ) → IsPermutation (range_with_len 0 count) order → place < count → Holds order place
holds-sorted count order place moved within =
    let places = range_with_len 0 count in
    let at : get_or places place place ≡ place = range-at 0 count place place within ∙ omega arith in
    let there : Contains places place = (place, subst (λ k. place < k) (sym (range-length 0 count)) within, at) in
    let found = Contains-permutation places order place moved there in
    (found.0, found.1, get_or_default order found.0 found.0 place found.1 ∙ found.2)

-- no place has a rank in no order
pub holds-none : (order : List ℕ) (place : ℕ) → length order ≡ 0 → Holds order place → ⊥
holds-none order place none held = let less = held.1 in omega (arith, none, less)

-- an order with one place more
pub holds-kept : (order more : List ℕ) (last place : ℕ) → more ≡ order ++ last ∷ [] → Holds order place → Holds more place
holds-kept order more last place is held =
    let rank = held.0 in
    let size = ap length is ∙ length_push order last in
    let less = held.1 in
    (rank, omega (arith, size, less), ap (λ xs. get_or xs rank rank) is ∙ (get_or_append_left order (last ∷ []) rank rank held.1 ∙ held.2))

pub holds-last : (order more : List ℕ) (last : ℕ) → more ≡ order ++ last ∷ [] → Holds more last
holds-last order more last is =
    let rank = length order in
    let size = ap length is ∙ length_push order last in
    (rank, omega (arith, size), ap (λ xs. get_or xs rank rank) is ∙ get_or_push order last rank rank refl)

-- spans that are the same
ordered-same : (span other : ℕ → Span) (count : ℕ) (before : ℤ) → ((k : ℕ) → k < count → span k ≡ other k) → Ordered span count before → Ordered other count before
ordered-same span other count before same so_far =
    record {
      forward = λ k within. subst (λ (s : Span). s.first ≤ℤ s.last) (same k within) (so_far.forward k within);
      apart = λ j k less within.
          subst (λ (s : Span). s.last <ℤ (other k).first) (same j (omega arith))
          (subst (λ (s : Span). (span j).last <ℤ s.first) (same k within) (so_far.apart j k less within));
      under = λ j less. subst (λ (s : Span). s.last ≤ℤ before) (same j less) (so_far.under j less);
    }

-- a layer with one label more
pub layer-more : (labels : List Label) (layer more : List ℕ) (place : ℕ) (before : ℤ) (s : Span) → more ≡ layer ++ place ∷ [] → s ≡ (label_at labels place).span → Ordered (span_in labels layer) (length layer) before → before <ℤ s.first → s.first ≤ℤ s.last → Ordered (span_in labels more) (length more) s.last
layer-more labels layer more place before s is named so_far over forward =
    let n = length layer in
    let size : length more ≡ n + 1 = ap length is ∙ length_push layer place in
    let kept : (k : ℕ) → k < n → span_in labels layer k ≡ span_in labels more k = λ k less.
    ap (λ (i : ℕ). (label_at labels i).span) (sym (ap (λ xs. get_or xs k k) is ∙ get_or_append_left layer (place ∷ []) k k less)) in
    let last : s ≡ span_in labels more n = named ∙ ap (λ (i : ℕ). (label_at labels i).span) (sym (ap (λ xs. get_or xs n n) is ∙ get_or_push layer place n n refl)) in
    subst (λ (m : ℕ). Ordered (span_in labels more) m s.last) (sym size)
    (ordered-more (span_in labels more) n before s last (ordered-same (span_in labels layer) (span_in labels more) n before kept so_far) over forward)

-- layers with one layer more
pub layers-more : (labels : List Label) (layers more : List (List ℕ)) (layer : List ℕ) → more ≡ layers ++ layer ∷ [] → AreApart labels layer (length layer) → ((i : ℕ) → i < length layers → AreApart labels (get_or layers i []) (length (get_or layers i []))) → (i : ℕ) → i < length more → AreApart labels (get_or more i []) (length (get_or more i []))
layers-more labels layers more layer is apart so_far i within =
    let size = ap length is ∙ length_push layers layer in
    let parts = λ (ps : List ℕ). AreApart labels ps (length ps) in
    ⊎_elim
    (λ early. subst parts (sym (ap (λ xs. get_or xs i []) is ∙ get_or_append_left layers (layer ∷ []) [] i early)) (so_far i early))
    (λ late.
    let same : i ≡ length layers = omega (arith, size) in
    subst parts (sym (ap (λ xs. get_or xs i []) is ∙ get_or_push layers layer [] i (sym same))) apart)
    (cases_lt i (length layers))

pub in-kept : (layers more : List (List ℕ)) (layer : List ℕ) (place : ℕ) → more ≡ layers ++ layer ∷ [] → InLayers layers place → InLayers more place
in-kept layers more layer place is there =
    let i = there.0 in
    let size = ap length is ∙ length_push layers layer in
    let less = there.1 in
    (i, omega (arith, size, less), subst (λ (ps : List ℕ). Holds ps place) (sym (ap (λ xs. get_or xs i []) is ∙ get_or_append_left layers (layer ∷ []) [] i there.1)) there.2)

pub in-last : (layers more : List (List ℕ)) (layer : List ℕ) (place : ℕ) → more ≡ layers ++ layer ∷ [] → Holds layer place → InLayers more place
in-last layers more layer place is held =
    let i = length layers in
    let size = ap length is ∙ length_push layers layer in
    (i, omega (arith, size), subst (λ (ps : List ℕ). Holds ps place) (sym (ap (λ xs. get_or xs i []) is ∙ get_or_push layers layer [] i refl)) held)

-- a label of a layer that covers a number is the one that was found in it
found-only : (labels : List Label) (layer : List ℕ) (z : ℤ) (place found : ℕ) → IsRanked labels layer (length layer) z found → Holds layer place → covers (label_at labels place).span z ≡ true → found ≡ place
found-only labels layer z place found ranked held here =
    sym (ranked.only held.0 held.1 (ap (λ (i : ℕ). covers (label_at labels i).span z) held.2 ∙ here)) ∙ held.2

none-held : (labels : List Label) (layer : List ℕ) (z : ℤ) (place : ℕ) → ((rank : ℕ) → rank < length layer → covers (span_in labels layer rank) z ≡ false) → Holds layer place → covers (label_at labels place).span z ≡ false
none-held labels layer z place none held =
    ap (λ (i : ℕ). covers (label_at labels i).span z) (sym held.2) ∙ none held.0 held.1

-- the nearest label so far that covers a number
pub record Nearest (labels : List Label) (layers : List (List ℕ)) (z : ℤ) (begin count next : ℕ) : Type 0 where
  pub here : next < length labels → (begin ≤ next) × (covers (label_at labels next).span z ≡ true)
  pub least : (i : ℕ) → i < count → (place : ℕ) → Holds (get_or layers i []) place → covers (label_at labels place).span z ≡ true → begin ≤ place → next ≤ place

pub nearest-same : (labels : List Label) (layers : List (List ℕ)) (layer : List ℕ) (z : ℤ) (begin count next : ℕ) → layer ≡ get_or layers count [] → ((place : ℕ) → Holds layer place → covers (label_at labels place).span z ≡ true → begin ≤ place → next ≤ place) → Nearest labels layers z begin count next → Nearest labels layers z begin (count + 1) next
nearest-same labels layers layer z begin count next is over so_far =
    record {
      here = so_far.here;
      least = λ i less place held covering from.
          ⊎_elim
          (λ early. so_far.least i early place held covering from)
          (λ late.
          let same : i ≡ count = omega arith in
          over place (subst (λ (ps : List ℕ). Holds ps place) (ap (λ n. get_or layers n []) same ∙ sym is) held) covering from)
          (cases_lt i count);
    }

pub nearest-none : (labels : List Label) (layers : List (List ℕ)) (layer : List ℕ) (z : ℤ) (begin count next : ℕ) → layer ≡ get_or layers count [] → ((rank : ℕ) → rank < length layer → covers (span_in labels layer rank) z ≡ false) → Nearest labels layers z begin count next → Nearest labels layers z begin (count + 1) next
nearest-none labels layers layer z begin count next is none so_far =
    nearest-same labels layers layer z begin count next is
    (λ place held covering from. absurd (both_ways (covers (label_at labels place).span z) (none-held labels layer z place none held) covering))
    so_far

-- one that is nearer, and one that is not
pub nearest-new : (labels : List Label) (layers : List (List ℕ)) (layer : List ℕ) (z : ℤ) (begin count next place : ℕ) → layer ≡ get_or layers count [] → IsRanked labels layer (length layer) z place → begin ≤ place → place < next → Nearest labels layers z begin count next → Nearest labels layers z begin (count + 1) place
nearest-new labels layers layer z begin count next place is ranked after before so_far =
    nearest-same labels layers layer z begin count place is
    (λ other held covering from. let same = found-only labels layer z other place ranked held covering in omega (arith, same))
    (record {
      here = λ within. (after, ranked.here);
      least = λ i less other held covering from. let old = so_far.least i less other held covering from in omega (arith, old);
    })

pub nearest-kept : (labels : List Label) (layers : List (List ℕ)) (layer : List ℕ) (z : ℤ) (begin count next place : ℕ) → layer ≡ get_or layers count [] → IsRanked labels layer (length layer) z place → (begin ≤ place → next ≤ place) → Nearest labels layers z begin count next → Nearest labels layers z begin (count + 1) next
nearest-kept labels layers layer z begin count next place is ranked over so_far =
    nearest-same labels layers layer z begin count next is
    (λ other held covering from.
    let same = found-only labels layer z other place ranked held covering in
    subst (λ (n : ℕ). next ≤ n) same (over (subst (λ (n : ℕ). begin ≤ n) (sym same) from)))
    so_far

-- all layers were looked at
nearest-all : (labels : List Label) (layers : List (List ℕ)) (z : ℤ) (begin count next place : ℕ) → length layers ≤ count → AreLayers labels layers → Nearest labels layers z begin count next → covers (label_at labels place).span z ≡ true → begin ≤ place → next ≤ place
nearest-all labels layers z begin count next place all are found covering from =
    let there = are.all place (stands labels place z covering) in
    let less = there.1 in
    found.least there.0 (omega (arith, less)) place there.2 covering from

pub nearest-found : (labels : List Label) (layers : List (List ℕ)) (z : ℤ) (begin count next : ℕ) → length layers ≤ count → AreLayers labels layers → next < length labels → Nearest labels layers z begin count next → IsNextCovering labels z begin next
nearest-found labels layers z begin count next all are within found =
    record {
      not_before = (found.here within).0;
      here = (found.here within).1;
      first = λ before from less.
          false_from_ne_true (covers (label_at labels before).span z) (λ covering.
          let over = nearest-all labels layers z begin count next before all are found covering from in
          omega (arith, over));
    }

pub nearest-nowhere : (labels : List Label) (layers : List (List ℕ)) (z : ℤ) (begin count next : ℕ) → length layers ≤ count → AreLayers labels layers → length labels ≤ next → Nearest labels layers z begin count next → NoneCovers labels z begin
nearest-nowhere labels layers z begin count next all are past found =
    record {
      none = λ place from.
          false_from_ne_true (covers (label_at labels place).span z) (λ covering.
          let over = nearest-all labels layers z begin count next place all are found covering from in
          let within = stands labels place z covering in
          omega (arith, over, within));
    }

-- no label before a place in the layers so far covers a number and has its name
pub record NoneBefore (labels : List Label) (layers : List (List ℕ)) (z : ℤ) (place count : ℕ) : Type 0 where
  pub none : (i : ℕ) → i < count → (before : ℕ) → Holds (get_or layers i []) before → before < place → shown_by labels z place before ≡ false

none-before-more : (labels : List Label) (layers : List (List ℕ)) (layer : List ℕ) (z : ℤ) (place count : ℕ) → layer ≡ get_or layers count [] → ((before : ℕ) → Holds layer before → before < place → shown_by labels z place before ≡ false) → NoneBefore labels layers z place count → NoneBefore labels layers z place (count + 1)
none-before-more labels layers layer z place count is more so_far =
    record {
      none = λ i less before held early.
          ⊎_elim
          (λ old. so_far.none i old before held early)
          (λ late.
          let same : i ≡ count = omega arith in
          more before (subst (λ (ps : List ℕ). Holds ps before) (ap (λ n. get_or layers n []) same ∙ sym is) held) early)
          (cases_lt i count);
    }

pub none-before-nowhere : (labels : List Label) (layers : List (List ℕ)) (layer : List ℕ) (z : ℤ) (place count : ℕ) → layer ≡ get_or layers count [] → ((rank : ℕ) → rank < length layer → covers (span_in labels layer rank) z ≡ false) → NoneBefore labels layers z place count → NoneBefore labels layers z place (count + 1)
none-before-nowhere labels layers layer z place count is none so_far =
    none-before-more labels layers layer z place count is
    (λ before held early. and_left (covers (label_at labels before).span z) (bytes_eq (label_at labels before).name (label_at labels place).name) (none-held labels layer z before none held))
    so_far

pub none-before-other : (labels : List Label) (layers : List (List ℕ)) (layer : List ℕ) (z : ℤ) (place count found : ℕ) → layer ≡ get_or layers count [] → IsRanked labels layer (length layer) z found → (found < place → bytes_eq (label_at labels found).name (label_at labels place).name ≡ false) → NoneBefore labels layers z place count → NoneBefore labels layers z place (count + 1)
none-before-other labels layers layer z place count found is ranked differs so_far =
    none-before-more labels layers layer z place count is
    (λ before held early.
    let covered = covers (label_at labels before).span z in
    let named = bytes_eq (label_at labels before).name (label_at labels place).name in
    ⊎_elim
    (λ here.
    let same = found-only labels layer z before found ranked held here in
    and_right covered named (subst (λ (n : ℕ). bytes_eq (label_at labels n).name (label_at labels place).name ≡ false) same (differs (subst (λ (n : ℕ). n < place) (sym same) early))))
    (λ there. and_left covered named there)
    (cases_Bool covered))
    so_far

pub none-before-all : (labels : List Label) (layers : List (List ℕ)) (z : ℤ) (place count : ℕ) → length layers ≤ count → place < length labels → AreLayers labels layers → NoneBefore labels layers z place count → is_shown (take place labels) z (label_at labels place).name ≡ false
none-before-all labels layers z place count all within are none =
    none-before labels z place (λ before early.
    let there = are.all before (omega arith) in
    let less = there.1 in
    none.none there.0 (omega (arith, less)) before there.2 early)

-- the next label that covers a number is shown, or it is not
pub shown-first : (labels : List Label) (z : ℤ) (begin from place : ℕ) → begin ≤ from → ((k : ℕ) → begin ≤ k → k < from → shows_at labels z k ≡ false) → IsNextCovering labels z from place → is_shown (take place labels) z (label_at labels place).name ≡ false → IsNextShown labels z begin place
shown-first labels z begin from place after so_far next first =
    let later = next.not_before in
    record {
      not_before = omega (arith, later);
      within = stands labels place z next.here;
      shows = and_from (covers (label_at labels place).span z) (not (is_shown (take place labels) z (label_at labels place).name)) next.here (ap not first);
      first = λ before low less.
          ⊎_elim
          (λ early. so_far before low early)
          (λ late. hidden labels z before (next.first before late less))
          (cases_lt before from);
    }

pub none-shown : (labels : List Label) (z : ℤ) (begin from place : ℕ) → ((k : ℕ) → begin ≤ k → k < from → shows_at labels z k ≡ false) → IsNextCovering labels z from place → is_shown (take place labels) z (label_at labels place).name ≡ true → (k : ℕ) → begin ≤ k → k < place + 1 → shows_at labels z k ≡ false
none-shown labels z begin from place so_far next twice k low less =
    ⊎_elim
    (λ early. so_far k low early)
    (λ late.
    ⊎_elim
    (λ between. hidden labels z k (next.first k late between))
    (λ here.
    let same : place ≡ k = omega arith in
    subst (λ (n : ℕ). shows_at labels z n ≡ false) same (and_right (covers (label_at labels place).span z) (not (is_shown (take place labels) z (label_at labels place).name)) (ap not twice)))
    (cases_lt k place))
    (cases_lt k from)

pub first-of-all : (labels : List Label) (z : ℤ) (place : ℕ) → IsNextCovering labels z 0 place → is_shown (take place labels) z (label_at labels place).name ≡ false
first-of-all labels z place next =
    none-before labels z place (λ before less. and_left (covers (label_at labels before).span z) (bytes_eq (label_at labels before).name (label_at labels place).name) (next.first before (omega arith) less))

pub none-at-all : (labels : List Label) (z : ℤ) (begin from : ℕ) → ((k : ℕ) → begin ≤ k → k < from → shows_at labels z k ≡ false) → NoneCovers labels z from → NoneShown labels z begin
none-at-all labels z begin from so_far none =
    record {
      none = λ place low within.
          ⊎_elim
          (λ early. so_far place low early)
          (λ late. hidden labels z place (none.none place late))
          (cases_lt place from);
    }

-- a place was taken, or is left
pub split-taken : (places layer more left : List ℕ) (i last : ℕ) → last ≡ place_in places i → more ≡ layer ++ last ∷ [] → ((k : ℕ) → k < i → Holds layer (place_in places k) ⊎ Holds left (place_in places k)) → (k : ℕ) → k < i + 1 → Holds more (place_in places k) ⊎ Holds left (place_in places k)
split-taken places layer more left i last here is so_far k less =
    ⊎_elim
    (λ early.
    ⊎_elim
    (λ held. inl (holds-kept layer more last (place_in places k) is held))
    (λ held. inr held)
    (so_far k early))
    (λ late.
    let same : i ≡ k = omega arith in
    inl (subst (Holds more) (here ∙ ap (place_in places) same) (holds-last layer more last is)))
    (cases_lt k i)

pub split-left : (places layer left more : List ℕ) (i last : ℕ) → last ≡ place_in places i → more ≡ left ++ last ∷ [] → ((k : ℕ) → k < i → Holds layer (place_in places k) ⊎ Holds left (place_in places k)) → (k : ℕ) → k < i + 1 → Holds layer (place_in places k) ⊎ Holds more (place_in places k)
split-left places layer left more i last here is so_far k less =
    ⊎_elim
    (λ early.
    ⊎_elim
    (λ held. inl held)
    (λ held. inr (holds-kept left more last (place_in places k) is held))
    (so_far k early))
    (λ late.
    let same : i ≡ k = omega arith in
    inr (subst (Holds more) (here ∙ ap (place_in places) same) (holds-last left more last is)))
    (cases_lt k i)
