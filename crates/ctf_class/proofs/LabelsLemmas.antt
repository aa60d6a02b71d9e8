-- Labels of which no two cover one number, and labels with the last one before each of its name.
use Rattle.std.proofs.Common.{◌≡◌, ℕ, zero, suc, ◌+◌, ◌-◌, ◌<◌, ◌≤◌, ℤ, ◌≤ℤ◌, ◌<ℤ◌, Bool, true, false, not, ◌&&◌, ◌||◌, cond, List, [], ◌∷◌, ◌++◌, length, take, get_or, Option, None, Some, unwrap_or, refl, sym, ap, subst, ◌∙◌, ⊎_elim, below_more, arith}
use Rattle.std.specs.Int.Signed.{le_z}
use Rattle.std.specs.List.{list_any}
use Rattle.std.specs.Str.{bytes_eq}
use Rattle.std.proofs.lemmas.Int.{ints}
use Rattle.std.proofs.lemmas.Bool.{cases_lt, cases_order, cases_Bool, both_ways, and_parts, and_left, and_right, and_from, false_from_ne_true}
use Rattle.std.proofs.lemmas.List.{get_or_past, get_or-take, length-take-le, get_or_append_left, get_or_push}
use Rattle.std.proofs.lemmas.List.Folds.{list_any_at}
use Rattle.std.proofs.lemmas.Slice.Eq.{bytes_eq-Decides}
use Rattle.ctf_class.specs.declared.span.Span.{Span}
use Rattle.ctf_class.specs.declared.span.Label.{Label}
use Rattle.ctf_class.specs.Labels.{covers, no_label, label_at, is_shown, shows_at, FindsNext, NoneShown, IsNextShown}
use Rattle.ctf_class.specs.LabelSearch.{span_in, AreApart, FindsRanked, IsRanked, IsLast}
use Rattle.ctf_class.specs.Ranks.{place_in, HasRanks}

-- what a span covers
le_from : (a b : ℤ) → le_z a b ≡ true → a ≤ℤ b
le_from a b h = grind (arith, ints)

le_to : (a b : ℤ) → a ≤ℤ b → le_z a b ≡ true
le_to a b h = grind (arith, ints)

le_not : (a b : ℤ) → b <ℤ a → le_z a b ≡ false
le_not a b h = grind (arith, ints)

pub covers-parts : (s : Span) (z : ℤ) → covers s z ≡ true → (s.first ≤ℤ z) × (z ≤ℤ s.last)
covers-parts s z h =
    let both = and_parts (le_z s.first z) (le_z z s.last) h in
    (le_from s.first z both.0, le_from z s.last both.1)

pub covers-within : (s : Span) (z : ℤ) → s.first ≤ℤ z → z ≤ℤ s.last → covers s z ≡ true
covers-within s z low high = and_from (le_z s.first z) (le_z z s.last) (le_to s.first z low) (le_to z s.last high)

covers-below : (s : Span) (z : ℤ) → z <ℤ s.first → covers s z ≡ false
covers-below s z h = and_left (le_z s.first z) (le_z z s.last) (le_not s.first z h)

pub covers-above : (s : Span) (z : ℤ) → s.last <ℤ z → covers s z ≡ false
covers-above s z h = and_right (le_z s.first z) (le_z z s.last) (le_not z s.last h)

none-covered : (z : ℤ) → covers no_label.span z ≡ false
none-covered z = false_from_ne_true (covers no_label.span z) (λ h. let p = covers-parts no_label.span z h in omega (arith, ints, p.0, p.1))

-- what covers a number, is a label
pub stands : (labels : List Label) (place : ℕ) (z : ℤ) → covers (label_at labels place).span z ≡ true → place < length labels
stands labels place z h =
    ⊎_elim
    (λ within. within)
    (λ past. absurd (both_ways (covers (label_at labels place).span z) (ap (λ (l : Label). covers l.span z) (get_or_past labels place no_label past) ∙ none-covered z) h))
    (cases_lt place (length labels))

-- of two spans one after the other only one covers a number
crossed : (s t u v : Span) (z : ℤ) → u ≡ s → v ≡ t → u.last <ℤ v.first → covers s z ≡ true → covers t z ≡ true → ⊥
crossed s t u v z is also apart here there =
    let less : s.last <ℤ t.first = subst (λ (x : Span). s.last <ℤ x.first) also (subst (λ (x : Span). x.last <ℤ v.first) is apart) in
    let p = covers-parts s z here in
    let q = covers-parts t z there in
    omega (arith, ints, less, p.1, q.0)

-- the label that covers a number is the only one
pub only : (labels : List Label) (order : List ℕ) (z : ℤ) (place : ℕ) → AreApart labels order (length labels) → HasRanks labels order → covers (label_at labels place).span z ≡ true → (other : ℕ) → (other ≡ place → ⊥) → covers (label_at labels other).span z ≡ false
only labels order z place apart ranks here other differs =
    let span = λ (i : ℕ). (label_at labels i).span in
    false_from_ne_true (covers (label_at labels other).span z) (λ there.
    let p = ranks.rank place (stands labels place z here) in
    let q = ranks.rank other (stands labels other z there) in
    ⊎_elim
    (λ same. differs (sym q.2 ∙ (ap (place_in order) same ∙ p.2)))
    (⊎_elim
    (λ below. crossed (span other) (span place) (span_in labels order q.0) (span_in labels order p.0) z (ap span q.2) (ap span p.2) (apart.apart q.0 p.0 below p.1) there here)
    (λ above. crossed (span place) (span other) (span_in labels order p.0) (span_in labels order q.0) z (ap span p.2) (ap span q.2) (apart.apart p.0 q.0 above q.1) here there))
    (cases_order q.0 p.0))

-- no element among the first passes a test
none_any : {X : Type 0} (test : X → Bool) (xs : List X) (n : ℕ) (d : X) → ((k : ℕ) → k < n → test (get_or xs k d) ≡ false) → list_any test (take n xs) ≡ false
none_any test xs zero d h = refl
none_any test [] (suc n) d h = refl
none_any test (x ∷ xs) (suc n) d h =
    ap (λ b. b || list_any test (take n xs)) (h 0 (omega arith)) ∙ none_any test xs n d (λ k less. h (suc k) (omega arith))

-- the test of a label that is before one of a name
abbrev pub shown_by : List Label → ℤ → ℕ → ℕ → Bool
shown_by labels z place before = covers (label_at labels before).span z && bytes_eq (label_at labels before).name (label_at labels place).name

pub none-before : (labels : List Label) (z : ℤ) (place : ℕ) → ((before : ℕ) → before < place → shown_by labels z place before ≡ false) → is_shown (take place labels) z (label_at labels place).name ≡ false
none-before labels z place h = none_any (λ (label : Label). covers label.span z && bytes_eq label.name (label_at labels place).name) labels place no_label h

pub one-before : (labels : List Label) (z : ℤ) (place before : ℕ) → place < length labels → before < place → shown_by labels z place before ≡ true → is_shown (take place labels) z (label_at labels place).name ≡ true
one-before labels z place before within less h =
    let test = λ (label : Label). covers label.span z && bytes_eq label.name (label_at labels place).name in
    list_any_at test (take place labels) before no_label (subst (λ n. before < n) (sym (length-take-le place labels (omega arith))) less) (ap test (get_or-take place labels before no_label less) ∙ h)

-- a label is shown that covers a number which none before it covers
shows-first : (labels : List Label) (z : ℤ) (place : ℕ) → covers (label_at labels place).span z ≡ true → ((before : ℕ) → before < place → covers (label_at labels before).span z ≡ false) → shows_at labels z place ≡ true
shows-first labels z place here none =
    and_from (covers (label_at labels place).span z) (not (is_shown (take place labels) z (label_at labels place).name)) here (ap not (none-before labels z place (λ before less. and_left (covers (label_at labels before).span z) (bytes_eq (label_at labels before).name (label_at labels place).name) (none before less))))

-- one that does not cover it is not
pub hidden : (labels : List Label) (z : ℤ) (place : ℕ) → covers (label_at labels place).span z ≡ false → shows_at labels z place ≡ false
hidden labels z place h = and_left (covers (label_at labels place).span z) (not (is_shown (take place labels) z (label_at labels place).name)) h

-- what is shown where no two labels cover one number
pub only_shown : (labels : List Label) (order : List ℕ) (z : ℤ) (begin place : ℕ) → AreApart labels order (length labels) → HasRanks labels order → covers (label_at labels place).span z ≡ true → begin ≤ place → IsNextShown labels z begin place
only_shown labels order z begin place apart ranks here after =
    let others = only labels order z place apart ranks here in
    record {
      not_before = after;
      within = stands labels place z here;
      shows = shows-first labels z place here (λ before less. others before (omega arith));
      first = λ before from less. hidden labels z before (others before (omega arith));
    }

pub none_later : (labels : List Label) (order : List ℕ) (z : ℤ) (begin place : ℕ) → AreApart labels order (length labels) → HasRanks labels order → covers (label_at labels place).span z ≡ true → place < begin → NoneShown labels z begin
none_later labels order z begin place apart ranks here before =
    record { none = λ later from within. hidden labels z later (only labels order z place apart ranks here later (omega arith)) }

-- after the one label that covers a number none is shown for it
pub alone-apart : (labels : List Label) (order : List ℕ) → AreApart labels order (length labels) → HasRanks labels order → (z : ℤ) (place : ℕ) → shows_at labels z place ≡ true → NoneShown labels z (place + 1)
alone-apart labels order apart ranks z place shown =
    let here = (and_parts (covers (label_at labels place).span z) (not (is_shown (take place labels) z (label_at labels place).name)) shown).0 in
    none_later labels order z (place + 1) place apart ranks here (omega arith)

pub none_covering : (labels : List Label) (z : ℤ) (begin : ℕ) → ((place : ℕ) → place < length labels → covers (label_at labels place).span z ≡ false) → NoneShown labels z begin
none_covering labels z begin none = record { none = λ place from within. hidden labels z place (none place within) }

-- spans one after the other, and one more
pub record Ordered (span : ℕ → Span) (count : ℕ) (before : ℤ) : Type 0 where
  pub forward : (k : ℕ) → k < count → (span k).first ≤ℤ (span k).last
  pub apart : (j k : ℕ) → j < k → k < count → (span j).last <ℤ (span k).first
  pub under : (j : ℕ) → j < count → (span j).last ≤ℤ before

ordered-next : (span : ℕ → Span) (i : ℕ) (before : ℤ) → Ordered span i before → before <ℤ (span i).first → (span i).first ≤ℤ (span i).last → Ordered span (i + 1) (span i).last
ordered-next span i before so_far over forward =
    record {
      forward = below_more (λ k. (span k).first ≤ℤ (span k).last) i so_far.forward forward;
      apart = λ j k less within.
          ⊎_elim
          (λ early. so_far.apart j k less early)
          (λ late.
          let same : i ≡ k = omega arith in
          let last = so_far.under j (omega arith) in
          let here : (span j).last <ℤ (span i).first = omega (arith, ints, last, over) in
          subst (λ n. (span j).last <ℤ (span n).first) same here)
          (cases_lt k i);
      under = λ j less.
          ⊎_elim
          (λ early. let last = so_far.under j early in omega (arith, ints, last, over, forward))
          (λ late.
          let same : i ≡ j = omega arith in
          let here : (span i).last ≤ℤ (span i).last = omega (arith, ints) in
          subst (λ n. (span n).last ≤ℤ (span i).last) same here)
          (cases_lt j i);
    }

pub ordered-more : (span : ℕ → Span) (i : ℕ) (before : ℤ) (s : Span) → s ≡ span i → Ordered span i before → before <ℤ s.first → s.first ≤ℤ s.last → Ordered span (i + 1) s.last
ordered-more span i before s is so_far over forward =
    subst (λ (x : Span). Ordered span (i + 1) x.last) (sym is)
    (ordered-next span i before so_far (subst (λ (x : Span). before <ℤ x.first) is over) (subst (λ (x : Span). x.first ≤ℤ x.last) is forward))

pub ordered-all : (labels : List Label) (order : List ℕ) (count all : ℕ) (before : ℤ) → count ≤ all → Ordered (span_in labels order) all before → AreApart labels order count
ordered-all labels order count all before few so_far =
    record {
      forward = λ rank within. so_far.forward rank (omega arith);
      apart = λ rank later less within. so_far.apart rank later less (omega arith);
    }

-- halving: the middle one and those after it, or before it, do not cover a number
pub none-above : (labels : List Label) (order : List ℕ) (count : ℕ) (z : ℤ) (middle rank : ℕ) → AreApart labels order count → z <ℤ (span_in labels order middle).first → middle ≤ rank → rank < count → covers (span_in labels order rank) z ≡ false
none-above labels order count z middle rank apart less from within =
    ⊎_elim
    (λ later.
    let over = apart.apart middle rank later within in
    let up = apart.forward middle (omega arith) in
    covers-below (span_in labels order rank) z (omega (arith, ints, over, up, less)))
    (λ same.
    let is : middle ≡ rank = omega arith in
    subst (λ n. covers (span_in labels order n) z ≡ false) is (covers-below (span_in labels order middle) z less))
    (cases_lt middle rank)

pub none-below : (labels : List Label) (order : List ℕ) (count : ℕ) (z : ℤ) (middle rank : ℕ) → AreApart labels order count → (span_in labels order middle).last <ℤ z → rank < middle + 1 → middle < count → covers (span_in labels order rank) z ≡ false
none-below labels order count z middle rank apart over less within =
    ⊎_elim
    (λ earlier.
    let under = apart.apart rank middle earlier within in
    let up = apart.forward middle within in
    covers-above (span_in labels order rank) z (omega (arith, ints, over, up, under)))
    (λ same.
    let is : middle ≡ rank = omega arith in
    subst (λ n. covers (span_in labels order n) z ≡ false) is (covers-above (span_in labels order middle) z over))
    (cases_lt rank middle)

-- the label of a rank that covers a number is the only one
pub ranked : (labels : List Label) (order : List ℕ) (count : ℕ) (z : ℤ) (middle : ℕ) → AreApart labels order count → middle < count → covers (span_in labels order middle) z ≡ true → IsRanked labels order count z (place_in order middle)
ranked labels order count z middle apart within here =
    record {
      here = here;
      only = λ rank inside there.
          ⊎_elim
          (λ same. ap (place_in order) same)
          (⊎_elim
          (λ below. absurd (crossed (span_in labels order rank) (span_in labels order middle) (span_in labels order rank) (span_in labels order middle) z refl refl (apart.apart rank middle below within) there here))
          (λ above. absurd (crossed (span_in labels order middle) (span_in labels order rank) (span_in labels order middle) (span_in labels order rank) z refl refl (apart.apart middle rank above inside) here there)))
          (cases_order rank middle);
    }

-- no label covers a number where none of a rank does
pub none_of_ranks : (labels : List Label) (order : List ℕ) (z : ℤ) → HasRanks labels order → ((rank : ℕ) → rank < length labels → covers (span_in labels order rank) z ≡ false) → (place : ℕ) → place < length labels → covers (label_at labels place).span z ≡ false
none_of_ranks labels order z ranks none place within =
    let r = ranks.rank place within in
    ap (λ (i : ℕ). covers (label_at labels i).span z) (sym r.2) ∙ none r.0 r.1

-- where no two labels cover one number, the only label is the first one
pub first_of_ranks : (labels : List Label) (order : List ℕ) (z : ℤ) → AreApart labels order (length labels) → HasRanks labels order → (found : Option ℕ) → FindsRanked labels order (length labels) z found → FindsNext labels z 0 found
first_of_ranks labels order z apart ranks None none = none_covering labels z 0 (none_of_ranks labels order z ranks none)
first_of_ranks labels order z apart ranks (Some place) is = only_shown labels order z 0 place apart ranks is.here (omega arith)

-- the last label of a name, at the beginning and one label further
pub last-none : (labels : List Label) (name : List ℕ) → IsLast labels 0 name 0
last-none labels name = record { within = omega arith; named = λ h. absurd (omega arith); last = λ place from less. absurd (omega arith) }

last-here : (labels : List Label) (i : ℕ) (name : List ℕ) → (label_at labels i).name ≡ name → IsLast labels (i + 1) name (i + 1)
last-here labels i name is =
    let before : (i + 1) - 1 ≡ i = omega arith in
    record {
      within = omega arith;
      named = λ _. ap (λ (k : ℕ). (label_at labels k).name) before ∙ is;
      last = λ place from less. absurd (omega arith);
    }

last-kept : (labels : List Label) (i : ℕ) (name : List ℕ) (kept : ℕ) → bytes_eq (label_at labels i).name name ≡ false → IsLast labels i name kept → IsLast labels (i + 1) name kept
last-kept labels i name kept other known =
    record {
      within = omega (arith, known.within);
      named = known.named;
      last = λ place from less.
          ⊎_elim
          (λ early. known.last place from early)
          (λ late. let same : i ≡ place = omega arith in subst (λ (k : ℕ). bytes_eq (label_at labels k).name name ≡ false) same other)
          (cases_lt place i);
    }

pub last-more : (labels : List Label) (i : ℕ) (name : List ℕ) (old new : Option ℕ) → new ≡ cond (bytes_eq (label_at labels i).name name) (Some (i + 1)) old → IsLast labels i name (unwrap_or old 0) → IsLast labels (i + 1) name (unwrap_or new 0)
last-more labels i name old new is known =
    let test = bytes_eq (label_at labels i).name name in
    ⊎_elim
    (λ same.
    let stored : new ≡ Some (i + 1) = is ∙ ap (λ b. cond b (Some (i + 1)) old) same in
    subst (λ (o : Option ℕ). IsLast labels (i + 1) name (unwrap_or o 0)) (sym stored) (last-here labels i name ((bytes_eq-Decides (label_at labels i).name name).0 same)))
    (λ other.
    let stored : new ≡ old = is ∙ ap (λ b. cond b (Some (i + 1)) old) other in
    subst (λ (o : Option ℕ). IsLast labels (i + 1) name (unwrap_or o 0)) (sym stored) (last-kept labels i name (unwrap_or old 0) other known))
    (cases_Bool test)

-- the links of the labels so far, and one more
pub links-more : (labels : List Label) (i kept : ℕ) (earlier more : List ℕ) → length earlier ≡ i → more ≡ earlier ++ kept ∷ [] → IsLast labels i (label_at labels i).name kept → ((k : ℕ) → k < i → IsLast labels k (label_at labels k).name (get_or earlier k 0)) → (k : ℕ) → k < i + 1 → IsLast labels k (label_at labels k).name (get_or more k 0)
links-more labels i kept earlier more size is last links k less =
    let link = λ (n : ℕ). IsLast labels k (label_at labels k).name n in
    ⊎_elim
    (λ early.
    let there : get_or more k 0 ≡ get_or earlier k 0 = ap (λ xs. get_or xs k 0) is ∙ get_or_append_left earlier (kept ∷ []) 0 k (omega (arith, size)) in
    subst link (sym there) (links k early))
    (λ late.
    let same : i ≡ k = omega arith in
    let there : get_or more k 0 ≡ kept = ap (λ xs. get_or xs k 0) is ∙ get_or_push earlier kept 0 k (omega (arith, size)) in
    subst link (sym there) (subst (λ (n : ℕ). IsLast labels n (label_at labels n).name kept) same last))
    (cases_lt k i)

-- a walk over the labels of one name: which were looked at
pub record Walked (labels : List Label) (z : ℤ) (place end : ℕ) : Type 0 where
  pub within : end ≤ place
  pub named : 0 < end → (label_at labels (end - 1)).name ≡ (label_at labels place).name
  pub none : (before : ℕ) → end ≤ before → before < place → shown_by labels z place before ≡ false

pub walk-begins : (labels : List Label) (z : ℤ) (place end : ℕ) → IsLast labels place (label_at labels place).name end → Walked labels z place end
walk-begins labels z place end last =
    record {
      within = last.within;
      named = last.named;
      none = λ before from less. and_right (covers (label_at labels before).span z) (bytes_eq (label_at labels before).name (label_at labels place).name) (last.last before from less);
    }

pub walk-more : (labels : List Label) (z : ℤ) (place end next : ℕ) → 0 < end → Walked labels z place end → covers (label_at labels (end - 1)).span z ≡ false → IsLast labels (end - 1) (label_at labels (end - 1)).name next → Walked labels z place next
walk-more labels z place end next more walked other last =
    let name = walked.named more in
    record {
      within = omega (arith, last.within, walked.within);
      named = λ h. last.named h ∙ name;
      none = λ before from less.
          let covered = covers (label_at labels before).span z in
          let same = bytes_eq (label_at labels before).name (label_at labels place).name in
          ⊎_elim
          (λ early. and_right covered same (subst (λ (n : List ℕ). bytes_eq (label_at labels before).name n ≡ false) name (last.last before from early)))
          (λ late.
          ⊎_elim
          (λ inside. let is : end - 1 ≡ before = omega arith in and_left covered same (subst (λ (k : ℕ). covers (label_at labels k).span z ≡ false) is other))
          (λ after. walked.none before after less)
          (cases_lt before end))
          (cases_lt before (end - 1));
    }

-- where a walk ends
pub walk-found : (labels : List Label) (z : ℤ) (place end : ℕ) → place < length labels → 0 < end → Walked labels z place end → covers (label_at labels (end - 1)).span z ≡ true → is_shown (take place labels) z (label_at labels place).name ≡ true
walk-found labels z place end within more walked here =
    let low = walked.within in
    one-before labels z place (end - 1) within (omega arith) (and_from (covers (label_at labels (end - 1)).span z) (bytes_eq (label_at labels (end - 1)).name (label_at labels place).name) here ((bytes_eq-Decides (label_at labels (end - 1)).name (label_at labels place).name).1 (walked.named more)))

pub walk-ends : (labels : List Label) (z : ℤ) (place end : ℕ) → end ≤ 0 → Walked labels z place end → is_shown (take place labels) z (label_at labels place).name ≡ false
walk-ends labels z place end none walked =
    none-before labels z place (λ before less. walked.none before (omega arith) less)
