-- Choices that labels make, and the labels that are shown for a number.
use Rattle.std.proofs.Common.{◌≡◌, ℕ, zero, suc, ◌+◌, ◌<◌, ◌≤◌, ltb, ℤ, Bool, true, false, not, ◌&&◌, ◌||◌, cond, List, [], ◌∷◌, length, take, get_or, Option, Some, None, option_map, refl, sym, ap, subst, ◌∙◌, ⊎_elim, length-take, arith}
use Rattle.std.specs.List.{list_any, find, position_from, position, cons_option}
use Rattle.std.specs.Str.{bytes_eq}
use Rattle.std.proofs.lemmas.Int.{ints}
use Rattle.std.proofs.lemmas.Bool.{cases_lt, cases_Bool, and_parts, false≢true}
use Rattle.std.proofs.lemmas.Bool.Decides.{nat_tests}
use Rattle.std.proofs.lemmas.Iterator.Adapters.{position_from-zero}
use Rattle.std.proofs.lemmas.List.{get_or-take}
use Rattle.std.proofs.lemmas.Slice.Eq.{bytes_eq-Decides}
use Rattle.ctf_class.specs.declared.span.Choice.{Choice}
use Rattle.ctf_class.specs.declared.span.Label.{Label}
use Rattle.ctf_class.specs.declared.span.Span.{Span}
use Rattle.ctf_class.specs.Labels.{covers, no_label, label_at, is_shown, shows_at, NoneShown, IsNextShown}
use Rattle.ctf_class.specs.Choices.{option_named, choices_by, chosen}
use Rattle.ctf_class.specs.ListedChoices.{choice_at, ChoicesApart}
use Rattle.ctf_class.proofs.LabelsLemmas.{covers-parts, covers-above}

-- a label at a place that names no option, if it covers a number
abbrev pub Silent : List (List ℕ) → List Label → ℤ → ℕ → Type 0
Silent names labels z place = covers (label_at labels place).span z ≡ true → option_named names (label_at labels place).name ≡ None

-- where a test passes
any_place : {X : Type 0} (test : X → Bool) (xs : List X) (d : X) → list_any test xs ≡ true → (i : ℕ) × (i < length xs) × (test (get_or xs i d) ≡ true)
any_place test [] d h = absurd (false≢true h)
any_place test (x ∷ xs) d h =
    ⊎_elim
    (λ here. (0, omega arith, here))
    (λ other.
    let r = any_place test xs d (sym (ap (λ b. b || list_any test xs) other) ∙ h) in
    (suc r.0, omega (arith, r.1), r.2))
    (cases_Bool (test x))

not_false : (b : Bool) → not b ≡ false → b ≡ true
not_false true e = refl
not_false false e = sym e

-- a label that covers a number and is not shown has the name of one before it
hidden_silent : (names : List (List ℕ)) (labels : List Label) (z : ℤ) (place : ℕ) → shows_at labels z place ≡ false → ((before : ℕ) → before < place → Silent names labels z before) → Silent names labels z place
hidden_silent names labels z place hides earlier here =
    let name = (label_at labels place).name in
    let test = λ (label : Label). covers label.span z && bytes_eq label.name name in
    let shown : is_shown (take place labels) z name ≡ true = not_false (is_shown (take place labels) z name) (sym (ap (λ b. b && not (is_shown (take place labels) z name)) here) ∙ hides) in
    let r = any_place test (take place labels) no_label shown in
    let less : r.0 < place = omega (arith, r.1, length-take place labels) in
    let both = and_parts (covers (label_at labels r.0).span z) (bytes_eq (label_at labels r.0).name name) (sym (ap test (get_or-take place labels r.0 no_label less)) ∙ r.2) in
    let same : (label_at labels r.0).name ≡ name = (bytes_eq-Decides (label_at labels r.0).name name).0 both.1 in
    ap (option_named names) (sym same) ∙ earlier r.0 less both.0

-- labels that are not shown, after others that name no option
silent_to : (names : List (List ℕ)) (labels : List Label) (z : ℤ) (begin end : ℕ) → ((place : ℕ) → place < begin → Silent names labels z place) → ((place : ℕ) → begin ≤ place → place < end → shows_at labels z place ≡ false) → (place : ℕ) → place < end → Silent names labels z place
silent_to names labels z begin zero earlier hides place within = absurd (omega arith)
silent_to names labels z begin (suc end) earlier hides place within =
    let before = silent_to names labels z begin end earlier (λ p low high. hides p low (omega arith)) in
    ⊎_elim
    (λ less. before place less)
    (λ last.
    let is : end ≡ place = omega arith in
    subst (Silent names labels z) is
    (⊎_elim (λ early. earlier end early) (λ late. hidden_silent names labels z end (hides end late (omega arith)) before) (cases_lt end begin)))
    (cases_lt place end)

-- one label more
abbrev with_span : Span → ℕ → Choice
with_span span option = record { span = span; option = option }

over : (o : Option ℕ) (span : Span) (rest : List Choice) (z : ℤ) → (covers span z ≡ true → o ≡ None) → chosen (cons_option (option_map (with_span span) o) rest) z ≡ chosen rest z
over None span rest z silent = refl
over (Some option) span rest z silent =
    ⊎_elim
    (λ here. let none = silent here in absurd (cc))
    (λ other. ap (λ b. option_map (λ (choice : Choice). choice.option) (cond b (Some (with_span span option)) (find (λ (choice : Choice). covers choice.span z) rest))) other)
    (cases_Bool (covers span z))

passed : (names : List (List ℕ)) (label : Label) (labels : List Label) (z : ℤ) → (covers label.span z ≡ true → option_named names label.name ≡ None) → chosen (choices_by names (label ∷ labels)) z ≡ chosen (choices_by names labels) z
passed names label labels z silent = over (option_named names label.name) label.span (choices_by names labels) z silent

taken : (o : Option ℕ) (span : Span) (rest : List Choice) (z : ℤ) (option : ℕ) → covers span z ≡ true → o ≡ Some option → chosen (cons_option (option_map (with_span span) o) rest) z ≡ Some option
taken None span rest z option here named = absurd (cc)
taken (Some other) span rest z option here named =
    ap (λ b. option_map (λ (choice : Choice). choice.option) (cond b (Some (with_span span other)) (find (λ (choice : Choice). covers choice.span z) rest))) here ∙ named

-- no label that covers a number names an option
chosen_none : (names : List (List ℕ)) (labels : List Label) (z : ℤ) → ((place : ℕ) → place < length labels → Silent names labels z place) → chosen (choices_by names labels) z ≡ None
chosen_none names [] z silent = refl
chosen_none names (label ∷ labels) z silent =
    passed names label labels z (silent 0 (omega arith)) ∙ chosen_none names labels z (λ place within. silent (suc place) (omega arith))

-- the first that covers it and names one
chosen_at : (names : List (List ℕ)) (labels : List Label) (z : ℤ) (place option : ℕ) → place < length labels → ((before : ℕ) → before < place → Silent names labels z before) → covers (label_at labels place).span z ≡ true → option_named names (label_at labels place).name ≡ Some option → chosen (choices_by names labels) z ≡ Some option
chosen_at names [] z place option within silent here named = absurd (omega arith)
chosen_at names (label ∷ labels) z zero option within silent here named = taken (option_named names label.name) label.span (choices_by names labels) z option here named
chosen_at names (label ∷ labels) z (suc place) option within silent here named =
    passed names label labels z (silent 0 (omega arith)) ∙ chosen_at names labels z place option (omega arith) (λ before less. silent (suc before) (omega arith)) here named

-- where the labels before a place name no option: the next one that is shown, and none
pub shown_none : (names : List (List ℕ)) (labels : List Label) (z : ℤ) (begin : ℕ) → ((place : ℕ) → place < begin → Silent names labels z place) → NoneShown labels z begin → chosen (choices_by names labels) z ≡ None
shown_none names labels z begin earlier none = chosen_none names labels z (silent_to names labels z begin (length labels) earlier none.none)

pub shown_option : (names : List (List ℕ)) (labels : List Label) (z : ℤ) (begin place option : ℕ) → ((before : ℕ) → before < begin → Silent names labels z before) → IsNextShown labels z begin place → option_named names (label_at labels place).name ≡ Some option → chosen (choices_by names labels) z ≡ Some option
shown_option names labels z begin place option earlier next named =
    let both = and_parts (covers (label_at labels place).span z) (not (is_shown (take place labels) z (label_at labels place).name)) next.shows in
    chosen_at names labels z place option next.within (silent_to names labels z begin place earlier next.first) both.0 named

pub shown_silent : (names : List (List ℕ)) (labels : List Label) (z : ℤ) (begin place : ℕ) → ((before : ℕ) → before < begin → Silent names labels z before) → IsNextShown labels z begin place → option_named names (label_at labels place).name ≡ None → (before : ℕ) → before < place + 1 → Silent names labels z before
shown_silent names labels z begin place earlier next named before within =
    ⊎_elim
    (λ less. silent_to names labels z begin place earlier next.first before less)
    (λ last. let is : place ≡ before = omega arith in subst (Silent names labels z) is (λ here. named))
    (cases_lt before place)

-- an element is found at or after the first place
pub position_from-above : {X : Type 0} (p : X → Bool) (n k : ℕ) (xs : List X) → position_from p n xs ≡ Some k → n ≤ k
position_from-above p n k [] found = absurd (cc)
position_from-above p n k (x ∷ xs) found =
    elim (p x) as (λ b. cond b (Some n) (position_from p (n + 1) xs) ≡ Some k → n ≤ k) [
      | true ↦ λ e. let same : n ≡ k = cc in omega arith
      | false ↦ λ e. omega (arith, position_from-above p (n + 1) k xs e)
    ] found

-- a place before an end
abbrev pub before_end : ℕ → Option ℕ → Option ℕ
before_end end None = None
before_end end (Some place) = cond (ltb place end) (Some place) None

beyond : (end first : ℕ) (o : Option ℕ) → ((k : ℕ) → o ≡ Some k → first ≤ k) → end ≡ first → None ≡ before_end end o
beyond end first None above same = refl
beyond end first (Some place) above same = let low = above place refl in grind (arith, nat_tests)

from-take : {X : Type 0} (p : X → Bool) (first count : ℕ) (xs : List X) → position_from p first (take count xs) ≡ before_end (first + count) (position_from p first xs)
from-take p first zero xs = beyond (first + 0) first (position_from p first xs) (λ k. position_from-above p first k xs) (omega arith)
from-take p first (suc count) [] = refl
from-take p first (suc count) (x ∷ xs) =
    let end : first + 1 + count ≡ first + suc count = omega arith in
    let here : first < first + suc count = omega arith in
    elim (p x) as (λ b. cond b (Some first) (position_from p (first + 1) (take count xs)) ≡ before_end (first + suc count) (cond b (Some first) (position_from p (first + 1) xs))) [
      | true ↦ grind (arith, nat_tests)
      | false ↦ from-take p (first + 1) count xs ∙ ap (λ n. before_end n (position_from p (first + 1) xs)) end
    ]

-- the place among the first of some elements
pub position-take : {X : Type 0} (p : X → Bool) (count : ℕ) (xs : List X) → position p (take count xs) ≡ before_end count (position p xs)
position-take p count xs =
    let none : 0 + count ≡ count = omega arith in
    position_from-zero p (take count xs) ∙ (from-take p 0 count xs ∙ ap (λ n. before_end n (position_from p 0 xs)) none ∙ ap (before_end count) (sym (position_from-zero p xs)))

-- a choice that covers a number, where none before it does
chosen_first : (choices : List Choice) (z : ℤ) (place : ℕ) → place < length choices → covers (choice_at choices place).span z ≡ true → ((before : ℕ) → before < place → covers (choice_at choices before).span z ≡ false) → chosen choices z ≡ Some (choice_at choices place).option
chosen_first [] z place within here none = absurd (omega arith)
chosen_first (choice ∷ choices) z zero within here none =
    ap (λ b. option_map (λ (c : Choice). c.option) (cond b (Some choice) (find (λ (c : Choice). covers c.span z) choices))) here
chosen_first (choice ∷ choices) z (suc place) within here none =
    ap (λ b. option_map (λ (c : Choice). c.option) (cond b (Some choice) (find (λ (c : Choice). covers c.span z) choices))) (none 0 (omega arith)) ∙ chosen_first choices z place (omega arith) here (λ before less. none (suc before) (omega arith))

-- of choices that are one after the other the one that covers a number is the first
pub chosen_apart : (choices : List Choice) (z : ℤ) (place : ℕ) → ChoicesApart choices → place < length choices → covers (choice_at choices place).span z ≡ true → chosen choices z ≡ Some (choice_at choices place).option
chosen_apart choices z place apart within here =
    chosen_first choices z place within here (λ before less.
    let below = apart.apart before place less within in
    let from = (covers-parts (choice_at choices place).span z here).0 in
    covers-above (choice_at choices before).span z (omega (arith, ints, below, from)))
