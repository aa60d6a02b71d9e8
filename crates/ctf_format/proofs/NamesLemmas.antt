-- The names that show a number, one label more at a time.
use Rattle.std.proofs.Common.{◌≡◌, ℕ, zero, suc, ◌+◌, ◌-◌, ◌<◌, ◌≤◌, true, false, cond, List, [], ◌∷◌, ◌++◌, map, take, drop, length, get_or, ℤ, refl, sym, ap, ◌∙◌, ⊎_elim, arith, append-nil, append_assoc}
use Rattle.std.proofs.Math.Seq.{drop-cons}
use Rattle.std.specs.Prelude.{codes}
use Rattle.std.proofs.lemmas.Bool.{cases_lt}
use Rattle.std.proofs.lemmas.List.{take_more, get_or_default}
use Rattle.ctf_class.specs.declared.span.Label.{Label}
use Rattle.ctf_class.specs.Labels.{no_label, label_at, shows_at, NoneShown, IsNextShown}
use Rattle.ctf_class.specs.Names.{label_text}
use Rattle.ctf_format.specs.Labels.{shows, names_after, names_of, names_text}
use Rattle.ctf_format.specs.Rows.{row}
use Rattle.ctf_format.proofs.Chains.{three}

abbrev from : List Label → ℕ → ℤ → List (List ℕ)
from labels i z = names_after (take i labels) (drop i labels) z

pub here : {A : Type 0} (xs : List A) (i : ℕ) (x : A) → i < length xs → x ≡ get_or xs i x → drop i xs ≡ x ∷ drop (i + 1) xs
here xs i x h e =
    let next : suc i ≡ i + 1 = omega arith in
    drop-cons xs i x h ∙ (λ j. sym e j ∷ drop (next j) xs)

pub drop-all : {A : Type 0} (xs : List A) (i : ℕ) → length xs ≤ i → drop i xs ≡ []
drop-all [] zero h = refl
drop-all [] (suc i) h = refl
drop-all (x ∷ xs) zero h = absurd (omega arith)
drop-all (x ∷ xs) (suc i) h = drop-all xs i (omega arith)

next : (labels : List Label) (i : ℕ) (label : Label) (z : ℤ) → i < length labels → label ≡ get_or labels i label → from labels i z ≡ names_after (take i labels) (label ∷ drop (i + 1) labels) z
next labels i label z within is = ap (λ ls. names_after (take i labels) ls z) (here labels i label within is)

joined_by : (labels : List Label) (i : ℕ) (label : Label) → i < length labels → label ≡ get_or labels i label → take i labels ++ label ∷ [] ≡ take (i + 1) labels
joined_by labels i label within is = ap (λ l. take i labels ++ l ∷ []) is ∙ sym (take_more labels i label within)

pub shown : (labels : List Label) (i : ℕ) (label : Label) (z : ℤ) → i < length labels → label ≡ get_or labels i label → shows (take i labels) label z ≡ true → from labels i z ≡ label.name ∷ from labels (i + 1) z
shown labels i label z within is shows_it =
    next labels i label z within is
    ∙ ap (λ b. cond b (label.name ∷ names_after (take i labels ++ label ∷ []) (drop (i + 1) labels) z) (names_after (take i labels ++ label ∷ []) (drop (i + 1) labels) z)) shows_it
    ∙ ap (λ ls. label.name ∷ names_after ls (drop (i + 1) labels) z) (joined_by labels i label within is)

pub passed : (labels : List Label) (i : ℕ) (label : Label) (z : ℤ) → i < length labels → label ≡ get_or labels i label → shows (take i labels) label z ≡ false → from labels i z ≡ from labels (i + 1) z
passed labels i label z within is hides_it =
    next labels i label z within is
    ∙ ap (λ b. cond b (label.name ∷ names_after (take i labels ++ label ∷ []) (drop (i + 1) labels) z) (names_after (take i labels ++ label ∷ []) (drop (i + 1) labels) z)) hides_it
    ∙ ap (λ ls. names_after ls (drop (i + 1) labels) z) (joined_by labels i label within is)

-- one text more of a row is written
pub row_next : (written before text : List ℕ) (texts all : List (List ℕ)) (lead mark : ℕ) → written ++ row lead (text ∷ texts) ≡ before ++ row mark all → (written ++ (lead ∷ 32 ∷ text)) ++ row 44 texts ≡ before ++ row mark all
row_next written before text texts all lead mark already = append_assoc written (lead ∷ 32 ∷ text) (row 44 texts) ∙ already

-- the label at a place, as it is read
label-read : (labels : List Label) (place : ℕ) → place < length labels → label_at labels place ≡ get_or labels place (label_at labels place)
label-read labels place within = get_or_default labels place no_label (label_at labels place) within

-- labels that do not show the number
skipped : (labels : List Label) (z : ℤ) (begin gap : ℕ) → begin + gap ≤ length labels → ((place : ℕ) → begin ≤ place → place < begin + gap → shows_at labels z place ≡ false) → from labels begin z ≡ from labels (begin + gap) z
skipped labels z begin zero within none = let same : begin ≡ begin + 0 = omega arith in ap (λ i. from labels i z) same
skipped labels z begin (suc gap) within none =
    let last = begin + gap in
    let inside : last < length labels = omega arith in
    let same : last + 1 ≡ begin + suc gap = omega arith in
    skipped labels z begin gap (omega arith) (λ place low high. none place low (omega arith))
    ∙ (passed labels last (label_at labels last) z inside (label-read labels last inside) (none last (omega arith) (omega arith)) ∙ ap (λ i. from labels i z) same)

skipped-to : (labels : List Label) (z : ℤ) (begin end : ℕ) → begin ≤ end → end ≤ length labels → ((place : ℕ) → begin ≤ place → place < end → shows_at labels z place ≡ false) → from labels begin z ≡ from labels end z
skipped-to labels z begin end before within none =
    let same : begin + (end - begin) ≡ end = omega arith in
    skipped labels z begin (end - begin) (omega arith) (λ place low high. none place low (omega arith)) ∙ ap (λ i. from labels i z) same

-- the next label that shows the number, and none
pub names_next : (labels : List Label) (z : ℤ) (begin place : ℕ) → IsNextShown labels z begin place → from labels begin z ≡ (label_at labels place).name ∷ from labels (place + 1) z
names_next labels z begin place next =
    let within = next.within in
    skipped-to labels z begin place next.not_before (omega arith) next.first
    ∙ shown labels place (label_at labels place) z within (label-read labels place within) next.shows

at-end : (labels : List Label) (z : ℤ) (end : ℕ) → length labels ≤ end → from labels end z ≡ []
at-end labels z end past = ap (λ rest. names_after (take end labels) rest z) (drop-all labels end past)

pub names_none : (labels : List Label) (z : ℤ) (begin : ℕ) → NoneShown labels z begin → from labels begin z ≡ []
names_none labels z begin none =
    ⊎_elim
    (λ within. skipped-to labels z begin (length labels) (omega arith) (omega arith) none.none ∙ at-end labels z (length labels) (omega arith))
    (λ past. at-end labels z begin past)
    (cases_lt begin (length labels))

-- no name, one name, several
pub text_none : (labels : List Label) (z : ℤ) → NoneShown labels z 0 → names_text (names_of labels z) ≡ codes "<unknown>"
text_none labels z none = ap names_text (names_none labels z 0 none)

pub text_one : (labels : List Label) (z : ℤ) (first : ℕ) → IsNextShown labels z 0 first → NoneShown labels z (first + 1) → names_text (names_of labels z) ≡ label_text (label_at labels first).name
text_one labels z first next none =
    ap names_text (names_next labels z 0 first next ∙ ap (λ names. (label_at labels first).name ∷ names) (names_none labels z (first + 1) none))

-- texts after the first ones of a row
row_rest : (mark : ℕ) (text : List ℕ) (texts more : List (List ℕ)) → row mark (text ∷ texts) ++ row 44 more ≡ row mark (text ∷ (texts ++ more))
row_rest mark text [] more = ap (λ xs. mark ∷ 32 ∷ (xs ++ row 44 more)) (append-nil text)
row_rest mark text (t ∷ texts) more =
    ap (λ xs. mark ∷ 32 ∷ xs) (append_assoc text (row 44 (t ∷ texts)) (row 44 more) ∙ ap (λ xs. text ++ xs) (row_rest 44 t texts more))

text_several : (labels : List Label) (z : ℤ) (first second : ℕ) → IsNextShown labels z 0 first → IsNextShown labels z (first + 1) second
    → names_text (names_of labels z) ≡ row 123 (label_text (label_at labels first).name ∷ label_text (label_at labels second).name ∷ map label_text (from labels (second + 1) z)) ++ codes " }"
text_several labels z first second next then =
    ap names_text (names_next labels z 0 first next ∙ ap (λ rest. (label_at labels first).name ∷ rest) (names_next labels z (first + 1) second then))

-- a label that shows the number is written
pub row_next_name : (labels : List Label) (z : ℤ) (begin place : ℕ) (line more before : List ℕ) (lead mark : ℕ) (all : List (List ℕ)) → IsNextShown labels z begin place
    → line ++ row lead (map label_text (from labels begin z)) ≡ before ++ row mark all → more ≡ line ++ (lead ∷ 32 ∷ label_text (label_at labels place).name) → more ++ row 44 (map label_text (from labels (place + 1) z)) ≡ before ++ row mark all
row_next_name labels z begin place line more before lead mark all next already wrote =
    let rest = map label_text (from labels (place + 1) z) in
    let first = ap (λ names. line ++ row lead (map label_text names)) (sym (names_next labels z begin place next)) in
    ap (λ xs. xs ++ row 44 rest) wrote ∙ row_next line before (label_text (label_at labels place).name) rest all lead mark (first ∙ already)

-- all are written
pub row_all_names : (labels : List Label) (z : ℤ) (begin : ℕ) (line before : List ℕ) (lead mark : ℕ) (all : List (List ℕ)) → NoneShown labels z begin
    → line ++ row lead (map label_text (from labels begin z)) ≡ before ++ row mark all → line ≡ before ++ row mark all
row_all_names labels z begin line before lead mark all none already =
    sym (append-nil line) ∙ (ap (λ names. line ++ row lead (map label_text names)) (sym (names_none labels z begin none)) ∙ already)

-- two names are written: what is before them, the first, and the second
pub two_written : (before lead one first second : List ℕ) → lead ≡ before ++ (40 ∷ 32 ∷ []) → one ≡ lead ++ (123 ∷ 32 ∷ first) → one ++ (44 ∷ 32 ∷ second) ≡ before ++ (40 ∷ 32 ∷ row 123 (first ∷ second ∷ []))
two_written before lead one first second led named =
    three before (40 ∷ 32 ∷ []) (123 ∷ 32 ∷ first) (44 ∷ 32 ∷ second) lead one (one ++ (44 ∷ 32 ∷ second)) led named refl
    ∙ ap (λ xs. before ++ (40 ∷ 32 ∷ 123 ∷ 32 ∷ (first ++ (44 ∷ 32 ∷ xs)))) (sym (append-nil second))

-- several names are written: the first two and what is before them, the others, and what is after them
pub several_written : (labels : List Label) (z : ℤ) (first second : ℕ) (before two others : List ℕ) → IsNextShown labels z 0 first → IsNextShown labels z (first + 1) second
    → two ≡ before ++ (40 ∷ 32 ∷ row 123 (label_text (label_at labels first).name ∷ label_text (label_at labels second).name ∷ [])) → others ≡ two ++ row 44 (map label_text (from labels (second + 1) z))
    → others ++ (32 ∷ 125 ∷ []) ≡ before ++ (40 ∷ 32 ∷ names_text (names_of labels z))
several_written labels z first second before two others next then wrote rest =
    let one = label_text (label_at labels first).name in
    let other = label_text (label_at labels second).name in
    let more = map label_text (from labels (second + 1) z) in
    let start = 40 ∷ 32 ∷ row 123 (one ∷ other ∷ []) in
    let close = 32 ∷ 125 ∷ [] in
    ap (λ xs. xs ++ close) (rest ∙ ap (λ xs. xs ++ row 44 more) wrote ∙ append_assoc before start (row 44 more))
    ∙ append_assoc before (start ++ row 44 more) close
    ∙ ap (λ xs. before ++ (40 ∷ 32 ∷ (xs ++ close))) (row_rest 123 one (other ∷ []) more)
    ∙ ap (λ xs. before ++ (40 ∷ 32 ∷ xs)) (sym (text_several labels z first second next then))
