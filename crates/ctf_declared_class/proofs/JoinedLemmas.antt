-- Members that are made of names and classes.
use Rattle.std.proofs.Common.{◌≡◌, ℕ, zero, suc, ◌+◌, ◌<◌, ◌≤◌, min, Bool, true, false, cond, List, [], ◌∷◌, length, map, take, Option, Some, None, option_map, slice_get, refl, sym, ap, ◌∙◌, arith}
use Rattle.std.specs.List.{find, position_from, enumerate_from, position, cons_option}
use Rattle.std.proofs.lemmas.Iterator.Adapters.{position_from-zero}
use Rattle.ctf_class.proofs.ChoicesLemmas.{position_from-above}
use Rattle.ctf_class.specs.Choices.{choice_by, choices_by}
use Rattle.ctf_class.specs.declared.span.Choice.{Choice}
use Rattle.ctf_class.specs.declared.span.Label.{Label}
use Rattle.ctf_meaning.specs.Links.{choice_of, choices_of}
use Rattle.ctf_meaning.specs.Name.{Word, same_word}
use Rattle.ctf_meaning.specs.Paths.{member_named}
use Rattle.ctf_meaning.specs.Shapes.{Shape, Members, Field, no_member, member, fields_in, depth_of, depth_of_members}
use Rattle.ctf_declared_class.specs.Views.{joined, place_and_class}

pub length-joined : (words : List Word) (shapes : List Shape) → length (fields_in (joined words shapes)) ≡ min (length words) (length shapes)
length-joined [] shapes = omega arith
length-joined (word ∷ words) [] = omega arith
length-joined (word ∷ words) (shape ∷ shapes) = omega (arith, length-joined words shapes)

pub name-joined : (words : List Word) (shapes : List Shape) (i : ℕ) → i < length (fields_in (joined words shapes)) → option_map (λ f. f.name) (slice_get (fields_in (joined words shapes)) i) ≡ slice_get words i
name-joined [] shapes i within = absurd (omega arith)
name-joined (word ∷ words) [] i within = absurd (omega arith)
name-joined (word ∷ words) (shape ∷ shapes) zero within = refl
name-joined (word ∷ words) (shape ∷ shapes) (suc i) within = name-joined words shapes i (omega arith)

pub shape-joined : (words : List Word) (shapes : List Shape) (i : ℕ) → i < length (fields_in (joined words shapes)) → option_map (λ f. f.shape) (slice_get (fields_in (joined words shapes)) i) ≡ slice_get shapes i
shape-joined [] shapes i within = absurd (omega arith)
shape-joined (word ∷ words) [] i within = absurd (omega arith)
shape-joined (word ∷ words) (shape ∷ shapes) zero within = refl
shape-joined (word ∷ words) (shape ∷ shapes) (suc i) within = shape-joined words shapes i (omega arith)

-- a part is no deeper than all of them
pub depth-member : (ms : Members) (i : ℕ) (shape : Shape) → option_map (λ f. f.shape) (slice_get (fields_in ms) i) ≡ Some shape → depth_of shape ≤ depth_of_members ms
depth-member no_member i shape at = absurd (cc)
depth-member (member word first more) zero shape at =
    let same : first ≡ shape = cc in
    let deep : depth_of first ≡ depth_of shape = ap depth_of same in
    omega arith
depth-member (member word first more) (suc i) shape at = omega (arith, depth-member more i shape at)

-- the name of a member that is looked for
abbrev is_named : Word → ℕ × Field → Bool
is_named word p = same_word p.1.name word

nowhere-from : (word : Word) (words : List Word) (shapes : List Shape) (n : ℕ) → position_from (λ w. same_word w word) n words ≡ None → find (is_named word) (enumerate_from n (fields_in (joined words shapes))) ≡ None
nowhere-from word [] shapes n nowhere = refl
nowhere-from word (w ∷ words) [] n nowhere = refl
nowhere-from word (w ∷ words) (s ∷ shapes) n nowhere =
    elim (same_word w word) as (λ b. cond b (Some n) (position_from (λ v. same_word v word) (n + 1) words) ≡ None → cond b (Some (n, record { name = w; shape = s })) (find (is_named word) (enumerate_from (n + 1) (fields_in (joined words shapes)))) ≡ None) [
      | true ↦ λ e. absurd (cc)
      | false ↦ λ e. nowhere-from word words shapes (n + 1) e
    ] nowhere

somewhere-from : (word : Word) (words : List Word) (shapes : List Shape) (n i : ℕ) → position_from (λ w. same_word w word) n words ≡ Some (n + i) → option_map place_and_class (find (is_named word) (enumerate_from n (fields_in (joined words shapes)))) ≡ option_map (λ s. (n + i, s)) (slice_get shapes i)
somewhere-from word [] shapes n i somewhere = absurd (cc)
somewhere-from word (w ∷ words) [] n i somewhere = refl
somewhere-from word (w ∷ words) (s ∷ shapes) n zero somewhere =
    elim (same_word w word) as (λ b. cond b (Some n) (position_from (λ v. same_word v word) (n + 1) words) ≡ Some (n + 0) → option_map place_and_class (cond b (Some (n, record { name = w; shape = s })) (find (is_named word) (enumerate_from (n + 1) (fields_in (joined words shapes))))) ≡ Some (n + 0, s)) [
      | true ↦ λ e. let same : n ≡ n + 0 = omega arith in ap (λ k. Some (k, s)) same
      | false ↦ λ e. absurd (omega (arith, position_from-above (λ v. same_word v word) (n + 1) (n + 0) words e))
    ] somewhere
somewhere-from word (w ∷ words) (s ∷ shapes) n (suc i) somewhere =
    let step : n + suc i ≡ n + 1 + i = omega arith in
    elim (same_word w word) as (λ b. cond b (Some n) (position_from (λ v. same_word v word) (n + 1) words) ≡ Some (n + suc i) → option_map place_and_class (cond b (Some (n, record { name = w; shape = s })) (find (is_named word) (enumerate_from (n + 1) (fields_in (joined words shapes))))) ≡ option_map (λ x. (n + suc i, x)) (slice_get shapes i)) [
      | true ↦ λ e. let same : n ≡ n + suc i = cc in absurd (omega arith)
      | false ↦ λ e. somewhere-from word words shapes (n + 1) i (e ∙ ap (λ k. Some k) step) ∙ ap (λ k. option_map (λ x. (k, x)) (slice_get shapes i)) (sym step)
    ] somewhere

-- a name that no member has
pub nowhere-joined : (word : Word) (words : List Word) (shapes : List Shape) → position (λ w. same_word w word) words ≡ None → option_map place_and_class (member_named word (fields_in (joined words shapes))) ≡ None
nowhere-joined word words shapes nowhere = ap (option_map place_and_class) (nowhere-from word words shapes 0 (sym (position_from-zero (λ w. same_word w word) words) ∙ nowhere))

-- the place of a name, with the class there
pub somewhere-joined : (word : Word) (words : List Word) (shapes : List Shape) (i : ℕ) → position (λ w. same_word w word) words ≡ Some i → option_map place_and_class (member_named word (fields_in (joined words shapes))) ≡ option_map (λ s. (i, s)) (slice_get shapes i)
somewhere-joined word words shapes i somewhere =
    let none : i ≡ 0 + i = omega arith in
    somewhere-from word words shapes 0 i (sym (position_from-zero (λ w. same_word w word) words) ∙ (somewhere ∙ ap (λ k. Some k) none)) ∙ ap (λ k. option_map (λ s. (k, s)) (slice_get shapes i)) (sym none)

pub slice_get-map : {X Y : Type 0} (f : X → Y) (xs : List X) (i : ℕ) → slice_get (map f xs) i ≡ option_map f (slice_get xs i)
slice_get-map f [] i = refl
slice_get-map f (x ∷ xs) zero = refl
slice_get-map f (x ∷ xs) (suc i) = slice_get-map f xs i

-- the place of a member of a name is that of the name, among those that have a class
place-from : (word : Word) (words : List Word) (shapes : List Shape) (n : ℕ) → position_from (λ w. same_word w word) n (take (length (fields_in (joined words shapes))) words) ≡ option_map (λ p. p.0) (find (is_named word) (enumerate_from n (fields_in (joined words shapes))))
place-from word [] shapes n = refl
place-from word (w ∷ words) [] n = refl
place-from word (w ∷ words) (s ∷ shapes) n =
    let fields = fields_in (joined words shapes) in
    elim (same_word w word) as (λ b. cond b (Some n) (position_from (λ v. same_word v word) (n + 1) (take (length fields) words)) ≡ option_map (λ p. p.0) (cond b (Some (n, record { name = w; shape = s })) (find (is_named word) (enumerate_from (n + 1) fields)))) [
      | true ↦ refl
      | false ↦ place-from word words shapes (n + 1)
    ]

abbrev with_option : Label → ℕ → Choice
with_option label option = record { span = label.span; option = option }

at-place : (label : Label) (found : Option (ℕ × Field)) → option_map (with_option label) (option_map (λ p. p.0) found) ≡ option_map (λ p. with_option label p.0) found
at-place label None = refl
at-place label (Some p) = refl

choice-joined : (words : List Word) (shapes : List Shape) (label : Label) → choice_by (take (length (fields_in (joined words shapes))) words) label ≡ choice_of (fields_in (joined words shapes)) label
choice-joined words shapes label =
    let fields = fields_in (joined words shapes) in
    let place = position_from-zero (λ w. same_word w label.name) (take (length fields) words) ∙ place-from label.name words shapes 0 in
    ap (option_map (with_option label)) place ∙ at-place label (member_named label.name fields)

-- the choices that labels make among members
pub choices-joined : (words : List Word) (shapes : List Shape) (labels : List Label) → choices_by (take (length (fields_in (joined words shapes))) words) labels ≡ choices_of (fields_in (joined words shapes)) labels
choices-joined words shapes [] = refl
choices-joined words shapes (label ∷ labels) =
    let fields = fields_in (joined words shapes) in
    ap (λ o. cons_option o (choices_by (take (length fields) words) labels)) (choice-joined words shapes label)
    ∙ ap (cons_option (choice_of fields label)) (choices-joined words shapes labels)
