-- Runs at the front of a list, and numbers read from left to right.
use Rattle.std.proofs.Common.{◌≡◌, ℕ, ◌+◌, ◌-◌, ◌*◌, ◌^◌, ◌<◌, ◌≤◌, Bool, true, false, List, length, take, drop, get_or, sym, ap, subst, ◌∙◌, arith, ◌⊎◌, ⊎_elim}
use Rattle.std.specs.List.{prefix_len}
use Rattle.std.specs.Char.{digit_value, is_digit}
use Rattle.std.proofs.lemmas.List.{drop_more, drop_all, length-drop, get_or-take, length-take}
use Rattle.std.proofs.lemmas.List.Sums.{prefix_len-drop_yes, prefix_len-drop_no, prefix_len-drop_all}
use Rattle.std.proofs.lemmas.Grind.{pow_more}
use Rattle.std.proofs.Math.Nat.{pow-zero, one-le-pow, mul-le-mul_left}
use Rattle.std.proofs.lemmas.Bool.{lt-ltb, le-ltb}
use Rattle.tsdl_text.specs.Bytes.{number}

-- one more element passes
pub prefix_more : (p : ℕ → Bool) (xs : List ℕ) (i : ℕ) → i < length xs → p (get_or xs i 0) ≡ true → prefix_len p xs ≡ i + prefix_len p (drop i xs) → prefix_len p xs ≡ (i + 1) + prefix_len p (drop (i + 1) xs)
prefix_more p xs i h t e = let d = prefix_len-drop_yes p xs i 0 h t in omega arith

pub prefix_stop : (p : ℕ → Bool) (xs : List ℕ) (i : ℕ) → i < length xs → p (get_or xs i 0) ≡ false → prefix_len p xs ≡ i + prefix_len p (drop i xs) → prefix_len p xs ≡ i
prefix_stop p xs i h t e = let d = prefix_len-drop_no p xs i 0 h t in omega arith

pub prefix_end : (p : ℕ → Bool) (xs : List ℕ) (i : ℕ) → length xs ≤ i → prefix_len p xs ≡ i + prefix_len p (drop i xs) → prefix_len p xs ≡ i
prefix_end p xs i h e = let d = prefix_len-drop_all p xs i h in omega arith

-- ---- a loop over the digits at the front

-- the first n bytes of these are digits, and how many more there are is left to see
pub record Counted (base most : ℕ) (text : List ℕ) (n : ℕ) : Type 0 where
  pub few : n ≤ most
  pub within : n ≤ length text
  pub passed : prefix_len (λ digit. is_digit digit base) (take most text) ≡ n + prefix_len (λ digit. is_digit digit base) (drop n (take most text))

in_both : (most n : ℕ) (text : List ℕ) → n < most → n < length text → n < length (take most text)
in_both most n text h k = let e = length-take most text in omega arith

pub Counted-more : (base most : ℕ) (text : List ℕ) (n : ℕ) (value : ℕ) → n < most → n < length text → value ≡ digit_value (get_or text n 0) → value < base → Counted base most text n → Counted base most text (n + 1)
Counted-more base most text n value h k e v w = record {
  few = omega arith;
  within = omega arith;
  passed = prefix_more (λ digit. is_digit digit base) (take most text) n (in_both most n text h k) (ap (λ x. is_digit x base) (get_or-take most text n 0 h) ∙ lt-ltb _ base (subst (λ x. x < base) e v)) w.passed;
}

pub Counted-stop : (base most : ℕ) (text : List ℕ) (n : ℕ) (value : ℕ) → n < most → n < length text → value ≡ digit_value (get_or text n 0) → base ≤ value → Counted base most text n → n ≡ prefix_len (λ digit. is_digit digit base) (take most text)
Counted-stop base most text n value h k e v w =
    sym (prefix_stop (λ digit. is_digit digit base) (take most text) n (in_both most n text h k) (ap (λ x. is_digit x base) (get_or-take most text n 0 h) ∙ le-ltb _ base (subst (λ x. base ≤ x) e v)) w.passed)

pub Counted-end : (base most : ℕ) (text : List ℕ) (n : ℕ) → (most ≤ n) ⊎ (length text ≤ n) → Counted base most text n → n ≡ prefix_len (λ digit. is_digit digit base) (take most text)
Counted-end base most text n h w =
    let e = length-take most text in
    sym (prefix_end (λ digit. is_digit digit base) (take most text) n (⊎_elim (λ a. let b : length (take most text) ≤ n = omega arith in b) (λ a. let b : length (take most text) ≤ n = omega arith in b) h) w.passed)

-- ---- the number of a list of digits, read from left to right

pub number-drop : (base : ℕ) (ds : List ℕ) (i : ℕ) → i < length ds → number base (drop i ds) ≡ digit_value (get_or ds i 0) * base ^ (length ds - (i + 1)) + number base (drop (i + 1) ds)
unfolding number
number-drop base ds i h =
    ap (number base) (drop_more ds i 0 h) ∙ ap (λ n. digit_value (get_or ds i 0) * base ^ n + number base (drop (i + 1) ds)) (length-drop (i + 1) ds)

-- one more digit is read
pub number_more : (base : ℕ) (ds : List ℕ) (i value : ℕ) → i < length ds → number base ds ≡ value * base ^ (length ds - i) + number base (drop i ds) → number base ds ≡ (value * base + digit_value (get_or ds i 0)) * base ^ (length ds - (i + 1)) + number base (drop (i + 1) ds)
number_more base ds i value h e =
    let s : length ds - i ≡ length ds - (i + 1) + 1 = omega arith in
    let p : base ^ (length ds - i) ≡ base ^ (length ds - (i + 1)) * base = ap (λ n. base ^ n) s ∙ pow_more base (length ds - (i + 1)) in
    e ∙ ap (λ n. value * n + number base (drop i ds)) p ∙ ap (λ n. value * (base ^ (length ds - (i + 1)) * base) + n) (number-drop base ds i h) ∙ gather value (base ^ (length ds - (i + 1))) base (digit_value (get_or ds i 0)) (number base (drop (i + 1) ds))
  where
    gather : (a p b d r : ℕ) → a * (p * b) + (d * p + r) ≡ (a * b + d) * p + r
    gather a p b d r = omega arith

-- digits only make it larger
pub number_least : (base limit value k rest n : ℕ) → 1 ≤ base → n ≡ value * base ^ k + rest → limit ≤ value → limit ≤ n
number_least base limit value k rest n b e h =
    let p : 1 ≤ base ^ k = one-le-pow k base b in
    let q : value * 1 ≤ value * base ^ k = mul-le-mul_left value p in
    omega arith

-- all digits are read
pub number_end : (base : ℕ) (ds : List ℕ) (i value : ℕ) → length ds ≤ i → number base ds ≡ value * base ^ (length ds - i) + number base (drop i ds) → number base ds ≡ value
unfolding number
number_end base ds i value h e =
    let z : length ds - i ≡ 0 = omega arith in
    let n : number base (drop i ds) ≡ 0 = ap (number base) (drop_all i ds h) in
    let p : base ^ (length ds - i) ≡ 1 = ap (λ k. base ^ k) z ∙ pow-zero base in
    e ∙ ap (λ k. value * k + number base (drop i ds)) p ∙ ap (λ m. value * 1 + m) n ∙ omega arith

-- ---- a loop over the elements at the front that pass a test

-- the first n elements pass, and how many more do is left to see
pub record RunTo (p : ℕ → Bool) (text : List ℕ) (n : ℕ) : Type 0 where
  pub within : n ≤ length text
  pub passed : prefix_len p text ≡ n + prefix_len p (drop n text)

pub RunTo-none : (p : ℕ → Bool) (text : List ℕ) → RunTo p text 0
RunTo-none p text = record { within = omega arith; passed = omega arith }

pub RunTo-more : (p : ℕ → Bool) (text : List ℕ) (n : ℕ) → n < length text → p (get_or text n 0) ≡ true → RunTo p text n → RunTo p text (n + 1)
RunTo-more p text n h t r = record { within = omega arith; passed = prefix_more p text n h t r.passed }

pub RunTo-stop : (p : ℕ → Bool) (text : List ℕ) (n : ℕ) → n < length text → p (get_or text n 0) ≡ false → RunTo p text n → n ≡ prefix_len p text
RunTo-stop p text n h t r = sym (prefix_stop p text n h t r.passed)

pub RunTo-end : (p : ℕ → Bool) (text : List ℕ) (n : ℕ) → length text ≤ n → RunTo p text n → n ≡ prefix_len p text
RunTo-end p text n h r = sym (prefix_end p text n h r.passed)
