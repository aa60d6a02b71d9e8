-- The front of a list whose elements pass a test, and how far it goes.
use Rattle.std.proofs.Common.{◌≡◌, ℕ, zero, suc, ◌+◌, ◌<◌, ◌≤◌, Bool, true, false, cond, List, [], ◌∷◌, ◌++◌, length, take, drop, get_or, refl, ap, ◌∙◌, arith}
use Rattle.std.specs.List.{prefix_len, list_all}
use Rattle.std.proofs.lemmas.Bool.{and_parts, and_from}
use Rattle.std.proofs.lemmas.List.Folds.{list_all-append}
use Rattle.std.proofs.lemmas.List.Sums.{prefix_len-drop_yes}
use Rattle.ctf_list.specs.Prefix.{begins}

-- ---- how far it goes

stops_at_once : {A : Type 0} (p : A → Bool) (back : List A) → begins p back ≡ false → prefix_len p back ≡ 0
stops_at_once p [] e = refl
stops_at_once p (x ∷ back) e = rw e refl

-- elements that pass, and then one that does not or none
pub prefix_len_at : {A : Type 0} (p : A → Bool) (front back : List A) → list_all p front ≡ true → begins p back ≡ false → prefix_len p (front ++ back) ≡ length front
prefix_len_at p [] back all stops = stops_at_once p back stops
prefix_len_at p (x ∷ front) back all stops =
    let parts = and_parts (p x) (list_all p front) all in
    let e : prefix_len p (front ++ back) ≡ length front = prefix_len_at p front back parts.1 stops in
    ap (λ b. cond b (1 + prefix_len p (front ++ back)) 0) parts.0 ∙ omega arith

le-prefix_len : {A : Type 0} (p : A → Bool) (front back : List A) → list_all p front ≡ true → length front ≤ prefix_len p (front ++ back)
le-prefix_len p [] back all = omega arith
le-prefix_len p (x ∷ front) back all =
    let parts = and_parts (p x) (list_all p front) all in
    let e : length front ≤ prefix_len p (front ++ back) = le-prefix_len p front back parts.1 in
    let h : prefix_len p (x ∷ (front ++ back)) ≡ 1 + prefix_len p (front ++ back) = ap (λ b. cond b (1 + prefix_len p (front ++ back)) 0) parts.0 in
    omega arith

-- no other front of the same list that passes is longer
pub longest_prefix : {A : Type 0} (p : A → Bool) (front back other rest : List A) → list_all p front ≡ true → begins p back ≡ false → list_all p other ≡ true → front ++ back ≡ other ++ rest → length other ≤ length front
longest_prefix p front back other rest all stops each e =
    let a = le-prefix_len p other rest each in
    let b = prefix_len_at p front back all stops in
    let c : prefix_len p (front ++ back) ≡ prefix_len p (other ++ rest) = ap (prefix_len p) e in
    omega arith

-- ---- the list as such a front and what is after it

pub record Prefix {A : Type 0} (p : A → Bool) (s : List A) (n : ℕ) : Type 0 where
  pub front : List A
  pub back : List A
  pub whole : s ≡ front ++ back
  pub all : list_all p front ≡ true
  pub len : length front ≡ n
  pub stops : begins p back ≡ false

prefix_by : {A : Type 0} (p : A → Bool) (x : A) (s : List A) (t : Bool) → p x ≡ t → Prefix p s (prefix_len p s) → Prefix p (x ∷ s) (cond t (1 + prefix_len p s) 0)
prefix_by p x s true e rest =
    let len = rest.len in
    record { front = x ∷ rest.front; back = rest.back; whole = ap (λ t. x ∷ t) rest.whole; all = and_from (p x) (list_all p rest.front) e rest.all; len = omega arith; stops = rest.stops }
prefix_by p x s false e rest = record { front = []; back = x ∷ s; whole = refl; all = refl; len = refl; stops = e }

pub prefix : {A : Type 0} (p : A → Bool) (s : List A) → Prefix p s (prefix_len p s)
prefix p [] = record { front = []; back = []; whole = refl; all = refl; len = refl; stops = refl }
prefix p (x ∷ s) = prefix_by p x s (p x) refl (prefix p s)

-- ---- at most so many elements

-- a front of n elements that pass; n is the limit, or the next element does not pass
pub record Limited {A : Type 0} (p : A → Bool) (most : ℕ) (s : List A) (n : ℕ) : Type 0 where
  pub front : List A
  pub back : List A
  pub whole : s ≡ front ++ back
  pub all : list_all p front ≡ true
  pub len : length front ≡ n
  pub few : n ≤ most
  pub stops : n < most → begins p back ≡ false

limited_by : {A : Type 0} (p : A → Bool) (most : ℕ) (x : A) (s : List A) (t : Bool) → p x ≡ t → Limited p most s (prefix_len p (take most s)) → Limited p (suc most) (x ∷ s) (cond t (1 + prefix_len p (take most s)) 0)
limited_by p most x s true e rest =
    let len = rest.len in
    let few = rest.few in
    record { front = x ∷ rest.front; back = rest.back; whole = ap (λ t. x ∷ t) rest.whole; all = and_from (p x) (list_all p rest.front) e rest.all; len = omega arith; few = omega arith; stops = λ h. rest.stops (omega arith) }
limited_by p most x s false e rest =
    record { front = []; back = x ∷ s; whole = refl; all = refl; len = refl; few = omega arith; stops = λ h. e }

pub limited : {A : Type 0} (p : A → Bool) (most : ℕ) (s : List A) → Limited p most s (prefix_len p (take most s))
limited p zero s = record { front = []; back = s; whole = refl; all = refl; len = refl; few = omega arith; stops = λ h. absurd (omega arith) }
limited p (suc most) [] = record { front = []; back = []; whole = refl; all = refl; len = refl; few = omega arith; stops = λ h. refl }
limited p (suc most) (x ∷ s) = limited_by p most x s (p x) refl (limited p most s)

pub limited_is : {A : Type 0} (p : A → Bool) (most : ℕ) (front back : List A) → list_all p front ≡ true → length front ≤ most → (length front < most → begins p back ≡ false) → prefix_len p (take most (front ++ back)) ≡ length front
limited_is p zero [] back all few stops = refl
limited_is p zero (x ∷ front) back all few stops = absurd (omega arith)
limited_is p (suc most) [] [] all few stops = refl
limited_is p (suc most) [] (x ∷ back) all few stops = let e : p x ≡ false = stops (omega arith) in rw e refl
limited_is p (suc most) (x ∷ front) back all few stops =
    let parts = and_parts (p x) (list_all p front) all in
    let e : prefix_len p (take most (front ++ back)) ≡ length front = limited_is p most front back parts.1 (omega arith) (λ h. stops (omega arith)) in
    ap (λ b. cond b (1 + prefix_len p (take most (front ++ back))) 0) parts.0 ∙ omega arith

-- ---- a loop over the elements at the front that pass

-- the first n elements pass, and how many more do is left to see
pub record PassedTo {A : Type 0} (p : A → Bool) (s : List A) (n : ℕ) : Type 0 where
  pub within : n ≤ length s
  pub passed : prefix_len p s ≡ n + prefix_len p (drop n s)

pub PassedTo-more : {A : Type 0} (p : A → Bool) (s : List A) (n : ℕ) (d : A) → n < length s → p (get_or s n d) ≡ true → PassedTo p s n → PassedTo p s (n + 1)
PassedTo-more p s n d h t r = let e = prefix_len-drop_yes p s n d h t in let f = r.passed in record { within = omega arith; passed = omega arith }

-- ---- other tests

-- what passes one test passes another
pub list_all_also : {A : Type 0} (p q : A → Bool) → ((x : A) → p x ≡ true → q x ≡ true) → (s : List A) → list_all p s ≡ true → list_all q s ≡ true
list_all_also p q h [] e = refl
list_all_also p q h (x ∷ s) e = let parts = and_parts (p x) (list_all p s) e in and_from (q x) (list_all q s) (h x parts.0) (list_all_also p q h s parts.1)

pub list_all-both : {A : Type 0} (p : A → Bool) (s t : List A) → list_all p s ≡ true → list_all p t ≡ true → list_all p (s ++ t) ≡ true
list_all-both p s t e h = list_all-append p s t ∙ and_from (list_all p s) (list_all p t) e h

-- what a list that is not empty begins with is not changed by what follows it
pub begins-append : {A : Type 0} (p : A → Bool) (s t : List A) → 0 < length s → begins p (s ++ t) ≡ begins p s
begins-append p [] t h = absurd (omega arith)
begins-append p (x ∷ s) t h = refl
