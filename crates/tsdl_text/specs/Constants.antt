-- Integer constants of TSDL (CTF 1.8.3, appendix C.1.5).
use Rattle.std.specs.Prelude.{◌≡◌, ◌≢◌, ◌⊎◌, ℕ, ◌<◌, ◌^◌, Bool, true, false, ◌&&◌, ◌||◌, ◌==◌, List, [], ◌∷◌, ◌++◌, IsTrue}
use Rattle.tsdl_text.specs.Bytes.{number, AreDigits}

-- `u` or `U`
unfoldable pub is_u : ℕ → Bool
is_u b = b == 117 || b == 85

-- `l` or `L`
unfoldable pub is_l : ℕ → Bool
is_l b = b == 108 || b == 76

-- nothing; `u`; `l`, `ll`; both, in either order. The letters of `ll` are both small or both large.
unfoldable pub is_suffix : List ℕ → Bool
is_suffix [] = true
is_suffix (a ∷ []) = is_u a || is_l a
is_suffix (a ∷ b ∷ []) = (is_u a && is_l b) || (is_l a && (b == a || is_u b))
is_suffix (a ∷ b ∷ c ∷ []) = (is_u a && (is_l b && c == b)) || (is_l a && (b == a && is_u c))
is_suffix (a ∷ b ∷ c ∷ d ∷ bytes) = false

-- The base of digits, and what is before them: a first 0 makes them octal, `0x` or `0X` before
-- them hexadecimal.
pub data Mark : ℕ → List ℕ → List ℕ → Type 0 where
  decimal : {first : ℕ} {digits : List ℕ} → first ≢ 48 → Mark 10 [] (first ∷ digits)
  octal : {digits : List ℕ} → Mark 8 [] (48 ∷ digits)
  hexadecimal : {x : ℕ} {digits : List ℕ} → (x ≡ 120) ⊎ (x ≡ 88) → Mark 16 (48 ∷ x ∷ []) digits

-- the bytes are a constant of this value, which 64 bits hold
pub record IsConstant (bytes : List ℕ) (value : ℕ) : Type 0 where
  pub base : ℕ
  pub mark : List ℕ
  pub digits : List ℕ
  pub suffix : List ℕ
  pub marked : Mark base mark digits
  pub digits_of : AreDigits base digits
  pub suffixed : IsTrue (is_suffix suffix)
  pub joined : bytes ≡ mark ++ (digits ++ suffix)
  pub value_is : value ≡ number base digits
  pub fits : value < 2 ^ 64
