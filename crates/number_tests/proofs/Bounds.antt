-- Places that alignments allow, and numbers of classes at their bounds.
use Rattle.std.specs.Prelude.{◌≡◌, ℕ, [], ◌∷◌, map, refl}
use Rattle.std.specs.Int.{next_multiple_of}

abbrev place_up : ℕ × ℕ → ℕ
place_up (place, align) = next_multiple_of place align

-- at a power of two, at another alignment, and at the bounds, by `up` and by `Align::up`
pub places : map place_up (
    (0, 8) ∷ (1, 8) ∷ (8, 8) ∷ (9, 8) ∷ (33, 32) ∷ (5, 1)
    ∷ (7, 3) ∷ (9, 3) ∷ (1, 12) ∷ (13, 12)
    ∷ (4611686018427387904, 4611686018427387904) ∷ (1, 4611686018427387904)
    ∷ (4611686018427387903, 2147483648) ∷ (4611686018427387904, 2147483648)
    ∷ (4611686018427387904, 3) ∷ (4611686018427387904, 1)
    ∷ [])
    ≡ 0 ∷ 8 ∷ 8 ∷ 16 ∷ 64 ∷ 5
    ∷ 9 ∷ 9 ∷ 12 ∷ 24
    ∷ 4611686018427387904 ∷ 4611686018427387904
    ∷ 4611686018427387904 ∷ 4611686018427387904
    ∷ 4611686018427387906 ∷ 4611686018427387904
    ∷ []
places = refl
