-- Names and places that compare as the same are the same.
use Rattle.std.proofs.Common.{◌≡◌, Bool, true, false, ◌&&◌, [], ◌∷◌, refl, ap, ap₂, sym, arith}
use Rattle.std.specs.Cmp.Lexicographic.{same_text}
use Rattle.std.proofs.lemmas.Cmp.{nat_list_eq_equiv}
use Rattle.ctf_meaning.specs.Name.{Word, Words, Name, Plain, Struct, Variant, Enum, same_word, same_words, same_name}
use Rattle.ctf_meaning.specs.Parts.{Place}
use Rattle.ctf_meaning.specs.Names.{same_place}

pub both_left : (a b : Bool) → (a && b) ≡ true → a ≡ true
both_left true b h = refl
both_left false b h = h

pub both_right : (a b : Bool) → (a && b) ≡ true → b ≡ true
both_right true b h = h
both_right false b h = absurd (grind (arith, h))

pub word_same : (a b : Word) → same_word a b ≡ true → a ≡ b
word_same a b h = same_text a b (sym h)

pub words_same : (a b : Words) → same_words a b ≡ true → a ≡ b
words_same [] [] h = refl
words_same [] (y ∷ b) h = absurd (grind (arith, h))
words_same (x ∷ a) [] h = absurd (grind (arith, h))
words_same (x ∷ a) (y ∷ b) h = ap₂ (λ w ws. w ∷ ws) (word_same x y (both_left (same_word x y) (same_words a b) h)) (words_same a b (both_right (same_word x y) (same_words a b) h))

pub name_same : (a b : Name) → same_name a b ≡ true → a ≡ b
name_same (Plain a) (Plain b) h = ap Plain (words_same a b h)
name_same (Struct a) (Struct b) h = ap Struct (word_same a b h)
name_same (Variant a) (Variant b) h = ap Variant (word_same a b h)
name_same (Enum a) (Enum b) h = ap Enum (word_same a b h)
name_same (Plain a) (Struct b) h = absurd (grind (arith, h))
name_same (Plain a) (Variant b) h = absurd (grind (arith, h))
name_same (Plain a) (Enum b) h = absurd (grind (arith, h))
name_same (Struct a) (Plain b) h = absurd (grind (arith, h))
name_same (Struct a) (Variant b) h = absurd (grind (arith, h))
name_same (Struct a) (Enum b) h = absurd (grind (arith, h))
name_same (Variant a) (Plain b) h = absurd (grind (arith, h))
name_same (Variant a) (Struct b) h = absurd (grind (arith, h))
name_same (Variant a) (Enum b) h = absurd (grind (arith, h))
name_same (Enum a) (Plain b) h = absurd (grind (arith, h))
name_same (Enum a) (Struct b) h = absurd (grind (arith, h))
name_same (Enum a) (Variant b) h = absurd (grind (arith, h))

pub place_same : (a b : Place) → same_place a b ≡ true → a ≡ b
place_same a b h = same_text a b (sym h)

pub place_itself : (a : Place) → same_place a a ≡ true
place_itself a = nat_list_eq_equiv.refl a
