-- Words, and the names of classes. (CTF 1.8.3, sections 7.2 and 7.3.1.)
use Rattle.std.specs.Prelude.{ℕ, nat_eq, Bool, false, List}
use lib.Pointwise.{pointwise}

-- the bytes of a word
abbrev pub Word : Type 0
Word = List ℕ

-- words with dots or blanks between them
abbrev pub Words : Type 0
Words = List Word

abbrev pub same_word : Word → Word → Bool
same_word = pointwise nat_eq

abbrev pub same_words : Words → Words → Bool
same_words = pointwise same_word

-- A name of a class is of one of four kinds: `x`, `struct x`, `variant x`, `enum x`.
pub data Name : Type 0 where
  Plain : Words → Name
  Struct : Word → Name
  Variant : Word → Name
  Enum : Word → Name

-- Names of two kinds are different names. A name of several words is compared word by word, in the order written (own);
-- `const` is no part of one (own): the syntax tree has none.
abbrev pub same_name : Name → Name → Bool
same_name (Plain a) (Plain b) = same_words a b
same_name (Struct a) (Struct b) = same_word a b
same_name (Variant a) (Variant b) = same_word a b
same_name (Enum a) (Enum b) = same_word a b
same_name _ _ = false
