-- Compounds that are spelled so are read, unless braces nest too deep.
use Rattle.std.proofs.Common.{◌≡◌, ℕ, true, false, List, ◌∷◌, ◌++◌, Option, refl, append_assoc}
use Rattle.tsdl_text.specs.declared.token.Symbol.{Symbol}
use Rattle.tsdl_text.specs.declared.token.Symbol.TheVariants as s
use Rattle.tsdl_text.specs.declared.token.Token.{Token}
use Rattle.tsdl_text.specs.Symbols.{is_same}
use Rattle.tsdl_tree.specs.declared.tree.Declarator.{Declarator}
use Rattle.tsdl_tree.specs.declared.tree.Length.{Length}
use Rattle.tsdl_tree.specs.declared.tree.Label.{Label}
use Rattle.tsdl_tree.specs.declared.tree.Container.{Container}
use Rattle.tsdl_tree.specs.declared.tree.Reference.{Reference}
use Rattle.tsdl_tree.specs.declared.tree.Reference.TheVariants as references
use Rattle.tsdl_tree.specs.declared.tree.Specifier.{Specifier}
use Rattle.tsdl_tree.specs.declared.tree.Specifier.TheVariants as classes
use Rattle.tsdl_tree.specs.declared.tree.Compound.{Compound}
use Rattle.tsdl_tree.specs.declared.tree.Compound.TheVariants as compounds
use Rattle.tsdl_tree.specs.declared.tree.Item.{Item}
use Rattle.tsdl_grammar.specs.Terminals.{Word, Words, Is, IsIdentifier}
use Rattle.tsdl_grammar.specs.Repeats.{Many, Listed, Optional}
use Rattle.tsdl_grammar.specs.Grammar.{IsLength, IsDeclarator, IsName, IsAlign, IsTag, IsContainer, AreLabels, IsCompoundName, IsCompound, IsBody}
use Rattle.tsdl_grammar.specs.Spelling.{run}
use Rattle.tsdl_grammar.specs.Steps.{Parse, begins, begins_compound}
use Rattle.tsdl_grammar.specs.Reading.{enum_at, struct_at, variant_at, compound_at}
use Rattle.tsdl_grammar.proofs.ComesTools.{Comes, comes_is, comes_then, comes_token}
use Rattle.tsdl_grammar.proofs.Room.{is_other}
use Rattle.tsdl_grammar.proofs.ComesTokens.{typeword_of, identifier_other, begins_other, begins_no_identifier, no_run}
use Rattle.tsdl_grammar.proofs.CompleteLabels.{labels_come}
use Rattle.tsdl_grammar.proofs.CompleteParts.{name_is, name_comes, align_comes, tag_comes, container_comes, tag_begins, container_begins, container_opens}

-- What may follow a class or a compound.
pub record Ends (post : List Token) : Type 0 where
  pub no_brace : begins s.OpenBrace post ≡ false
  pub no_align : begins s.Align post ≡ false
  pub no_less : begins s.Less post ≡ false
  pub no_colon : begins s.Colon post ≡ false

pub ends_at : {a : Symbol} {t : Token} (post : List Token) → Is a t → is_same a s.OpenBrace ≡ false → is_same a s.Align ≡ false → is_same a s.Less ≡ false → is_same a s.Colon ≡ false → Ends (t ∷ post)
ends_at post i p q r w = record {
  no_brace = is_other s.OpenBrace i p;
  no_align = is_other s.Align i q;
  no_less = is_other s.Less i r;
  no_colon = is_other s.Colon i w;
}

pub declarators_other : (b : Symbol) {ds : List Declarator} {us : List Token} → Listed IsDeclarator ds us → (post : List Token) → begins b (us ++ post) ≡ false
declarators_other b (Listed.last (IsDeclarator.declarator w m)) post = identifier_other b w
declarators_other b (Listed.more (IsDeclarator.declarator w m) i l) post = identifier_other b w

pub declarators_end : {ds : List Declarator} {us : List Token} → Listed IsDeclarator ds us → (post : List Token) → Ends (us ++ post)
declarators_end p post = record {
  no_brace = declarators_other s.OpenBrace p post;
  no_align = declarators_other s.Align p post;
  no_less = declarators_other s.Less p post;
  no_colon = declarators_other s.Colon p post;
}

pub lengths_run : {xs : List Length} {ts : List Token} → Many IsLength xs ts → (post : List Token) → run post ≡ 0 → run (ts ++ post) ≡ 0
lengths_run Many.none post z = z
lengths_run (Many.more (IsLength.constant i c j) m) post z = no_run _ i refl
lengths_run (Many.more (IsLength.path i p j) m) post z = no_run _ i refl

pub declarator_run : {d : Declarator} {ts : List Token} → IsDeclarator d ts → (post : List Token) → run post ≡ 0 → run (ts ++ post) ≡ 1
unfolding run
declarator_run (IsDeclarator.declarator w m) post z = rw (typeword_of w, lengths_run m post z) refl

-- one typeword is first in declarators
pub declarators_run : {ds : List Declarator} {us : List Token} → Listed IsDeclarator ds us → (e : Token) (post : List Token) → Is s.Semicolon e → run (us ++ (e ∷ post)) ≡ 1
declarators_run (Listed.last p) e post i = declarator_run p (e ∷ post) (no_run post i refl)
declarators_run (Listed.more p j m) e post i = rw append_assoc (declarator_run p _ (no_run _ j refl))

-- ---- compounds

pub body_begins : {es : List Item} {us : List Token} → IsBody es us → (post : List Token) → begins s.OpenBrace (us ++ post) ≡ true
body_begins (IsBody.body i m j) post = i.holds

pub labels_begin : {xs : List Label} {us : List Token} → AreLabels xs us → (post : List Token) → begins s.OpenBrace (us ++ post) ≡ true
labels_begin (AreLabels.labels i m j) post = i.holds
labels_begin (AreLabels.with_comma i m l j) post = i.holds

pub struct_name_comes : {t n : Token} (body : Parse (List Item)) (d : ℕ) (post : List Token) → Is s.Struct t → IsIdentifier n → Ends post
    → Comes (compound_at body d (t ∷ n ∷ post)) (classes.Named (references.Struct n.text.now), post)
unfolding compound_at struct_at
struct_name_comes {n = n} body d post i w z =
    rw i.holds (comes_token _ i (comes_then _ (name_is post w) (rw z.no_brace (comes_is refl))))

pub struct_comes : {t : Token} {n : Option Word} {es : List Item} {a : Option ℕ} {ts us vs : List Token} (body : Parse (List Item)) (d : ℕ) (post : List Token) → Is s.Struct t → Optional IsName n ts → IsBody es us → Optional IsAlign a vs → Ends post
    → ((post : List Token) → Comes (body (us ++ post)) (es, post)) → Comes (compound_at body d ((t ∷ (ts ++ (us ++ vs))) ++ post)) (classes.Compound n (compounds.Struct es a), post)
unfolding compound_at struct_at
struct_comes {t} {n} {es} {a} {ts} {us} {vs} body d post i p q r z h =
    let o = body_begins q (vs ++ post) in
    rw (i.holds, append_assoc, append_assoc) (comes_token _ i (comes_then _ (name_comes p (us ++ (vs ++ post)) (begins_no_identifier s.OpenBrace _ o))
    (rw o (comes_then _ (h (vs ++ post)) (comes_then _ (align_comes r post z.no_align) (comes_is refl))))))

pub variant_name_comes : {t n : Token} {g : Option Words} {ts : List Token} (body : Parse (List Item)) (d : ℕ) (post : List Token) → Is s.Variant t → IsIdentifier n → Optional IsTag g ts → Ends post
    → Comes (compound_at body d (t ∷ n ∷ (ts ++ post))) (classes.Named (references.Variant n.text.now g), post)
unfolding compound_at variant_at
variant_name_comes {n = n} body d post i w p z =
    rw (is_other s.Struct i refl, i.holds) (comes_token _ i (comes_then _ (name_is _ w) (comes_then _ (tag_comes p post z.no_less) (rw z.no_brace (comes_is refl)))))

pub variant_comes : {t : Token} {n : Option Word} {g : Option Words} {es : List Item} {ts us vs : List Token} (body : Parse (List Item)) (d : ℕ) (post : List Token) → Is s.Variant t → Optional IsName n ts → Optional IsTag g us → IsBody es vs
    → Comes (body (vs ++ post)) (es, post) → Comes (compound_at body d ((t ∷ (ts ++ (us ++ vs))) ++ post)) (classes.Compound n (compounds.Variant g es), post)
unfolding compound_at variant_at
variant_comes {us = us} {vs = vs} body d post i p q r h =
    let o = body_begins r post in
    rw (is_other s.Struct i refl, i.holds, append_assoc, append_assoc) (comes_token _ i (comes_then _ (name_comes p (us ++ (vs ++ post)) (tag_begins q (vs ++ post) o))
    (comes_then _ (tag_comes q (vs ++ post) (begins_other s.Less s.OpenBrace (vs ++ post) o refl)) (rw o (comes_then _ h (comes_is refl))))))

pub enum_name_comes : {t n : Token} (body : Parse (List Item)) (d : ℕ) (post : List Token) → Is s.Enum t → IsIdentifier n → Ends post
    → Comes (compound_at body d (t ∷ n ∷ post)) (classes.Named (references.Enum n.text.now), post)
unfolding compound_at enum_at
enum_name_comes {n = n} body d post i w z =
    rw (is_other s.Struct i refl, is_other s.Variant i refl) (comes_token _ i (comes_then _ (name_is post w) (rw (z.no_colon, z.no_brace) (comes_is refl))))

pub enum_comes : {t : Token} {n : Option Word} {k : Option Container} {xs : List Label} {ts us vs : List Token} (body : Parse (List Item)) (d : ℕ) (post : List Token) → Is s.Enum t → Optional IsName n ts → Optional IsContainer k us → AreLabels xs vs
    → Comes (compound_at body d ((t ∷ (ts ++ (us ++ vs))) ++ post)) (classes.Compound n (compounds.Enum k xs), post)
unfolding compound_at enum_at
enum_comes {us = us} {vs = vs} body d post i p q r =
    let o = labels_begin r post in
    rw (is_other s.Struct i refl, is_other s.Variant i refl, append_assoc, append_assoc) (comes_token _ i (comes_then _ (name_comes p (us ++ (vs ++ post)) (container_begins q (vs ++ post) o))
    (rw (container_opens q (vs ++ post) o) (comes_then _ (container_comes q d (vs ++ post) o) (comes_then _ (labels_come r d post) (comes_is refl))))))

-- ---- how a compound begins

-- `struct`, `variant` or `enum` is first
pub data Opens : List Token → Type 0 where
  struct : {t : Token} {ts : List Token} → Is s.Struct t → Opens (t ∷ ts)
  variant : {t : Token} {ts : List Token} → Is s.Variant t → Opens (t ∷ ts)
  enum : {t : Token} {ts : List Token} → Is s.Enum t → Opens (t ∷ ts)

compound_opens : {n : Option Word} {c : Compound} {ts : List Token} → IsCompound n c ts → (post : List Token) → Opens (ts ++ post)
compound_opens (IsCompound.struct i p q r) post = Opens.struct i
compound_opens (IsCompound.variant i p q r) post = Opens.variant i
compound_opens (IsCompound.enum i p q r) post = Opens.enum i

name_opens : {r : Reference} {ts : List Token} → IsCompoundName r ts → (post : List Token) → Opens (ts ++ post)
name_opens (IsCompoundName.struct i n) post = Opens.struct i
name_opens (IsCompoundName.variant i n p) post = Opens.variant i
name_opens (IsCompoundName.enum i n) post = Opens.enum i

-- a compound with its body, or by its name alone
pub data IsEither : Specifier → List Token → Type 0 where
  whole : {n : Option Word} {c : Compound} {ts : List Token} → IsCompound n c ts → IsEither (classes.Compound n c) ts
  name : {r : Reference} {ts : List Token} → IsCompoundName r ts → IsEither (classes.Named r) ts

pub either_opens : {c : Specifier} {ts : List Token} → IsEither c ts → (post : List Token) → Opens (ts ++ post)
either_opens (IsEither.whole p) post = compound_opens p post
either_opens (IsEither.name p) post = name_opens p post

pub opens_is : {ts : List Token} → Opens ts → begins_compound ts ≡ true
opens_is (Opens.struct i) = rw i.holds refl
opens_is (Opens.variant i) = rw (is_other s.Struct i refl, i.holds) refl
opens_is (Opens.enum i) = rw (is_other s.Struct i refl, is_other s.Variant i refl) i.holds

pub opens_other : (b : Symbol) {ts : List Token} → Opens ts → is_same s.Struct b ≡ false → is_same s.Variant b ≡ false → is_same s.Enum b ≡ false → begins b ts ≡ false
opens_other b (Opens.struct i) x y z = is_other b i x
opens_other b (Opens.variant i) x y z = is_other b i y
opens_other b (Opens.enum i) x y z = is_other b i z
