-- Classes that are spelled so are read, unless braces nest too deep.
use Rattle.std.proofs.Common.{◌≡◌, ℕ, ◌⊎◌, inl, inr, Bool, true, false, cond, List, [], ◌∷◌, ◌++◌, refl, ap, ◌∙◌}
use Rattle.tsdl_text.specs.declared.token.Symbol.{Symbol}
use Rattle.tsdl_text.specs.declared.token.Symbol.TheVariants as s
use Rattle.tsdl_text.specs.declared.token.Token.{Token}
use Rattle.tsdl_text.specs.Symbols.{is_same}
use Rattle.tsdl_tree.specs.declared.tree.Setting.{Setting}
use Rattle.tsdl_tree.specs.declared.tree.Typename.{Typename}
use Rattle.tsdl_tree.specs.declared.tree.Reference.TheVariants as references
use Rattle.tsdl_tree.specs.declared.tree.Specifier.{Specifier}
use Rattle.tsdl_tree.specs.declared.tree.Specifier.TheVariants as classes
use Rattle.tsdl_tree.specs.declared.tree.Item.{Item}
use Rattle.tsdl_grammar.specs.Terminals.{Is}
use Rattle.tsdl_grammar.specs.Grammar.{AreAttributes, AreTypewords, IsTypename, IsClass, IsPlain}
use Rattle.tsdl_grammar.specs.Spelling.{run}
use Rattle.tsdl_grammar.specs.Steps.{Parse, begins, before_close}
use Rattle.tsdl_grammar.specs.Reading.{integer_at, floating_point_at, string_at, compound_at, plain_at, class_at}
use Rattle.tsdl_grammar.proofs.ComesTools.{Comes, comes_is, comes_then, comes_as, comes_token}
use Rattle.tsdl_grammar.proofs.Room.{is_other}
use Rattle.tsdl_grammar.proofs.ComesTokens.{typeword_other, past_is, past_none}
use Rattle.tsdl_grammar.proofs.CompleteTerms.{attributes_come}
use Rattle.tsdl_grammar.proofs.CompleteParts.{typename_comes, typename_other}
use Rattle.tsdl_grammar.proofs.CompleteCompounds.{Ends, Opens, IsEither, either_opens, opens_is, opens_other}

pub plain_integer : {t : Token} {xs : List Setting} {ts : List Token} (body : Parse (List Item)) (before : Bool) (d : ℕ) (post : List Token) → Is s.Integer t → AreAttributes xs ts
    → Comes (plain_at body before d (t ∷ (ts ++ post))) (classes.Integer xs, post)
unfolding plain_at integer_at
plain_integer body before d post i p = rw i.holds (comes_token _ i (comes_then _ (attributes_come p d post) (comes_is refl)))

pub plain_floating_point : {t : Token} {xs : List Setting} {ts : List Token} (body : Parse (List Item)) (before : Bool) (d : ℕ) (post : List Token) → Is s.FloatingPoint t → AreAttributes xs ts
    → Comes (plain_at body before d (t ∷ (ts ++ post))) (classes.FloatingPoint xs, post)
unfolding plain_at floating_point_at
plain_floating_point body before d post i p = rw (is_other s.Integer i refl, i.holds) (comes_token _ i (comes_then _ (attributes_come p d post) (comes_is refl)))

pub plain_string : {t : Token} (body : Parse (List Item)) (before : Bool) (d : ℕ) (post : List Token) → Is s.String t → Ends post
    → Comes (plain_at body before d (t ∷ post)) (classes.String [], post)
unfolding plain_at string_at
plain_string body before d post i z = rw (is_other s.Integer i refl, is_other s.FloatingPoint i refl, i.holds) (comes_token _ i (rw z.no_brace (comes_is refl)))

pub attributes_begin : {xs : List Setting} {us : List Token} → AreAttributes xs us → (post : List Token) → begins s.OpenBrace (us ++ post) ≡ true
attributes_begin (AreAttributes.attributes i m j) post = i.holds

pub plain_string_with : {t : Token} {xs : List Setting} {ts : List Token} (body : Parse (List Item)) (before : Bool) (d : ℕ) (post : List Token) → Is s.String t → AreAttributes xs ts
    → Comes (plain_at body before d (t ∷ (ts ++ post))) (classes.String xs, post)
unfolding plain_at string_at
plain_string_with body before d post i p =
    rw (is_other s.Integer i refl, is_other s.FloatingPoint i refl, i.holds) (comes_token _ i (rw (attributes_begin p post) (comes_then _ (attributes_come p d post) (comes_is refl))))

pub plain_compound : {ts : List Token} {x : Specifier × List Token} (body : Parse (List Item)) (before : Bool) (d : ℕ) → Opens ts → Comes (compound_at body d ts) x → Comes (plain_at body before d ts) x
unfolding plain_at
plain_compound body before d o h =
    rw (opens_other s.Integer o refl refl refl, opens_other s.FloatingPoint o refl refl refl, opens_other s.String o refl refl refl, opens_is o) h

pub plain_typename : {n : Typename} {ts : List Token} (body : Parse (List Item)) (before : Bool) (d : ℕ) (post : List Token) → IsTypename n ts → run post ≡ cond before 1 0
    → Comes (plain_at body before d (ts ++ post)) (classes.Named (references.Plain n), post)
unfolding plain_at
plain_typename body before d post p z =
    rw (typename_other s.Integer p post refl, typename_other s.FloatingPoint p post refl, typename_other s.String p post refl, typename_other s.Struct p post refl, typename_other s.Variant p post refl, typename_other s.Enum p post refl)
    (comes_then _ (typename_comes p before post z) (comes_is refl))

pub class_plain : (ts : List Token) {x : Specifier × List Token} (body : Parse (List Item)) (before : Bool) (d : ℕ) → begins s.Const ts ≡ false → Comes (plain_at body before d ts) x → Comes (class_at body before d ts) x
unfolding class_at
class_plain ts body before d e h = comes_as (ap (plain_at body before d) (past_none s.Const ts e)) h

pub class_const : (q : Token) (ts : List Token) {x : Specifier × List Token} (body : Parse (List Item)) (before : Bool) (d : ℕ) → Is s.Const q → Comes (plain_at body before d ts) x → Comes (class_at body before d (q ∷ ts)) x
unfolding class_at
class_const q ts body before d i h = comes_as (ap (plain_at body before d) (past_is s.Const q ts i)) h

pub class_typename : {n : Typename} {ts : List Token} (body : Parse (List Item)) (before : Bool) (d : ℕ) (post : List Token) → IsTypename n ts → run post ≡ cond before 1 0
    → Comes (class_at body before d (ts ++ post)) (classes.Named (references.Plain n), post)
class_typename body before d post (IsTypename.typename (AreTypewords.skip i p)) z = class_const _ _ body before d i (plain_typename body before d post (IsTypename.typename p) z)
class_typename body before d post (IsTypename.typename (AreTypewords.more i p)) z = class_plain _ body before d i.kept (plain_typename body before d post (IsTypename.typename (AreTypewords.more i p)) z)

-- a class begins with a token other than a closing brace
pub typename_begins : {n : Typename} {ts : List Token} → IsTypename n ts → (post : List Token) → before_close (ts ++ post) ≡ true
typename_begins (IsTypename.typename (AreTypewords.skip i p)) post = rw (is_other s.CloseBrace i refl) refl
typename_begins (IsTypename.typename (AreTypewords.more {w = w} i p)) post = rw (typeword_other s.CloseBrace w i.holds refl) refl

pub opens_begins : {ts : List Token} → Opens ts → before_close ts ≡ true
opens_begins (Opens.struct i) = rw (is_other s.CloseBrace i refl) refl
opens_begins (Opens.variant i) = rw (is_other s.CloseBrace i refl) refl
opens_begins (Opens.enum i) = rw (is_other s.CloseBrace i refl) refl

pub plain_begins : {c : Specifier} {ts : List Token} → IsPlain c ts → (post : List Token) → before_close (ts ++ post) ≡ true
plain_begins (IsPlain.integer i p) post = rw (is_other s.CloseBrace i refl) refl
plain_begins (IsPlain.floating_point i p) post = rw (is_other s.CloseBrace i refl) refl
plain_begins (IsPlain.string i) post = rw (is_other s.CloseBrace i refl) refl
plain_begins (IsPlain.string_with i p) post = rw (is_other s.CloseBrace i refl) refl
plain_begins (IsPlain.compound p) post = opens_begins (either_opens (IsEither.whole p) post)
plain_begins (IsPlain.compound_name p) post = opens_begins (either_opens (IsEither.name p) post)
plain_begins (IsPlain.typename p) post = typename_begins p post

pub class_begins : {c : Specifier} {ts : List Token} → IsClass c ts → (post : List Token) → before_close (ts ++ post) ≡ true
class_begins (IsClass.plain p) post = plain_begins p post
class_begins (IsClass.const i p) post = rw (is_other s.CloseBrace i refl) refl

-- none of the words that a declaration of names begins with is first
pub record NoDeclaration (ts : List Token) : Type 0 where
  pub struct : begins s.Struct ts ≡ false
  pub variant : begins s.Variant ts ≡ false
  pub enum : begins s.Enum ts ≡ false
  pub typedef : begins s.Typedef ts ≡ false
  pub typealias : begins s.Typealias ts ≡ false

symbol_first : {a : Symbol} {t : Token} (post : List Token) → Is a t → is_same a s.Struct ≡ false → is_same a s.Variant ≡ false → is_same a s.Enum ≡ false
    → is_same a s.Typedef ≡ false → is_same a s.Typealias ≡ false → NoDeclaration (t ∷ post)
symbol_first post i x y z u v = record {
  struct = is_other s.Struct i x;
  variant = is_other s.Variant i y;
  enum = is_other s.Enum i z;
  typedef = is_other s.Typedef i u;
  typealias = is_other s.Typealias i v;
}

typename_first : {n : Typename} {ts : List Token} → IsTypename n ts → (post : List Token) → NoDeclaration (ts ++ post)
typename_first p post = record {
  struct = typename_other s.Struct p post refl;
  variant = typename_other s.Variant p post refl;
  enum = typename_other s.Enum p post refl;
  typedef = typename_other s.Typedef p post refl;
  typealias = typename_other s.Typealias p post refl;
}

-- a class is a compound, or begins with none of these words
plain_or : {c : Specifier} {ts : List Token} → IsPlain c ts → (post : List Token) → IsEither c ts ⊎ NoDeclaration (ts ++ post)
plain_or (IsPlain.integer i p) post = inr (symbol_first _ i refl refl refl refl refl)
plain_or (IsPlain.floating_point i p) post = inr (symbol_first _ i refl refl refl refl refl)
plain_or (IsPlain.string i) post = inr (symbol_first _ i refl refl refl refl refl)
plain_or (IsPlain.string_with i p) post = inr (symbol_first _ i refl refl refl refl refl)
plain_or (IsPlain.compound p) post = inl (IsEither.whole p)
plain_or (IsPlain.compound_name p) post = inl (IsEither.name p)
plain_or (IsPlain.typename p) post = inr (typename_first p post)

pub class_or : {c : Specifier} {ts : List Token} → IsClass c ts → (post : List Token) → IsEither c ts ⊎ NoDeclaration (ts ++ post)
class_or (IsClass.plain p) post = plain_or p post
class_or (IsClass.const i p) post = inr (symbol_first _ i refl refl refl refl refl)

-- a class that is plain, also where its name begins with `const`
pub class_of_plain : {c : Specifier} {ts : List Token} (body : Parse (List Item)) (before : Bool) (d : ℕ) (post : List Token) → IsPlain c ts → run post ≡ cond before 1 0
    → Comes (plain_at body before d (ts ++ post)) (c, post) → Comes (class_at body before d (ts ++ post)) (c, post)
class_of_plain body before d post (IsPlain.integer i p) r h = class_plain _ body before d (is_other s.Const i refl) h
class_of_plain body before d post (IsPlain.floating_point i p) r h = class_plain _ body before d (is_other s.Const i refl) h
class_of_plain body before d post (IsPlain.string i) r h = class_plain _ body before d (is_other s.Const i refl) h
class_of_plain body before d post (IsPlain.string_with i p) r h = class_plain _ body before d (is_other s.Const i refl) h
class_of_plain body before d post (IsPlain.compound p) r h = class_plain _ body before d (opens_other s.Const (either_opens (IsEither.whole p) post) refl refl refl) h
class_of_plain body before d post (IsPlain.compound_name p) r h = class_plain _ body before d (opens_other s.Const (either_opens (IsEither.name p) post) refl refl refl) h
class_of_plain body before d post (IsPlain.typename p) r h = class_typename body before d post p r

-- a compound is read as a class
pub class_compound : {ts : List Token} (body : Parse (List Item)) (before : Bool) (d : ℕ) → Opens ts → class_at body before d ts ≡ compound_at body d ts
unfolding class_at plain_at
class_compound {ts = ts} body before d o =
    ap (plain_at body before d) (past_none s.Const ts (opens_other s.Const o refl refl refl))
    ∙ rw (opens_other s.Integer o refl refl refl, opens_other s.FloatingPoint o refl refl refl, opens_other s.String o refl refl refl, opens_is o) refl
