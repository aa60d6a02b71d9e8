-- Names of types, declarators, and the parts of compounds but labels that are spelled so are read.
use Rattle.std.proofs.Common.{◌≡◌, ℕ, ◌+◌, Bool, true, false, cond, List, ◌∷◌, ◌++◌, length, Option, Some, Ok, refl, ap, append_assoc, arith}
use Rattle.std.proofs.lemmas.List.{length-append, take_at, drop_at}
use Rattle.tsdl_text.specs.declared.token.Symbol.{Symbol}
use Rattle.tsdl_text.specs.declared.token.Symbol.TheVariants as s
use Rattle.tsdl_text.specs.declared.token.Token.{Token}
use Rattle.tsdl_text.specs.Symbols.{is_type_keyword}
use Rattle.tsdl_tree.specs.declared.tree.Length.{Length}
use Rattle.tsdl_tree.specs.declared.tree.Length.TheVariants as lengths
use Rattle.tsdl_tree.specs.declared.tree.Declarator.{Declarator}
use Rattle.tsdl_tree.specs.declared.tree.Container.{Container}
use Rattle.tsdl_tree.specs.declared.tree.Typename.{Typename}
use Rattle.tsdl_grammar.specs.Terminals.{Word, Words, Is, IsIdentifier, IsConstant}
use Rattle.tsdl_grammar.specs.Repeats.{Listed, Optional}
use Rattle.tsdl_grammar.specs.Grammar.{IsPath, IsTypename, AreTypewords, IsLength, IsDeclarator, IsName, IsAlign, IsTag, IsContainer}
use Rattle.tsdl_grammar.specs.Spelling.{run}
use Rattle.tsdl_grammar.specs.Steps.{begins, begins_identifier, begins_labels, optional}
use Rattle.tsdl_grammar.specs.Reading.{identifier_at, words_of, typename_len, typename_at, bound_at, length_at, declarator_at, next_declarator_at, declarators_at, align_at, tag_at, container_at}
use Rattle.tsdl_grammar.proofs.ComesTools.{Comes, comes_is, comes_then, comes_token, comes_some, comes_none, many_come, listed_come}
use Rattle.tsdl_grammar.proofs.Room.{is_other}
use Rattle.tsdl_grammar.proofs.ComesTokens.{no_identifier, typeword_by, typeword_other, word_no_constant, begins_other, begins_no_identifier, begins_no_run}
use Rattle.tsdl_grammar.proofs.CompleteTerms.{identifier_is, constant_is, path_comes, attributes_come}

-- ---- names of types

pub run_after : {ws : Words} {ts : List Token} → AreTypewords ws ts → (post : List Token) → run (ts ++ post) ≡ length ts + run post
unfolding run
run_after AreTypewords.none post = omega arith
run_after (AreTypewords.skip {ts = ts} i p) post = let w = typeword_by i in let r = run_after p post in rw w (omega arith)
run_after (AreTypewords.more {ts = ts} i p) post = let r = run_after p post in rw i.holds (omega arith)

words_are : {ws : Words} {ts : List Token} → AreTypewords ws ts → words_of ts ≡ ws
unfolding words_of
words_are AreTypewords.none = refl
words_are (AreTypewords.skip i p) = rw i.holds (words_are p)
words_are (AreTypewords.more {w = w} i p) = rw i.kept (ap (λ (ws : Words). w.text.now ∷ ws) (words_are p))

len_is : {ws : Words} {ts : List Token} → AreTypewords ws ts → (before : Bool) (post : List Token) → run post ≡ cond before 1 0 → typename_len before (ts ++ post) ≡ length ts
len_is p true post z = let r = run_after p post in omega arith
len_is p false post z = let r = run_after p post in omega arith

pub typename_comes : {n : Typename} {ts : List Token} → IsTypename n ts → (before : Bool) (post : List Token) → run post ≡ cond before 1 0 → Comes (typename_at before (ts ++ post)) (n, post)
unfolding typename_at
typename_comes (IsTypename.typename {ts = ts} p) before post z =
    rw (len_is p before post z, take_at ts post (length ts) refl, drop_at ts post (length ts) refl, words_are p) (comes_is refl)

typewords_other : (b : Symbol) {w : Word} {ws : Words} {ts : List Token} → AreTypewords (w ∷ ws) ts → (post : List Token) → is_type_keyword b ≡ false → begins b (ts ++ post) ≡ false
typewords_other b (AreTypewords.skip {c = c} i p) post d = typeword_other b c (typeword_by i) d
typewords_other b (AreTypewords.more {w = t} i p) post d = typeword_other b t i.holds d

pub typename_other : (b : Symbol) {n : Typename} {ts : List Token} → IsTypename n ts → (post : List Token) → is_type_keyword b ≡ false → begins b (ts ++ post) ≡ false
typename_other b (IsTypename.typename p) post d = typewords_other b p post d

-- ---- declarators

bound_path : {ws : Words} {ts : List Token} → IsPath ws ts → (post : List Token) → begins s.Dot post ≡ false → Comes (bound_at (ts ++ post)) (lengths.Path ws, post)
unfolding bound_at
bound_path (IsPath.last i) post z = rw (word_no_constant i) (comes_then _ (path_comes (IsPath.last i) post z) (comes_is refl))
bound_path (IsPath.more i e p) post z = rw (word_no_constant i) (comes_then _ (path_comes (IsPath.more i e p) post z) (comes_is refl))

bound_constant : {c : Token} {n : ℕ} (post : List Token) → IsConstant n c → bound_at (c ∷ post) ≡ Ok (lengths.Constant n, post)
unfolding bound_at
bound_constant post i = rw i.holds refl

length_comes : {x : Length} {ts : List Token} → IsLength x ts → (post : List Token) → Comes (length_at (ts ++ post)) (x, post)
unfolding length_at
length_comes (IsLength.constant {e = e} i k j) post = comes_token _ i (comes_then _ (comes_is (bound_constant (e ∷ post) k)) (comes_token _ j (comes_is refl)))
length_comes (IsLength.path {e = e} i p j) post =
    rw append_assoc (comes_token _ i (comes_then _ (bound_path p (e ∷ post) (is_other s.Dot j refl)) (comes_token _ j (comes_is refl))))

length_begins : {x : Length} {ts : List Token} → IsLength x ts → (post : List Token) → begins s.OpenBracket (ts ++ post) ≡ true
length_begins (IsLength.constant i k j) post = i.holds
length_begins (IsLength.path i p j) post = i.holds

declarator_comes : {x : Declarator} {ts : List Token} → IsDeclarator x ts → (post : List Token) → begins s.OpenBracket post ≡ false → Comes (declarator_at (ts ++ post)) (x, post)
unfolding declarator_at
declarator_comes (IsDeclarator.declarator {ts = ts} i m) post z =
    comes_then _ (comes_is (identifier_is _ i)) (comes_then _
    (many_come (begins s.OpenBracket) length_at refl (λ x ts p rest. length_begins p rest) (λ x ts p rest. length_comes p rest) m post z _ (omega (arith, length-append ts post)))
    (comes_is refl))

next_declarator : (c : Token) (ts : List Token) (x : Declarator × List Token) → Is s.Comma c → Comes (declarator_at ts) x → Comes (next_declarator_at (c ∷ ts)) x
unfolding next_declarator_at
next_declarator c ts x i h = comes_token _ i h

pub declarators_come : {ds : List Declarator} {ts : List Token} → Listed IsDeclarator ds ts → (e : Token) (post : List Token) → Is s.Semicolon e → Comes (declarators_at (ts ++ (e ∷ post))) (ds, e ∷ post)
unfolding declarators_at
declarators_come l e post i =
    listed_come (begins s.Comma) declarator_at next_declarator_at (λ ts. begins s.OpenBracket ts ≡ false) (λ x ts p c rest j. j.holds) (λ c rest j. is_other s.OpenBracket j refl)
    (λ x ts p rest z. declarator_comes p rest z) next_declarator l (e ∷ post) (is_other s.OpenBracket i refl) (is_other s.Comma i refl) (λ xs. Ok xs) (comes_is refl)

-- ---- names, tags and alignments

pub name_is : {n : Token} (post : List Token) → IsIdentifier n → Comes (optional begins_identifier identifier_at (n ∷ post)) (Some n.text.now, post)
name_is post i = comes_some begins_identifier identifier_at i.holds (comes_is (identifier_is post i))

pub name_comes : {n : Option Word} {ts : List Token} → Optional IsName n ts → (post : List Token) → begins_identifier post ≡ false → Comes (optional begins_identifier identifier_at (ts ++ post)) (n, post)
name_comes Optional.none post z = comes_none begins_identifier identifier_at z
name_comes (Optional.some (IsName.name i)) post z = name_is post i

align_some : {n : ℕ} {ts : List Token} → IsAlign n ts → (post : List Token) → Comes (align_at (ts ++ post)) (n, post)
unfolding align_at
align_some (IsAlign.align {e = e} i j k l) post = comes_token _ i (comes_token _ j (comes_then _ (comes_is (constant_is (e ∷ post) k)) (comes_token _ l (comes_is refl))))

align_begins : {n : ℕ} {ts : List Token} → IsAlign n ts → (post : List Token) → begins s.Align (ts ++ post) ≡ true
align_begins (IsAlign.align i j k l) post = i.holds

pub align_comes : {n : Option ℕ} {ts : List Token} → Optional IsAlign n ts → (post : List Token) → begins s.Align post ≡ false → Comes (optional (begins s.Align) align_at (ts ++ post)) (n, post)
align_comes Optional.none post z = comes_none (begins s.Align) align_at z
align_comes (Optional.some p) post z = comes_some (begins s.Align) align_at (align_begins p post) (align_some p post)

tag_some : {g : Words} {ts : List Token} → IsTag g ts → (post : List Token) → Comes (tag_at (ts ++ post)) (g, post)
unfolding tag_at
tag_some (IsTag.tag {e = e} i p j) post = rw append_assoc (comes_token _ i (comes_then _ (path_comes p (e ∷ post) (is_other s.Dot j refl)) (comes_token _ j (comes_is refl))))

less_begins : {g : Words} {ts : List Token} → IsTag g ts → (post : List Token) → begins s.Less (ts ++ post) ≡ true
less_begins (IsTag.tag i p j) post = i.holds

pub tag_comes : {g : Option Words} {ts : List Token} → Optional IsTag g ts → (post : List Token) → begins s.Less post ≡ false → Comes (optional (begins s.Less) tag_at (ts ++ post)) (g, post)
tag_comes Optional.none post z = comes_none (begins s.Less) tag_at z
tag_comes (Optional.some p) post z = comes_some (begins s.Less) tag_at (less_begins p post) (tag_some p post)

-- before a brace no identifier is first, with a tag or without
pub tag_begins : {g : Option Words} {ts : List Token} → Optional IsTag g ts → (post : List Token) → begins s.OpenBrace post ≡ true → begins_identifier (ts ++ post) ≡ false
tag_begins Optional.none post z = begins_no_identifier s.OpenBrace post z
tag_begins (Optional.some (IsTag.tag i p j)) post z = no_identifier i

-- ---- containers

container_some : {k : Container} {ts : List Token} → IsContainer k ts → (d : ℕ) (post : List Token) → begins s.OpenBrace post ≡ true → Comes (container_at d (ts ++ post)) (k, post)
unfolding container_at
container_some (IsContainer.integer i k p) d post z = comes_token _ i (rw k.holds (comes_token _ k (comes_then _ (attributes_come p d post) (comes_is refl))))
container_some (IsContainer.typename i p) d post z =
    comes_token _ i (rw (typename_other s.Integer p post refl) (comes_then _ (typename_comes p false post (begins_no_run s.OpenBrace post z refl)) (comes_is refl)))

colon_begins : {k : Container} {ts : List Token} → IsContainer k ts → (post : List Token) → begins s.Colon (ts ++ post) ≡ true
colon_begins (IsContainer.integer i k p) post = i.holds
colon_begins (IsContainer.typename i p) post = i.holds

pub container_comes : {k : Option Container} {ts : List Token} → Optional IsContainer k ts → (d : ℕ) (post : List Token) → begins s.OpenBrace post ≡ true → Comes (optional (begins s.Colon) (container_at d) (ts ++ post)) (k, post)
container_comes Optional.none d post z = comes_none (begins s.Colon) (container_at d) (begins_other s.Colon s.OpenBrace post z refl)
container_comes (Optional.some p) d post z = comes_some (begins s.Colon) (container_at d) (colon_begins p post) (container_some p d post z)

pub container_begins : {k : Option Container} {ts : List Token} → Optional IsContainer k ts → (post : List Token) → begins s.OpenBrace post ≡ true → begins_identifier (ts ++ post) ≡ false
container_begins Optional.none post z = begins_no_identifier s.OpenBrace post z
container_begins (Optional.some {ts = ts} p) post z = begins_no_identifier s.Colon (ts ++ post) (colon_begins p post)

pub container_opens : {k : Option Container} {ts : List Token} → Optional IsContainer k ts → (post : List Token) → begins s.OpenBrace post ≡ true → begins_labels (ts ++ post) ≡ true
container_opens Optional.none post z = rw (begins_other s.Colon s.OpenBrace post z refl) z
container_opens (Optional.some p) post z = rw (colon_begins p post) refl
