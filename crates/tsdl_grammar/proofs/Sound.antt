-- What is read is spelled so: words, values, declarators and the parts of compounds.
use Rattle.std.proofs.Common.{◌≡◌, ℕ, zero, suc, ◌≤◌, inl, inr, Bool, true, false, List, [], ◌∷◌, ◌++◌, take, drop, Option, Some, None, Ok, refl, ◌∙◌, append_assoc, arith}
use Rattle.std.proofs.lemmas.Bool.{cases_Bool}
use Rattle.std.proofs.lemmas.List.{append-nil, take-append-drop}
use Rattle.tsdl_text.specs.declared.token.Symbol.TheVariants as s
use Rattle.tsdl_text.specs.declared.token.Token.{Token}
use Rattle.tsdl_text.specs.Symbols.{is_word, is_typeword, is_identifier, is_string, constant_of}
use Rattle.tsdl_tree.specs.declared.tree.Number.{Number}
use Rattle.tsdl_tree.specs.declared.tree.Value.TheVariants as values
use Rattle.tsdl_tree.specs.declared.tree.Length.{Length}
use Rattle.tsdl_tree.specs.declared.tree.Length.TheVariants as lengths
use Rattle.tsdl_tree.specs.declared.tree.Span.{Span}
use Rattle.tsdl_tree.specs.declared.tree.Label.{Label}
use Rattle.tsdl_tree.specs.declared.tree.Container.TheVariants as containers
use Rattle.tsdl_grammar.specs.Terminals.{Word, Words, is, Is, IsConstant, IsString, IsWord}
use Rattle.tsdl_grammar.specs.Repeats.{Many, Listed, Optional}
use Rattle.tsdl_grammar.specs.Grammar.{IsPath, IsNumber, IsValue, IsSetting, AreAttributes, AreTypewords, IsTypename, IsLength, IsDeclarator, IsName, IsAlign, IsTag, IsContainer, IsSpan, IsLabel, AreLabels}
use Rattle.tsdl_grammar.specs.Spelling.{run}
use Rattle.tsdl_grammar.specs.Steps.{◌>>=◌, or_bad, expect, begins}
use Rattle.tsdl_grammar.specs.Reading.{word_at, identifier_at, constant_at, dotted_at, path_at, magnitude_at, number_at, value_at, setting_after, setting_at, attributes_at, words_of, some_words, typename_len, typename_at, bound_by, bound_at, length_at, declarator_at, next_declarator_at, declarators_at, align_at, tag_at, container_at, range_end_at, span_at, label_name_at, label_at, next_label_at, labels_at}
use Rattle.tsdl_grammar.proofs.Room.{room, word_no_brace, typeword_no_brace, identifier_no_brace, string_no_brace, constant_no_brace, room_same}
use Rattle.tsdl_grammar.proofs.ReadsTools.{Reads, reads_then, reads_last, reads_as, reads_done, reads_bad, reads_first, reads_if, reads_token, reads_close, reads_past, reads_shut, reads_open, reads_loop, reads_optional, reads_front, IsNext, listed_of}

-- ---- tokens

data IsWordOf : Word → List Token → Type 0 where
  word : {w : Token} → IsWord w → IsWordOf w.text.now (w ∷ [])

data IsConstantOf : ℕ → List Token → Type 0 where
  constant : {c : Token} {n : ℕ} → IsConstant n c → IsConstantOf n (c ∷ [])

data IsDotted : Word → List Token → Type 0 where
  dotted : {d w : Token} → Is s.Dot d → IsWord w → IsDotted w.text.now (d ∷ w ∷ [])

word_reads : {d : ℕ} (ts : List Token) → Reads (word_at ts) d d ts IsWordOf
unfolding word_at
word_reads [] = reads_bad
word_reads {d} (t ∷ ts) = reads_if (is_word t.kind) (λ e. reads_first (room_same (word_no_brace t e) d ts) (IsWordOf.word (record { holds = e }))) (λ e. reads_bad)

pub identifier_reads : {d : ℕ} (ts : List Token) → Reads (identifier_at ts) d d ts IsName
unfolding identifier_at
identifier_reads [] = reads_bad
identifier_reads {d} (t ∷ ts) = reads_if (is_identifier t.kind) (λ e. reads_first (room_same (identifier_no_brace t e) d ts) (IsName.name (record { holds = e }))) (λ e. reads_bad)

constant_by : {d : ℕ} (t : Token) (ts : List Token) (o : Option ℕ) → constant_of t.kind ≡ o → Reads (or_bad o >>= λ n. Ok (n, ts)) d d (t ∷ ts) IsConstantOf
constant_by t ts None e = reads_bad
constant_by {d} t ts (Some n) e = reads_first (room_same (constant_no_brace t n e) d ts) (IsConstantOf.constant (record { holds = e }))

constant_reads : {d : ℕ} (ts : List Token) → Reads (constant_at ts) d d ts IsConstantOf
unfolding constant_at
constant_reads [] = reads_bad
constant_reads (t ∷ ts) = constant_by t ts (constant_of t.kind) refl

-- ---- paths

dotted_of : {w : Word} {d : Token} {us : List Token} → Is s.Dot d → IsWordOf w us → IsDotted w (d ∷ us)
dotted_of d (IsWordOf.word i) = IsDotted.dotted d i

dotted_reads : {d : ℕ} (ts : List Token) → Reads (dotted_at ts) d d ts IsDotted
unfolding dotted_at
dotted_reads ts = reads_token s.Dot _ refl (λ d rest i. reads_as (word_reads rest) (λ w us p. dotted_of i p))

path_of : {w : Word} {ws : Words} {us vs : List Token} → IsWordOf w us → Many IsDotted ws vs → IsPath (w ∷ ws) (us ++ vs)
path_of (IsWordOf.word i) Many.none = IsPath.last i
path_of (IsWordOf.word i) (Many.more (IsDotted.dotted d j) m) = IsPath.more i d (path_of (IsWordOf.word j) m)

pub path_reads : {d : ℕ} (ts : List Token) → Reads (path_at ts) d d ts IsPath
unfolding path_at
path_reads ts = reads_then _ (word_reads ts) (λ w rest us p. reads_last (λ ws. w ∷ ws) (reads_loop _ _ IsDotted dotted_reads _ rest) (λ ws vs q. path_of p q))

-- ---- values, settings

data IsMagnitude (is_negative : Bool) : Number → List Token → Type 0 where
  magnitude : {c : Token} {n : ℕ} → IsConstant n c → IsMagnitude is_negative (record { is_negative = is_negative; magnitude = n }) (c ∷ [])

magnitude_of : {b : Bool} {n : ℕ} {us : List Token} → IsConstantOf n us → IsMagnitude b (record { is_negative = b; magnitude = n }) us
magnitude_of (IsConstantOf.constant i) = IsMagnitude.magnitude i

magnitude_reads : {d : ℕ} (b : Bool) (ts : List Token) → Reads (magnitude_at b ts) d d ts (IsMagnitude b)
unfolding magnitude_at
magnitude_reads b ts = reads_last (λ n. record { is_negative = b; magnitude = n }) (constant_reads ts) (λ n us p. magnitude_of p)

minus_of : {x : Number} {m : Token} {us : List Token} → Is s.Minus m → IsMagnitude true x us → IsNumber x (m ∷ us)
minus_of i (IsMagnitude.magnitude c) = IsNumber.minus i c

plus_of : {x : Number} {p : Token} {us : List Token} → Is s.Plus p → IsMagnitude false x us → IsNumber x (p ∷ us)
plus_of i (IsMagnitude.magnitude c) = IsNumber.plus i c

number_of : {x : Number} {us : List Token} → IsMagnitude false x us → IsNumber x us
number_of (IsMagnitude.magnitude c) = IsNumber.constant c

number_reads : {d : ℕ} (ts : List Token) → Reads (number_at ts) d d ts IsNumber
unfolding number_at
number_reads ts = reads_if (begins s.Minus ts)
    (λ e. reads_token s.Minus _ refl (λ m rest i. reads_as (magnitude_reads true rest) (λ x us p. minus_of i p)))
    (λ e. reads_past s.Plus ts (λ us. magnitude_at false us) refl
    (reads_as (magnitude_reads false ts) (λ x us p. number_of p))
    (λ t rest i. reads_as (magnitude_reads false rest) (λ x us p. plus_of i p)))

value_reads : {d : ℕ} (ts : List Token) → Reads (value_at ts) d d ts IsValue
unfolding value_at
value_reads [] = reads_bad
value_reads {d} (t ∷ ts) = reads_if (is_word t.kind)
    (λ e. reads_last (λ ws. values.Name ws) (path_reads (t ∷ ts)) (λ ws us p. IsValue.name p))
    (λ e. reads_if (is_string t.kind)
    (λ f. reads_first (room_same (string_no_brace t f) d ts) (IsValue.string (record { holds = f; value = refl })))
    (λ f. reads_last (λ n. values.Number n) (number_reads (t ∷ ts)) (λ n us p. IsValue.number p)))

-- a setting, of which the name was read
pub setting_after_reads : {d : ℕ} {n : Words} {us : List Token} (ts : List Token) → IsPath n us → Reads (setting_after n ts) d d ts (λ x vs. IsSetting x (us ++ vs))
unfolding setting_after
setting_after_reads ts p = reads_token s.Equals _ refl (λ e rest i. reads_then _ (value_reads rest) (λ v rest vs q. reads_token s.Semicolon _ refl (λ c rest j. reads_done (IsSetting.setting p i q j))))

pub setting_reads : {d : ℕ} (ts : List Token) → Reads (setting_at ts) d d ts IsSetting
unfolding setting_at
setting_reads ts = reads_then _ (path_reads ts) (λ n rest us p. setting_after_reads rest p)

pub attributes_read : (d : ℕ) (ts : List Token) → Reads (attributes_at d ts) d d ts AreAttributes
unfolding attributes_at
attributes_read zero ts = reads_shut _
attributes_read (suc d) ts = reads_open d _ (λ o rest i. reads_then _ (reads_loop _ _ IsSetting setting_reads _ rest) (λ xs rest us m. reads_close _ (λ c rest j. reads_done (AreAttributes.attributes i m j))))

-- ---- names of types

typewords_more : (k : ℕ) (t : Token) (ts : List Token) → is_typeword t.kind ≡ true → AreTypewords (words_of (take k ts)) (take k ts) × ((d : ℕ) → room d ts ≡ room d (drop k ts))
    → AreTypewords (words_of (t ∷ take k ts)) (t ∷ take k ts) × ((d : ℕ) → room d (t ∷ ts) ≡ room d (drop k ts))
unfolding words_of
typewords_more k t ts e h = (
  elim (cases_Bool (is s.Const t)) [ inl f ↦ rw f (AreTypewords.skip (record { holds = f }) h.0) | inr f ↦ rw f (AreTypewords.more (record { holds = e; kept = f }) h.0) ],
  λ d. room_same (typeword_no_brace t e) d ts ∙ h.1 d,
)

-- the first ones of the run are typewords, and none is a brace
typewords_are : (k : ℕ) (ts : List Token) → k ≤ run ts → AreTypewords (words_of (take k ts)) (take k ts) × ((d : ℕ) → room d ts ≡ room d (drop k ts))
unfolding run words_of
typewords_are zero ts le = (AreTypewords.none, λ d. refl)
typewords_are (suc k) [] le = absurd (omega arith)
typewords_are (suc k) (t ∷ ts) le = elim (cases_Bool (is_typeword t.kind)) [
  | inl e ↦ typewords_more k t ts e (typewords_are k ts (omega (arith, simp e at le)))
  | inr e ↦ absurd (omega (arith, simp e at le))
]

typename_by : {d : ℕ} (k : ℕ) (ts : List Token) (ws : Words) → AreTypewords ws (take k ts) → room d ts ≡ room d (drop k ts) → Reads (some_words ws (drop k ts)) d d ts IsTypename
typename_by k ts [] p h = reads_bad
typename_by k ts (w ∷ ws) p h = reads_front (take k ts) (take-append-drop k ts) h (IsTypename.typename p)

typename_len_within : (before : Bool) (ts : List Token) → typename_len before ts ≤ run ts
typename_len_within true ts = omega arith
typename_len_within false ts = omega arith

pub typename_reads : {d : ℕ} (before : Bool) (ts : List Token) → Reads (typename_at before ts) d d ts IsTypename
unfolding typename_at
typename_reads {d} before ts =
    let h = typewords_are (typename_len before ts) ts (typename_len_within before ts) in
    typename_by (typename_len before ts) ts _ h.0 (h.1 d)

-- ---- declarators

data IsBound : Length → List Token → Type 0 where
  constant : {c : Token} {n : ℕ} → IsConstant n c → IsBound (lengths.Constant n) (c ∷ [])
  path : {ws : Words} {ts : List Token} → IsPath ws ts → IsBound (lengths.Path ws) ts

bound_reads_by : {d : ℕ} (t : Token) (ts : List Token) (o : Option ℕ) → constant_of t.kind ≡ o → Reads (bound_by o t ts) d d (t ∷ ts) IsBound
bound_reads_by {d} t ts (Some n) e = reads_first (room_same (constant_no_brace t n e) d ts) (IsBound.constant (record { holds = e }))
bound_reads_by t ts None e = reads_last (λ ws. lengths.Path ws) (path_reads (t ∷ ts)) (λ ws us p. IsBound.path p)

bound_reads : {d : ℕ} (ts : List Token) → Reads (bound_at ts) d d ts IsBound
unfolding bound_at
bound_reads [] = reads_bad
bound_reads (t ∷ ts) = bound_reads_by t ts (constant_of t.kind) refl

length_of : {x : Length} {o e : Token} {us : List Token} → Is s.OpenBracket o → IsBound x us → Is s.CloseBracket e → IsLength x (o ∷ (us ++ e ∷ []))
length_of i (IsBound.constant c) j = IsLength.constant i c j
length_of i (IsBound.path p) j = IsLength.path i p j

length_reads : {d : ℕ} (ts : List Token) → Reads (length_at ts) d d ts IsLength
unfolding length_at
length_reads ts = reads_token s.OpenBracket _ refl (λ o rest i. reads_then _ (bound_reads rest) (λ x rest us p. reads_token s.CloseBracket _ refl (λ e rest j. reads_done (length_of i p j))))

declarator_of : {n : Word} {xs : List Length} {us vs : List Token} → IsName n us → Many IsLength xs vs → IsDeclarator (record { name = n; lengths = xs }) (us ++ vs)
declarator_of (IsName.name i) m = IsDeclarator.declarator i m

declarator_reads : {d : ℕ} (ts : List Token) → Reads (declarator_at ts) d d ts IsDeclarator
unfolding declarator_at
declarator_reads ts = reads_then _ (identifier_reads ts) (λ n rest us p. reads_last (λ xs. record { name = n; lengths = xs }) (reads_loop _ _ IsLength length_reads _ rest) (λ xs vs q. declarator_of p q))

next_declarator_reads : {d : ℕ} (ts : List Token) → Reads (next_declarator_at ts) d d ts (IsNext IsDeclarator)
unfolding next_declarator_at
next_declarator_reads ts = reads_token s.Comma _ refl (λ c rest i. reads_as (declarator_reads rest) (λ x us p. IsNext.next i p))

pub declarators_read : {d : ℕ} (ts : List Token) → Reads (declarators_at ts) d d ts (Listed IsDeclarator)
unfolding declarators_at
declarators_read ts = reads_then _ (declarator_reads ts) (λ x rest us p. reads_last (λ xs. x ∷ xs) (reads_loop _ _ (IsNext IsDeclarator) next_declarator_reads _ rest) (λ xs vs q. listed_of us p q))

-- ---- parts of compounds

align_of : {n : ℕ} {a o e : Token} {us : List Token} → Is s.Align a → Is s.OpenParen o → IsConstantOf n us → Is s.CloseParen e → IsAlign n (a ∷ o ∷ (us ++ e ∷ []))
align_of i j (IsConstantOf.constant c) l = IsAlign.align i j c l

pub align_reads : {d : ℕ} (ts : List Token) → Reads (align_at ts) d d ts IsAlign
unfolding align_at
align_reads ts = reads_token s.Align _ refl (λ a rest i. reads_token s.OpenParen _ refl (λ o rest j. reads_then _ (constant_reads rest) (λ n rest us p. reads_token s.CloseParen _ refl (λ e rest l. reads_done (align_of i j p l)))))

pub tag_reads : {d : ℕ} (ts : List Token) → Reads (tag_at ts) d d ts IsTag
unfolding tag_at
tag_reads ts = reads_token s.Less _ refl (λ o rest i. reads_then _ (path_reads rest) (λ ws rest us p. reads_token s.Greater _ refl (λ e rest j. reads_done (IsTag.tag i p j))))

pub container_reads : (d : ℕ) (ts : List Token) → Reads (container_at d ts) d d ts IsContainer
unfolding container_at
container_reads d ts = reads_token s.Colon _ refl (λ o rest i. reads_if (begins s.Integer rest)
    (λ e. reads_token s.Integer _ refl (λ t rest j. reads_last (λ xs. containers.Integer xs) (attributes_read d rest) (λ xs us p. IsContainer.integer i j p)))
    (λ e. reads_last (λ n. containers.Named n) (typename_reads false rest) (λ n us p. IsContainer.typename i p)))

data IsRangeEnd : Number → List Token → Type 0 where
  range_end : {d : Token} {n : Number} {us : List Token} → Is s.Ellipsis d → IsNumber n us → IsRangeEnd n (d ∷ us)

range_end_reads : {d : ℕ} (ts : List Token) → Reads (range_end_at ts) d d ts IsRangeEnd
unfolding range_end_at
range_end_reads ts = reads_token s.Ellipsis _ refl (λ e rest i. reads_as (number_reads rest) (λ n us p. IsRangeEnd.range_end i p))

span_of : {e : Token} {m : Number} {n : Option Number} {us vs : List Token} → Is s.Equals e → IsNumber m us → Optional IsRangeEnd n vs → IsSpan (record { first = m; last = n }) (e ∷ (us ++ vs))
span_of i p Optional.none = rw append-nil (IsSpan.one i p)
span_of i p (Optional.some (IsRangeEnd.range_end j q)) = IsSpan.range i p j q

span_reads : {d : ℕ} (ts : List Token) → Reads (span_at ts) d d ts IsSpan
unfolding span_at
span_reads ts = reads_token s.Equals _ refl (λ e rest i. reads_then _ (number_reads rest) (λ m rest us p. reads_last (λ n. record { first = m; last = n }) (reads_optional _ _ IsRangeEnd range_end_reads rest) (λ n vs q. span_of i p q)))

-- ---- labels

data IsLabelName : Word → List Token → Type 0 where
  word : {w : Token} → IsWord w → IsLabelName w.text.now (w ∷ [])
  string : {t : Token} {bytes : Word} → IsString bytes t → IsLabelName bytes (t ∷ [])

label_name_reads : {d : ℕ} (ts : List Token) → Reads (label_name_at ts) d d ts IsLabelName
unfolding label_name_at
label_name_reads [] = reads_bad
label_name_reads {d} (t ∷ ts) = reads_if (is_word t.kind)
    (λ e. reads_first (room_same (word_no_brace t e) d ts) (IsLabelName.word (record { holds = e })))
    (λ e. reads_if (is_string t.kind)
    (λ f. reads_first (room_same (string_no_brace t f) d ts) (IsLabelName.string (record { holds = f; value = refl })))
    (λ f. reads_bad))

label_of : {n : Word} {r : Option Span} {us vs : List Token} → IsLabelName n us → Optional IsSpan r vs → IsLabel (record { name = n; span = r }) (us ++ vs)
label_of (IsLabelName.word i) q = IsLabel.word i q
label_of (IsLabelName.string i) q = IsLabel.string i q

label_reads : {d : ℕ} (ts : List Token) → Reads (label_at ts) d d ts IsLabel
unfolding label_at
label_reads ts = reads_then _ (label_name_reads ts) (λ n rest us p. reads_last (λ r. record { name = n; span = r }) (reads_optional _ _ IsSpan span_reads rest) (λ r vs q. label_of p q))

next_label_reads : {d : ℕ} (ts : List Token) → Reads (next_label_at ts) d d ts (IsNext IsLabel)
unfolding next_label_at
next_label_reads ts = reads_token s.Comma _ refl (λ c rest i. reads_as (label_reads rest) (λ x us p. IsNext.next i p))

labels_of : {o c : Token} {xs : List Label} (us vs : List Token) → Is s.OpenBrace o → Listed IsLabel xs (us ++ vs) → Is s.CloseBrace c → AreLabels xs (o ∷ (us ++ (vs ++ c ∷ [])))
labels_of us vs i p j = rw (← append_assoc) (AreLabels.labels i p j)

labels_with_comma : {o m c : Token} {xs : List Label} (us vs : List Token) → Is s.OpenBrace o → Listed IsLabel xs (us ++ vs) → Is s.Comma m → Is s.CloseBrace c → AreLabels xs (o ∷ (us ++ (vs ++ (m ∷ c ∷ []))))
labels_with_comma us vs i p l j = rw (← append_assoc) (AreLabels.with_comma i p l j)

pub labels_read : (d : ℕ) (ts : List Token) → Reads (labels_at d ts) d d ts AreLabels
unfolding labels_at
labels_read zero ts = reads_shut _
labels_read (suc d) ts = reads_open d _ (λ o rest i. reads_then _ (label_reads rest) (λ x rest us p. reads_then _ (reads_loop _ _ (IsNext IsLabel) next_label_reads _ rest) (λ xs rest vs q.
    reads_past s.Comma rest (λ zs. expect s.CloseBrace zs >>= λ close. Ok (x ∷ xs, close)) refl
    (reads_close _ (λ c rest j. reads_done (labels_of us vs i (listed_of us p q) j)))
    (λ m rest l. reads_close _ (λ c rest j. reads_done (labels_with_comma us vs i (listed_of us p q) l j))))))
