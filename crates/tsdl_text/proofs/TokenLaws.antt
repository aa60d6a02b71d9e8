-- Reading the token at a place is what the definition of tokens says.
use Rattle.std.proofs.Common.{◌≡◌, ℕ, suc, ◌+◌, ◌<◌, Bool, true, false, cond, ◌&&◌, List, [], ◌∷◌, ◌++◌, length, take, Option, Some, None, refl, sym, ap, subst, ◌∙◌, arith, ◌⊎◌, inl, inr, ⊎_elim, eqb, append_assoc}
use Rattle.std.specs.Option.{option_map, option_map_or}
use Rattle.std.specs.List.{prefix_len, list_all}
use Rattle.std.specs.Char.{is_ascii_digit}
use Rattle.std.proofs.lemmas.List.{length-append, take_at}
use Rattle.std.proofs.lemmas.Bool.{eqb-true, leb-true, cases_Bool, false_from_ne_true}
use Rattle.tsdl_text.specs.declared.token.Symbol.{Symbol}
use Rattle.tsdl_text.specs.declared.token.TokenKind.{TokenKind}
use Rattle.tsdl_text.specs.declared.token.TokenKind.TheVariants as kinds
use Rattle.tsdl_text.specs.Symbols.{spelling}
use Rattle.ctf_list.specs.Prefix.{begins}
use Rattle.tsdl_text.specs.Bytes.{is_word_start, is_word_byte, is_blank}
use Rattle.tsdl_text.specs.Characters.{Closes}
use Rattle.tsdl_text.specs.Tokens.{IsWord, IsString, Spells, IsLongest, is_constant, IsToken}
use Rattle.tsdl_text.specs.Scanning.{constant_value, word_len, keyword_of, word_kind, string_len, punctuator_at, token_at}
use Rattle.ctf_list.proofs.Prefix.{list_all-both, prefix_len_at, longest_prefix, prefix, begins-append}
use Rattle.std.proofs.lemmas.Option.{same_Some}
use Rattle.ctf_list.proofs.Options.{either_way, map_some}
use Rattle.tsdl_text.proofs.StringLaws.{string_len-is, string_front}
use Rattle.tsdl_text.proofs.ConstantLaws.{constant_value-is, constant_from_value, constant_is_word, constant_begins}
use Rattle.tsdl_text.proofs.ByteFacts.{start_is_word, start_is_apart, digit_is_apart, word_is}
use Rattle.tsdl_text.proofs.SymbolLaws.{keyword_spelled, keyword_found, spelling_word, spelling_start, spelling_no_quote, spelling_no_digit, spelling_no_blank, spelling_no_slash, spelling_some, punctuator_front, punctuator_reach, punctuator_found}

-- ---- what begins so is such a token

-- a test that holds at the first byte of a list holds at a byte that it is known to be
at_first : (p : ℕ → Bool) (s : List ℕ) → begins p s ≡ true → (b : ℕ) × (rest : List ℕ) × (s ≡ b ∷ rest) × (p b ≡ true)
at_first p [] e = absurd cc
at_first p (b ∷ s) e = (b, s, refl, e)

-- two tests that exclude each other do not both hold of the first byte
not_both : (p q : ℕ → Bool) → ((b : ℕ) → p b ≡ true → q b ≡ false) → (s : List ℕ) → begins p s ≡ true → begins q s ≡ false
not_both p q h [] e = absurd cc
not_both p q h (b ∷ s) e = h b e

begins_also : (p q : ℕ → Bool) → ((b : ℕ) → p b ≡ true → q b ≡ true) → (s : List ℕ) → begins p s ≡ true → begins q s ≡ true
begins_also p q h [] e = absurd cc
begins_also p q h (b ∷ s) e = h b e

quote_no_word : (b : ℕ) → eqb b 34 ≡ true → is_word_byte b ≡ false
unfolding is_word_byte
quote_no_word b e = ap is_word_byte (eqb-true b 34 e)

-- a token that begins with a letter, a digit or `_` has no other bytes
words_only : (kind : TokenKind) (bytes : List ℕ) → Spells kind bytes → begins is_word_byte bytes ≡ true → list_all is_word_byte bytes ≡ true
words_only kinds.Identifier bytes is e = is.word.each
words_only (kinds.Constant value) bytes is e = constant_is_word bytes value is
words_only kinds.String bytes is e = let f : begins is_word_byte bytes ≡ false = ap (begins is_word_byte) is.stands.opened ∙ quote_no_word 34 refl in absurd cc
words_only (kinds.Symbol s) bytes is e = ap (list_all is_word_byte) is ∙ spelling_word s (spelling_start s (ap (begins is_word_byte) (sym is) ∙ e))

-- a token that begins with a quote is a string
strings_only : (kind : TokenKind) (bytes : List ℕ) → Spells kind bytes → begins (λ b. eqb b 34) bytes ≡ true → IsString bytes
strings_only kinds.Identifier bytes is e =
    let f = not_both (λ b. eqb b 34) is_word_byte quote_no_word bytes e in
    let g = begins_also is_word_start is_word_byte start_is_word bytes is.word.first in
    absurd cc
strings_only (kinds.Constant value) bytes is e =
    let f = not_both (λ b. eqb b 34) is_word_byte quote_no_word bytes e in
    let g = begins_also is_ascii_digit is_word_byte (λ b h. (digit_is_apart b h).3) bytes (constant_begins bytes value is) in
    absurd cc
strings_only kinds.String bytes is e = is
strings_only (kinds.Symbol s) bytes is e =
    let f : begins (λ b. eqb b 34) bytes ≡ false = ap (begins (λ b. eqb b 34)) is ∙ spelling_no_quote s in absurd cc

-- a token that begins otherwise is a punctuator
symbols_only : (kind : TokenKind) (bytes : List ℕ) → Spells kind bytes → begins is_word_byte bytes ≡ false → begins (λ b. eqb b 34) bytes ≡ false → (s : Symbol) × (bytes ≡ spelling s)
symbols_only kinds.Identifier bytes is e f = let g = begins_also is_word_start is_word_byte start_is_word bytes is.word.first in absurd cc
symbols_only (kinds.Constant value) bytes is e f =
    let g = begins_also is_ascii_digit is_word_byte (λ b h. (digit_is_apart b h).3) bytes (constant_begins bytes value is) in
    absurd cc
symbols_only kinds.String bytes is e f = let g : begins (λ b. eqb b 34) bytes ≡ true = ap (begins (λ b. eqb b 34)) is.stands.opened in absurd cc
symbols_only (kinds.Symbol s) bytes is e f = (s, is)

goes_on : (p : ℕ → Bool) (s t : List ℕ) → begins p s ≡ true → begins p (s ++ t) ≡ true
goes_on p [] t e = absurd cc
goes_on p (b ∷ s) t e = e

-- ---- the longest

-- another front of the same list begins with the same byte, or is empty
same_first : (p : ℕ → Bool) (v : Bool) (bytes after other rest : List ℕ) → bytes ++ after ≡ other ++ rest → begins p (bytes ++ after) ≡ v → (other ≡ []) ⊎ (begins p other ≡ v)
same_first p v bytes after [] rest e b = inl refl
same_first p v bytes after (c ∷ other) rest e b = inr (ap (begins p) (sym e) ∙ b)

-- a run of letters, digits and `_` is the longest token
word_longest : (bytes after : List ℕ) → begins is_word_byte bytes ≡ true → list_all is_word_byte bytes ≡ true → begins is_word_byte after ≡ false → IsLongest bytes after
word_longest bytes after first all stops kind other rest e spelled =
    ⊎_elim
    (λ z. let l = ap length z in omega arith)
    (λ b. longest_prefix is_word_byte bytes after other rest all stops (words_only kind other spelled b) e)
    (same_first is_word_byte true bytes after other rest e (goes_on is_word_byte bytes after first))

-- a string is the longest token
string_longest : (inside after values : List ℕ) → Closes inside values → IsLongest (34 ∷ inside) after
string_longest inside after values closes kind other rest e spelled =
    ⊎_elim
    (λ z. let l = ap length z in omega arith)
    (λ b.
    let is = strings_only kind other spelled b in
    let tails : inside ++ after ≡ is.stands.inside ++ rest = tail_is (inside ++ after) (is.stands.inside ++ rest) (e ∙ ap (λ t. t ++ rest) is.stands.opened) in
    let same : Some (length inside) ≡ Some (length is.stands.inside) = sym (string_len-is after closes) ∙ ap string_len tails ∙ string_len-is rest is.stands.closed in
    let l = same_Some (length inside) (length is.stands.inside) same in
    let m = ap length is.stands.opened in
    omega arith)
    (same_first (λ b. eqb b 34) true (34 ∷ inside) after other rest e refl)
  where
    tail_is : (s t : List ℕ) → 34 ∷ s ≡ 34 ∷ t → s ≡ t
    tail_is s t e = cc

-- a punctuator that is found is the longest token
punctuator_longest : (s : Symbol) (after : List ℕ) → begins is_word_byte (spelling s ++ after) ≡ false → begins (λ b. eqb b 34) (spelling s ++ after) ≡ false → punctuator_at (spelling s ++ after) ≡ Some (s, length (spelling s)) → IsLongest (spelling s) after
punctuator_longest s after no_word no_quote found kind other rest e spelled =
    ⊎_elim
    (λ z. let l = ap length z in omega arith)
    (λ w. ⊎_elim
    (λ z. let l = ap length z in omega arith)
    (λ q.
    let other_is = symbols_only kind other spelled w q in
    let at_other : punctuator_at (spelling other_is.0 ++ rest) ≡ Some (s, length (spelling s)) = ap (λ t. punctuator_at (t ++ rest)) (sym other_is.1) ∙ ap punctuator_at (sym e) ∙ found in
    let no_start : begins is_word_start (spelling other_is.0) ≡ false = false_from_ne_true _ (λ t. let u = begins_also is_word_start is_word_byte start_is_word (spelling other_is.0) t in let v = ap (begins is_word_byte) (sym other_is.1) ∙ w in absurd cc) in
    let reach = punctuator_reach other_is.0 rest (s, length (spelling s)) no_start at_other in
    let l = ap length other_is.1 in
    omega arith)
    (same_first (λ b. eqb b 34) false (spelling s) after other rest e no_quote))
    (same_first is_word_byte false (spelling s) after other rest e no_word)

-- ---- what is read is the token

-- the token at the front
pub record TokenFront (s : List ℕ) (x : TokenKind × ℕ) : Type 0 where
  pub bytes : List ℕ
  pub after : List ℕ
  pub whole : s ≡ bytes ++ after
  pub is : IsToken x.0 bytes after
  pub len : x.1 ≡ length bytes
  pub some : 0 < length bytes

word_no_constant : (o : Option Symbol) → is_constant (option_map_or kinds.Symbol o kinds.Identifier) ≡ false
word_no_constant None = refl
word_no_constant (Some s) = refl

word_spelled : (word : List ℕ) (o : Option Symbol) → IsWord word → keyword_of word ≡ o → Spells (option_map_or kinds.Symbol o kinds.Identifier) word
word_spelled word None is e = record {
  word = is;
  no_keyword = λ s h. let f : keyword_of word ≡ Some s = ap keyword_of h ∙ keyword_found s ∙ ap (λ b. cond b (Some s) None) (ap (begins is_word_start) (sym h) ∙ is.first) in let g : None ≡ Some s = sym e ∙ f in absurd cc;
}
word_spelled word (Some s) is e = keyword_spelled word s e

-- a word read at the front
word_token : (word after : List ℕ) → IsWord word → begins is_word_byte after ≡ false → IsToken (word_kind word) word after
unfolding word_kind
word_token word after is stops = record {
  spelled = word_spelled word (keyword_of word) is refl;
  longest = word_longest word after (begins_also is_word_start is_word_byte start_is_word word is.first) is.each stops;
  apart = λ e. let f = word_no_constant (keyword_of word) in absurd cc;
}

-- the word at the front, of a list that begins with a letter, a digit or `_`
record WordFront (b : ℕ) (text : List ℕ) : Type 0 where
  word : List ℕ
  after : List ℕ
  whole : b ∷ text ≡ word ++ after
  all : list_all is_word_byte word ≡ true
  len : word_len (b ∷ text) ≡ length word
  front : take (word_len (b ∷ text)) (b ∷ text) ≡ word
  rest : List ℕ
  first : word ≡ b ∷ rest
  stops : begins is_word_byte after ≡ false

word_front : (b : ℕ) (text : List ℕ) → is_word_byte b ≡ true → WordFront b text
word_front b text e =
    let r = prefix is_word_byte (b ∷ text) in
    let long : 0 < length r.front = some (is_word_byte b) e r.len in
    let f = first_is r.front r.back r.whole long in
    record {
      word = r.front;
      after = r.back;
      whole = r.whole;
      all = r.all;
      len = sym r.len;
      front = ap (take (word_len (b ∷ text))) r.whole ∙ take_at r.front r.back _ r.len;
      rest = f.0;
      first = f.1;
      stops = r.stops;
    }
  where
    some : (t : Bool) → t ≡ true → {n : ℕ} → n ≡ cond t (1 + prefix_len is_word_byte text) 0 → 0 < n
    some true e h = omega arith
    some false e h = absurd cc

    first_is : (front back : List ℕ) → b ∷ text ≡ front ++ back → 0 < length front → (rest : List ℕ) × (front ≡ b ∷ rest)
    first_is [] back e h = absurd (omega arith)
    first_is (c ∷ front) back e h = (front, let s : b ≡ c = cc in ap (λ (n : ℕ). n ∷ front) (sym s))

read_word : (b : ℕ) (text : List ℕ) (x : TokenKind × ℕ) → is_word_start b ≡ true → Some (word_kind (take (word_len (b ∷ text)) (b ∷ text)), word_len (b ∷ text)) ≡ Some x → TokenFront (b ∷ text) x
read_word b text x e h =
    let w = word_front b text (start_is_word b e) in
    let is : IsWord w.word = record { first = ap (begins is_word_start) w.first ∙ e; each = w.all } in
    let l = ap length w.first in
    subst (TokenFront (b ∷ text)) (same_Some _ x h) (record {
      bytes = w.word;
      after = w.after;
      whole = w.whole;
      is = subst (λ word. IsToken (word_kind word) w.word w.after) (sym w.front) (word_token w.word w.after is w.stops);
      len = w.len;
      some = omega arith;
    })

read_number : (b : ℕ) (text : List ℕ) (x : TokenKind × ℕ) → is_ascii_digit b ≡ true → option_map (λ value. (kinds.Constant value, word_len (b ∷ text))) (constant_value (take (word_len (b ∷ text)) (b ∷ text))) ≡ Some x → TokenFront (b ∷ text) x
read_number b text x e h =
    let w = word_front b text ((digit_is_apart b e).3) in
    let m = map_some (λ value. (kinds.Constant value, word_len (b ∷ text))) (constant_value (take (word_len (b ∷ text)) (b ∷ text))) x h in
    let value : constant_value w.word ≡ Some m.0 = ap constant_value (sym w.front) ∙ m.1 in
    let first : begins is_word_byte w.word ≡ true = ap (begins is_word_byte) w.first ∙ (digit_is_apart b e).3 in
    let l = ap length w.first in
    subst (TokenFront (b ∷ text)) m.2 (record {
      bytes = w.word;
      after = w.after;
      whole = w.whole;
      is = record { spelled = constant_from_value w.word m.0 value; longest = word_longest w.word w.after first w.all w.stops; apart = λ c. w.stops };
      len = w.len;
      some = omega arith;
    })

read_string : (text : List ℕ) (x : TokenKind × ℕ) → option_map (λ n. (kinds.String, 1 + n)) (string_len text) ≡ Some x → TokenFront (34 ∷ text) x
read_string text x h =
    let m = map_some (λ n. (kinds.String, 1 + n)) (string_len text) x h in
    let f = string_front text m.0 m.1 in
    subst (TokenFront (34 ∷ text)) m.2 (record {
      bytes = 34 ∷ f.inside;
      after = f.after;
      whole = ap (λ t. 34 ∷ t) f.whole;
      is = record { spelled = record { values = f.values; stands = record { inside = f.inside; opened = refl; closed = f.is } }; longest = string_longest f.inside f.after f.values f.is; apart = λ c. absurd cc };
      len = ap (λ n. 1 + n) f.len ∙ omega arith;
      some = omega arith;
    })

read_symbol : (text : List ℕ) (x : TokenKind × ℕ) → begins is_word_byte text ≡ false → begins (λ b. eqb b 34) text ≡ false → option_map (λ y. (kinds.Symbol y.0, y.1)) (punctuator_at text) ≡ Some x → TokenFront text x
read_symbol text x no_word no_quote h =
    let m = map_some (λ y. (kinds.Symbol y.0, y.1)) (punctuator_at text) x h in
    let f = punctuator_front text m.0 m.1 in
    let s = m.0.0 in
    let pair : m.0 ≡ (s, length (spelling s)) = ap (λ n. (s, n)) f.len in
    let found : punctuator_at (spelling s ++ f.after) ≡ Some (s, length (spelling s)) = ap punctuator_at (sym f.whole) ∙ m.1 ∙ ap Some pair in
    let long = leb-true 1 _ (spelling_some s) in
    subst (TokenFront text) m.2 (record {
      bytes = spelling s;
      after = f.after;
      whole = f.whole;
      is = record { spelled = refl; longest = punctuator_longest s f.after (ap (begins is_word_byte) (sym f.whole) ∙ no_word) (ap (begins (λ b. eqb b 34)) (sym f.whole) ∙ no_quote) found; apart = λ c. absurd cc };
      len = f.len;
      some = omega arith;
    })

pub token_front : (s : List ℕ) (x : TokenKind × ℕ) → token_at s ≡ Some x → TokenFront s x
unfolding token_at
token_front [] x e = absurd cc
token_front (b ∷ text) x e =
    ⊎_elim
    (λ h. read_word b text x h.0 h.1)
    (λ h. ⊎_elim
    (λ k. read_number b text x k.0 k.1)
    (λ k. ⊎_elim
    (λ q. subst (λ (n : ℕ). TokenFront (n ∷ text) x) (sym (eqb-true b 34 q.0)) (read_string text x q.1))
    (λ q. read_symbol (b ∷ text) x (word_is b h.0 k.0) q.0 q.1)
    (either_way _ _ _ x k.1))
    (either_way _ _ _ x h.1))
    (either_way _ _ _ x e)

-- ---- the token is read

-- no byte of a word follows a word that is a token
word_stops : (kind : TokenKind) (word after : List ℕ) → IsWord word → IsToken kind word after → begins is_word_byte after ≡ false
word_stops kind word [] is token = refl
word_stops kind word (c ∷ after) is token = false_from_ne_true _ (λ e.
    let longer = word ++ c ∷ [] in
    let each : list_all is_word_byte longer ≡ true = list_all-both is_word_byte word (c ∷ []) is.each (ap (λ (b : Bool). b && true) e) in
    let is_longer : IsWord longer = record { first = goes_on is_word_start word (c ∷ []) is.first; each = each } in
    let same : word ++ (c ∷ after) ≡ longer ++ after = sym (append_assoc word (c ∷ []) after) in
    let l = token.longest (option_map_or kinds.Symbol (keyword_of longer) kinds.Identifier) longer after same (word_spelled longer (keyword_of longer) is_longer refl) in
    let m = length-append word (c ∷ []) in
    absurd (omega arith))

token_by_word : (t : List ℕ) → begins is_word_start t ≡ true → token_at t ≡ Some (word_kind (take (word_len t) t), word_len t)
unfolding token_at
token_by_word [] e = absurd cc
token_by_word (b ∷ text) e = rw e refl

token_by_digit : (t : List ℕ) → begins is_word_start t ≡ false → begins is_ascii_digit t ≡ true → token_at t ≡ option_map (λ value. (kinds.Constant value, word_len t)) (constant_value (take (word_len t) t))
unfolding token_at
token_by_digit [] e d = absurd cc
token_by_digit (b ∷ text) e d = rw (e, d) refl

quote_not : (b : ℕ) → eqb b 34 ≡ true → (is_word_start b ≡ false) × (is_ascii_digit b ≡ false)
unfolding is_word_start
quote_not b e = (ap is_word_start (eqb-true b 34 e), ap is_ascii_digit (eqb-true b 34 e))

token_by_quote : (text : List ℕ) → token_at (34 ∷ text) ≡ option_map (λ n. (kinds.String, 1 + n)) (string_len text)
unfolding token_at is_word_start
token_by_quote text = refl

token_by_symbol : (t : List ℕ) → begins is_word_start t ≡ false → begins is_ascii_digit t ≡ false → begins (λ b. eqb b 34) t ≡ false → token_at t ≡ option_map (λ x. (kinds.Symbol x.0, x.1)) (punctuator_at t)
unfolding token_at punctuator_at
token_by_symbol [] e d q = refl
token_by_symbol (b ∷ text) e d q = rw (e, d, q) refl

-- what the reader makes of a token
pub record IsRead (kind : TokenKind) (bytes after : List ℕ) : Type 0 where
  pub read : token_at (bytes ++ after) ≡ Some (kind, length bytes)
  pub some : 0 < length bytes
  pub no_blank : begins is_blank bytes ≡ false
  pub no_slash : begins (λ b. eqb b 47) bytes ≡ false

word_is_read : (kind : TokenKind) (word after : List ℕ) → IsWord word → IsToken kind word after → word_kind word ≡ kind → IsRead kind word after
word_is_read kind word after is token k =
    let stops = word_stops kind word after is token in
    let len = prefix_len_at is_word_byte word after is.each stops in
    let a = at_first is_word_start word is.first in
    let l = ap length a.2 in
    let first : begins is_word_start (word ++ after) ≡ true = ap (λ s. begins is_word_start (s ++ after)) a.2 ∙ a.3 in
    record {
      read = token_by_word (word ++ after) first
          ∙ ap (λ n. Some (word_kind (take n (word ++ after)), n)) len
          ∙ ap (λ s. Some (word_kind s, length word)) (take_at word after (length word) refl)
          ∙ ap (λ j. Some (j, length word)) k;
      some = omega arith;
      no_blank = not_both is_word_start is_blank (λ b h. (start_is_apart b h).0) word is.first;
      no_slash = not_both is_word_start (λ b. eqb b 47) (λ b h. (start_is_apart b h).1) word is.first;
    }

identifier_is_read : (word after : List ℕ) → IsToken kinds.Identifier word after → IsRead kinds.Identifier word after
unfolding word_kind
identifier_is_read word after token =
    word_is_read kinds.Identifier word after token.spelled.word token (none (keyword_of word) refl)
  where
    none : (o : Option Symbol) → keyword_of word ≡ o → option_map_or kinds.Symbol (keyword_of word) kinds.Identifier ≡ kinds.Identifier
    none None e = ap (λ o. option_map_or kinds.Symbol o kinds.Identifier) e
    none (Some s) e = absurd (token.spelled.no_keyword s (keyword_spelled word s e))

constant_is_read : (value : ℕ) (bytes after : List ℕ) → IsToken (kinds.Constant value) bytes after → IsRead (kinds.Constant value) bytes after
constant_is_read value bytes after token =
    let first = constant_begins bytes value token.spelled in
    let each = constant_is_word bytes value token.spelled in
    let len = prefix_len_at is_word_byte bytes after each (token.apart refl) in
    let a = at_first is_ascii_digit bytes first in
    let l = ap length a.2 in
    let facts = digit_is_apart a.0 a.3 in
    record {
      read = token_by_digit (bytes ++ after) (ap (λ s. begins is_word_start (s ++ after)) a.2 ∙ facts.2) (ap (λ s. begins is_ascii_digit (s ++ after)) a.2 ∙ a.3)
          ∙ ap (λ n. option_map (λ v. (kinds.Constant v, n)) (constant_value (take n (bytes ++ after)))) len
          ∙ ap (λ s. option_map (λ v. (kinds.Constant v, length bytes)) (constant_value s)) (take_at bytes after (length bytes) refl)
          ∙ ap (option_map (λ v. (kinds.Constant v, length bytes))) (constant_value-is bytes value token.spelled);
      some = omega arith;
      no_blank = not_both is_ascii_digit is_blank (λ b h. (digit_is_apart b h).0) bytes first;
      no_slash = not_both is_ascii_digit (λ b. eqb b 47) (λ b h. (digit_is_apart b h).1) bytes first;
    }

string_is_read : (bytes after : List ℕ) → IsToken kinds.String bytes after → IsRead kinds.String bytes after
unfolding is_blank
string_is_read bytes after token =
    let is = token.spelled in
    subst (λ s. IsRead kinds.String s after) (sym is.stands.opened) (record {
      read = token_by_quote (is.stands.inside ++ after) ∙ ap (option_map (λ n. (kinds.String, 1 + n))) (string_len-is after is.stands.closed) ∙ ap (λ n. Some (kinds.String, n)) (one_more (length is.stands.inside));
      some = omega arith;
      no_blank = refl;
      no_slash = refl;
    })
  where
    one_more : (n : ℕ) → 1 + n ≡ suc n
    one_more n = omega arith

spelled_front : (p : ℕ → Bool) (v : Bool) (s : Symbol) (after : List ℕ) → begins p (spelling s) ≡ v → begins p (spelling s ++ after) ≡ v
spelled_front p v s after e = begins-append p (spelling s) after (leb-true 1 _ (spelling_some s)) ∙ e

punctuator_is_read : (s : Symbol) (after : List ℕ) → IsToken (kinds.Symbol s) (spelling s) after → begins is_word_start (spelling s) ≡ false → IsRead (kinds.Symbol s) (spelling s) after
punctuator_is_read s after token no_start = record {
  read = token_by_symbol (spelling s ++ after) (spelled_front is_word_start false s after no_start) (spelled_front is_ascii_digit false s after (spelling_no_digit s)) (spelled_front (λ b. eqb b 34) false s after (spelling_no_quote s))
      ∙ ap (option_map (λ x. (kinds.Symbol x.0, x.1))) (punctuator_found s after (λ longer rest e. token.longest (kinds.Symbol longer) (spelling longer) rest e refl) ∙ ap (λ b. cond b None (Some (s, length (spelling s)))) no_start);
  some = leb-true 1 _ (spelling_some s);
  no_blank = spelling_no_blank s;
  no_slash = spelling_no_slash s;
}

keyword_is_read : (s : Symbol) (after : List ℕ) → IsToken (kinds.Symbol s) (spelling s) after → begins is_word_start (spelling s) ≡ true → IsRead (kinds.Symbol s) (spelling s) after
unfolding word_kind
keyword_is_read s after token start =
    word_is_read (kinds.Symbol s) (spelling s) after (record { first = start; each = spelling_word s start }) token
    (ap (λ o. option_map_or kinds.Symbol o kinds.Identifier) (keyword_found s ∙ ap (λ b. cond b (Some s) None) start))

pub token_is_read : (kind : TokenKind) (bytes after : List ℕ) → IsToken kind bytes after → IsRead kind bytes after
token_is_read kinds.Identifier bytes after token = identifier_is_read bytes after token
token_is_read (kinds.Constant value) bytes after token = constant_is_read value bytes after token
token_is_read kinds.String bytes after token = string_is_read bytes after token
token_is_read (kinds.Symbol s) bytes after token =
    subst (λ t. IsRead (kinds.Symbol s) t after) (sym token.spelled)
    (let spelled = subst (λ t. IsToken (kinds.Symbol s) t after) token.spelled token in
    ⊎_elim (keyword_is_read s after spelled) (punctuator_is_read s after spelled) (cases_Bool (begins is_word_start (spelling s))))
