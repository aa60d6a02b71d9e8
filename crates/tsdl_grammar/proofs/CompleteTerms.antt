-- Words, numbers, settings and attributes that are spelled so are read.
use Rattle.std.proofs.Common.{◌≡◌, ℕ, zero, suc, ◌≤◌, Bool, true, false, List, ◌∷◌, ◌++◌, length, Ok, refl, sym, ap, append_assoc, arith}
use Rattle.std.proofs.lemmas.List.{length-append}
use Rattle.tsdl_text.specs.declared.token.Symbol.TheVariants as s
use Rattle.tsdl_text.specs.declared.token.Token.{Token}
use Rattle.tsdl_tree.specs.declared.tree.Number.{Number}
use Rattle.tsdl_tree.specs.declared.tree.Value.{Value}
use Rattle.tsdl_tree.specs.declared.tree.Value.TheVariants as values
use Rattle.tsdl_tree.specs.declared.tree.Setting.{Setting}
use Rattle.tsdl_grammar.specs.Terminals.{Word, Words, Is, IsIdentifier, IsConstant, IsWord}
use Rattle.tsdl_grammar.specs.Repeats.{Many}
use Rattle.tsdl_grammar.specs.Grammar.{IsPath, IsNumber, IsValue, IsSetting, AreAttributes}
use Rattle.tsdl_grammar.specs.Steps.{loop, begins, before_close}
use Rattle.tsdl_grammar.specs.Reading.{word_at, identifier_at, constant_at, dotted_at, path_at, magnitude_at, number_at, value_at, setting_after, setting_at, attributes_at}
use Rattle.tsdl_grammar.proofs.ComesTools.{Comes, comes_is, comes_then, comes_token, comes_open, comes_more, comes_end, many_come}
use Rattle.tsdl_grammar.proofs.Room.{is_other}
use Rattle.tsdl_grammar.proofs.ComesTokens.{past_is, past_none, word_by, word_other, string_no_word, symbol_no_string, constant_no_word, constant_no_string, constant_other}

-- ---- words

word_is : {t : Token} (ts : List Token) → IsWord t → word_at (t ∷ ts) ≡ Ok (t.text.now, ts)
unfolding word_at
word_is ts i = rw i.holds refl

pub identifier_is : {t : Token} (ts : List Token) → IsIdentifier t → identifier_at (t ∷ ts) ≡ Ok (t.text.now, ts)
unfolding identifier_at
identifier_is ts i = rw i.holds refl

pub constant_is : {t : Token} {n : ℕ} (ts : List Token) → IsConstant n t → constant_at (t ∷ ts) ≡ Ok (n, ts)
unfolding constant_at
constant_is ts i = rw i.holds refl

rest_comes : {ws : Words} {ts : List Token} → IsPath ws ts → (post : List Token) → begins s.Dot post ≡ false → (n : ℕ) → length ts ≤ n → (d : Token) → Is s.Dot d
    → Comes (loop (begins s.Dot) dotted_at n (d ∷ (ts ++ post))) (ws, post)
unfolding dotted_at
rest_comes (IsPath.last i) post z zero le d j = let never : ⊥ = omega arith in absurd never
rest_comes (IsPath.last i) post z (suc n) le d j = comes_more _ _ n j.holds (comes_token _ j (comes_is (word_is post i))) (comes_end _ _ n post z)
rest_comes (IsPath.more i e p) post z zero le d j = let never : ⊥ = omega arith in absurd never
rest_comes (IsPath.more i e p) post z (suc n) le d j =
    comes_more _ _ n j.holds (comes_token _ j (comes_is (word_is _ i))) (rest_comes p post z n (omega arith) _ e)

pub path_comes : {ws : Words} {ts : List Token} → IsPath ws ts → (post : List Token) → begins s.Dot post ≡ false → Comes (path_at (ts ++ post)) (ws, post)
unfolding path_at
path_comes (IsPath.last i) post z = comes_then _ (comes_is (word_is post i)) (comes_then _ (comes_end _ _ _ post z) (comes_is refl))
path_comes (IsPath.more {ts = ts} i e p) post z =
    comes_then _ (comes_is (word_is _ i)) (comes_then _ (rest_comes p post z _ (omega (arith, length-append ts post)) _ e) (comes_is refl))

-- ---- numbers and values

magnitude_comes : {c : Token} {n : ℕ} (is_negative : Bool) (post : List Token) → IsConstant n c → Comes (magnitude_at is_negative (c ∷ post)) (record { is_negative = is_negative; magnitude = n }, post)
unfolding magnitude_at
magnitude_comes is_negative post i = comes_then _ (comes_is (constant_is post i)) (comes_is refl)

pub number_comes : {n : Number} {ts : List Token} → IsNumber n ts → (post : List Token) → Comes (number_at (ts ++ post)) (n, post)
unfolding number_at
number_comes (IsNumber.constant {c = c} i) post =
    rw (constant_other s.Minus i, past_none s.Plus (c ∷ post) (constant_other s.Plus i)) (magnitude_comes false post i)
number_comes (IsNumber.plus {p = p} {c = c} j i) post = rw (is_other s.Minus j refl, past_is s.Plus p (c ∷ post) j) (magnitude_comes false post i)
number_comes (IsNumber.minus j i) post = rw j.holds (comes_token _ j (magnitude_comes true post i))

value_comes : {v : Value} {ts : List Token} → IsValue v ts → (post : List Token) → begins s.Dot post ≡ false → Comes (value_at (ts ++ post)) (v, post)
unfolding value_at
value_comes (IsValue.number (IsNumber.constant i)) post z =
    rw (constant_no_word i, constant_no_string i) (comes_then _ (number_comes (IsNumber.constant i) post) (comes_is refl))
value_comes (IsValue.number (IsNumber.plus j i)) post z =
    let w = word_by j in rw (w, symbol_no_string j) (comes_then _ (number_comes (IsNumber.plus j i) post) (comes_is refl))
value_comes (IsValue.number (IsNumber.minus j i)) post z =
    let w = word_by j in rw (w, symbol_no_string j) (comes_then _ (number_comes (IsNumber.minus j i) post) (comes_is refl))
value_comes (IsValue.string i) post z = rw (string_no_word i, i.holds) (comes_is (ap (λ (x : Word). Ok (values.Text x, post)) (sym i.value)))
value_comes (IsValue.name (IsPath.last i)) post z = rw i.holds (comes_then _ (path_comes (IsPath.last i) post z) (comes_is refl))
value_comes (IsValue.name (IsPath.more i e p)) post z = rw i.holds (comes_then _ (path_comes (IsPath.more i e p) post z) (comes_is refl))

-- ---- settings

pub setting_after_comes : {n : Words} {v : Value} {us : List Token} {e c : Token} (post : List Token) → Is s.Equals e → IsValue v us → Is s.Semicolon c → Comes (setting_after n (e ∷ (us ++ (c ∷ post)))) (record { name = n; value = v }, post)
unfolding setting_after
setting_after_comes {c = c} post i q j = comes_token _ i (comes_then _ (value_comes q (c ∷ post) (is_other s.Dot j refl)) (comes_token _ j (comes_is refl)))

pub setting_comes : {x : Setting} {ts : List Token} → IsSetting x ts → (post : List Token) → Comes (setting_at (ts ++ post)) (x, post)
unfolding setting_at
setting_comes (IsSetting.setting {us = us} {e = e} {c = c} p i q j) post =
    rw (append_assoc, append_assoc) (comes_then _ (path_comes p (e ∷ (us ++ (c ∷ post))) (is_other s.Dot i refl)) (setting_after_comes post i q j))

pub path_begins : {ws : Words} {ts : List Token} → IsPath ws ts → (post : List Token) → before_close (ts ++ post) ≡ true
path_begins (IsPath.last i) post = rw (word_other s.CloseBrace i refl) refl
path_begins (IsPath.more i e p) post = rw (word_other s.CloseBrace i refl) refl

pub setting_begins : {x : Setting} {ts : List Token} → IsSetting x ts → (post : List Token) → before_close (ts ++ post) ≡ true
setting_begins (IsSetting.setting p i q j) post = rw append_assoc (path_begins p _)

pub settings_come : {xs : List Setting} {ts : List Token} → Many IsSetting xs ts → (c : Token) (post : List Token) → Is s.CloseBrace c → (n : ℕ) → length ts ≤ n → Comes (loop before_close setting_at n (ts ++ (c ∷ post))) (xs, c ∷ post)
settings_come m c post j n le =
    many_come before_close setting_at refl (λ x ts p rest. setting_begins p rest) (λ x ts p rest. setting_comes p rest) m (c ∷ post) (rw j.holds refl) n le

pub attributes_come : {xs : List Setting} {ts : List Token} → AreAttributes xs ts → (d : ℕ) (post : List Token) → Comes (attributes_at d (ts ++ post)) (xs, post)
unfolding attributes_at
attributes_come (AreAttributes.attributes {ts = ts} {c = c} i m j) d post =
    rw append_assoc (comes_open d _ i (comes_then _ (settings_come m c post j _ (omega (arith, length-append ts (c ∷ post)))) (comes_token _ j (comes_is refl))))
