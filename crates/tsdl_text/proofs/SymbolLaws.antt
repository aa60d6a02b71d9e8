-- Keywords and punctuators by their spellings.
use Rattle.std.proofs.Common.{◌≡◌, ℕ, ◌≤◌, Bool, true, false, cond, ◌&&◌, ◌||◌, List, [], ◌∷◌, ◌++◌, length, drop, Some, None, refl, sym, ap, subst, ◌∙◌, arith, ⊎_elim, eqb, leb}
use Rattle.std.specs.Option.{option_map}
use Rattle.std.specs.List.{find, list_all}
use Rattle.std.specs.Str.{bytes_eq}
use Rattle.std.specs.Char.{is_ascii_digit}
use Rattle.std.proofs.lemmas.Bool.{eqb-true, leb-true, and_parts}
use Rattle.std.proofs.lemmas.Slice.Eq.{bytes_eq-Decides}
use Rattle.tsdl_text.specs.declared.token.Symbol.{Symbol}
use Rattle.tsdl_text.specs.declared.token.Symbol.TheVariants as symbols
use Rattle.tsdl_text.specs.Symbols.{spelling}
use Rattle.ctf_list.specs.Prefix.{begins}
use Rattle.tsdl_text.specs.Bytes.{is_word_start, is_word_byte, is_blank}
use Rattle.tsdl_text.specs.Scanning.{keywords_with, keyword_of, single, begins_with, is_ellipsis, is_assign, first_single, punctuator_at}
use Rattle.std.proofs.lemmas.Option.{same_Some}
use Rattle.ctf_list.proofs.Options.{either_way, by_arm, map_some}

-- ---- keywords

find_passes : (p : Symbol → Bool) (all : List Symbol) (s : Symbol) → find p all ≡ Some s → p s ≡ true
find_passes p [] s e = absurd cc
find_passes p (x ∷ all) s e =
    ⊎_elim (λ h. ap p (sym (same_Some x s h.1)) ∙ h.0) (λ h. find_passes p all s h.1) (either_way (p x) (Some x) (find p all) s e)

pub keyword_spelled : (word : List ℕ) (s : Symbol) → keyword_of word ≡ Some s → word ≡ spelling s
unfolding keyword_of
keyword_spelled word s e = sym ((bytes_eq-Decides (spelling s) word).0 (find_passes (λ symbol. bytes_eq (spelling symbol) word) _ s e))

-- each keyword is found by its spelling, and no punctuator
pub keyword_found : (s : Symbol) → keyword_of (spelling s) ≡ cond (begins is_word_start (spelling s)) (Some s) None
unfolding keyword_of keywords_with is_word_start
keyword_found symbols.Align = refl
keyword_found s = refl

-- ---- what spellings are made of

pub spelling_word : (s : Symbol) → begins is_word_start (spelling s) ≡ true → list_all is_word_byte (spelling s) ≡ true
unfolding is_word_start is_word_byte
spelling_word symbols.Align e = e
spelling_word s e = e

pub spelling_start : (s : Symbol) → begins is_word_byte (spelling s) ≡ true → begins is_word_start (spelling s) ≡ true
unfolding is_word_start is_word_byte
spelling_start symbols.Align e = e
spelling_start s e = e

pub spelling_no_quote : (s : Symbol) → begins (λ b. eqb b 34) (spelling s) ≡ false
spelling_no_quote symbols.Align = refl
spelling_no_quote s = refl

pub spelling_no_digit : (s : Symbol) → begins is_ascii_digit (spelling s) ≡ false
spelling_no_digit symbols.Align = refl
spelling_no_digit s = refl

pub spelling_no_blank : (s : Symbol) → begins is_blank (spelling s) ≡ false
unfolding is_blank
spelling_no_blank symbols.Align = refl
spelling_no_blank s = refl

pub spelling_no_slash : (s : Symbol) → begins (λ b. eqb b 47) (spelling s) ≡ false
spelling_no_slash symbols.Align = refl
spelling_no_slash s = refl

pub spelling_some : (s : Symbol) → leb 1 (length (spelling s)) ≡ true
spelling_some symbols.Align = refl
spelling_some s = refl

-- ---- punctuators

spelled_by : (b k : ℕ) (known s : Symbol) → spelling known ≡ k ∷ [] → eqb b k ≡ true → Some known ≡ Some s → spelling s ≡ b ∷ []
spelled_by b k known s e t h = ap spelling (sym (same_Some known s h)) ∙ e ∙ ap (λ (n : ℕ). n ∷ []) (sym (eqb-true b k t))

single_spelled : (b : ℕ) (s : Symbol) → single b ≡ Some s → spelling s ≡ b ∷ []
unfolding single
single_spelled b s e =
    by_arm _ _ _ s (spelled_by b 123 symbols.OpenBrace s refl)
    (by_arm _ _ _ s (spelled_by b 125 symbols.CloseBrace s refl)
    (by_arm _ _ _ s (spelled_by b 91 symbols.OpenBracket s refl)
    (by_arm _ _ _ s (spelled_by b 93 symbols.CloseBracket s refl)
    (by_arm _ _ _ s (spelled_by b 40 symbols.OpenParen s refl)
    (by_arm _ _ _ s (spelled_by b 41 symbols.CloseParen s refl)
    (by_arm _ _ _ s (spelled_by b 60 symbols.Less s refl)
    (by_arm _ _ _ s (spelled_by b 62 symbols.Greater s refl)
    (by_arm _ _ _ s (spelled_by b 59 symbols.Semicolon s refl)
    (by_arm _ _ _ s (spelled_by b 58 symbols.Colon s refl)
    (by_arm _ _ _ s (spelled_by b 44 symbols.Comma s refl)
    (by_arm _ _ _ s (spelled_by b 46 symbols.Dot s refl)
    (by_arm _ _ _ s (spelled_by b 61 symbols.Equals s refl)
    (by_arm _ _ _ s (spelled_by b 43 symbols.Plus s refl)
    (by_arm _ _ _ s (spelled_by b 45 symbols.Minus s refl)
    (λ z. absurd cc))))))))))))))) e

-- the punctuator at the front
pub record PunctuatorFront (t : List ℕ) (x : Symbol × ℕ) : Type 0 where
  pub after : List ℕ
  pub whole : t ≡ spelling x.0 ++ after
  pub len : x.1 ≡ length (spelling x.0)

begun : (c : ℕ) (t : List ℕ) → begins_with c t ≡ true → t ≡ c ∷ drop 1 t
begun c [] e = absurd cc
begun c (b ∷ t) e = ap (λ (n : ℕ). n ∷ t) (eqb-true b c e)

ellipsis_front : (t : List ℕ) (x : Symbol × ℕ) → is_ellipsis t ≡ true → Some (symbols.Ellipsis, 3) ≡ Some x → PunctuatorFront t x
ellipsis_front t x e h =
    let parts = and_parts (begins_with 46 t) (begins_with 46 (drop 1 t) && begins_with 46 (drop 2 t)) e in
    let more = and_parts (begins_with 46 (drop 1 t)) (begins_with 46 (drop 2 t)) parts.1 in
    subst (PunctuatorFront t) (same_Some _ x h) (record {
      after = drop 1 (drop 2 t);
      whole = begun 46 t parts.0 ∙ ap (λ u. 46 ∷ u) (begun 46 (drop 1 t) more.0) ∙ ap (λ u. 46 ∷ 46 ∷ u) (two t ∙ begun 46 (drop 2 t) more.1);
      len = refl;
    })
  where
    two : (t : List ℕ) → drop 1 (drop 1 t) ≡ drop 2 t
    two [] = refl
    two (a ∷ t) = refl

assign_front : (t : List ℕ) (x : Symbol × ℕ) → is_assign t ≡ true → Some (symbols.Assign, 2) ≡ Some x → PunctuatorFront t x
assign_front t x e h =
    let parts = and_parts (begins_with 58 t) (begins_with 61 (drop 1 t)) e in
    subst (PunctuatorFront t) (same_Some _ x h) (record {
      after = drop 1 (drop 1 t);
      whole = begun 58 t parts.0 ∙ ap (λ u. 58 ∷ u) (begun 61 (drop 1 t) parts.1);
      len = refl;
    })

single_front : (t : List ℕ) (x : Symbol × ℕ) → option_map (λ symbol. (symbol, 1)) (first_single t) ≡ Some x → PunctuatorFront t x
single_front [] x e = absurd cc
single_front (b ∷ t) x e =
    let m = map_some (λ symbol. (symbol, 1)) (single b) x e in
    let spelled = single_spelled b m.0 m.1 in
    subst (PunctuatorFront (b ∷ t)) m.2 (record { after = t; whole = ap (λ u. u ++ t) (sym spelled); len = sym (ap length spelled) })

pub punctuator_front : (t : List ℕ) (x : Symbol × ℕ) → punctuator_at t ≡ Some x → PunctuatorFront t x
unfolding punctuator_at
punctuator_front t x e =
    by_arm _ _ _ x (ellipsis_front t x) (by_arm _ _ _ x (assign_front t x) (single_front t x)) e

-- where a punctuator is, one at least as long is found
reach_by : (word : Bool) (n k : ℕ) → (word || leb n 1) ≡ true → word ≡ false → 1 ≤ k → n ≤ k
reach_by true n k e h l = absurd cc
reach_by false n k e h l = let m = leb-true n 1 e in omega arith

positive : (t : List ℕ) (x : Symbol × ℕ) → punctuator_at t ≡ Some x → 1 ≤ x.1
positive t x e = let f = punctuator_front t x e in let s = leb-true 1 _ (spelling_some x.0) in omega (arith, f.len)

pub punctuator_reach : (s : Symbol) (after : List ℕ) (x : Symbol × ℕ) → begins is_word_start (spelling s) ≡ false → punctuator_at (spelling s ++ after) ≡ Some x → length (spelling s) ≤ x.1
unfolding is_word_start punctuator_at
punctuator_reach symbols.Ellipsis after x w e = let l : 3 ≡ x.1 = ap (λ (y : Symbol × ℕ). y.1) (same_Some _ x e) in omega arith
punctuator_reach symbols.Assign after x w e = let l : 2 ≡ x.1 = ap (λ (y : Symbol × ℕ). y.1) (same_Some _ x e) in omega arith
punctuator_reach s after x w e = reach_by (begins is_word_start (spelling s)) (length (spelling s)) x.1 refl w (positive (spelling s ++ after) x e)

-- a punctuator is found where no longer one is
pub punctuator_found : (s : Symbol) (after : List ℕ) → ((longer : Symbol) (rest : List ℕ) → spelling s ++ after ≡ spelling longer ++ rest → length (spelling longer) ≤ length (spelling s)) → punctuator_at (spelling s ++ after) ≡ cond (begins is_word_start (spelling s)) None (Some (s, length (spelling s)))
unfolding is_word_start punctuator_at single
punctuator_found symbols.Dot after longest =
    dots (begins_with 46 after && begins_with 46 (drop 1 after)) refl
  where
    dots : (b : Bool) → (begins_with 46 after && begins_with 46 (drop 1 after)) ≡ b → punctuator_at (46 ∷ after) ≡ Some (symbols.Dot, 1)
    dots true e =
        let parts = and_parts (begins_with 46 after) (begins_with 46 (drop 1 after)) e in
        let l = longest symbols.Ellipsis (drop 1 (drop 1 after)) (ap (λ u. 46 ∷ u) (begun 46 after parts.0) ∙ ap (λ u. 46 ∷ 46 ∷ u) (begun 46 (drop 1 after) parts.1)) in
        absurd (omega arith)
    dots false e = rw e refl
punctuator_found symbols.Colon after longest =
    equals (begins_with 61 after) refl
  where
    equals : (b : Bool) → begins_with 61 after ≡ b → punctuator_at (58 ∷ after) ≡ Some (symbols.Colon, 1)
    equals true e = let l = longest symbols.Assign (drop 1 after) (ap (λ u. 58 ∷ u) (begun 61 after e)) in absurd (omega arith)
    equals false e = rw e refl
punctuator_found s after longest = refl
