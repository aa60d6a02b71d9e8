-- Reading the piece at a place is what the definition of pieces says.
use Rattle.std.proofs.Common.{◌≡◌, ℕ, ◌+◌, ◌<◌, Bool, true, false, cond, not, ◌&&◌, List, [], ◌∷◌, ◌++◌, length, take, Option, Some, None, refl, sym, ap, subst, ◌∙◌, arith, ⊎_elim, eqb}
use Rattle.std.specs.Prelude.{codes}
use Rattle.std.specs.Option.{option_map}
use Rattle.std.specs.Str.{bytes_eq}
use Rattle.std.proofs.lemmas.List.{length-append}
use Rattle.std.proofs.lemmas.Bool.{eqb-true, and_parts, false≢true, false_from_ne_true}
use Rattle.tsdl_text.specs.declared.token.TokenKind.{TokenKind}
use Rattle.tsdl_text.specs.declared.lexer.Extent.{Extent}
use Rattle.ctf_list.specs.Prefix.{begins}
use Rattle.tsdl_text.specs.Bytes.{is_blank}
use Rattle.tsdl_text.specs.Tokens.{IsToken, Skipped, blank, block, rest_of_line, Piece, Stands}
use Rattle.tsdl_text.specs.Scanning.{block_len, line_len, comment_len, token_at, skipped, token_of, piece_at}
use Rattle.ctf_list.proofs.Prefix.{prefix_len_at, prefix, begins-append}
use Rattle.std.proofs.lemmas.Option.{same_Some}
use Rattle.ctf_list.proofs.Options.{either_way, map_some}
use Rattle.tsdl_text.proofs.TokenLaws.{token_front, token_is_read}

-- ---- a comment up to its first end

-- it ends at its first `*/`
abbrev EndsFirst : List ℕ → Type 0
EndsFirst inside = (front rest : List ℕ) → inside ++ codes "*/" ≡ (front ++ codes "*/") ++ rest → rest ≡ []

ends_at_once : EndsFirst []
ends_at_once front rest e =
    let l = ap length e in
    let m = length-append (front ++ codes "*/") rest in
    let n = length-append front (codes "*/") in
    nil (length rest) rest refl (omega arith)
  where
    nil : (n : ℕ) (rest : List ℕ) → length rest ≡ n → n ≡ 0 → rest ≡ []
    nil n [] e h = refl
    nil n (b ∷ rest) e h = absurd (omega arith)

later_end : (a : ℕ) (inside : List ℕ) → EndsFirst (a ∷ inside) → EndsFirst inside
later_end a inside first front rest e = first (a ∷ front) rest (ap (λ t. a ∷ t) e)

-- the two bytes of `*/`
end_parts : (a b : ℕ) (t : List ℕ) → bytes_eq (codes "*/") (take 2 (a ∷ b ∷ t)) ≡ true → (a ≡ 42) × (b ≡ 47)
end_parts a b t e =
    let parts = and_parts (eqb 42 a) (eqb 47 b && true) e in
    let more = and_parts (eqb 47 b) true parts.1 in
    (sym (eqb-true 42 a parts.0), sym (eqb-true 47 b more.0))

-- `*/` is at the front
at_end : (t : List ℕ) → bytes_eq (codes "*/") (take 2 t) ≡ true → (rest : List ℕ) × (t ≡ codes "*/" ++ rest)
at_end [] e = absurd cc
at_end (a ∷ []) e = let parts = and_parts (eqb 42 a) false e in absurd (false≢true parts.1)
at_end (a ∷ b ∷ t) e = let p = end_parts a b t e in (t, ap (λ (n : ℕ). n ∷ b ∷ t) p.0 ∙ ap (λ (n : ℕ). 42 ∷ n ∷ t) p.1)

-- the end is not where the comment goes on
not_yet : (a : ℕ) (inside after : List ℕ) → EndsFirst (a ∷ inside) → bytes_eq (codes "*/") (take 2 (a ∷ ((inside ++ codes "*/") ++ after))) ≡ true → ⊥
not_yet a [] after first e =
    let p = end_parts a 42 (47 ∷ after) e in omega (arith, p.1)
not_yet a (b ∷ inside) after first e =
    let p = end_parts a b ((inside ++ codes "*/") ++ after) e in
    let z = first [] (inside ++ codes "*/") (ap (λ (n : ℕ). n ∷ b ∷ (inside ++ codes "*/")) p.0 ∙ ap (λ (n : ℕ). 42 ∷ n ∷ (inside ++ codes "*/")) p.1) in
    let l = ap length z in
    let m = length-append inside (codes "*/") in
    omega (arith, l, m)

block_step : (a : ℕ) (t : List ℕ) (b : Bool) → bytes_eq (codes "*/") (take 2 (a ∷ t)) ≡ b → block_len (a ∷ t) ≡ cond b (Some 2) (option_map (λ n. 1 + n) (block_len t))
unfolding block_len
block_step a t b e = ap (λ c. cond c (Some 2) (option_map (λ n. 1 + n) (block_len t))) e

pub block_len-is : (inside after : List ℕ) → EndsFirst inside → block_len ((inside ++ codes "*/") ++ after) ≡ Some (length inside + 2)
block_len-is [] after first = block_step 42 (47 ∷ after) true refl
block_len-is (a ∷ inside) after first =
    block_step a ((inside ++ codes "*/") ++ after) false (false_from_ne_true _ (not_yet a inside after first))
    ∙ ap (option_map (λ n. 1 + n)) (block_len-is inside after (later_end a inside first))
    ∙ ap Some (omega arith)

-- the inside of a comment at the front
record BlockFront (t : List ℕ) (n : ℕ) : Type 0 where
  inside : List ℕ
  after : List ℕ
  whole : t ≡ (inside ++ codes "*/") ++ after
  first : EndsFirst inside
  len : n ≡ length inside + 2

heads_are : (a b : ℕ) (s t : List ℕ) → a ∷ s ≡ b ∷ t → (a ≡ b) × (s ≡ t)
heads_are a b s t e = (cc, cc)

-- one more byte, at which the end is not
longer_first : (a : ℕ) (inside after : List ℕ) → bytes_eq (codes "*/") (take 2 (a ∷ ((inside ++ codes "*/") ++ after))) ≡ false → EndsFirst inside → EndsFirst (a ∷ inside)
longer_first a inside after no_end first [] rest e =
    let heads = heads_are a 42 (inside ++ codes "*/") (47 ∷ rest) e in
    let x = heads.0 in
    let tails = heads.1 in
    let here : bytes_eq (codes "*/") (take 2 (a ∷ ((inside ++ codes "*/") ++ after))) ≡ true = ap (λ (n : ℕ). bytes_eq (codes "*/") (take 2 (n ∷ ((inside ++ codes "*/") ++ after)))) x ∙ ap (λ t. bytes_eq (codes "*/") (take 2 (42 ∷ (t ++ after)))) tails in
    absurd cc
longer_first a inside after no_end first (c ∷ front) rest e = first front rest (heads_are a c (inside ++ codes "*/") ((front ++ codes "*/") ++ rest) e).1

block_front_by : (a : ℕ) (t : List ℕ) (n : ℕ) (b : Bool) → bytes_eq (codes "*/") (take 2 (a ∷ t)) ≡ b → ((k : ℕ) → block_len t ≡ Some k → BlockFront t k) → cond b (Some 2) (option_map (λ k. 1 + k) (block_len t)) ≡ Some n → BlockFront (a ∷ t) n
block_front_by a t n true e later h =
    let f = at_end (a ∷ t) e in
    record { inside = []; after = f.0; whole = f.1; first = ends_at_once; len = sym (same_Some 2 n h) }
block_front_by a t n false e later h =
    let m = map_some (λ k. 1 + k) (block_len t) n h in
    let f = later m.0 m.1 in
    record {
      inside = a ∷ f.inside;
      after = f.after;
      whole = ap (λ u. a ∷ u) f.whole;
      first = longer_first a f.inside f.after (ap (λ u. bytes_eq (codes "*/") (take 2 (a ∷ u))) (sym f.whole) ∙ e) f.first;
      len = omega (arith, m.2, f.len);
    }

block_front : (t : List ℕ) (n : ℕ) → block_len t ≡ Some n → BlockFront t n
unfolding block_len
block_front [] n e = absurd cc
block_front (a ∷ t) n e = block_front_by a t n (bytes_eq (codes "*/") (take 2 (a ∷ t))) refl (block_front t) e

-- ---- the piece at the front

pub record PieceFront (s : List ℕ) (x : Extent) : Type 0 where
  pub bytes : List ℕ
  pub after : List ℕ
  pub whole : s ≡ bytes ++ after
  pub stands : Stands (record { kind = x.kind; bytes = bytes }) after
  pub len : x.len ≡ length bytes
  pub some : 0 < length bytes

read_block : (text : List ℕ) (n : ℕ) → option_map (λ k. k + 1) (block_len text) ≡ Some n → PieceFront (47 ∷ 42 ∷ text) (skipped (1 + n))
read_block text n e =
    let m = map_some (λ k. k + 1) (block_len text) n e in
    let f = block_front text m.0 m.1 in
    let l = length-append f.inside (codes "*/") in
    record {
      bytes = codes "/*" ++ (f.inside ++ codes "*/");
      after = f.after;
      whole = ap (λ t. 47 ∷ 42 ∷ t) f.whole;
      stands = block f.inside f.first;
      len = omega (arith, m.2, f.len);
      some = omega arith;
    }

read_line : (text : List ℕ) (n : ℕ) → Some (1 + line_len text) ≡ Some n → PieceFront (47 ∷ 47 ∷ text) (skipped (1 + n))
read_line text n e =
    let r = prefix (λ b. not (eqb b 10)) text in
    let n_is = same_Some (1 + line_len text) n e in
    let l = r.len in
    record {
      bytes = codes "//" ++ r.front;
      after = r.back;
      whole = ap (λ t. 47 ∷ 47 ∷ t) r.whole;
      stands = rest_of_line r.all r.stops;
      len = omega arith;
      some = omega arith;
    }

read_comment : (text : List ℕ) (n : ℕ) → comment_len text ≡ Some n → PieceFront (47 ∷ text) (skipped (1 + n))
unfolding comment_len
read_comment [] n e = absurd cc
read_comment (b ∷ text) n e =
    ⊎_elim
    (λ h. subst (λ (k : ℕ). PieceFront (47 ∷ k ∷ text) (skipped (1 + n))) (sym (eqb-true b 42 h.0)) (read_block text n h.1))
    (λ h. ⊎_elim
    (λ k. subst (λ (j : ℕ). PieceFront (47 ∷ j ∷ text) (skipped (1 + n))) (sym (eqb-true b 47 k.0)) (read_line text n k.1))
    (λ k. absurd (nothing n k.1))
    (either_way (eqb b 47) (Some (1 + line_len text)) None n h.1))
    (either_way (eqb b 42) (option_map (λ k. k + 1) (block_len text)) (cond (eqb b 47) (Some (1 + line_len text)) None) n e)
  where
    nothing : (n : ℕ) → ◌≡◌ {A = Option ℕ} None (Some n) → ⊥
    nothing n e = cc

blank_front : (b : ℕ) (text : List ℕ) → is_blank b ≡ true → PieceFront (b ∷ text) (skipped 1)
blank_front b text e = record { bytes = b ∷ []; after = text; whole = refl; stands = blank e; len = refl; some = omega arith }

pub piece_front : (s : List ℕ) (x : Extent) → piece_at s ≡ Some x → PieceFront s x
unfolding piece_at
piece_front [] x e = absurd cc
piece_front (b ∷ text) x e =
    ⊎_elim
    (λ h. subst (PieceFront (b ∷ text)) (same_Some (skipped 1) x h.1) (blank_front b text h.0))
    (λ h. ⊎_elim
    (λ k. let m = map_some (λ n. skipped (1 + n)) (comment_len text) x k.1 in
    subst (λ (n : ℕ). PieceFront (n ∷ text) x) (sym (eqb-true b 47 k.0)) (subst (PieceFront (47 ∷ text)) m.2 (read_comment text m.0 m.1)))
    (λ k. let m = map_some token_of (token_at (b ∷ text)) x k.1 in
    let f = token_front (b ∷ text) m.0 m.1 in
    subst (PieceFront (b ∷ text)) m.2 (record { bytes = f.bytes; after = f.after; whole = f.whole; stands = f.is; len = f.len; some = f.some }))
    (either_way (eqb b 47) (option_map (λ n. skipped (1 + n)) (comment_len text)) (option_map token_of (token_at (b ∷ text))) x h.1))
    (either_way (is_blank b) (Some (skipped 1)) (cond (eqb b 47) (option_map (λ n. skipped (1 + n)) (comment_len text)) (option_map token_of (token_at (b ∷ text)))) x e)

-- ---- the piece is read

pub record PieceRead (piece : Piece) (after : List ℕ) : Type 0 where
  pub read : piece_at (piece.bytes ++ after) ≡ Some (record { kind = piece.kind; len = length piece.bytes })
  pub some : 0 < length piece.bytes

piece_by_token : (t : List ℕ) → begins is_blank t ≡ false → begins (λ b. eqb b 47) t ≡ false → piece_at t ≡ option_map token_of (token_at t)
unfolding piece_at token_at
piece_by_token [] e f = refl
piece_by_token (b ∷ text) e f = rw (e, f) refl

piece_by_blank : (b : ℕ) (text : List ℕ) → is_blank b ≡ true → piece_at (b ∷ text) ≡ Some (skipped 1)
unfolding piece_at
piece_by_blank b text e = rw e refl

piece_by_slash : (text : List ℕ) → piece_at (47 ∷ text) ≡ option_map (λ n. skipped (1 + n)) (comment_len text)
unfolding piece_at is_blank
piece_by_slash text = refl

comment_block : (text : List ℕ) → comment_len (42 ∷ text) ≡ option_map (λ n. n + 1) (block_len text)
unfolding comment_len
comment_block text = refl

comment_line : (text : List ℕ) → comment_len (47 ∷ text) ≡ Some (1 + line_len text)
unfolding comment_len
comment_line text = refl

skipped_is_read : {bytes after : List ℕ} → Skipped bytes after → PieceRead (record { kind = None; bytes = bytes }) after
skipped_is_read (blank {b} {after} e) = record { read = piece_by_blank b after e; some = omega arith }
skipped_is_read (block inside {after} first) =
    let l = length-append inside (codes "*/") in
    record {
      read = piece_by_slash (42 ∷ ((inside ++ codes "*/") ++ after))
          ∙ ap (option_map (λ n. skipped (1 + n))) (comment_block ((inside ++ codes "*/") ++ after) ∙ ap (option_map (λ n. n + 1)) (block_len-is inside after first))
          ∙ ap (λ n. Some (skipped n)) (omega arith);
      some = omega arith;
    }
skipped_is_read (rest_of_line {inside} {after} all stops) = record {
  read = piece_by_slash (47 ∷ (inside ++ after))
      ∙ ap (option_map (λ n. skipped (1 + n))) (comment_line (inside ++ after) ∙ ap (λ n. Some (1 + n)) (prefix_len_at (λ b. not (eqb b 10)) inside after all stops))
      ∙ ap (λ n. Some (skipped n)) (omega arith);
  some = omega arith;
}

token_piece : (kind : TokenKind) (bytes after : List ℕ) → IsToken kind bytes after → PieceRead (record { kind = Some kind; bytes = bytes }) after
token_piece kind bytes after token =
    let r = token_is_read kind bytes after token in
    record {
      read = piece_by_token (bytes ++ after) (begins-append is_blank bytes after r.some ∙ r.no_blank) (begins-append (λ b. eqb b 47) bytes after r.some ∙ r.no_slash) ∙ ap (option_map token_of) r.read;
      some = r.some;
    }

by_kind : (kind : Option TokenKind) (bytes after : List ℕ) → Stands (record { kind = kind; bytes = bytes }) after → PieceRead (record { kind = kind; bytes = bytes }) after
by_kind None bytes after stands = skipped_is_read stands
by_kind (Some kind) bytes after stands = token_piece kind bytes after stands

pub piece_is_read : (piece : Piece) (after : List ℕ) → Stands piece after → PieceRead piece after
piece_is_read piece after stands = by_kind piece.kind piece.bytes after stands
