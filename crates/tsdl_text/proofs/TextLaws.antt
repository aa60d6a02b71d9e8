-- A text has one list of tokens, or one place where no token begins.
use Rattle.std.proofs.Common.{◌≡◌, ℕ, zero, suc, ◌<◌, ◌≤◌, cond, List, [], ◌∷◌, ◌++◌, length, take, get_or, map, Option, Some, None, refl, sym, ap, subst, ◌∙◌, arith, ◌⊎◌, inl, inr, ⊎_elim, eqb}
use Rattle.std.specs.List.Sorted.{IsNonDecreasing}
use Rattle.std.proofs.lemmas.List.{append-nil, take_at, append_cancel_left}
use Rattle.std.proofs.lemmas.List.Sums.{sum_by-append}
use Rattle.ctf_list.specs.Row.{NothingStands}
use Rattle.ctf_list.proofs.Row.{AreTold, nothing_at_end, one_row, Front, row}
use Rattle.tsdl_text.specs.declared.token.TokenKind.{TokenKind}
use Rattle.tsdl_text.specs.declared.lexer.Extent.{Extent}
use Rattle.tsdl_text.specs.Tokens.{Piece, Stands, joined, AllPieces, Lexeme, lexemes, line_after, Lexes, NoToken}
use Rattle.tsdl_text.specs.Scanning.{piece_at}
use Rattle.std.proofs.lemmas.Option.{same_Some}
use Rattle.tsdl_text.proofs.PieceLaws.{piece_front, piece_is_read}
use Rattle.tsdl_text.proofs.Lexing.{nothing_stands, piece_token}

-- ---- one piece at a place

same_extent : (p q : Extent) → p ≡ q → (p.kind ≡ q.kind) × (p.len ≡ q.len)
same_extent p q e = (ap (λ (x : Extent). x.kind) e, ap (λ (x : Extent). x.len) e)

-- two pieces that are at one place are one
pub one_piece : (p q : Piece) (s t : List ℕ) → Stands p s → Stands q t → p.bytes ++ s ≡ q.bytes ++ t → (p ≡ q) × (s ≡ t)
one_piece p q s t a b e =
    let r = piece_is_read p s a in
    let u = piece_is_read q t b in
    let same = same_extent _ _ (same_Some _ _ (sym r.read ∙ ap piece_at e ∙ u.read)) in
    let bytes : p.bytes ≡ q.bytes = sym (take_at p.bytes s (length p.bytes) refl) ∙ ap (take (length p.bytes)) e ∙ take_at q.bytes t (length p.bytes) (sym same.1) in
    (pieces_are p.kind q.kind p.bytes q.bytes same.0 bytes, append_cancel_left q.bytes s t (ap (λ bs. bs ++ s) (sym bytes) ∙ e))
  where
    pieces_are : (k l : Option TokenKind) (x y : List ℕ) → k ≡ l → x ≡ y → ◌≡◌ {A = Piece} (record { kind = k; bytes = x }) (record { kind = l; bytes = y })
    pieces_are k l x y e f = cc

-- ---- the laws

told : AreTold (λ (p : Piece). p.bytes) Stands
told = record { some = λ p after stands. (piece_is_read p after stands).some; one = one_piece }

nothing_left : NothingStands (λ (p : Piece). p.bytes) Stands []
nothing_left = nothing_at_end (λ (p : Piece). p.bytes) Stands told

one_way : (ps qs : List Piece) (a b : List ℕ) → AllPieces ps a → AllPieces qs b → NothingStands (λ (p : Piece). p.bytes) Stands a → NothingStands (λ (p : Piece). p.bytes) Stands b → joined ps ++ a ≡ joined qs ++ b → (ps ≡ qs) × (a ≡ b)
one_way = one_row (λ (p : Piece). p.bytes) Stands told

pub one_lexing : (text : List ℕ) (first second : List Lexeme) → Lexes text first → Lexes text second → first ≡ second
one_lexing text first second f s =
    let same = one_way f.pieces s.pieces [] [] f.stand s.stand nothing_left nothing_left (ap (λ bs. bs ++ []) (f.whole ∙ sym s.whole)) in
    f.tokens_are ∙ ap (lexemes []) same.0 ∙ sym s.tokens_are

pub one_line : (text : List ℕ) (first second : ℕ) → NoToken text first → NoToken text second → first ≡ second
one_line text first second f s =
    let same = one_way f.pieces s.pieces f.after s.after f.stand s.stand f.nothing s.nothing (f.whole ∙ sym s.whole) in
    f.line_is ∙ ap (λ ps. line_after (joined ps)) same.0 ∙ sym s.line_is

pub never_both : (text : List ℕ) (tokens : List Lexeme) (line : ℕ) → Lexes text tokens → NoToken text line → ⊥
never_both text tokens line f s =
    let same = one_way f.pieces s.pieces [] s.after f.stand s.stand nothing_left s.nothing (append-nil (joined f.pieces) ∙ f.whole ∙ sym s.whole) in
    s.goes_on (sym same.1)

-- one piece more, or none
next_piece : (s : List ℕ) → Front (λ (p : Piece). p.bytes) Stands s ⊎ NothingStands (λ (p : Piece). p.bytes) Stands s
next_piece s = by (piece_at s) refl
  where
    by : (o : Option Extent) → piece_at s ≡ o → Front (λ (p : Piece). p.bytes) Stands s ⊎ NothingStands (λ (p : Piece). p.bytes) Stands s
    by None e = inr (nothing_stands s e)
    by (Some x) e = let f = piece_front s x e in inl (record { piece = record { kind = x.kind; bytes = f.bytes }; after = f.after; whole = f.whole; stands = f.stands; some = f.some })

pub lexes_or_not : (text : List ℕ) → ((tokens : List Lexeme) × Lexes text tokens) ⊎ ((line : ℕ) × NoToken text line)
lexes_or_not text =
    let r = row (λ (p : Piece). p.bytes) Stands (NothingStands (λ (p : Piece). p.bytes) Stands) (λ rest some. next_piece rest) text in
    ⊎_elim
    (λ z. inl (lexemes [] r.pieces, record { pieces = r.pieces; whole = sym (append-nil (joined r.pieces)) ∙ ap (λ a. joined r.pieces ++ a) (sym z) ∙ r.whole; stand = subst (AllPieces r.pieces) z r.stand; tokens_are = refl }))
    (λ h. inr (line_after (joined r.pieces), record { pieces = r.pieces; after = r.after; whole = r.whole; stand = r.stand; goes_on = h.0; nothing = h.1; line_is = refl }))
    r.ends

-- ---- lines

-- the lines rise from low on, or stay
abbrev Rise : ℕ → List Lexeme → Type 0
Rise low [] = Unit {0}
Rise low (token ∷ tokens) = (low ≤ token.line) × Rise token.line tokens

rise_from : (low high : ℕ) (tokens : List Lexeme) → low ≤ high → Rise high tokens → Rise low tokens
rise_from low high [] h r = tt
rise_from low high (token ∷ tokens) h r = let a = r.0 in (omega arith, r.1)

lines_after : (front bytes : List ℕ) → line_after front ≤ line_after (front ++ bytes)
lines_after front bytes = let e = sum_by-append (λ b. cond (eqb b 10) 1 0) front bytes in omega arith

rise_by : (front : List ℕ) (kind : Option TokenKind) (bytes : List ℕ) (rest : List Lexeme) → Rise (line_after (front ++ bytes)) rest → Rise (line_after front) (piece_token kind bytes (length front) (line_after front) ++ rest)
rise_by front None bytes rest r = rise_from _ _ rest (lines_after front bytes) r
rise_by front (Some kind) bytes rest r = (omega arith, rise_from _ _ rest (lines_after front bytes) r)

rise : (front : List ℕ) (pieces : List Piece) → Rise (line_after front) (lexemes front pieces)
rise front [] = tt
rise front (p ∷ pieces) = rise_by front p.kind p.bytes (lexemes (front ++ p.bytes) pieces) (rise (front ++ p.bytes) pieces)

abbrev lines : List Lexeme → List ℕ
lines tokens = map (λ (token : Lexeme). token.line) tokens

least : (low : ℕ) (tokens : List Lexeme) (j d : ℕ) → Rise low tokens → j < length (lines tokens) → low ≤ get_or (lines tokens) j d
least low [] j d r h = absurd (omega arith)
least low (token ∷ tokens) zero d r h = r.0
least low (token ∷ tokens) (suc j) d r h = let a = r.0 in let b = least token.line tokens j d r.1 (omega arith) in omega arith

ordered : (low : ℕ) (tokens : List Lexeme) (i j d : ℕ) → Rise low tokens → i ≤ j → j < length (lines tokens) → get_or (lines tokens) i d ≤ get_or (lines tokens) j d
ordered low [] i j d r h k = absurd (omega arith)
ordered low (token ∷ tokens) zero zero d r h k = omega arith
ordered low (token ∷ tokens) (suc i) zero d r h k = absurd (omega arith)
ordered low (token ∷ tokens) zero (suc j) d r h k = least token.line tokens j d r.1 (omega arith)
ordered low (token ∷ tokens) (suc i) (suc j) d r h k = ordered token.line tokens i j d r.1 (omega arith) (omega arith)

pub lines_never_fall : (text : List ℕ) (tokens : List Lexeme) → Lexes text tokens → IsNonDecreasing (map (λ token. token.line) tokens)
lines_never_fall text tokens l i j d h k =
    ordered 1 tokens i j d (subst (Rise 1) (sym l.tokens_are) (rise [] l.pieces)) h k
