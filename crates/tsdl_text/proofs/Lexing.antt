-- Cutting a text into pieces from its start.
use Rattle.std.proofs.Common.{◌≡◌, ℕ, ◌+◌, ◌<◌, ◌≤◌, cond, List, [], ◌∷◌, ◌++◌, length, take, drop, map, Option, Some, None, refl, sym, ap, subst, ◌∙◌, arith, append_assoc, take-add, eqb}
use Rattle.std.specs.Option.{option_map, option_to_list}
use Rattle.std.proofs.lemmas.List.{append-nil, length-append, length-drop, length-take-le, take_all, take_at, drop_at, drop-drop, map-append, take-append-drop, drop_all}
use Rattle.std.proofs.lemmas.List.Sums.{sum_by-append}
use Rattle.std.proofs.lemmas.Option.{none-some}
use Rattle.ctf_list.specs.Row.{NothingStands}
use Rattle.ctf_list.proofs.Row.{AllStand-push, flat_map-push}
use Rattle.tsdl_text.specs.declared.token.TokenKind.{TokenKind}
use Rattle.tsdl_text.specs.declared.token.Token.{Token}
use Rattle.tsdl_text.specs.declared.lexer.Extent.{Extent}
use Rattle.tsdl_text.specs.Tokens.{Piece, Stands, joined, AllPieces, Lexeme, lexeme, lexemes, newlines, line_after, Lexes, NoToken}
use Rattle.tsdl_text.specs.Scanning.{piece_at}
use Rattle.tsdl_text.proofs.PieceLaws.{PieceFront, piece_front, piece_is_read}

-- the token, if it is one, that a piece is
abbrev pub piece_token : Option TokenKind → List ℕ → ℕ → ℕ → List Lexeme
piece_token kind bytes start line = option_to_list (option_map (λ k. record { kind = k; bytes = bytes; start = start; line = line }) kind)

pub lexemes-push : (front : List ℕ) (pieces : List Piece) (piece : Piece) → lexemes front (pieces ++ piece ∷ []) ≡ lexemes front pieces ++ piece_token piece.kind piece.bytes (length (front ++ joined pieces)) (line_after (front ++ joined pieces))
lexemes-push front [] piece =
    append-nil (piece_token piece.kind piece.bytes (length front) (line_after front))
    ∙ ap (λ bs. piece_token piece.kind piece.bytes (length bs) (line_after bs)) (sym (append-nil front))
lexemes-push front (p ∷ pieces) piece =
    let head = piece_token p.kind p.bytes (length front) (line_after front) in
    ap (λ ls. head ++ ls) (lexemes-push (front ++ p.bytes) pieces piece)
    ∙ sym (append_assoc head (lexemes (front ++ p.bytes) pieces) (piece_token piece.kind piece.bytes (length ((front ++ p.bytes) ++ joined pieces)) (line_after ((front ++ p.bytes) ++ joined pieces))))
    ∙ ap (λ bs. (head ++ lexemes (front ++ p.bytes) pieces) ++ piece_token piece.kind piece.bytes (length bs) (line_after bs)) (append_assoc front p.bytes (joined pieces))

-- ---- the loop

-- the text up to a place is pieces, and these are the tokens among them
pub record CutTo (text : List ℕ) (start line : ℕ) (found : List Token) : Type 0 where
  pub within : start ≤ length text
  pub pieces : List Piece
  pub front : joined pieces ≡ take start text
  pub stand : AllPieces pieces (drop start text)
  pub tokens_are : map lexeme found ≡ lexemes [] pieces
  pub line_is : line ≡ line_after (take start text)

pub cut_none : (text : List ℕ) → CutTo text 0 1 []
cut_none text = record { within = omega arith; pieces = []; front = refl; stand = tt; tokens_are = refl; line_is = refl }

-- the bytes of the piece at the front
pub piece_bytes : (rest : List ℕ) (x : Extent) (f : PieceFront rest x) → (take x.len rest ≡ f.bytes) × (drop x.len rest ≡ f.after) × (x.len ≤ length rest)
piece_bytes rest x f =
    let l = ap length f.whole in
    let m = length-append f.bytes f.after in
    (ap (take x.len) f.whole ∙ take_at f.bytes f.after x.len (sym f.len), ap (drop x.len) f.whole ∙ drop_at f.bytes f.after x.len (sym f.len), omega (arith, f.len))

pub cut_more : (text : List ℕ) (start line line' : ℕ) (found found' : List Token) (x : Extent) → piece_at (drop start text) ≡ Some x → map lexeme found' ≡ map lexeme found ++ piece_token x.kind (take x.len (drop start text)) start line → line' ≡ line + newlines (take x.len (drop start text)) → CutTo text start line found → CutTo text (start + x.len) line' found'
cut_more text start line line' found found' x e found_is line_is cut =
    let f = piece_front (drop start text) x e in
    let b = piece_bytes (drop start text) x f in
    let piece : Piece = record { kind = x.kind; bytes = f.bytes } in
    let l = length-drop start text in
    let within = cut.within in
    let bound = b.2 in
    let after : drop (start + x.len) text ≡ f.after = sym (drop-drop x.len start text) ∙ b.1 in
    let len_front : length (joined cut.pieces) ≡ start = ap length cut.front ∙ length-take-le start text within in
    let line_front : line_after (joined cut.pieces) ≡ line = ap line_after cut.front ∙ sym cut.line_is in
    record {
      within = omega arith;
      pieces = cut.pieces ++ piece ∷ [];
      front = flat_map-push (λ (p : Piece). p.bytes) cut.pieces piece ∙ ap (λ bs. bs ++ f.bytes) cut.front ∙ ap (λ bs. take start text ++ bs) (sym b.0) ∙ sym (take-add start x.len text);
      stand = subst (AllPieces (cut.pieces ++ piece ∷ [])) (sym after) (AllStand-push (λ (p : Piece). p.bytes) Stands cut.pieces piece f.after (subst (AllPieces cut.pieces) f.whole cut.stand) f.stands);
      tokens_are = found_is ∙ ap (λ ls. ls ++ piece_token x.kind (take x.len (drop start text)) start line) cut.tokens_are
          ∙ ap (λ bs. lexemes [] cut.pieces ++ piece_token x.kind bs start line) b.0
          ∙ ap (λ n. lexemes [] cut.pieces ++ piece_token x.kind f.bytes n line) (sym len_front)
          ∙ ap (λ n. lexemes [] cut.pieces ++ piece_token x.kind f.bytes (length (joined cut.pieces)) n) (sym line_front)
          ∙ sym (lexemes-push [] cut.pieces piece);
      line_is = line_is ∙ ap (λ n. n + newlines (take x.len (drop start text))) cut.line_is
          ∙ lines_add (newlines (take start text)) (newlines (take x.len (drop start text)))
          ∙ ap (λ n. 1 + n) (sym (sum_by-append (λ b. cond (eqb b 10) 1 0) (take start text) (take x.len (drop start text))))
          ∙ ap line_after (sym (take-add start x.len text));
    }
  where
    lines_add : (m n : ℕ) → (1 + m) + n ≡ 1 + (m + n)
    lines_add m n = omega arith

-- a piece is at least one byte
pub piece_some : (s : List ℕ) (x : Extent) → piece_at s ≡ Some x → 0 < x.len
piece_some s x e = let f = piece_front s x e in omega (arith, f.len, f.some)

-- where no piece is read, none is there
pub nothing_stands : (s : List ℕ) → piece_at s ≡ None → NothingStands (λ (piece : Piece). piece.bytes) Stands s
nothing_stands s e piece rest h stands =
    let r = piece_is_read piece rest stands in
    let n : piece_at (piece.bytes ++ rest) ≡ None = ap piece_at (sym h) ∙ e in
    none-some (record { kind = piece.kind; len = length piece.bytes }) (sym n ∙ r.read)

pub cut_stuck : (text : List ℕ) (start line : ℕ) (found : List Token) → start < length text → piece_at (drop start text) ≡ None → CutTo text start line found → NoToken text line
cut_stuck text start line found h e cut =
    let l = length-drop start text in
    record {
      pieces = cut.pieces;
      after = drop start text;
      whole = ap (λ bs. bs ++ drop start text) cut.front ∙ take-append-drop start text;
      stand = cut.stand;
      goes_on = λ z. let n = ap length z in absurd (omega arith);
      nothing = nothing_stands (drop start text) e;
      line_is = cut.line_is ∙ ap line_after (sym cut.front);
    }

pub cut_all : (text : List ℕ) (start line : ℕ) (found : List Token) → length text ≤ start → CutTo text start line found → Lexes text (map lexeme found)
cut_all text start line found h cut =
    record {
      pieces = cut.pieces;
      whole = cut.front ∙ take_all start text h;
      stand = subst (AllPieces cut.pieces) (drop_all start text h) cut.stand;
      tokens_are = cut.tokens_are;
    }

-- ---- a token is pushed, or none

lexeme_is : (kind k : TokenKind) (bytes b : List ℕ) (start s line l : ℕ) → kind ≡ k → bytes ≡ b → start ≡ s → line ≡ l → ◌≡◌ {A = Lexeme} (record { kind = kind; bytes = bytes; start = start; line = line }) (record { kind = k; bytes = b; start = s; line = l })
lexeme_is kind k bytes b start s line l p q r t = cc

pub token_pushed : (found found' : List Token) (token : Token) (kind : Option TokenKind) (k : TokenKind) (bytes : List ℕ) (start line : ℕ) → found' ≡ found ++ token ∷ [] → kind ≡ Some k → token.kind ≡ k → token.text.now ≡ bytes → token.start ≡ start → token.line ≡ line → map lexeme found' ≡ map lexeme found ++ piece_token kind bytes start line
token_pushed found found' token kind k bytes start line e is p q r t =
    ap (map lexeme) e ∙ map-append lexeme found (token ∷ [])
    ∙ ap (λ x. map lexeme found ++ x ∷ []) (lexeme_is token.kind k token.text.now bytes token.start start token.line line p q r t)
    ∙ ap (λ o. map lexeme found ++ piece_token o bytes start line) (sym is)

pub no_token_pushed : (found found' : List Token) (kind : Option TokenKind) (bytes : List ℕ) (start line : ℕ) → found' ≡ found → kind ≡ None → map lexeme found' ≡ map lexeme found ++ piece_token kind bytes start line
no_token_pushed found found' kind bytes start line e is =
    ap (map lexeme) e ∙ sym (append-nil (map lexeme found)) ∙ ap (λ o. map lexeme found ++ piece_token o bytes start line) (sym is)
