-- A text that goes out piece by piece.
use Rattle.std.proofs.Common.{◌≡◌, ℕ, ◌+◌, ◌≤◌, List, [], ◌++◌, length, take, drop, refl, ap, sym, ◌∙◌, append_assoc, arith}
use Rattle.std.proofs.lemmas.List.{append-nil, take_all, drop-drop, take-append-drop}
use Rattle.std.proofs.Math.Seq.{take-add}
use Rattle.std.proofs.Common.{length-drop}
use Rattle.ctf_session.specs.Writing.{WritesPart}

abbrev pub Writes : List ℕ → List ℕ → List ℕ → Type 0
Writes old new text = new ≡ old ++ text

-- a beginning of the text has gone out, and this is the rest
pub record Sends (old now text rest : List ℕ) : Type 0 where
  pub count : ℕ
  pub rest_is : rest ≡ drop count text
  pub now_is : now ≡ old ++ take count text

pub Sends-none : (old text : List ℕ) → Sends old old text text
Sends-none old text = record { count = 0; rest_is = refl; now_is = sym (append-nil old) }

pub Sends-more : (old now new text rest : List ℕ) (more : ℕ) → Sends old now text rest → new ≡ now ++ take more rest → Sends old new text (drop more rest)
Sends-more old now new text rest more sent put = record {
  count = sent.count + more;
  rest_is = ap (drop more) sent.rest_is ∙ drop-drop more sent.count text;
  now_is = rw (put, sent.now_is, sent.rest_is, take-add sent.count more text, append_assoc) refl;
}

pub Sends-all : (old now text rest : List ℕ) → Sends old now text rest → length rest ≡ 0 → Writes old now text
Sends-all old now text rest sent none =
    let reached : length text ≤ sent.count = omega (arith, ap length sent.rest_is, length-drop sent.count text) in
    rw (sent.now_is, take_all _ _ reached) refl

pub Sends-part : (old now text rest : List ℕ) → Sends old now text rest → WritesPart old now text
Sends-part old now text rest sent = record { piece = take sent.count text; rest = drop sent.count text; splits = sym (take-append-drop sent.count text); wrote = sent.now_is }

-- ---- one text after another

pub WritesPart-none : (old text : List ℕ) → WritesPart old old text
WritesPart-none old text = record { piece = []; rest = text; splits = refl; wrote = sym (append-nil old) }

pub WritesPart-from_all : (old new text : List ℕ) → Writes old new text → WritesPart old new text
WritesPart-from_all old new text wrote = record { piece = text; rest = []; splits = sym (append-nil text); wrote = wrote }

-- all of one text and a part of the next are a part of both
pub WritesPart-after : (old now new first second : List ℕ) → Writes old now first → WritesPart now new second → WritesPart old new (first ++ second)
WritesPart-after old now new first second wrote part = record {
  piece = first ++ part.piece;
  rest = part.rest;
  splits = rw part.splits (sym (append_assoc first part.piece part.rest));
  wrote = rw (part.wrote, wrote, append_assoc) refl;
}

-- a part of a beginning is a part
pub WritesPart-longer : (old new text more : List ℕ) → WritesPart old new text → WritesPart old new (text ++ more)
WritesPart-longer old new text more part = record {
  piece = part.piece;
  rest = part.rest ++ more;
  splits = rw (part.splits, append_assoc) refl;
  wrote = part.wrote;
}
