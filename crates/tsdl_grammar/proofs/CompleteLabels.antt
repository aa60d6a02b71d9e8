-- Labels that are spelled so are read.
use Rattle.std.proofs.Common.{◌≡◌, ℕ, true, false, List, ◌∷◌, ◌++◌, Option, Ok, refl, sym, ap, append_assoc}
use Rattle.tsdl_text.specs.declared.token.Symbol.TheVariants as s
use Rattle.tsdl_text.specs.declared.token.Token.{Token}
use Rattle.tsdl_tree.specs.declared.tree.Number.{Number}
use Rattle.tsdl_tree.specs.declared.tree.Span.{Span}
use Rattle.tsdl_tree.specs.declared.tree.Label.{Label}
use Rattle.tsdl_grammar.specs.Terminals.{Word, Is, IsString, IsWord}
use Rattle.tsdl_grammar.specs.Repeats.{Optional}
use Rattle.tsdl_grammar.specs.Grammar.{IsNumber, IsSpan, IsLabel, AreLabels}
use Rattle.tsdl_grammar.specs.Steps.{◌>>=◌, expect, past, begins, before_label, optional}
use Rattle.tsdl_grammar.specs.Reading.{range_end_at, span_at, label_name_at, label_at, next_label_at, labels_at}
use Rattle.tsdl_grammar.proofs.ComesTools.{Comes, comes_is, comes_then, comes_token, comes_open, comes_some, comes_none, listed_come}
use Rattle.tsdl_grammar.proofs.Room.{is_other}
use Rattle.tsdl_grammar.proofs.ComesTokens.{past_is, past_none, word_other, string_no_word, string_other}
use Rattle.tsdl_grammar.proofs.CompleteTerms.{number_comes}

-- what may follow a label
record EndsLabel (post : List Token) : Type 0 where
  no_equals : begins s.Equals post ≡ false
  no_ellipsis : begins s.Ellipsis post ≡ false

range_end : {n : Number} {d : Token} {ts : List Token} → Is s.Ellipsis d → IsNumber n ts → (post : List Token) → Comes (range_end_at (d ∷ (ts ++ post))) (n, post)
unfolding range_end_at
range_end i p post = comes_token _ i (number_comes p post)

span_comes : {x : Span} {ts : List Token} → IsSpan x ts → (post : List Token) → begins s.Ellipsis post ≡ false → Comes (span_at (ts ++ post)) (x, post)
unfolding span_at
span_comes (IsSpan.one i p) post z = comes_token _ i (comes_then _ (number_comes p post) (comes_then _ (comes_none (begins s.Ellipsis) range_end_at z) (comes_is refl)))
span_comes (IsSpan.range {d = d} {us = us} i p j q) post z =
    rw append_assoc (comes_token _ i (comes_then _ (number_comes p (d ∷ (us ++ post))) (comes_then _ (comes_some (begins s.Ellipsis) range_end_at j.holds (range_end j q post)) (comes_is refl))))

span_begins : {x : Span} {ts : List Token} → IsSpan x ts → (post : List Token) → begins s.Equals (ts ++ post) ≡ true
span_begins (IsSpan.one i p) post = i.holds
span_begins (IsSpan.range i p j q) post = i.holds

span_some : {x : Option Span} {ts : List Token} → Optional IsSpan x ts → (post : List Token) → EndsLabel post → Comes (optional (begins s.Equals) span_at (ts ++ post)) (x, post)
span_some Optional.none post z = comes_none (begins s.Equals) span_at z.no_equals
span_some (Optional.some p) post z = comes_some (begins s.Equals) span_at (span_begins p post) (span_comes p post z.no_ellipsis)

name_word : {w : Token} (post : List Token) → IsWord w → label_name_at (w ∷ post) ≡ Ok (w.text.now, post)
unfolding label_name_at
name_word post i = rw i.holds refl

name_string : {t : Token} {bytes : Word} (post : List Token) → IsString bytes t → label_name_at (t ∷ post) ≡ Ok (bytes, post)
unfolding label_name_at
name_string post i = rw (string_no_word i, i.holds) (ap (λ (x : Word). Ok (x, post)) (sym i.value))

label_comes : {x : Label} {ts : List Token} → IsLabel x ts → (post : List Token) → EndsLabel post → Comes (label_at (ts ++ post)) (x, post)
unfolding label_at
label_comes (IsLabel.word i p) post z = comes_then _ (comes_is (name_word _ i)) (comes_then _ (span_some p post z) (comes_is refl))
label_comes (IsLabel.string i p) post z = comes_then _ (comes_is (name_string _ i)) (comes_then _ (span_some p post z) (comes_is refl))

next_label : (c : Token) (ts : List Token) (x : Label × List Token) → Is s.Comma c → Comes (label_at ts) x → Comes (next_label_at (c ∷ ts)) x
unfolding next_label_at
next_label c ts x i h = comes_token _ i h

-- a label after a comma
label_turns : {x : Label} {ts : List Token} → IsLabel x ts → (c : Token) (post : List Token) → Is s.Comma c → before_label (c ∷ (ts ++ post)) ≡ true
label_turns (IsLabel.word w p) c post i = rw (i.holds, word_other s.CloseBrace w refl) refl
label_turns (IsLabel.string t p) c post i = rw (i.holds, string_other s.CloseBrace t) refl

label_ends : (c : Token) (post : List Token) → Is s.Comma c → EndsLabel (c ∷ post)
label_ends c post i = record { no_equals = is_other s.Equals i refl; no_ellipsis = is_other s.Ellipsis i refl }

pub labels_come : {xs : List Label} {ts : List Token} → AreLabels xs ts → (d : ℕ) (post : List Token) → Comes (labels_at d (ts ++ post)) (xs, post)
unfolding labels_at
labels_come (AreLabels.labels {c = c} i l j) d post =
    rw append_assoc (comes_open d _ i
    (listed_come before_label label_at next_label_at EndsLabel (λ x ts p c rest k. label_turns p c rest k) label_ends (λ x ts p rest z. label_comes p rest z) next_label l (c ∷ post)
    (record { no_equals = is_other s.Equals j refl; no_ellipsis = is_other s.Ellipsis j refl }) (rw (is_other s.Comma j refl) refl)
    (λ xs. expect s.CloseBrace (past s.Comma xs.1) >>= λ close. Ok (xs.0, close))
    (rw (past_none s.Comma (c ∷ post) (is_other s.Comma j refl)) (comes_token _ j (comes_is refl)))))
labels_come (AreLabels.with_comma {m = m} {c = c} i l k j) d post =
    rw append_assoc (comes_open d _ i
    (listed_come before_label label_at next_label_at EndsLabel (λ x ts p c rest k. label_turns p c rest k) label_ends (λ x ts p rest z. label_comes p rest z) next_label l (m ∷ c ∷ post)
    (label_ends m (c ∷ post) k) (rw (k.holds, j.holds) refl)
    (λ xs. expect s.CloseBrace (past s.Comma xs.1) >>= λ close. Ok (xs.0, close))
    (rw (past_is s.Comma m (c ∷ post) k) (comes_token _ j (comes_is refl)))))
