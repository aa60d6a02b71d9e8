-- A run from its steps.
use Rattle.std.proofs.Common.{◌≡◌, ◌⊎◌, inl, inr, ℤ, Bool, true, false, cond, List, [], ◌∷◌, ◌++◌, Option, Some, None, refl, sym, ap, ◌∙◌, append_assoc}
use Rattle.std.proofs.lemmas.List.{append-nil}
use Rattle.ctf_merge.specs.Merged.{Merged, Placed, then}
use Rattle.ctf_merge.specs.declared.fault.MergeFault.{MergeFault}
use Rattle.ctf_faults.specs.declared.outcome.Outcome.TheVariants.{Done}
use Rattle.ctf_timestamp.specs.declared.trim.Verdict.{Verdict}
use Rattle.ctf_timestamp.specs.declared.trim.Verdict.TheVariants.{Before, Within, After}
use Rattle.ctf_session.specs.Answers.{Setting, Answer, answer, answer_by, trimmed, within, some_after, is_after, is_within, verdict, text_of, fault_texts, fault_pieces, outcome_of}
use Rattle.ctf_session.specs.Steps.{EachAfter, told_by, next_texts_by, shown_text, last_shown}
use Rattle.ctf_session.specs.Writing.{Texts, no_texts, and_then, joined, first_of, EndsInMessage}

-- ---- texts

pub and_then-assoc : (a b c : Texts) → and_then (and_then a b) c ≡ and_then a (and_then b c)
and_then-assoc a b c = rw (append_assoc a.output b.output c.output, append_assoc a.messages b.messages c.messages) refl

pub and_then-none : (a : Texts) → and_then a no_texts ≡ a
and_then-none a = rw (append-nil a.output, append-nil a.messages) refl

-- ---- pieces

pub joined-append : (a b : List Texts) → joined (a ++ b) ≡ and_then (joined a) (joined b)
joined-append [] b = refl
joined-append (t ∷ a) b = ap (and_then t) (joined-append a b) ∙ sym (and_then-assoc t (joined a) (joined b))

-- what is written for an item, as pieces
abbrev pub shown_pieces : Verdict → Setting → Option ℤ → Placed → List Texts
shown_pieces Before setting last x = []
shown_pieces Within setting last x = text_of setting last x ∷ []
shown_pieces After setting last x = []

pub joined-shown : (v : Verdict) (setting : Setting) (last : Option ℤ) (x : Placed) → joined (shown_pieces v setting last x) ≡ shown_text v setting last x
joined-shown Before setting last x = refl
joined-shown Within setting last x = and_then-none (text_of setting last x)
joined-shown After setting last x = refl

pub joined-fault : (setting : Setting) (fault : Option MergeFault) → joined (fault_pieces setting fault) ≡ fault_texts setting fault
joined-fault setting None = refl
joined-fault setting (Some fault) = and_then-none (fault_texts setting (Some fault))

first-fault : (setting : Setting) (fault : Option MergeFault) → first_of (fault_pieces setting fault) ≡ fault_texts setting fault
first-fault setting None = refl
first-fault setting (Some fault) = refl

pub ends_last : (pieces : List Texts) (t : Texts) → EndsInMessage (pieces ++ t ∷ []) → t.messages ≡ [] → ⊥
ends_last [] t ends none = ends none
ends_last (u ∷ []) t ends none = ends none
ends_last (u ∷ (v ∷ ts)) t ends none = ends_last (v ∷ ts) t ends none

-- ---- the answer, one item after the other

-- pieces before an answer
abbrev pub add : List Texts → Answer → Answer
add ts a = record { pieces = ts ++ a.pieces; outcome = a.outcome }

first_by : (setting : Setting) (last : Option ℤ) (x : Placed) (rest : Merged) (v : Verdict) → is_after v ≡ false
    → answer_by setting last (record { items = cond (is_within v) (x ∷ within setting rest.items) (within setting rest.items); fault = cond (cond (is_after v) true (some_after setting rest.items)) None rest.fault })
    ≡ add (shown_pieces v setting last x) (answer_by setting (last_shown v last x) (trimmed setting rest))
first_by setting last x rest Before e = refl
first_by setting last x rest Within e = refl
first_by setting last x rest After e = absurd cc

pub answer-then : (setting : Setting) (last : Option ℤ) (x : Placed) (rest : Merged) → is_after (verdict setting x) ≡ false
    → answer setting last (then x rest) ≡ add (shown_pieces (verdict setting x) setting last x) (answer setting (last_shown (verdict setting x) last x) rest)
unfolding answer
answer-then setting last x rest not_after = first_by setting last x rest (verdict setting x) not_after

-- where only items after the end are left
none_by : (x : Placed) (xs : List Placed) (v : Verdict) → is_after v ≡ true → cond (is_within v) (x ∷ xs) xs ≡ xs
none_by x xs Before e = absurd cc
none_by x xs Within e = absurd cc
none_by x xs After e = refl

none_within : (setting : Setting) (xs : List Placed) → EachAfter setting xs → within setting xs ≡ []
none_within setting [] each = refl
none_within setting (x ∷ xs) each = none_by x (within setting xs) (verdict setting x) each.0 ∙ none_within setting xs each.1

after_by : (setting : Setting) (last : Option ℤ) (x : Placed) (xs : List Placed) (some : Bool) (fault : Option MergeFault) (v : Verdict) → is_after v ≡ true → xs ≡ []
    → answer_by setting last (record { items = cond (is_within v) (x ∷ xs) xs; fault = cond (cond (is_after v) true some) None fault }) ≡ record { pieces = []; outcome = Done }
after_by setting last x xs some fault Before e none = absurd cc
after_by setting last x xs some fault Within e none = absurd cc
after_by setting last x xs some fault After e none = rw none refl

ended_by : (setting : Setting) (last : Option ℤ) (xs : List Placed) (fault : Option MergeFault) → EachAfter setting xs
    → answer_by setting last (trimmed setting (record { items = xs; fault = fault })) ≡ record { pieces = fault_pieces setting (told_by xs fault); outcome = outcome_of setting (told_by xs fault) }
ended_by setting last [] fault each = refl
ended_by setting last (x ∷ xs) fault each = after_by setting last x (within setting xs) (some_after setting xs) fault (verdict setting x) each.0 (none_within setting xs each.1)

pub answer-end : (setting : Setting) (last : Option ℤ) (m : Merged) → EachAfter setting m.items
    → answer setting last m ≡ record { pieces = fault_pieces setting (told_by m.items m.fault); outcome = outcome_of setting (told_by m.items m.fault) }
unfolding answer
answer-end setting last m each = ended_by setting last m.items m.fault each

-- what a step writes next is the first piece of the answer, or nothing
pub next-first : (setting : Setting) (last : Option ℤ) (m : Merged)
    → (next_texts_by setting last m.items m.fault ≡ no_texts) ⊎ (first_of (answer setting last m).pieces ≡ next_texts_by setting last m.items m.fault)
next-first setting last m = by_items m.items m.fault
  where
    by_verdict : (x : Placed) (rest : Merged) (v : Verdict) → verdict setting x ≡ v
        → (shown_text v setting last x ≡ no_texts) ⊎ (first_of (answer setting last (then x rest)).pieces ≡ shown_text v setting last x)
    by_verdict x rest Before is = inl refl
    by_verdict x rest Within is =
        inr (ap (λ (a : Answer). first_of a.pieces) (answer-then setting last x rest (ap is_after is))
        ∙ ap (λ v. first_of (shown_pieces v setting last x ++ (answer setting (last_shown (verdict setting x) last x) rest).pieces)) is)
    by_verdict x rest After is = inl refl

    by_items : (xs : List Placed) (fault : Option MergeFault)
        → (next_texts_by setting last xs fault ≡ no_texts) ⊎ (first_of (answer setting last (record { items = xs; fault = fault })).pieces ≡ next_texts_by setting last xs fault)
    by_items [] fault = inr (ap (λ (a : Answer). first_of a.pieces) (answer-end setting last (record { items = []; fault = fault }) tt) ∙ first-fault setting fault)
    by_items (x ∷ xs) fault = by_verdict x (record { items = xs; fault = fault }) (verdict setting x) refl
