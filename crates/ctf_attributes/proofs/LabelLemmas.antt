-- Labels that are numbered one after the other.
use Rattle.std.proofs.Common.{◌≡◌, ◌⊎◌, ℕ, ◌+◌, ◌^◌, ◌<◌, Bool, true, false, ◌||◌, List, [], ◌∷◌, ◌++◌, drop, length, get_or, Option, Some, None, ℤ, pos, ◌+ℤ◌, ◌≤ℤ◌, ◌<ℤ◌, int_lt, append_assoc, ⊎_elim, refl, sym, ap, ◌∙◌, arith}
use Rattle.std.specs.List.{list_any}
use Rattle.std.proofs.lemmas.List.{drop_more}
use Rattle.std.proofs.lemmas.List.Folds.{list_any-append}
use Rattle.std.proofs.lemmas.Int.{ints}
use mathlib.Core.Bool.{true≢false}
use Rattle.tsdl_tree.specs.declared.tree.Label.{Label as WrittenLabel}
use Rattle.ctf_class.specs.declared.span.Span.{Span}
use Rattle.ctf_class.specs.declared.span.Label.{Label}
use Rattle.ctf_meaning.specs.declared.fault.ResolveFault.{ResolveFault}
use Rattle.ctf_meaning.specs.declared.fault.ResolveFault.TheVariants.{Attribute}
use Rattle.ctf_meaning.specs.Name.{Word}
use Rattle.ctf_meaning.specs.There.{first}
use Rattle.ctf_meaning.specs.Settings.{when}
use Rattle.ctf_meaning.specs.Integers.{is_none_wrong}
use Rattle.ctf_meaning.specs.Labels.{labels_of, labels_from, label_faults, goes_backwards}
use Rattle.ctf_attributes.specs.Spans.{span_of, span_faults, is_numberless}

pub none-wrong : (b c : Bool) → when b Attribute ++ when c Attribute ≡ [] → (b ≡ false) × (c ≡ false)
none-wrong true c h = absurd (true≢false (sym (ap is_none_wrong h)))
none-wrong false true h = absurd (true≢false (sym (ap is_none_wrong h)))
none-wrong false false h = (refl, refl)

there : Option ResolveFault → Bool
there None = false
there (Some f) = true

-- a fault of a part is one of the whole
of-part : (b c p q : Bool) (f : ResolveFault) → first (when b Attribute ++ when c Attribute) ≡ Some f → (b ≡ true → p ≡ true) → (c ≡ true → q ≡ true) → first (when p Attribute ++ when q Attribute) ≡ Some f
unfolding there
of-part true c true q f h up on = h
of-part true c false q f h up on = absurd (true≢false (sym (up refl)))
of-part false true true q f h up on = h
of-part false true false true f h up on = h
of-part false true false false f h up on = absurd (true≢false (sym (on refl)))
of-part false false p q f h up on = absurd (true≢false (sym (ap there h)))

or-true : (s : Bool) → (s || true) ≡ true
or-true true = refl
or-true false = refl

next-label : (ls : List WrittenLabel) (i : ℕ) (l : WrittenLabel) → i < length ls → l ≡ get_or ls i l → drop i ls ≡ l ∷ drop (i + 1) ls
next-label ls i l within read = drop_more ls i l within ∙ ap (λ x. x ∷ drop (i + 1) ls) (sym read)

-- the labels are those so far, the one that is read, and what follows it
split : (ls : List WrittenLabel) (i : ℕ) (l : WrittenLabel) (numbered : List Label) (next : ℤ) → i < length ls → l ≡ get_or ls i l → labels_of ls ≡ numbered ++ labels_from next (drop i ls) → labels_of ls ≡ numbered ++ (record { name = l.name; span = span_of next l.span } ∷ labels_from ((span_of next l.span).last +ℤ pos 1) (drop (i + 1) ls))
split ls i l numbered next within read so_far = so_far ∙ ap (λ xs. numbered ++ labels_from next xs) (next-label ls i l within read)

pub so_far-more : (ls : List WrittenLabel) (i : ℕ) (l : WrittenLabel) (numbered more : List Label) (next later : ℤ) (name : Word) (span : Span) → i < length ls → l ≡ get_or ls i l → labels_of ls ≡ numbered ++ labels_from next (drop i ls) → name ≡ l.name → span ≡ span_of next l.span → more ≡ numbered ++ record { name = name; span = span } ∷ [] → later ≡ span.last +ℤ pos 1 → labels_of ls ≡ more ++ labels_from later (drop (i + 1) ls)
so_far-more ls i l numbered more next later name span within read so_far named spans pushes ends =
    let rest = drop (i + 1) ls in
    let made : Label = record { name = l.name; span = span_of next l.span } in
    let same : more ≡ numbered ++ made ∷ [] = pushes ∙ (ap (λ n. numbered ++ record { name = n; span = span } ∷ []) named ∙ ap (λ s. numbered ++ record { name = l.name; span = s } ∷ []) spans) in
    let begins : later ≡ (span_of next l.span).last +ℤ pos 1 = ends ∙ ap (λ s. s.last +ℤ pos 1) spans in
    split ls i l numbered next within read so_far
    ∙ (sym (append_assoc numbered (made ∷ []) (labels_from ((span_of next l.span).last +ℤ pos 1) rest))
    ∙ (ap (λ xs. xs ++ labels_from ((span_of next l.span).last +ℤ pos 1) rest) (sym same) ∙ ap (λ z. more ++ labels_from z rest) (sym begins)))

pub numbers-more : (ls : List WrittenLabel) (i : ℕ) (l : WrittenLabel) → i < length ls → l ≡ get_or ls i l → list_any (λ w. is_numberless w.span) ls ≡ list_any (λ w. is_numberless w.span) (drop i ls) → is_numberless l.span ≡ false → list_any (λ w. is_numberless w.span) ls ≡ list_any (λ w. is_numberless w.span) (drop (i + 1) ls)
numbers-more ls i l within read numbers h =
    numbers ∙ (ap (list_any (λ w. is_numberless w.span)) (next-label ls i l within read) ∙ ap (λ b. b || list_any (λ w. is_numberless w.span) (drop (i + 1) ls)) h)

pub forward-more : (numbered more : List Label) (next : ℤ) (l : WrittenLabel) (name : Word) (span : Span) → list_any goes_backwards numbered ≡ false → span ≡ span_of next l.span → more ≡ numbered ++ record { name = name; span = span } ∷ [] → int_lt (span_of next l.span).last (span_of next l.span).first ≡ false → list_any goes_backwards more ≡ false
forward-more numbered more next l name span forward spans pushes h =
    ap (list_any goes_backwards) pushes
    ∙ (list_any-append goes_backwards numbered (record { name = name; span = span } ∷ [])
    ∙ (ap (λ b. b || (int_lt span.last span.first || false)) forward
    ∙ ap (λ b. b || false) (ap (λ s. int_lt s.last s.first) spans ∙ h)))

pub bounded-more : (next later last : ℤ) (i : ℕ) → next ≤ℤ pos (2 ^ 64 + i) → later ≡ last +ℤ pos 1 → (last ≤ℤ next) ⊎ (last <ℤ pos (2 ^ 64)) → later ≤ℤ pos (2 ^ 64 + (i + 1))
bounded-more next later last i bounded ends h =
    ⊎_elim (λ low. omega (arith, ints, bounded, ends, low)) (λ low. omega (arith, ints, ends, low)) h

pub label-first : (ls : List WrittenLabel) (i : ℕ) (l : WrittenLabel) (numbered : List Label) (next : ℤ) (f : ResolveFault) → i < length ls → l ≡ get_or ls i l → labels_of ls ≡ numbered ++ labels_from next (drop i ls) → list_any (λ w. is_numberless w.span) ls ≡ list_any (λ w. is_numberless w.span) (drop i ls) → first (span_faults next l.span) ≡ Some f → first (label_faults ls) ≡ Some f
label-first ls i l numbered next f within read so_far numbers h =
    let rest = labels_from ((span_of next l.span).last +ℤ pos 1) (drop (i + 1) ls) in
    let made : Label = record { name = l.name; span = span_of next l.span } in
    of-part (is_numberless l.span) (goes_backwards made) (list_any (λ w. is_numberless w.span) ls) (list_any goes_backwards (labels_of ls)) f h
    (λ up. numbers ∙ (ap (list_any (λ w. is_numberless w.span)) (next-label ls i l within read) ∙ ap (λ b. b || list_any (λ w. is_numberless w.span) (drop (i + 1) ls)) up))
    (λ back. ap (list_any goes_backwards) (split ls i l numbered next within read so_far)
    ∙ (list_any-append goes_backwards numbered (made ∷ rest)
    ∙ (ap (λ b. list_any goes_backwards numbered || (b || list_any goes_backwards rest)) back ∙ or-true (list_any goes_backwards numbered))))
