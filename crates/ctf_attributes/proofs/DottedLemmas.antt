-- Texts of words with dots between them.
use Rattle.std.proofs.Common.{◌≡◌, ℕ, ◌+◌, ◌-◌, ◌<◌, ◌≤◌, nat_eq, Bool, true, false, ◌&&◌, if◌then◌else◌, [], ◌∷◌, ◌++◌, take, drop, length, get_or, Option, Some, None, option_copied, Bor, length-drop, append_assoc, refl, sym, ap, ◌∙◌, arith}
use Rattle.std.specs.Option.{option_map_or}
use Rattle.std.specs.List.{join_with_byte}
use Rattle.std.proofs.lemmas.List.{drop_more, take_more, take_all, append-nil}
use Rattle.ctf_meaning.specs.Name.{Word, Words, same_word}
use Rattle.ctf_meaning.specs.Integers.{after}
use Rattle.ctf_attributes.specs.Dots.{dotted}

-- what is compared after a beginning
one-more : (s x : Bool) (f : Word → Bool) (o : Option Word) → x ≡ option_map_or f o false → (s && x) ≡ option_map_or f (if s then o else None) false
one-more true x f o h = h
one-more false x f o h = refl

same-after : (w rest text : Word) → same_word (w ++ rest) text ≡ option_map_or (same_word rest) (after w text) false
same-after [] rest text = refl
same-after (b ∷ bs) rest [] = refl
same-after (b ∷ bs) rest (c ∷ cs) = one-more (nat_eq b c) (same_word (bs ++ rest) cs) (same_word rest) (after bs cs) (same-after bs rest cs)

join-dotted : (w : Word) (ws : Words) → join_with_byte 46 (w ∷ ws) ≡ w ++ dotted ws
join-dotted w [] = sym (append-nil w)
join-dotted w (v ∷ vs) = ap (λ more. w ++ (46 ∷ more)) (join-dotted v vs)

-- a beginning that is there, and one that is not
after-found : (w rest text : Word) (r : Option (Bor Word)) (x : Bor Word) → option_copied r ≡ after w text → r ≡ Some x → same_word (w ++ rest) text ≡ same_word rest x.now
after-found w rest text r x h found =
    same-after w rest text ∙ ap (λ o. option_map_or (same_word rest) o false) (sym h ∙ ap option_copied found)

after-missing : (w rest text : Word) (r : Option (Bor Word)) → option_copied r ≡ after w text → r ≡ None → same_word (w ++ rest) text ≡ false
after-missing w rest text r h missing =
    same-after w rest text ∙ ap (λ o. option_map_or (same_word rest) o false) (sym h ∙ ap option_copied missing)

begun : (words : Words) (w : Word) → 1 ≤ length words → w ≡ get_or words 0 w → words ≡ w ∷ drop 1 words
begun words w some read = drop_more words 0 w (omega arith) ∙ ap (λ v. v ∷ drop 1 words) (sym read)

pub joined-found : (words : Words) (w text : Word) (r : Option (Bor Word)) (x : Bor Word) → 1 ≤ length words → w ≡ get_or words 0 w → option_copied r ≡ after w text → r ≡ Some x → same_word (dotted (take (length words - 1) (drop 1 words))) x.now ≡ same_word (join_with_byte 46 words) text
joined-found words w text r x some read h found =
    let ws = drop 1 words in
    let whole : take (length words - 1) ws ≡ ws = take_all (length words - 1) ws (omega (arith, length-drop 1 words)) in
    ap (λ vs. same_word (dotted vs) x.now) whole
    ∙ sym (ap (λ vs. same_word (join_with_byte 46 vs) text) (begun words w some read) ∙ (ap (λ t. same_word t text) (join-dotted w ws) ∙ after-found w (dotted ws) text r x h found))

pub joined-missing : (words : Words) (w text : Word) (r : Option (Bor Word)) → 1 ≤ length words → w ≡ get_or words 0 w → option_copied r ≡ after w text → r ≡ None → false ≡ same_word (join_with_byte 46 words) text
joined-missing words w text r some read h missing =
    let ws = drop 1 words in
    sym (ap (λ vs. same_word (join_with_byte 46 vs) text) (begun words w some read) ∙ (ap (λ t. same_word t text) (join-dotted w ws) ∙ after-missing w (dotted ws) text r h missing))

pub dotted-found : (words : Words) (i : ℕ) (w text : Word) (r : Option (Bor Word)) (x : Bor Word) → i < length words → w ≡ get_or words i w → option_copied r ≡ after (46 ∷ w) text → r ≡ Some x → same_word (dotted (drop i words)) text ≡ same_word (dotted (drop (i + 1) words)) x.now
dotted-found words i w text r x within read h found =
    ap (λ ws. same_word (dotted ws) text) (drop_more words i w within ∙ ap (λ v. v ∷ drop (i + 1) words) (sym read))
    ∙ after-found (46 ∷ w) (dotted (drop (i + 1) words)) text r x h found

pub dotted-missing : (words : Words) (i : ℕ) (w text : Word) (r : Option (Bor Word)) → i < length words → w ≡ get_or words i w → option_copied r ≡ after (46 ∷ w) text → r ≡ None → same_word (dotted (drop i words)) text ≡ false
dotted-missing words i w text r within read h missing =
    ap (λ ws. same_word (dotted ws) text) (drop_more words i w within ∙ ap (λ v. v ∷ drop (i + 1) words) (sym read))
    ∙ after-missing (46 ∷ w) (dotted (drop (i + 1) words)) text r h missing

-- a text that grows by a dot and a word
dotted-append : (xs ys : Words) → dotted (xs ++ ys) ≡ dotted xs ++ dotted ys
dotted-append [] ys = refl
dotted-append (x ∷ xs) ys =
    ap (λ more. 46 ∷ (x ++ more)) (dotted-append xs ys) ∙ ap (λ more. 46 ∷ more) (sym (append_assoc x (dotted xs) (dotted ys)))

dotted-more : (words : Words) (i : ℕ) (w : Word) → i < length words → w ≡ get_or words i w → dotted (take (i + 1) words) ≡ dotted (take i words) ++ (46 ∷ w)
dotted-more words i w within read =
    ap dotted (take_more words i w within ∙ ap (λ v. take i words ++ v ∷ []) (sym read))
    ∙ (dotted-append (take i words) (w ∷ []) ∙ ap (λ t. dotted (take i words) ++ (46 ∷ t)) (append-nil w))

pub put-more : (words : Words) (i : ℕ) (w old before pushed text : Word) → i < length words → w ≡ get_or words i w → before ≡ old ++ dotted (take i words) → pushed ≡ before ++ 46 ∷ [] → text ≡ pushed ++ w → text ≡ old ++ dotted (take (i + 1) words)
put-more words i w old before pushed text within read h pushes puts =
    let D = dotted (take i words) in
    puts
    ∙ (ap (λ t. t ++ w) (pushes ∙ ap (λ t. t ++ 46 ∷ []) h)
    ∙ (append_assoc (old ++ D) (46 ∷ []) w
    ∙ (append_assoc old D (46 ∷ w)
    ∙ ap (λ t. old ++ t) (sym (dotted-more words i w within read)))))

pub joined-made : (words : Words) (w begin text : Word) → 1 ≤ length words → w ≡ get_or words 0 w → begin ≡ w → text ≡ begin ++ dotted (take (length words - 1) (drop 1 words)) → text ≡ join_with_byte 46 words
joined-made words w begin text some read same h =
    let ws = drop 1 words in
    let whole : take (length words - 1) ws ≡ ws = take_all (length words - 1) ws (omega (arith, length-drop 1 words)) in
    h ∙ (ap (λ b. b ++ dotted (take (length words - 1) ws)) same ∙ (ap (λ vs. w ++ dotted vs) whole ∙ (sym (join-dotted w ws) ∙ ap (join_with_byte 46) (sym (begun words w some read)))))
