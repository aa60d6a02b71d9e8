use Rattle.std.proofs.Common.{◌≡◌, ℕ, ◌*◌, ◌≤◌, List, ◌∷◌, drop, get_or, length, ap, ◌∙◌, arith}
use Rattle.ctf_class.specs.Words.{first_bytes}
use Rattle.ctf_class.proofs.WordsLemmas.{in-front}
use Rattle.ctf_class.proofs.prepared_text.PreparedText.new.Goals as goal

-- the words, as they are kept, hold the text
kept : (words rest text : List ℕ) (a b c : ℕ) → length text ≤ 8 * length words → a ≡ get_or words 0 0 → b ≡ get_or words 1 0 → c ≡ get_or words 2 0 → rest ≡ drop 3 words → first_bytes words (length text) ≡ text
    → first_bytes (a ∷ b ∷ c ∷ rest) (length text) ≡ text
kept words rest text a b c enough one two three others holds =
    rw (one, two, three, others) (in-front words (length text) enough ∙ holds)

pub returns : goal.returns
returns c =
    let words = c.in_ok-words.words.items in
    kept words c.in_ok-rest.rest c.args.text.now c.word_at.result c.word_at-2.result c.word_at-3.result (omega (arith, c.in_ok-words.words.ok, c.in_ok-words.ensures.enough))
    (c.word_at.ensures ∙ ap (λ (w : List ℕ). get_or w 0 0) c.deref-2.ensures.value)
    (c.word_at-2.ensures ∙ ap (λ (w : List ℕ). get_or w 1 0) c.deref-3.ensures.value)
    (c.word_at-3.ensures ∙ ap (λ (w : List ℕ). get_or w 2 0) c.deref-4.ensures.value)
    (c.in_ok-rest.ensures ∙ c.after_head.ensures ∙ ap (drop 3) c.deref.ensures.value)
    c.in_ok-words.ensures.bytes
