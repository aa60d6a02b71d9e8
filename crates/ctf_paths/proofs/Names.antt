-- The words of a path after those that it begins with.
use Rattle.std.proofs.Common.{◌≡◌, true, false, [], ◌∷◌, ◌++◌, Option, Some, None, option_map, Bor, refl, ap, sym, ◌∙◌, rules}
use Rattle.std.specs.Prelude.{if◌then◌else◌, option_and_then}
use Rattle.ctf_meaning.specs.Name.{Word, Words, same_word}
use Rattle.ctf_meaning.specs.Paths.{after_words}
use Rattle.ctf_paths.specs.Names.{name_of}
use Rattle.ctf_paths.specs.declared.trail.Trail as trails
use Rattle.ctf_paths.specs.declared.trail.Trail.{Trail}

pub name_of-Member : (word : Bor Word) (outer : Bor Trail) → name_of (trails.Member word outer) ≡ option_map (λ words. words ++ word.now ∷ []) (name_of outer.now)
name_of-Member word outer = search (rules, trails.the_lemmas)

-- after a beginning and one word more
pub after_more : (words : Words) (word : Word) (path : Words) → after_words (words ++ word ∷ []) path ≡ option_and_then (after_words (word ∷ [])) (after_words words path)
after_more [] word path = refl
after_more (a ∷ words) word [] = refl
after_more (a ∷ words) word (b ∷ path) =
    elim (same_word a b) as (λ v. (if v then after_words (words ++ word ∷ []) path else None) ≡ option_and_then (after_words (word ∷ [])) (if v then after_words words path else None)) [
      | true ↦ after_more words word path
      | false ↦ refl
    ]

after_each : (name : Option Words) (word : Word) (path : Words) → option_and_then (after_words (word ∷ [])) (option_and_then (λ name. after_words name path) name) ≡ option_and_then (λ name. after_words name path) (option_map (λ words. words ++ word ∷ []) name)
after_each None word path = refl
after_each (Some words) word path = sym (after_more words word path)

pub after_member : (t : Trail) (word : Bor Word) (outer : Bor Trail) (path : Words) (rest : Option Words) → t ≡ trails.Member word outer
    → rest ≡ option_and_then (λ name. after_words name path) (name_of outer.now)
    → option_and_then (after_words (word.now ∷ [])) rest ≡ option_and_then (λ name. after_words name path) (name_of t)
after_member t word outer path rest is e =
    ap (option_and_then (after_words (word.now ∷ []))) e
    ∙ after_each (name_of outer.now) word.now path
    ∙ ap (option_and_then (λ name. after_words name path)) (sym (ap name_of is ∙ name_of-Member word outer))
