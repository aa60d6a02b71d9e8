-- What clap promises of the command.
use Rattle.std.proofs.Common.{◌≡◌, ◌∙◌, ℕ, true, false, List, [], ◌∷◌, refl, sym, ap, subst, inl, inr, drop, take, length, ◌-◌, map, String, arith, take_all}
use Rattle.std.proofs.lemmas.Grind.{common_steps}
use Rattle.std.specs.List.{list_any}
use Rattle.std.specs.String.{string_bytes}
use Rattle.clap.specs.Simple.{App, HasMatchesOf, is_simple, matches_of}
use Rattle.clap.specs.Faults.{fault_of, is_simple_and_free}
use Rattle.clap.specs.Kinds.{HasKind, IsAmong}
use Rattle.clap.specs.Values.{kind_of}
use Rattle.clap.specs.declared.error.Error.{Error}
use Rattle.clap.specs.Matches.{found_of}
use Rattle.clap.specs.Walk.{rows_of}
use Rattle.clap.specs.declared.parser.matches.ArgMatches.{ArgMatches}
use Rattle.clap.specs.declared.error.kind.ErrorKind.{ErrorKind}
use Rattle.clap.specs.declared.error.kind.ErrorKind.TheVariants.{OutOfMemory, DisplayHelp}
use Rattle.clap.proofs.OnLiterals.{clap_on_literals}
use Rattle.clap.proofs.WalkLemmas.{list_any-map}
use Rattle.ctf_options.specs.declared.usage.Usage.{Usage}
use Rattle.ctf_options.specs.declared.usage.Usage.TheVariants.{Help, Bad, NoMemory}
use Rattle.ctf_options.specs.Command.{bt_ctf, matches, faults, is_help, asks_help, IsClapRefusal}

is_plain : is_simple bt_ctf ≡ true
unfolding clap_on_literals
is_plain = refl

-- clap's matches of a command like this one
pub given_rows : (app : App) (words : List (List ℕ)) (m : ArgMatches) → app ≡ bt_ctf → HasMatchesOf app words m → rows_of (found_of m) ≡ matches words
unfolding matches
given_rows app words m e h = (h (ap is_simple e ∙ is_plain)).0 ∙ ap (λ (a : App). matches_of a words) e

is_free : is_simple_and_free bt_ctf ≡ true
unfolding clap_on_literals
is_free = refl

-- clap takes the words
pub taken : (app : App) (words : List (List ℕ)) → app ≡ bt_ctf → (is_simple_and_free app ≡ true → fault_of app words ≡ []) → faults words ≡ []
unfolding faults
taken app words e h = sym (ap (λ (a : App). fault_of a words) e) ∙ h (ap is_simple_and_free e ∙ is_free)

-- clap refuses the words, or there was no memory
pub stopped : (app : App) (words : List (List ℕ)) (error : Error) → app ≡ bt_ctf → (is_simple_and_free app ≡ true → HasKind (fault_of app words) error)
    → HasKind (faults words) error
unfolding faults
stopped app words error e h = subst (λ (a : App). HasKind (fault_of a words) error) e (h (ap is_simple_and_free e ∙ is_free))

-- why clap refused the words
pub refused : (words : List (List ℕ)) (error : Error) (usage : Usage) → (kind_of error ≡ OutOfMemory → usage ≡ NoMemory)
    → (usage ≡ Help → asks_help words ≡ true) → (usage ≡ Help → kind_of error ≡ DisplayHelp) → (usage ≡ Bad → kind_of error ≡ DisplayHelp → asks_help words ≡ false)
    → HasKind (faults words) error → IsClapRefusal words usage
refused words error Help memory help kind bad (inl e) = absurd (unlike (memory e))
  where
    unlike : Help ≡ NoMemory → ⊥
    unlike e = grind (arith, common_steps, e)
refused words error Help memory help kind bad (inr among) = (subst (λ (k : ErrorKind). IsAmong k (faults words)) (kind refl) among, help refl)
refused words error Bad memory help kind bad (inl e) = absurd (unlike (memory e))
  where
    unlike : Bad ≡ NoMemory → ⊥
    unlike e = grind (arith, common_steps, e)
refused words error Bad memory help kind bad (inr among) = (kind_of error, among, bad refl)
refused words error NoMemory memory help kind bad h = tt

-- the words after the first
pub asked : {Z : Type 0} (words : List (String Z)) → list_any (λ word. is_help (string_bytes word)) (take (length words - 1) (drop 1 words)) ≡ asks_help (map string_bytes words)
asked [] = refl
asked (word ∷ words) =
    let all : take (length (word ∷ words) - 1) words ≡ words = take_all (length (word ∷ words) - 1) words (omega arith) in
    ap (list_any (λ word. is_help (string_bytes word))) all ∙ list_any-map is_help string_bytes words
