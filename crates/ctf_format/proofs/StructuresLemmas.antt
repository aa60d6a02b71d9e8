-- Structures of integers at fixed distances that are shown where they are.
use Rattle.std.proofs.Common.{◌≡◌, ℕ, ◌+◌, ◌*◌, ◌≤◌, List, [], ◌∷◌, ◌++◌, length, max, None, refl, sym, ap, subst, ◌∙◌, arith, append-nil}
use Rattle.std.specs.Int.{next_multiple_of}
use Rattle.std.specs.List.{flat_map}
use Rattle.ctf_bits.specs.Align.{IsLeastMultiple}
use Rattle.ctf_class.specs.Records.{IsStructure, ArePieces, all_alone, ended_after, ends, insides, member_slots, members_of}
use Rattle.ctf_class.specs.declared.class.Kind as kind
use Rattle.ctf_class.specs.declared.class.Member.{Member}
use Rattle.ctf_class.specs.declared.class.Class.{Class}
use Rattle.ctf_class.specs.declared.structures.Structures.{Structures}
use Rattle.ctf_decode.specs.Views.{form}
use Rattle.ctf_decode.specs.declared.scopes.TheConstants.{MOST_VALUES}
use Rattle.ctf_format.specs.Records.{PutsFields}
use Rattle.ctf_format.specs.RunNumbers.{run_text}
use Rattle.ctf_format.specs.Standing.{Puts, PutsSome}
use Rattle.ctf_format.specs.Texts.{value_text}
use Rattle.ctf_format.proofs.RecordsLemmas.{fields_slots, numbers_to, no_number, pieces_scope, plain_numbers, run_numbers}

-- members of which none is gone into are these
alones_members : (ms : List Member) → members_of (all_alone ms) ≡ ms
alones_members [] = refl
alones_members (m ∷ ms) = ap (λ xs. m ∷ xs) (alones_members ms)

alones_insides : (ms : List Member) → insides (all_alone ms) ≡ 0
alones_insides [] = refl
alones_insides (m ∷ ms) = (let none = alones_insides ms in omega (arith, none))

alones_are : (align : ℕ) (ms : List Member) → ArePieces align (all_alone ms)
alones_are align [] = tt
alones_are align (m ∷ ms) = (tt, alones_are 1 ms)

alones_close : (ms : List Member) → ended_after 0 (all_alone ms) ≡ 0
alones_close [] = refl
alones_close (m ∷ ms) = alones_close ms

-- numbers and a brace are a structure
pub structure_puts : (k : Class) (s : Structures) (packet : List ℕ) (content at place first : ℕ) (before line after : List ℕ) → IsStructure k s → IsLeastMultiple at s.align place → place ≡ next_multiple_of at s.align → 8 * first ≡ place → place + s.span ≤ content
    → line ≡ before ++ flat_map (run_text packet first) s.numbers → after ≡ line ++ (32 ∷ 125 ∷ []) → PutsSome (form k) (value_text k) s.count packet content at (place + s.span) before after
structure_puts k s packet content at place first before line after is least begins starts within wrote closed spent room =
    let ms = is.members in
    let ps = all_alone ms in
    let fields = member_slots k.align ms in
    let from = numbers_to at 0 None before in
    let to = numbers_to (place + s.span) 0 None line in
    let all = run_numbers s.align fields [] s.numbers s.numbers at s.span first place content 0 None packet before before line is.numbers refl (no_number s.numbers packet first) least begins (λ some. starts) within refl wrote in
    let whole : all.0 ≡ fields = sym (all.1 ∙ append-nil all.0) in
    let puts : PutsFields fields packet content from to = subst (λ xs. PutsFields xs packet content from to) whole all.2 in
    let lengths : length (members_of ps) ≡ length ms = ap length (alones_members ms) in
    let none = alones_insides ms in
    let slots = fields_slots packet content fields from to [] (plain_numbers (max 8 s.align) 0 s.span fields [] s.numbers is.numbers.1 tt) puts in
    let one = pieces_scope packet content ps k k.align [] [] from to [] [] (is.is ∙ ap kind.Structure (sym (alones_members ms))) (omega (arith, lengths, is.some)) (alones_are k.align ms) refl slots in
    let total : spent + 1 + length (members_of ps) + insides ps + one.0 ≡ spent + s.count = omega (arith, one.1, is.count, lengths, none) in
    let few : spent + 1 + length (members_of ps) + insides ps + one.0 ≤ MOST_VALUES = omega (arith, total, room) in
    let end = place + s.span in
    let text : line ++ (ends (ended_after 0 ps) ++ (32 ∷ 125 ∷ [])) ≡ after = ap (λ n. line ++ (ends n ++ (32 ∷ 125 ∷ []))) (alones_close ms) ∙ sym closed in
    subst (λ xs. Puts (form k) (value_text k) packet content at spent end (spent + s.count) before xs) text
    (subst (λ xs. Puts (form k) (value_text k) packet content at spent end (spent + s.count) xs (line ++ (ends (ended_after 0 ps) ++ (32 ∷ 125 ∷ [])))) (append-nil before)
    (subst (λ n. Puts (form k) (value_text k) packet content at spent end n (before ++ []) (line ++ (ends (ended_after 0 ps) ++ (32 ∷ 125 ∷ [])))) total (λ earlier env. (let v = one.3 at refl spent few earlier env tt in (v.0, v.1, v.2)))))
