-- What holds of the scopes of a text that was gone through to its end.
use Rattle.std.proofs.Common.{◌≡◌, ◌+◌, nat_lt, List, [], ◌∷◌, ◌++◌, map, Ok, Err, refl, sym, ap, ◌∙◌, subst, arith}
use Rattle.std.specs.Prelude.{flat_map, sum}
use Rattle.ctf_meaning.specs.declared.fault.ResolveFault.{ResolveFault}
use Rattle.ctf_meaning.specs.declared.fault.ResolveFault.TheVariants.{TooDeep}
use Rattle.ctf_meaning.specs.Written.{Declaration, Block, Table, Names}
use Rattle.ctf_meaning.specs.Settings.{when, minus_faults}
use Rattle.ctf_meaning.specs.Shapes.{nodes_of}
use Rattle.ctf_meaning.specs.Blocks.{block_faults, twice_faults}
use Rattle.ctf_meaning.specs.Scopes.{scope_faults}
use Rattle.ctf_meaning.specs.Faults.{most_nodes}
use Rattle.ctf_meaning.proofs.Lists.{Each, each_append, each_none}
use Rattle.ctf_meaning_steps.specs.Told.{Told, ◌>>=◌, unless}
use Rattle.ctf_meaning_steps.specs.Seen.{Seen, nothing_seen}
use Rattle.ctf_meaning_steps.specs.Items.{item_told}
use Rattle.ctf_meaning_steps.specs.Blocks.{Placed, Walked, start, placed, plain_row, scopes_told, entries_told, declaration_told, declarations_told, text_told}

-- the class of a scope is a structure without floats
abbrev pub IsSound : Placed → Type 0
IsSound p = scope_faults p.1 ≡ []

abbrev pub AreSound : List (List Placed) → Type 0
AreSound rows = Each (λ row. Each IsSound row) rows

-- what a step that goes on has given
pub after_unless : {A : Type 0} (fs : List ResolveFault) (told : Told A) (a : A) → unless fs told ≡ Ok a → (fs ≡ []) × (told ≡ Ok a)
after_unless [] told a h = (refl, h)
after_unless (f ∷ fs) told a h = absurd (grind (arith, h))

pub after_then : {A B : Type 0} (told : Told A) (f : A → Told B) (b : B) → (told >>= f) ≡ Ok b → (a : A) × (told ≡ Ok a) × (f a ≡ Ok b)
after_then (Ok a) f b h = (a, refl, h)
after_then (Err fault) f b h = absurd (grind (arith, h))

same_ok : {A : Type 0} (told : Told A) (x y : A) → told ≡ Ok x → told ≡ Ok y → x ≡ y
same_ok {A} told x y h k = ap (value x) (sym h ∙ k)
  where
    value : A → Told A → A
    value d (Ok a) = a
    value d (Err f) = d

pub ok_same : (x y : Walked) (told : Told Walked) → told ≡ Ok y → told ≡ Ok x → x ≡ y
ok_same x y told h k = same_ok told x y k h

scopes_sound : (walked : Walked) (scopes : List Placed) (next : Walked) → scopes_told walked scopes ≡ Ok next → AreSound walked.rows → AreSound next.rows
scopes_sound walked scopes next h sound =
    let first = after_unless (flat_map (λ p. scope_faults p.1) scopes) _ next h in
    let second = after_unless (when (nat_lt most_nodes (walked.nodes + sum (map (λ p. nodes_of p.1) scopes))) TooDeep) _ next first.1 in
    subst (λ (w : Walked). AreSound w.rows) (ok_same _ next _ second.1 refl)
    (each_append (λ row. Each IsSound row) walked.rows (scopes ∷ []) sound (each_none (λ p. scope_faults p.1) scopes first.0, tt))

plain_sound : (walked : Walked) (own : Seen) → AreSound walked.rows → AreSound (plain_row walked own).rows
plain_sound walked own sound = each_append (λ row. Each IsSound row) walked.rows ([] ∷ []) sound (tt, tt)

declaration_sound : (before : List Declaration) (walked : Walked) (d : Declaration) (next : Walked) → declaration_told before walked d ≡ Ok next → AreSound walked.rows → AreSound next.rows
declaration_sound before walked (Block which entries) next h sound =
    let settings = after_unless (block_faults (Block which entries)) _ next h in
    let twice = after_unless (twice_faults before (Block which entries)) _ next settings.1 in
    let held = after_then (entries_told walked.own (record { own = nothing_seen; classes = [] }) entries) (λ held. scopes_told walked (placed which held.classes)) next twice.1 in
    scopes_sound walked (placed which held.0.classes) next held.2 sound
declaration_sound before walked (Table kind settings) next h sound =
    let numbers = after_unless (minus_faults settings) _ next h in
    let block = after_unless (block_faults (Table kind settings)) _ next numbers.1 in
    let twice = after_unless (twice_faults before (Table kind settings)) _ next block.1 in
    subst (λ (w : Walked). AreSound w.rows) (ok_same (plain_row walked walked.own) next _ twice.1 refl) (plain_sound walked walked.own sound)
declaration_sound before walked (Names item) next h sound =
    let made = after_then (item_told nothing_seen walked.own item) (λ made. Ok (plain_row walked made.own)) next h in
    subst (λ (w : Walked). AreSound w.rows) (ok_same (plain_row walked made.0.own) next _ made.2 refl) (plain_sound walked made.0.own sound)

declarations_sound : (before : List Declaration) (walked : Walked) (ds : List Declaration) (end : Walked) → declarations_told before walked ds ≡ Ok end → AreSound walked.rows → AreSound end.rows
declarations_sound before walked [] end h sound = subst (λ (w : Walked). AreSound w.rows) (ok_same walked end _ h refl) sound
declarations_sound before walked (d ∷ ds) end h sound =
    let next = after_then (declaration_told before walked d) (λ next. declarations_told (before ++ d ∷ []) next ds) end h in
    declarations_sound (before ++ d ∷ []) next.0 ds end next.2 (declaration_sound before walked d next.0 next.1 sound)

pub text_sound : (text : List Declaration) (walked : Walked) → text_told text ≡ Ok walked → AreSound walked.rows
text_sound text walked h = declarations_sound [] start text walked h tt
