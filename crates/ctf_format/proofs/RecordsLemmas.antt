-- Event records that are written by their plan are shown as their classes say.
use Rattle.std.proofs.Common.{◌≡◌, ℕ, zero, suc, ◌+◌, ◌-◌, ◌*◌, ◌%◌, ◌/◌, ◌<◌, ◌≤◌, max, Bool, true, false, ℤ, pos, negsuc, List, [], ◌∷◌, ◌++◌, map, take, drop, length, get_or, Option, Some, None, IfSome, Ok, Err, cond, codes, inl, inr, refl, sym, ap, subst, ◌∙◌, arith, append_assoc, append-nil}
use Rattle.std.specs.Prelude.{⊤, if◌then◌else◌}
use Rattle.std.specs.Int.{next_multiple_of}
use Rattle.ctf_bits.specs.Number.{number, signed_number}
use Rattle.std.specs.List.{All, flat_map}
use Rattle.std.proofs.lemmas.List.Elements.{All-cons, All-nil}
use Rattle.ctf_bits.specs.Placed.{Placed}
use Rattle.ctf_bits.specs.Align.{IsLeastMultiple}
use Rattle.ctf_bits.proofs.Aligns.{IsLeastMultiple-next}
use Rattle.ctf_class.proofs.AlignmentLemmas.{divides_too, next_after}
use Rattle.ctf_class.proofs.RecordsLemmas.{ends_on}
use Rattle.ctf_class.specs.Alignment.{IsLarger}
use Rattle.ctf_class.specs.Integers.{bits_of}
use Rattle.ctf_class.specs.Names.{field_text}
use Rattle.ctf_class.specs.Records.{ScopeClass, Slot, At, from_after, from_inside, from_later, known_after, known_by, known_scope, with_kept, Piece, Pieces, alone, inner, no_pieces, more_pieces, Scoped, IsPiece, ArePieces, member_of, members_of, inside, insides, ended_by, ended_after, ends, ended_last, first_at, later_at, known_index, member_slots, opened_lead, piece_slots, pieces_slots, scope_slots, slots, ended_in, before_next, all_slots, values_in, AreScoped, scopes_of, IsNumber, AreInRun, TakesNumbers, IsLength, IsShown, IsStructure, IsField, After, LeadsBefore, numbers_room, room_of, AreRuns}
use Rattle.ctf_class.specs.declared.class.Class.{Class}
use Rattle.ctf_class.specs.declared.class.Kind as kind
use Rattle.ctf_class.specs.declared.class.Member.{Member}
use Rattle.ctf_class.specs.declared.record_plan.PlannedField.{PlannedField}
use Rattle.ctf_class.specs.declared.integer.Integer.{Integer}
use Rattle.ctf_class.specs.declared.record_plan.PlannedRun.{PlannedRun}
use Rattle.ctf_class.specs.declared.shown.Shown.{Shown as PlannedShown}
use Rattle.ctf_class.specs.declared.shown.Shown.TheVariants as fields
use Rattle.ctf_class.specs.declared.many.Many.TheVariants as many
use Rattle.ctf_class.specs.declared.planned_number.PlannedNumber.{PlannedNumber}
use Rattle.ctf_class.specs.declared.structures.Structures.{Structures}
use Rattle.ctf_class.specs.declared.route.Length.{Length}
use Rattle.ctf_class.specs.declared.route.Length.TheVariants as lengths
use Rattle.ctf_class.specs.declared.route.Route.{Route}
use Rattle.ctf_decode.specs.Forms.{Form, integer, parts_of, structure}
use Rattle.ctf_decode.specs.Input.{Input, Env, integer_at}
use Rattle.ctf_decode.specs.Breaks.{past}
use Rattle.ctf_decode.specs.Routes.{length_of}
use Rattle.ctf_class.specs.declared.route.Scope.{Scope}
use Rattle.ctf_decode.specs.Values.{Val, group, vals_of}
use Rattle.std.proofs.lemmas.Bool.{le-ltb}
use Rattle.ctf_decode.specs.Walk.{and_then, as_group, begin, leaf, open_at, walk, walk_members}
use Rattle.ctf_decode.specs.Views as views
use Rattle.ctf_decode.specs.Views.{form}
use Rattle.ctf_decode.specs.declared.scopes.TheConstants.{MOST_VALUES}
use Rattle.ctf_format.specs.Structures.{IsNearStructure}
use Rattle.ctf_format.specs.Kept.{KeepsIf, Knows, PutsSlot, PutsSlots}
use Rattle.ctf_format.specs.Numbers.{number_text}
use Rattle.ctf_format.specs.RunNumbers.{IsPlaced, number_at, place_in, run_text}
use Rattle.ctf_format.specs.Records.{Reached, CountsAfter, IsLastNumber, IsLastOf, PutsField, PutsFields, ScopesFollow, SeesAfter, TakesRun, IsNear, IsNearShown, after_last, after_members, after_value, turn_of}
use Rattle.ctf_format.specs.Standing.{Before, Counts, IfKnown, LastIs, PutsOne, PutsNext, StandsAs, StandsAsNumber, ValueIs, among, known}
use Rattle.ctf_format.specs.Texts.{Shown, Part, integer_text, value_text, part_text, member_part, member_texts}
use Rattle.ctf_format.specs.Rows.{row}
use Rattle.ctf_format.specs.declared.placed_run.PlacedRun.{PlacedRun}
use Rattle.ctf_format.specs.declared.standing.Last.{Last}
use Rattle.ctf_format.specs.declared.standing.Last.TheVariants as lasts
use Rattle.ctf_format.specs.declared.standing.MembersEnd.{MembersEnd}
use Rattle.ctf_format.specs.declared.standing.Next.{Next}
use Rattle.ctf_format.proofs.KeptLemmas.{AreBefore, before_inside, before_later, before_longer, before_pieces, kept_knows, kept_lengths, knows_after, knows_bare, knows_inside, knows_later, knows_past}
use Rattle.ctf_format.proofs.StandingLemmas.{Going, PutsBecoming, last_is, stands_is, going_begins, going_further, puts_next, going_ends, closed, begins, form_structure, puts_structure, text-Structure, value-is, as_one, form_integer, text_integer, member-is, stands_number, mark_at, kind_text}
use Rattle.ctf_format.proofs.RunNumbersLemmas.{run_integer}
use Rattle.ctf_format.proofs.StartsLemmas.{Leads, at_one, base_divides, below, larger_begins, leads_itself, run_leads}
use Rattle.ctf_format.proofs.ArrayLemmas.{counts_last}

-- a text and a value after it are the field
pub puts_led : (k : Class) (lead : List ℕ) (packet : List ℕ) (content place end : ℕ) (before line after : List ℕ) → line ≡ before ++ lead → PutsOne (form k) (value_text k) packet content place end line after
    → PutsOne (form k) (λ v. lead ++ value_text k v) packet content place end before after
puts_led k lead packet content place end before line after wrote puts spent few earlier env =
    let p = puts spent few earlier env in
    let text = value_text k p.0 in
    (p.0, p.1, p.2 ∙ ap (λ xs. xs ++ text) wrote ∙ append_assoc before lead text)

-- so is one after the members of a structure
pub next_led : (before : Before) (k : Class) (lead : List ℕ) (packet : List ℕ) (content place : ℕ) (from line : List ℕ) (n : Next) (after : List ℕ) → line ≡ from ++ lead → PutsNext before (form k) (value_text k) packet content place line n after
    → PutsNext before (form k) (λ v. lead ++ value_text k v) packet content place from n after
next_led before k lead packet content place from line n after wrote puts spent room earlier env vs counted last =
    let p = puts spent room earlier env vs counted last in
    let text = value_text k p.0 in
    (p.0, p.1, p.2 ∙ ap (λ xs. xs ++ text) wrote ∙ append_assoc from lead text, p.3)

-- fields after fields
pub fields_join : (packet : List ℕ) (content : ℕ) (xs ys : List Slot) (from mid to : Reached) → PutsFields xs packet content from mid → PutsFields ys packet content mid to → PutsFields (xs ++ ys) packet content from to
fields_join packet content [] ys from mid to first second = subst (λ r. PutsFields ys packet content r to) first second
fields_join packet content (x ∷ xs) ys from mid to first second = (first.0, first.1, fields_join packet content xs ys first.0 mid to first.2 second)

-- the same where numbers are kept
pub slots_join : (packet : List ℕ) (content : ℕ) (xs ys : List Slot) (from mid to : Reached) (ns ks ms : List Last) → PutsSlots xs packet content from ns mid ks → PutsSlots ys packet content mid ks to ms → PutsSlots (xs ++ ys) packet content from ns to ms
slots_join packet content [] ys from mid to ns ks ms first second = subst (λ r. PutsSlots ys packet content r ns to ms) first.0 (subst (λ k. PutsSlots ys packet content mid k to ms) first.1 second)
slots_join packet content (x ∷ xs) ys from mid to ns ks ms first second = (first.0, first.1, first.2, slots_join packet content xs ys first.0 mid to first.1 ks ms first.3 second)

-- and apart again
pub slots_split : (packet : List ℕ) (content : ℕ) (xs ys : List Slot) (from to : Reached) (ns ms : List Last) → PutsSlots (xs ++ ys) packet content from ns to ms
    → (mid : Reached) × (ks : List Last) × PutsSlots xs packet content from ns mid ks × PutsSlots ys packet content mid ks to ms
slots_split packet content [] ys from to ns ms puts = (from, ns, (refl, refl), puts)
slots_split packet content (x ∷ xs) ys from to ns ms puts =
    let s = slots_split packet content xs ys puts.0 to puts.1 ms puts.3 in
    (s.0, s.1, (puts.0, puts.1, puts.2, s.2), s.3)

-- numbers are kept after those before
keeps_longer : (kept : Bool) (k : Form) (packet : List ℕ) (content place : ℕ) (ns ms : List Last) → KeepsIf kept k packet content place ns ms → (more : List Last) × (ms ≡ ns ++ more)
keeps_longer false k packet content place ns ms keeps = ([], keeps ∙ sym (append-nil ns))
keeps_longer true k packet content place ns ms keeps = (keeps.0 ∷ [], keeps.2)

pub slots_longer : (packet : List ℕ) (content : ℕ) (ss : List Slot) (from to : Reached) (ns ms : List Last) → PutsSlots ss packet content from ns to ms → (more : List Last) × (ms ≡ ns ++ more)
slots_longer packet content [] from to ns ms puts = ([], puts.1 ∙ sym (append-nil ns))
slots_longer packet content (s ∷ ss) from to ns ms puts =
    let one = keeps_longer s.kept (form s.class) packet content (next_multiple_of from.place s.align) ns puts.1 puts.2.5 in
    let all = slots_longer packet content ss puts.0 to puts.1 ms puts.3 in
    (one.0 ++ all.0, all.1 ∙ ap (λ xs. xs ++ all.0) one.1 ∙ append_assoc ns one.0 all.0)

-- fields of which no number is kept
abbrev pub Plain : List Slot → Type 0
Plain [] = ⊤
Plain (s ∷ ss) = (s.kept ≡ false) × Plain ss

keeps_none : (kept : Bool) (s : Slot) (packet : List ℕ) (content place : ℕ) (ns : List Last) → kept ≡ false → KeepsIf kept (form s.class) packet content place ns ns
keeps_none kept s packet content place ns none = subst (λ b. KeepsIf b (form s.class) packet content place ns ns) (sym none) refl

pub fields_slots : (packet : List ℕ) (content : ℕ) (ss : List Slot) (from to : Reached) (ns : List Last) → Plain ss → PutsFields ss packet content from to → PutsSlots ss packet content from ns to ns
fields_slots packet content [] from to ns plain puts = (puts, refl)
fields_slots packet content (s ∷ ss) from to ns plain puts =
    let f = puts.1 in
    (puts.0, ns, (f.0, f.1, f.2, (λ spent room earlier env vs counted last knows. f.3 spent room earlier env vs counted last), f.4, keeps_none s.kept s packet content (next_multiple_of from.place s.align) ns plain.0), fields_slots packet content ss puts.0 to ns plain.1 puts.2)

-- numbers of a run end within it
run_reach : (base from span : ℕ) (ss rest : List Slot) (ns : List PlannedNumber) → AreInRun base from ss ns span rest → from ≤ span
run_reach base from span ss rest [] are = omega (arith, are.0)
run_reach base from span [] rest (n ∷ ns) are = absurd are
run_reach base from span (s ∷ ss) rest (n ∷ ns) are =
    let further = run_reach base (n.window.place + n.window.size) span ss rest ns are.1 in
    let after : from ≤ n.window.place = omega (arith, ap (λ (w : Placed). w.place) are.0.window) in
    omega (arith, further, after)

pub run_after : (base from span : ℕ) (ss rest : List Slot) (ns : List PlannedNumber) → AreInRun base from ss ns span rest → All (λ (n : PlannedNumber). n.window.place + bits_of n.integer ≤ span) ns
run_after base from span ss rest [] are = All-nil (λ (n : PlannedNumber). n.window.place + bits_of n.integer ≤ span)
run_after base from span [] rest (n ∷ ns) are = absurd are
run_after base from span (s ∷ ss) rest (n ∷ ns) are =
    let next = n.window.place + n.window.size in
    let size = ap (λ (w : Placed). w.size) are.0.window in
    let inside : n.window.place + bits_of n.integer ≤ span = omega (arith, size, run_reach base next span ss rest ns are.1) in
    All-cons (λ (k : PlannedNumber). k.window.place + bits_of k.integer ≤ span) n ns inside (run_after base next span ss rest ns are.1)

-- the windows of numbers are those of their integers
pub run_placed : (base from span : ℕ) (ss rest : List Slot) (ns : List PlannedNumber) → AreInRun base from ss ns span rest → All IsPlaced ns
run_placed base from span ss rest [] are = All-nil IsPlaced
run_placed base from span [] rest (n ∷ ns) are = absurd are
run_placed base from span (s ∷ ss) rest (n ∷ ns) are =
    let is : IsPlaced n = record { size = ap (λ (w : Placed). w.size) are.0.window; sign = ap (λ (w : Placed). w.is_signed) are.0.window; usual = are.0.special } in
    All-cons IsPlaced n ns is (run_placed base (n.window.place + n.window.size) span ss rest ns are.1)

-- what is left after the field of a run
pub left_after : (ss : List Slot) (f : Option PlannedField) (Holds : List Slot → Type 0) → After ss f Holds → (others : List Slot) × After ss f (λ xs. xs ≡ others) × Holds others
left_after ss None Holds after = (ss, refl, after)
left_after [] (Some f) Holds after = absurd after
left_after (s ∷ ss) (Some f) Holds after = (ss, (after.0, refl), after.1)

-- the first of some runs
pub takes_first : (ss : List Slot) (r : PlannedRun) (rs : List PlannedRun) → AreRuns ss (r ∷ rs) → (others : List Slot) × TakesRun ss r others × AreRuns others rs
takes_first ss r rs are =
    let left = left_after are.0 r.field (λ xs. AreRuns xs rs) are.5 in
    (left.0, (are.0, are.1, left.1), left.2)

-- what is known of structures of numbers
structure_near : (k : Class) (s : Structures) → IsStructure k s → IsNearStructure s
structure_near k s is =
    let fields = member_slots k.align is.members in
    record { room = is.room; bounded = is.bounded; special = is.special; within_span = run_after (max 8 s.align) 0 s.span fields [] s.numbers is.numbers.1; placed = run_placed (max 8 s.align) 0 s.span fields [] s.numbers is.numbers.1 }

pub shown_near : (index : ℕ) (m : Class) (what : PlannedShown) → IsShown index m what → IsNearShown what
shown_near index m fields.String is = tt
shown_near index m (fields.Text many) is = tt
shown_near index m (fields.Empty align) is = tt
shown_near index m (fields.Integer lone) is = tt
shown_near index m (fields.Integers are) is = tt
shown_near index m (fields.Structures are) is = structure_near is.2.0 are is.2.2
shown_near index m (fields.Labelled labelled) is = tt

field_near : (ss : List Slot) (f : Option PlannedField) (Holds : List Slot → Type 0) → After ss f Holds → IfSome f (λ x. IsNearShown x.shown)
field_near ss None Holds after = tt
field_near [] (Some f) Holds after = absurd after
field_near (s ∷ ss) (Some f) Holds after = shown_near s.index s.class f.shown after.0.shown

-- runs of a plan are near
pub runs_near : (ss : List Slot) (rs : List PlannedRun) → AreRuns ss rs → All IsNear rs
runs_near ss [] are = All-nil IsNear
runs_near ss (r ∷ rs) are =
    let first = takes_first ss r rs are in
    All-cons IsNear r rs (record { room = are.2; bounded = are.3; special = are.4; within_span = run_after (max 8 r.align) 0 r.span ss are.0 r.numbers are.1.1; placed = run_placed (max 8 r.align) 0 r.span ss are.0 r.numbers are.1.1; inner = field_near are.0 r.field (λ xs. AreRuns xs rs) are.5 }) (runs_near first.0 rs first.2)

-- no number of runs is kept
pub plain_numbers : (base from span : ℕ) (ss rest : List Slot) (ns : List PlannedNumber) → AreInRun base from ss ns span rest → Plain rest → Plain ss
plain_numbers base from span ss rest [] are plain = subst Plain are.1 plain
plain_numbers base from span [] rest (n ∷ ns) are plain = tt
plain_numbers base from span (s ∷ ss) rest (n ∷ ns) are plain = (are.0.kept, plain_numbers base (n.window.place + n.window.size) span ss rest ns are.1 plain)

plain_after : (ss : List Slot) (f : Option PlannedField) (Holds : List Slot → Type 0) → After ss f Holds → ((xs : List Slot) → Holds xs → Plain xs) → Plain ss
plain_after ss None Holds after plain = plain ss after
plain_after [] (Some f) Holds after plain = absurd after
plain_after (s ∷ ss) (Some f) Holds after plain = (after.0.kept, plain ss after.1)

pub runs_plain : (ss : List Slot) (rs : List PlannedRun) → AreRuns ss rs → Plain ss
runs_plain ss [] are = subst Plain (sym are) tt
runs_plain ss (r ∷ rs) are = plain_numbers (max 8 r.align) 0 r.span ss are.0 r.numbers are.1.1 (plain_after are.0 r.field (λ xs. AreRuns xs rs) are.5 (λ xs holds. runs_plain xs rs holds))

-- the room of numbers alone, and of the text after them
pub room_alone : (ns : List PlannedNumber) (f : Option PlannedField) → numbers_room ns ≤ room_of ns f
room_alone [] None = omega arith
room_alone [] (Some f) = omega arith
room_alone (n ∷ ns) f = let more = room_alone ns f in omega (arith, more)

pub room_after : (ns : List PlannedNumber) (f : Option PlannedField) → numbers_room ns + room_of [] f ≡ room_of ns f + 24
room_after [] None = refl
room_after [] (Some f) = omega arith
room_after (n ∷ ns) f = let more = room_after ns f in omega (arith, more)

-- the number that is not below zero
nat_of : ℤ → ℕ
nat_of (pos n) = n
nat_of (negsuc n) = 0

-- a number of a run is its field
number_alone : (s : Slot) (n : PlannedNumber) (base from first place content : ℕ) (packet line : List ℕ) → IsNumber base from s n → place % base ≡ 0 → 8 * first ≡ place → place + (n.window.place + n.window.size) ≤ content
    → (next_multiple_of (place + from) s.align ≤ content) × PutsOne (form s.class) (λ v. s.lead ++ value_text s.class v) packet content (next_multiple_of (place + from) s.align) (place + (n.window.place + n.window.size)) line (line ++ run_text packet first n)
number_alone s n base from first place content packet line is whole starts within =
    let i = n.integer in
    let a = s.class.align in
    let begun = next_multiple_of from s.align in
    let end = place + (n.window.place + n.window.size) in
    let digits = number_text i (number_at i packet (place_in first n)) in
    let named = line ++ n.ready in
    let after = line ++ run_text packet first n in
    let begins : next_multiple_of (place + from) s.align ≡ place + begun = next_after place from s.align (divides_too place base s.align whole is.begins) in
    let ends : end ≡ place + (next_multiple_of begun a + bits_of i) = ap (λ (w : Placed). place + (w.place + w.size)) is.window in
    let wrote : after ≡ named ++ number_text i (number_at i packet (8 * first + next_multiple_of begun a)) = sym (append_assoc line n.ready digits) ∙ ap (λ (w : Placed). named ++ number_text i (number_at i packet (8 * first + w.place))) is.window in
    let puts : PutsOne (integer a i) (integer_text i) packet content (place + begun) end named after = run_integer i a packet content first place begun end named after starts (divides_too place base a whole is.divides) ends within wrote in
    let there : PutsOne (form s.class) (λ v. s.lead ++ value_text s.class v) packet content (place + begun) end line after =
    puts_led s.class s.lead packet content (place + begun) end line named after (ap (λ t. line ++ t) is.ready)
    (as_one (integer a i) (form s.class) (integer_text i) (value_text s.class) packet content (place + begun) end named after after (form_integer s.class i is.is) (text_integer s.class i is.is) refl puts)
    in
    let near : begun ≤ n.window.place = omega (arith, ap (λ (w : Placed). w.place) is.window) in
    (omega (arith, begins, near, within), subst (λ p. PutsOne (form s.class) (λ v. s.lead ++ value_text s.class v) packet content p end line after) (sym begins) there)

-- and an unsigned one is there as its number
number_stands : (s : Slot) (n : PlannedNumber) (base from first place content v : ℕ) (packet : List ℕ) → IsNumber base from s n → place % base ≡ 0 → 8 * first ≡ place → place + (n.window.place + n.window.size) ≤ content → n.integer.is_signed ≡ false → number_at n.integer packet (place_in first n) ≡ pos v
    → StandsAsNumber (form s.class) packet content (next_multiple_of (place + from) s.align) v
unfolding number nat_of
number_stands s n base from first place content v packet is whole starts within plain read =
    let i = n.integer in
    let a = s.class.align in
    let begun = next_multiple_of from s.align in
    let at = next_multiple_of (place + from) s.align in
    let begins : at ≡ place + begun = next_after place from s.align (divides_too place base s.align whole is.begins) in
    let stands : next_multiple_of at a ≡ 8 * first + n.window.place = ap (λ p. next_multiple_of p a) begins ∙ next_after place begun a (divides_too place base a whole is.divides) ∙ (λ j. sym starts j + sym (ap (λ (w : Placed). w.place) is.window) j) in
    let wide : n.window.size ≡ bits_of i = ap (λ (w : Placed). w.size) is.window in
    let read_so : number_at i packet (place_in first n) ≡ pos (number i.order packet (place_in first n) (bits_of i)) = ap (λ b. if b then signed_number i.order packet (place_in first n) (bits_of i) else pos (number i.order packet (place_in first n) (bits_of i))) plain in
    let same : v ≡ number i.order packet (next_multiple_of at a) (bits_of i) = ap nat_of (sym read ∙ read_so) ∙ ap (λ p. number i.order packet p (bits_of i)) (sym stands) in
    subst (λ f. StandsAsNumber f packet content at v) (form_integer s.class i is.is) (stands_number a i packet content at v plain (omega (arith, stands, wide, starts, within)) same)

-- a value alone is a field
alone_field : (s : Slot) (packet : List ℕ) (content : ℕ) (from to : Reached) → next_multiple_of from.place s.align ≤ content → PutsOne (form s.class) (λ v. s.lead ++ value_text s.class v) packet content (next_multiple_of from.place s.align) to.place from.line to.line → to.more ≡ from.more
    → StandsAs to.last (form s.class) packet content (next_multiple_of from.place s.align) → PutsField s packet content from to
alone_field s packet content from to within puts same stands =
    let shown : Shown = λ v. s.lead ++ value_text s.class v in
    let begun = next_multiple_of from.place s.align in
    (within, 0, (let none : to.more ≡ from.more + 0 = omega (arith, same) in none), puts_next (after_last s.index from.last) (form s.class) shown packet content begun to.place 0 from.line to.line puts, stands)

-- how far the numbers of a run came
abbrev pub numbers_to : ℕ → ℕ → Option ℕ → List ℕ → Reached
numbers_to place more last line = after_value place more (known last) line

number_field : (s : Slot) (n : PlannedNumber) (base from first place content more : ℕ) (earlier last : Option ℕ) (packet line : List ℕ) → IsNumber base from s n → place % base ≡ 0 → 8 * first ≡ place → place + (n.window.place + n.window.size) ≤ content → IfSome last (λ v. (n.integer.is_signed ≡ false) × (number_at n.integer packet (place_in first n) ≡ pos v))
    → PutsField s packet content (numbers_to (place + from) more earlier line) (numbers_to (place + (n.window.place + n.window.size)) more last (line ++ run_text packet first n))
number_field s n base from first place content more earlier last packet line is whole starts within number_is =
    let alone = number_alone s n base from first place content packet line is whole starts within in
    alone_field s packet content (numbers_to (place + from) more earlier line) (numbers_to (place + (n.window.place + n.window.size)) more last (line ++ run_text packet first n)) alone.0 alone.1 refl (stands last number_is)
  where
    stands : (o : Option ℕ) → IfSome o (λ v. (n.integer.is_signed ≡ false) × (number_at n.integer packet (place_in first n) ≡ pos v)) → StandsAs (known o) (form s.class) packet content (next_multiple_of (place + from) s.align)
    stands None told = tt
    stands (Some v) told = number_stands s n base from first place content v packet is whole starts within told.0 told.1

-- an integer is the same field where it is looked for from another place that leads to it
module _ (s : Slot) (i : Integer) (is : s.class.kind ≡ kind.Integer i) (packet : List ℕ) (content at from more : ℕ) (known : Option ℕ) (line : List ℕ) (to : Reached)
    (below : next_multiple_of at s.align ≤ next_multiple_of from s.align) (same : next_multiple_of (next_multiple_of at s.align) s.class.align ≡ next_multiple_of (next_multiple_of from s.align) s.class.align) where
  walks : (c : Input) (env : Env) (spent : ℕ) → walk (form s.class) c env (next_multiple_of at s.align) spent ≡ walk (form s.class) c env (next_multiple_of from s.align) spent
  walks c env spent =
      let there = λ (b : ℕ). begin c spent (leaf c (b + bits_of i) spent (integer_at c i b)) in
      subst (λ f. walk f c env (next_multiple_of at s.align) spent ≡ walk f c env (next_multiple_of from s.align) spent) (form_integer s.class i is) (ap there same)

  stands_led : (l : Last) → StandsAs l (form s.class) packet content (next_multiple_of from s.align) → StandsAs l (form s.class) packet content (next_multiple_of at s.align)
  stands_led lasts.Unknown found = tt
  stands_led (lasts.Unsigned n) found = λ spent few earlier env. (let v = found spent few earlier env in (v.0, walks (among packet content earlier) env spent ∙ v.1))
  stands_led (lasts.Label z) found = λ spent few earlier env. (let v = found spent few earlier env in (v.0, walks (among packet content earlier) env spent ∙ v.1))

  pub field_led : PutsField s packet content (numbers_to from more known line) to → PutsField s packet content (numbers_to at more known line) to
  field_led puts = (
    omega (arith, below, puts.0),
    puts.1,
    puts.2,
    λ spent room earlier env vs counted last. (let v = puts.3 spent room earlier env vs counted last in (v.0, walks (among packet content earlier) (vs ∷ env) spent ∙ v.1, v.2, v.3)),
    stands_led to.last puts.4,
  )

-- the numbers of a run are its first fields
pub numbers_fields : (ss rest : List Slot) (ns : List PlannedNumber) (base at from span first place content more : ℕ) (last : Option ℕ) (packet line : List ℕ) → AreInRun base from ss ns span rest → Leads at (place + from) ss ns → IsLastNumber last ns packet first → (0 < length ns → (place % base ≡ 0) × (8 * first ≡ place)) → place + span ≤ content
    → (used : List Slot) × (ss ≡ used ++ rest) × PutsFields used packet content (numbers_to at more None line) (numbers_to (place + span) more last (line ++ flat_map (run_text packet first) ns))
numbers_fields ss rest [] base at from span first place content more last packet line are leads known starts within =
    ([], sym are.1, λ j. numbers_to ((ap (λ k. place + k) are.0 ∙ sym leads) j) more (known j) (append-nil line j))
numbers_fields [] rest (n ∷ ns) base at from span first place content more last packet line are leads known starts within = absurd are
numbers_fields (s ∷ ss) rest (n ∷ []) base at from span first place content more last packet line are leads known starts within =
    let next = n.window.place + n.window.size in
    let longer = line ++ run_text packet first n in
    let ends : span ≡ next = are.1.0 in
    let begins = starts (omega arith) in
    let one = number_field s n base from first place content more None last packet line are.0 begins.0 begins.1 (omega (arith, ends, within)) known in
    let led = field_led s n.integer are.0.is packet content at (place + from) more None line (numbers_to (place + next) more last longer) leads.0 leads.1 one in
    (s ∷ [], ap (λ xs. s ∷ xs) (sym are.1.1), (numbers_to (place + next) more last longer, led, λ j. numbers_to (place + ends j) more last (line ++ append-nil (run_text packet first n) j)))
numbers_fields (s ∷ ss) rest (n ∷ (m ∷ ns)) base at from span first place content more last packet line are leads known starts within =
    let next = n.window.place + n.window.size in
    let longer = line ++ run_text packet first n in
    let inside : place + next ≤ content = omega (arith, within, run_reach base next span ss rest (m ∷ ns) are.1) in
    let begins = starts (omega arith) in
    let after = numbers_fields ss rest (m ∷ ns) base (place + next) next span first place content more last packet longer are.1 (leads_itself (place + next) ss (m ∷ ns)) known (λ some. begins) within in
    let one = number_field s n base from first place content more None None packet line are.0 begins.0 begins.1 inside tt in
    let led = field_led s n.integer are.0.is packet content at (place + from) more None line (numbers_to (place + next) more None longer) leads.0 leads.1 one in
    let all = flat_map (run_text packet first) (m ∷ ns) in (
      s ∷ after.0,
      ap (λ xs. s ∷ xs) after.1,
      (
        numbers_to (place + next) more None longer,
        led,
        subst (λ xs. PutsFields after.0 packet content (numbers_to (place + next) more None longer) (numbers_to (place + span) more last xs)) (append_assoc line (run_text packet first n) all) after.2,
      ),
    )

-- what is left after one more
drop_one : {A : Type 0} (xs : List A) (i : ℕ) (x : A) (rest : List A) → drop i xs ≡ x ∷ rest → (i < length xs) × (x ≡ get_or xs i x) × (drop (i + 1) xs ≡ rest)
drop_one [] zero x rest left = absurd (omega (arith, ap length left))
drop_one [] (suc i) x rest left = absurd (omega (arith, ap length left))
drop_one (y ∷ xs) zero x rest left = (omega arith, sym (ap (λ ys. get_or ys 0 x) left), ap (drop 1) left)
drop_one (y ∷ xs) (suc i) x rest left =
    let d = drop_one xs i x rest left in
    let more : suc i + 1 ≡ suc (i + 1) = omega arith in
    (omega (arith, d.0), d.1, ap (λ k. drop k (y ∷ xs)) more ∙ d.2)

-- what is known of a member after which so many structures end
abbrev last_known : ℕ → Last → Last
last_known zero last = last
last_known (suc n) last = lasts.Unknown

-- what is known of the members before the next one
known_after_last : (n i : ℕ) (last : Last) (vs : List Val) → length vs ≡ i → LastIs (last_known n last) vs → IfKnown (after_last (known_index n i) last).last (length vs ≡ (after_last (known_index n i) last).index) × LastIs (after_last (known_index n i) last).last vs
known_after_last zero zero last vs many is = (tt, tt)
known_after_last zero (suc i) lasts.Unknown vs many is = (tt, tt)
known_after_last zero (suc i) (lasts.Unsigned n) vs many is = (many, is)
known_after_last zero (suc i) (lasts.Label z) vs many is = (many, is)
known_after_last (suc n) i last vs many is = (tt, tt)

-- there are more pieces, or the last came to where the next one would begin
abbrev IsOver : Pieces → ℕ → ℕ → List ℕ → Type 0
IsOver no_pieces align n opens = (align ≡ 1) × (opens ≡ ends n)
IsOver (more_pieces p ps) align n opens = ⊤

over_later : (ps : Pieces) (n : ℕ) → IsOver ps 1 n (ends n)
over_later no_pieces n = (refl, refl)
over_later (more_pieces p ps) n = tt

over_some : (ps : Pieces) (align n : ℕ) (opens : List ℕ) → 0 < length (members_of ps) → IsOver ps align n opens
over_some no_pieces align n opens some = absurd (omega (arith, some))
over_some (more_pieces p ps) align n opens some = tt

-- the first of some pieces begins within the content
abbrev Begins : Pieces → ℕ → ℕ → Type 0
Begins no_pieces place content = ⊤
Begins (more_pieces p ps) place content = place ≤ content

begins_some : (ps : Pieces) (place content : ℕ) → 0 < length (members_of ps) → Begins ps place content → place ≤ content
begins_some no_pieces place content some begins = absurd (omega (arith, some))
begins_some (more_pieces p ps) place content some begins = begins

-- this is what is decoded before
abbrev Only : (Scope → Option Val) → Env → (Scope → Option Val) → Env → Type 0
Only earlier env other around = (other ≡ earlier) × (around ≡ env)

only : (P : (Scope → Option Val) → Env → Type 0) (earlier other : Scope → Option Val) (env around : Env) → Only earlier env other around → P earlier env → P other around
only P earlier other env around is holds = subst (λ e. P other e) (sym is.1) (subst (λ o. P o env) (sym is.0) holds)

-- what is known of the members before one, and where routes lead
abbrev AreKnown : Last → List Route → List Last → (Scope → Option Val) → Env → List Val → Type 0
AreKnown l known ns earlier env vs = LastIs l vs × Knows known ns earlier (vs ∷ env)

-- A value is there as a member of an index where routes lead to these numbers, and its text follows a text. Then these
-- routes lead to these.
abbrev pub PutsPiece : At → ℕ → Last → List Last → List Route → List Last → Form → Shown → List ℕ → ℕ → ℕ → List ℕ → Next → List ℕ → Type 0
PutsPiece at i last ns rs ms k shown packet content place line next after =
    (spent : ℕ) → spent + next.more < MOST_VALUES → (earlier : Scope → Option Val) (env : Env) (vs : List Val) → length vs ≡ i
    → IfKnown (after_last at.index last).last (length vs ≡ (after_last at.index last).index) → LastIs (after_last at.index last).last vs → Knows at.known ns earlier (vs ∷ env)
    → (v : Val) × (walk k (among packet content earlier) (vs ∷ env) place spent ≡ Ok (v, next.place, spent + 1 + next.more)) × (after ≡ line ++ shown v) × ValueIs next.last v
    × Knows rs ms earlier ((vs ++ v ∷ []) ∷ env)

-- a field alone, after the text before it
alone_next : (kept : Bool) (m : Member) (i : ℕ) (at : At) (opens : List ℕ) (mark : ℕ) (packet : List ℕ) (content : ℕ) (from to : Reached) (ns ms : List Last) → at.lead ≡ opens ++ (mark ∷ 32 ∷ []) → length at.known ≡ length ns → PutsSlot (record { lead = at.lead ++ field_text m.name; align = at.align; index = at.index; known = at.known; kept = kept; class = m.class }) packet content from ns to ms
    → (some : ℕ) × (to.more ≡ from.more + some) × (next_multiple_of from.place at.align ≤ content)
    × PutsPiece at i from.last ns (with_kept kept i at.known) ms (form m.class) (λ v. mark ∷ 32 ∷ part_text (member_part m) v) packet content (next_multiple_of from.place at.align) (from.line ++ opens) (record { place = to.place; text = 0; more = some; last = to.last }) to.line
alone_next kept m i at opens mark packet content from to ns ms lead same field =
    let begin = next_multiple_of from.place at.align in
    let name = field_text m.name in (
      field.1,
      field.2,
      field.0,
      λ spent room earlier env vs placed counted last knows.
          let p = field.3 spent room earlier env vs counted last (same, knows) in
          let text = value_text m.class p.0 in
          let part : part_text (member_part m) p.0 ≡ name ++ text = ap (λ (x : Part). part_text x p.0) (member-is m) in
          let led : (at.lead ++ name) ++ text ≡ opens ++ (mark ∷ 32 ∷ part_text (member_part m) p.0) = append_assoc at.lead name text ∙ ap (λ l. l ++ (name ++ text)) lead ∙ append_assoc opens (mark ∷ 32 ∷ []) (name ++ text) ∙ ap (λ xs. opens ++ (mark ∷ 32 ∷ xs)) (sym part) in
          let few : spent < MOST_VALUES = omega (arith, room) in
          let is = stands_is to.last (form m.class) packet content begin to.place spent (spent + 1 + field.1) earlier (vs ∷ env) p.0 few p.1 field.4 in
          let next = kept_knows kept i at.known (form m.class) packet content begin to.place (spent + 1 + field.1) spent ns ms earlier env vs p.0 same field.5 few placed knows p.1 in
          (p.0, p.1, p.2 ∙ ap (λ xs. from.line ++ xs) led ∙ sym (append_assoc from.line opens (mark ∷ 32 ∷ part_text (member_part m) p.0)), is, next),
    )

larger_some : (align one other : ℕ) → IsLarger align one other → 0 < align
larger_some align one other l = elim l.is [
  | inl is ↦ (let some = l.one_some in omega (arith, is, some))
  | inr is ↦ (let some = l.other_some in omega (arith, is, some))
]

-- a structure's value has these members, from which routes lead to these numbers
abbrev IsGroup : List Route → List Last → (Scope → Option Val) → Env → Option Val → Type 0
IsGroup known ms earlier env None = ⊥
IsGroup known ms earlier env (Some v) = (ws : List Val) × (v ≡ group (vals_of ws)) × Knows known ms earlier (ws ∷ env)

from_after_length : (i : ℕ) (rs : List Route) → length (from_after i rs) ≡ length rs
from_after_length i [] = refl
from_after_length i (r ∷ rs) = ap suc (from_after_length i rs)

pub from_inside_length : (rs : List Route) → length (from_inside rs) ≡ length rs
from_inside_length [] = refl
from_inside_length (r ∷ rs) = ap suc (from_inside_length rs)

from_later_length : (scope : Scope) (rs : List Route) → length (from_later scope rs) ≡ length rs
from_later_length scope [] = refl
from_later_length scope (r ∷ rs) = ap suc (from_later_length scope rs)

module _ (packet : List ℕ) (content : ℕ) where
  -- members of a structure, and the brace after them, are its value
  structure_from : (ps : Pieces) (k : Class) (base more : ℕ) (opens : List ℕ) (from to : Reached) (known : List Route) (ms : List Last) (earlier : Scope → Option Val) (env : Env) → k.kind ≡ kind.Structure (members_of ps) → 0 < length (members_of ps) → next_multiple_of from.place base ≤ content
      → Going (Only earlier env) (members_of ps) packet content (next_multiple_of from.place base) (0 + length (members_of ps)) to.place (0 + more + insides ps) (λ vs. Knows known ms earlier (vs ∷ env)) (from.line ++ opens) (to.line ++ ends (ended_after 0 ps))
      → (place : ℕ) → next_multiple_of place k.align ≡ next_multiple_of from.place base → (spent : ℕ) → spent + 1 + length (members_of ps) + insides ps + more ≤ MOST_VALUES
      → (v : Val) × (walk (form k) (among packet content earlier) env place spent ≡ Ok (v, to.place, spent + 1 + length (members_of ps) + insides ps + more)) × (to.line ++ (ends (ended_after 0 ps) ++ (32 ∷ 125 ∷ [])) ≡ (from.line ++ opens) ++ value_text k v) × IsGroup known ms earlier env (Some v)
  structure_from ps k base more opens from to known ms earlier env is some within going place starts spent few =
      let all = members_of ps in
      let begin = next_multiple_of from.place base in
      let opened = from.line ++ opens in
      let inner_more = 0 + more + insides ps in
      let closes_now = ends (ended_after 0 ps) in
      let line = to.line ++ closes_now in
      let after = to.line ++ (closes_now ++ (32 ∷ 125 ∷ [])) in
      let Where = Only earlier env in
      let Are : List Val → Type 0 = λ vs. Knows known ms earlier (vs ∷ env) in
      let end : MembersEnd = record { place = to.place; text = 0; more = inner_more } in
      let counted : 0 + length all ≡ length all = omega arith in
      let rows = going_ends Where all packet content begin opened to.place inner_more 0 Are line (subst (λ n. Going Where all packet content begin n to.place inner_more Are opened line) counted going) in
      let text : line ++ (32 ∷ 125 ∷ []) ≡ after = append_assoc to.line closes_now (32 ∷ 125 ∷ []) in
      let whole = closed Where Are all packet content begin 0 end opened line after some (sym text) rows in
      let total : spent + 1 + length all + insides ps + more ≡ spent + 1 + length all + inner_more = omega arith in
      puts_structure Where Are (IsGroup known ms earlier env) (λ vs are. (vs, refl, are)) k all packet content place begin spent end (spent + 1 + length all + insides ps + more) opened after is (sym starts) within total few whole earlier env (refl, refl)

  mutual
    -- a piece is its member, after the text before it
    pub piece_next : (p : Piece) (i : ℕ) (at : At) (opens : List ℕ) (mark : ℕ) (from to : Reached) (ns ms : List Last) → at.lead ≡ opens ++ (mark ∷ 32 ∷ []) → IsPiece at.align p → length at.known ≡ length ns → PutsSlots (piece_slots at p) packet content from ns to ms
        → (some : ℕ) × (to.more ≡ from.more + some) × (next_multiple_of from.place at.align ≤ content) × (length (known_by i at.known p) ≡ length ms)
        × PutsPiece at i from.last ns (known_by i at.known p) ms (form (member_of p).class) (λ v. mark ∷ 32 ∷ part_text (member_part (member_of p)) v) packet content (next_multiple_of from.place at.align) (from.line ++ opens) (record { place = to.place; text = 0; more = some + inside p; last = last_known (ended_by p) to.last }) (to.line ++ ends (ended_by p))
    piece_next (alone kept m) i at opens mark from to ns ms lead is same puts =
        let s : Slot = record { lead = at.lead ++ field_text m.name; align = at.align; index = at.index; known = at.known; kept = kept; class = m.class } in
        let slot : PutsSlot s packet content from ns to ms = subst (λ r. PutsSlot s packet content from ns r ms) (sym puts.3.0) (subst (λ k. PutsSlot s packet content from ns puts.0 k) (sym puts.3.1) puts.2) in
        let one = alone_next kept m i at opens mark packet content from to ns ms lead same slot in
        let shown : Shown = λ v. mark ∷ 32 ∷ part_text (member_part m) v in
        let begin = next_multiple_of from.place at.align in
        let none : one.0 ≡ one.0 + 0 = omega arith in
        let P = λ (n : ℕ) (xs : List ℕ). PutsPiece at i from.last ns (with_kept kept i at.known) ms (form m.class) shown packet content begin (from.line ++ opens) (record { place = to.place; text = 0; more = n; last = to.last }) xs in (
          one.0,
          one.1,
          one.2,
          kept_lengths kept i at.known (form m.class) packet content begin ns ms same slot.5,
          subst (λ n. P n (to.line ++ [])) none (subst (λ xs. P one.0 xs) (sym (append-nil to.line)) one.3),
        )
    piece_next (inner m base ps) i at opens mark from to ns ms lead is same puts =
        let name = field_text m.name in
        let before = opens ++ (mark ∷ 32 ∷ name) in
        let begin = next_multiple_of from.place at.align in
        let n = ended_after 0 ps in
        let many = length (members_of ps) in
        let inside_known = from_inside at.known in
        let known = known_after 0 inside_known ps in
        let leads : opened_lead at.lead m.name ≡ before ++ (123 ∷ 32 ∷ []) =
        ap (λ l. l ++ (name ++ (123 ∷ 32 ∷ []))) lead ∙ append_assoc opens (mark ∷ 32 ∷ []) (name ++ (123 ∷ 32 ∷ [])) ∙ sym (append_assoc opens (mark ∷ 32 ∷ name) (123 ∷ 32 ∷ []))
        in
        let first = next_multiple_of from.place base in
        let opened = from.line ++ before in
        let inner_at : At = first_at (before ++ (123 ∷ 32 ∷ [])) base inside_known in
        let lengths : length inner_at.known ≡ length ns = from_inside_length at.known ∙ same in
        let going = pieces_going ps 0 0 inner_at before (members_of ps) first 0 lasts.Unknown opened from to ns ms inside_known ns refl refl is.3 (over_some ps base 0 before is.1) lengths (λ vs counted l. (tt, tt))
        (λ earlier env holds. going_begins (Only earlier env) (members_of ps) packet content first opened (AreKnown lasts.Unknown inside_known ns earlier env) (tt, holds)) (subst (λ l. PutsSlots (pieces_slots 0 (first_at l base inside_known) ps) packet content from ns to ms) leads puts) in
        let within = begins_some ps first content is.1 going.2 in
        let more = going.0 in
        let least = IsLeastMultiple-next from.place base (larger_some base at.align m.class.align is.2) in
        let low = below from.place base at.align m.class.align (next_multiple_of from.place base) is.2 least in
        let starts : next_multiple_of begin m.class.align ≡ next_multiple_of from.place base = larger_begins from.place base at.align m.class.align (next_multiple_of from.place base) is.2 least in
        let end : Next = record { place = to.place; text = 0; more = more + (many + insides ps); last = lasts.Unknown } in
        let puts_it : PutsPiece at i from.last ns (from_after i known) ms (form m.class) (λ v. mark ∷ 32 ∷ part_text (member_part m) v) packet content begin (from.line ++ opens) end (to.line ++ ends (suc n)) = λ spent room earlier env vs placed counted last knows.
        let total : spent + 1 + many + insides ps + more ≡ spent + 1 + (more + (many + insides ps)) = omega arith in
        let few : spent + 1 + many + insides ps + more ≤ MOST_VALUES = omega (arith, room) in
        let holds = knows_inside at.known ns earlier (vs ∷ env) [] knows in
        let p = structure_from ps m.class base more before from to known ms earlier (vs ∷ env) is.0 is.1 within (going.4 earlier (vs ∷ env) holds) begin starts spent few in
        let text = value_text m.class p.0 in
        let part : part_text (member_part m) p.0 ≡ name ++ text = ap (λ (x : Part). part_text x p.0) (member-is m) in
        let wrote : to.line ++ (ends n ++ (32 ∷ 125 ∷ [])) ≡ (from.line ++ opens) ++ (mark ∷ 32 ∷ part_text (member_part m) p.0) =
        p.2 ∙ ap (λ xs. xs ++ text) (sym (append_assoc from.line opens (mark ∷ 32 ∷ name))) ∙ append_assoc (from.line ++ opens) (mark ∷ 32 ∷ name) text ∙ ap (λ xs. (from.line ++ opens) ++ (mark ∷ 32 ∷ xs)) (sym part)
        in
        let after : Knows (from_after i known) ms earlier ((vs ++ p.0 ∷ []) ∷ env) = subst (λ v. Knows (from_after i known) ms earlier ((vs ++ v ∷ []) ∷ env)) (sym p.3.1) (knows_after known ms i earlier env vs p.3.0 placed p.3.2) in
        (p.0, p.1 ∙ ap (λ k. Ok (p.0, to.place, k)) total, ap (λ xs. to.line ++ xs) (sym (ends_on n)) ∙ wrote, tt, after)
        in
        (more, going.1, omega (arith, low, within), from_after_length i known ∙ going.3, puts_it)

    -- pieces are members of a structure, one after the other
    pieces_going : (ps : Pieces) (i n : ℕ) (at : At) (opens : List ℕ) (all : List Member) (begin so_far : ℕ) (l : Last) (before : List ℕ) (from to : Reached) (ns ms : List Last) (known₀ : List Route) (ns₀ : List Last) → drop i all ≡ members_of ps → at.lead ≡ opens ++ (mark_at 123 i ∷ 32 ∷ []) → ArePieces at.align ps → IsOver ps at.align n opens → length at.known ≡ length ns
        → ((vs : List Val) → length vs ≡ i → LastIs l vs → IfKnown (after_last at.index from.last).last (length vs ≡ (after_last at.index from.last).index) × LastIs (after_last at.index from.last).last vs)
        → ((earlier : Scope → Option Val) (env : Env) → Knows known₀ ns₀ earlier ([] ∷ env) → Going (Only earlier env) all packet content begin i (next_multiple_of from.place at.align) so_far (AreKnown l at.known ns earlier env) before (from.line ++ opens)) → PutsSlots (pieces_slots i at ps) packet content from ns to ms
        → (more : ℕ) × (to.more ≡ from.more + more) × Begins ps (next_multiple_of from.place at.align) content × (length (known_after i at.known ps) ≡ length ms)
        × ((earlier : Scope → Option Val) (env : Env) → Knows known₀ ns₀ earlier ([] ∷ env) → Going (Only earlier env) all packet content begin (i + length (members_of ps)) to.place (so_far + more + insides ps) (λ vs. Knows (known_after i at.known ps) ms earlier (vs ∷ env)) before (to.line ++ ends (ended_after n ps)))
    pieces_going no_pieces i n at opens all begin so_far l before from to ns ms known₀ ns₀ left lead are over same known going puts =
        let none : i ≡ i + 0 = omega arith in
        let sum : so_far ≡ so_far + 0 + 0 = omega arith in
        let more : to.more ≡ from.more + 0 = (let m = ap (λ (r : Reached). r.more) puts.0 in omega (arith, m)) in
        let place : next_multiple_of from.place at.align ≡ to.place = ap (next_multiple_of from.place) over.0 ∙ at_one from.place ∙ ap (λ (r : Reached). r.place) (sym puts.0) in
        let line : from.line ++ opens ≡ to.line ++ ends n = λ j. (sym puts.0 j).line ++ over.1 j in (
          0,
          more,
          tt,
          same ∙ ap length (sym puts.1),
          λ around outer holds spent room earlier env is_there.
              let g = going around outer holds spent (omega (arith, room)) earlier env is_there in
              let total : spent + (i + 0) + (so_far + 0 + 0) ≡ spent + i + so_far = omega arith in
              let walk_on = λ (k p s : ℕ). walk_members (parts_of (map views.member_part (drop k all))) (among packet content earlier) env g.0 p s in
              (g.0, (λ j. walk_on (sym none j) (sym place j) (total j)) ∙ g.1, g.2 ∙ none, sym line ∙ g.3 ∙ ap (λ k. before ++ row 123 (member_texts (map member_part (take k all)) (vals_of g.0))) none, subst (λ xs. Knows at.known xs around (g.0 ∷ outer)) (sym puts.1) g.4.1),
        )
    pieces_going (more_pieces p ps) i n at opens all begin so_far l before from to ns ms known₀ ns₀ left lead are over same known going puts =
        let m = member_of p in
        let closed_by = ended_by p in
        let d = drop_one all i m (members_of ps) left in
        let rs = known_by i at.known p in
        let next_at : At = later_at closed_by (suc i) rs in
        let apart = slots_split packet content (piece_slots at p) (pieces_slots (suc i) next_at ps) from to ns ms puts in
        let mid = apart.0 in
        let ks = apart.1 in
        let mark = mark_at 123 i in
        let one = piece_next p i at opens mark from mid ns ks lead are.0 same apart.2 in
        let place = next_multiple_of from.place at.align in
        let next_last = last_known closed_by mid.last in
        let next : Next = record { place = mid.place; text = 0; more = one.0 + inside p; last = next_last } in
        let after = mid.line ++ ends closed_by in
        let step : i + 1 ≡ suc i = omega arith in
        let stays : mid.place ≡ next_multiple_of mid.place 1 = sym (at_one mid.place) in
        let on : (earlier : Scope → Option Val) (env : Env) → Knows known₀ ns₀ earlier ([] ∷ env) → Going (Only earlier env) all packet content begin (suc i) (next_multiple_of mid.place 1) (so_far + next.more) (AreKnown next_last rs ks earlier env) before after = λ earlier env holds.
        let Are = AreKnown l at.known ns earlier env in
        let Become = AreKnown next_last rs ks earlier env in
        let shown : Shown = λ v. mark ∷ 32 ∷ part_text (member_part m) v in
        let becoming : PutsBecoming (Only earlier env) Are Become i (form m.class) shown packet content place (from.line ++ opens) next after = λ spent room e around vs is counted knows.
        let k = known vs counted knows.0 in
        let v = one.4 spent room earlier env vs counted k.0 k.1 knows.1 in
        let walked : walk (form m.class) (among packet content e) (vs ∷ around) place spent ≡ Ok (v.0, next.place, spent + 1 + next.more) = only (λ x y. walk (form m.class) (among packet content x) (vs ∷ y) place spent ≡ Ok (v.0, next.place, spent + 1 + next.more)) earlier e env around is v.1 in
        (v.0, walked, v.2, (last_is next_last vs v.0 v.3, v.4))
        in
        let further = going_further (Only earlier env) all packet content begin before i place so_far Are Become m mark (from.line ++ opens) next after d.0 d.1 refl (going earlier env holds) becoming in
        subst (λ q. Going (Only earlier env) all packet content begin (suc i) q (so_far + next.more) Become before after) stays (subst (λ k. Going (Only earlier env) all packet content begin k mid.place (so_far + next.more) Become before after) step further)
        in
        let others = pieces_going ps (suc i) closed_by next_at (ends closed_by) all begin (so_far + next.more) next_last before mid to ks ms known₀ ns₀ (sym (ap (λ k. drop k all) step) ∙ d.2) refl are.1 (over_later ps closed_by) one.3 (λ vs counted is. known_after_last closed_by (suc i) mid.last vs counted is) on apart.3 in
        let count : suc i + length (members_of ps) ≡ i + suc (length (members_of ps)) = omega arith in
        let sum : so_far + (one.0 + inside p) + others.0 + insides ps ≡ so_far + (one.0 + others.0) + (inside p + insides ps) = omega arith in
        let more : to.more ≡ from.more + (one.0 + others.0) = (let a = one.1 in let b = others.1 in omega (arith, a, b)) in
        let end_known = known_after (suc i) rs ps in (
          one.0 + others.0,
          more,
          one.2,
          others.3,
          λ earlier env holds.
              let Are : List Val → Type 0 = λ vs. Knows end_known ms earlier (vs ∷ env) in
              subst (λ k. Going (Only earlier env) all packet content begin k to.place (so_far + (one.0 + others.0) + (inside p + insides ps)) Are before (to.line ++ ends (ended_after closed_by ps))) count
              (subst (λ g. Going (Only earlier env) all packet content begin (suc i + length (members_of ps)) to.place g Are before (to.line ++ ends (ended_after closed_by ps))) sum (others.4 earlier env holds)),
        )

  -- the fields of a structure, and the braces after them, are its value, with so many others in its arrays
  pub pieces_scope : (ps : Pieces) (k : Class) (base : ℕ) (opens : List ℕ) (known : List Route) (from to : Reached) (ns ms : List Last) → k.kind ≡ kind.Structure (members_of ps) → 0 < length (members_of ps) → ArePieces base ps → length known ≡ length ns → PutsSlots (pieces_slots 0 (first_at (opens ++ (123 ∷ 32 ∷ [])) base (from_inside known)) ps) packet content from ns to ms
      → (more : ℕ) × (to.more ≡ from.more + more) × (length (known_after 0 (from_inside known) ps) ≡ length ms)
      × ((place : ℕ) → next_multiple_of place k.align ≡ next_multiple_of from.place base → (spent : ℕ) → spent + 1 + length (members_of ps) + insides ps + more ≤ MOST_VALUES → (earlier : Scope → Option Val) (env : Env) → Knows known ns earlier env
      → (v : Val) × (walk (form k) (among packet content earlier) env place spent ≡ Ok (v, to.place, spent + 1 + length (members_of ps) + insides ps + more)) × (to.line ++ (ends (ended_after 0 ps) ++ (32 ∷ 125 ∷ [])) ≡ (from.line ++ opens) ++ value_text k v) × IsGroup (known_after 0 (from_inside known) ps) ms earlier env (Some v))
  pieces_scope ps k base opens known from to ns ms is some are same puts =
      let first = next_multiple_of from.place base in
      let opened = from.line ++ opens in
      let inside_known = from_inside known in
      let at : At = first_at (opens ++ (123 ∷ 32 ∷ [])) base inside_known in
      let lengths : length at.known ≡ length ns = from_inside_length known ∙ same in
      let going = pieces_going ps 0 0 at opens (members_of ps) first 0 lasts.Unknown opened from to ns ms inside_known ns refl refl are (over_some ps base 0 opens some) lengths (λ vs counted l. (tt, tt))
      (λ earlier env holds. going_begins (Only earlier env) (members_of ps) packet content first opened (AreKnown lasts.Unknown inside_known ns earlier env) (tt, holds)) puts in (
        going.0,
        going.1,
        going.3,
        λ place starts spent few earlier env knows.
            structure_from ps k base going.0 opens from to (known_after 0 inside_known ps) ms earlier env is some (begins_some ps first content some going.2) (going.4 earlier env (knows_inside known ns earlier env [] knows)) place starts spent few,
      )

-- a structure without members is where it could begin
pub empty_puts : (k : Class) (packet : List ℕ) (content place end : ℕ) (before after : List ℕ) → k.kind ≡ kind.Structure [] → end ≡ next_multiple_of place k.align → end ≤ content → after ≡ before ++ (123 ∷ 32 ∷ 125 ∷ [])
    → PutsOne (form k) (value_text k) packet content place end before after
empty_puts k packet content place end before after is ends_at within wrote spent few earlier env =
    let c = among packet content earlier in
    let b = next_multiple_of place k.align in
    let v : Val = group (vals_of []) in
    let found = and_then (Ok ([], b, spent + 1)) as_group in
    let opened : open_at c b found ≡ found = ap (λ t. cond t (Err (past b)) found) (le-ltb content b (subst (λ n. n ≤ content) ends_at within)) in
    let walked : walk (structure k.align (parts_of [])) c env place spent ≡ Ok (v, b, spent + 1) = begins c spent (open_at c b found) few ∙ opened in
    let text : value_text k v ≡ 123 ∷ 32 ∷ 125 ∷ [] = ap (λ f. f v) (value-is k ∙ ap kind_text is ∙ text-Structure []) in
    (v, ap (λ f. walk f c env place spent) (sym (form_structure k [] is)) ∙ walked ∙ ap (λ n. Ok (v, n, spent + 1)) (sym ends_at), wrote ∙ ap (λ xs. before ++ xs) (sym text))

-- A scope is there where routes lead to these numbers, and its text follows a text. From the scopes after it routes lead
-- to these.
abbrev PutsScope : Scope → Class → List ℕ → ℕ → ℕ → ℕ → ℕ → ℕ → List Route → List Last → List Route → List Last → List ℕ → List ℕ → Type 0
PutsScope scope k packet content place spent end total known ns rs ms before after =
    (earlier : Scope → Option Val) → Knows known ns earlier []
    → (v : Val) × (walk (form k) (among packet content earlier) [] place spent ≡ Ok (v, end, total)) × (after ≡ before ++ value_text k v)
    × ((later : Scope → Option Val) → SeesAfter scope v earlier later → Knows rs ms later [])

-- the field that is a structure without members is its value
bare_puts : (scope : Scope) (k : Class) (opens packet : List ℕ) (content : ℕ) (known : List Route) (from to : Reached) (ns ms : List Last) → k.kind ≡ kind.Structure [] → length known ≡ length ns → AreBefore (turn_of scope) known → PutsSlot (record { lead = opens; align = 1; index = 0; known = known; kept = false; class = k }) packet content from ns to ms
    → (more : ℕ) × (to.more ≡ from.more + more)
    × ((spent : ℕ) → spent + 1 + 0 + 0 + more ≤ MOST_VALUES → PutsScope scope k packet content from.place spent to.place (spent + 1 + 0 + 0 + more) known ns (from_later scope (from_inside known)) ms (from.line ++ opens) (to.line ++ []))
bare_puts scope k opens packet content known from to ns ms is lengths before field = (
  field.1,
  field.2,
  λ spent few earlier knows.
      let c = among packet content earlier in
      let p = field.3 spent (omega (arith, few)) earlier [] [] tt tt (lengths, knows_bare known ns earlier knows) in
      let bare = structure k.align (parts_of []) in
      let same : bare ≡ form k = form_structure k [] is in
      let alone : walk (form k) c [] from.place spent ≡ walk (form k) c ([] ∷ []) from.place spent = subst (λ f. walk f c [] from.place spent ≡ walk f c ([] ∷ []) from.place spent) same refl in
      let here : walk (form k) c ([] ∷ []) from.place spent ≡ walk (form k) c ([] ∷ []) (next_multiple_of from.place 1) spent = ap (λ q. walk (form k) c ([] ∷ []) q spent) (sym (at_one from.place)) in
      let total : spent + 1 + field.1 ≡ spent + 1 + 0 + 0 + field.1 = omega arith in
      let text = value_text k p.0 in
      let walked : walk (form k) c [] from.place spent ≡ Ok (p.0, to.place, spent + 1 + 0 + 0 + field.1) = alone ∙ here ∙ p.1 ∙ ap (λ n. Ok (p.0, to.place, n)) total in
      let known_later = λ (later : Scope → Option Val) (sees : SeesAfter scope p.0 earlier later). subst (λ xs. Knows (from_later scope (from_inside known)) xs later []) (sym field.5) (knows_past known scope ns p.0 earlier later [] before sees knows) in
      (p.0, walked, append-nil to.line ∙ p.2 ∙ sym (append_assoc from.line opens text), known_later),
)

-- the fields of a scope, and the braces after them, are its value
pub scope_puts : (scope : Scope) (k : Class) (ps : Pieces) (opens packet : List ℕ) (content : ℕ) (known : List Route) (from to : Reached) (ns ms : List Last) → k.kind ≡ kind.Structure (members_of ps) → ArePieces k.align ps → length known ≡ length ns → AreBefore (turn_of scope) known → PutsSlots (scope_slots opens known k ps) packet content from ns to ms
    → (more : ℕ) × (to.more ≡ from.more + more) × (length (known_after 0 (from_inside known) ps) ≡ length ms)
    × ((spent : ℕ) → spent + 1 + length (members_of ps) + insides ps + more ≤ MOST_VALUES → PutsScope scope k packet content from.place spent to.place (spent + 1 + length (members_of ps) + insides ps + more) known ns (from_later scope (known_after 0 (from_inside known) ps)) ms (from.line ++ opens) (to.line ++ ends (ended_in ps)))
scope_puts scope k no_pieces opens packet content known from to ns ms is are same before puts =
    let s : Slot = record { lead = opens; align = 1; index = 0; known = known; kept = false; class = k } in
    let slot : PutsSlot s packet content from ns to ms = subst (λ r. PutsSlot s packet content from ns r ms) (sym puts.3.0) (subst (λ k. PutsSlot s packet content from ns puts.0 k) (sym puts.3.1) puts.2) in
    let one = bare_puts scope k opens packet content known from to ns ms is same before slot in
    (one.0, one.1, from_inside_length known ∙ same ∙ ap length (sym slot.5), one.2)
scope_puts scope k (more_pieces p ps) opens packet content known from to ns ms is are same before puts =
    let all = more_pieces p ps in
    let inside_known = from_inside known in
    let rs = known_after 0 inside_known all in
    let one = pieces_scope packet content all k k.align opens known from to ns ms is (omega arith) are same puts in
    let text : to.line ++ (ends (ended_after 0 all) ++ (32 ∷ 125 ∷ [])) ≡ to.line ++ ends (ended_in all) = ap (λ xs. to.line ++ xs) (ends_on (ended_after 0 all)) in
    let all_before = before_pieces (turn_of scope) 0 inside_known all (before_inside (turn_of scope) known before) in (
      one.0,
      one.1,
      one.2,
      λ spent few earlier knows.
          let v = one.3 from.place refl spent few earlier [] knows in
          let known_later = λ (later : Scope → Option Val) (sees : SeesAfter scope v.0 earlier later). knows_later rs scope ms earlier later [] v.3.0 all_before (subst (λ x. SeesAfter scope x earlier later) v.3.1 sees) v.3.2 in
          (v.0, v.1, sym text ∙ v.2, known_later),
    )

-- one brace and so many more
pub brace_more : (n : ℕ) (line : List ℕ) → 0 < n → (line ++ (32 ∷ 125 ∷ [])) ++ ends (n - 1) ≡ line ++ ends n
brace_more zero line some = absurd (omega (arith, some))
brace_more (suc n) line some = (let fewer : suc n - 1 ≡ n = omega arith in ap (λ k. (line ++ (32 ∷ 125 ∷ [])) ++ ends k) fewer ∙ append_assoc line (32 ∷ 125 ∷ []) (ends n))

-- scopes in the order in which they are decoded, from a turn on
abbrev pub InOrder : ℕ → List ScopeClass → Type 0
InOrder turn [] = ⊤
InOrder turn (k ∷ ks) = (turn ≤ turn_of k.0) × InOrder (suc (turn_of k.0)) ks

-- the fields of structures, and the braces after them, are their values
pub scopes_puts : (ks : List ScopeClass) (ss : List Scoped) (turn : ℕ) (opens : List ℕ) (known : List Route) (packet : List ℕ) (content spent : ℕ) (from to : Reached) (ns ms : List Last) → 0 < length ks → AreScoped ks ss → InOrder turn ks → AreBefore turn known → length known ≡ length ns → PutsSlots (all_slots opens known ss) packet content from ns to ms
    → (more : ℕ) × (to.more ≡ from.more + more)
    × (spent + values_in ss + more ≤ MOST_VALUES → (earlier : Scope → Option Val) → Knows known ns earlier [] → ScopesFollow ks earlier packet content from.place spent to.place (spent + values_in ss + more) (from.line ++ opens) (to.line ++ ends (ended_last 0 ss)))
scopes_puts [] ss turn opens known packet content spent from to ns ms some are order before same puts = absurd (omega (arith, some))
scopes_puts (k ∷ ks) [] turn opens known packet content spent from to ns ms some are order before same puts = absurd are
scopes_puts (k ∷ []) (s ∷ []) turn opens known packet content spent from to ns ms some are order before same puts =
    let fields : PutsSlots (slots opens known s) packet content from ns to ms = subst (λ xs. PutsSlots xs packet content from ns to ms) (append-nil (slots opens known s)) puts in
    let scope_is : k.0 ≡ s.scope = ap (λ (x : ScopeClass). x.0) are.0 in
    let first_before = subst (λ x. AreBefore (turn_of x) known) scope_is (before_longer turn (turn_of k.0) known order.0 before) in
    let one = scope_puts s.scope s.class s.pieces opens packet content known from to ns ms are.1 are.2 same first_before fields in
    let after = to.line ++ ends (ended_in s.pieces) in
    let total : spent + 1 + length (members_of s.pieces) + insides s.pieces + one.0 ≡ spent + values_in (s ∷ []) + one.0 = omega arith in (
      one.0,
      one.1,
      λ few earlier knows.
          let v = one.3 spent (omega (arith, few)) earlier knows in
          subst (λ (x : ScopeClass). ScopesFollow (x ∷ []) earlier packet content from.place spent to.place (spent + values_in (s ∷ []) + one.0) (from.line ++ opens) after) (sym are.0) (v.0, v.1 ∙ ap (λ n. Ok (v.0, to.place, n)) total, v.2),
    )
scopes_puts (k ∷ []) (s ∷ (t ∷ ss)) turn opens known packet content spent from to ns ms some are order before same puts = absurd are.3
scopes_puts (k ∷ (l ∷ ks)) (s ∷ []) turn opens known packet content spent from to ns ms some are order before same puts = absurd are.3
scopes_puts (k ∷ (l ∷ ks)) (s ∷ (t ∷ ss)) turn opens known packet content spent from to ns ms some are order before same puts =
    let rest = t ∷ ss in
    let next = before_next s.pieces in
    let rs = known_after 0 (from_inside known) s.pieces in
    let later_known = known_scope known s in
    let closes_now = ends (ended_in s.pieces) in
    let apart = slots_split packet content (slots opens known s) (all_slots next later_known rest) from to ns ms puts in
    let mid = apart.0 in
    let kept = apart.1 in
    let scope_is : k.0 ≡ s.scope = ap (λ (x : ScopeClass). x.0) are.0 in
    let first_before = subst (λ x. AreBefore (turn_of x) known) scope_is (before_longer turn (turn_of k.0) known order.0 before) in
    let next_order = subst (λ x. InOrder (suc (turn_of x)) (l ∷ ks)) scope_is order.1 in
    let next_before = before_later s.scope rs (before_pieces (turn_of s.scope) 0 (from_inside known) s.pieces (before_inside (turn_of s.scope) known first_before)) in
    let first = scope_puts s.scope s.class s.pieces opens packet content known from mid ns kept are.1 are.2 same first_before apart.2 in
    let many = spent + 1 + length (members_of s.pieces) + insides s.pieces + first.0 in
    let others = scopes_puts (l ∷ ks) rest (suc (turn_of s.scope)) next later_known packet content many mid to kept ms (omega arith) are.3 next_order next_before (from_later_length s.scope rs ∙ first.2) apart.3 in
    let more = first.0 + others.0 in
    let total : many + values_in rest + others.0 ≡ spent + values_in (s ∷ rest) + more = omega arith in
    let mid_line = mid.line ++ closes_now in
    let opened = from.line ++ opens in
    let after = to.line ++ ends (ended_last 0 rest) in
    let sum : to.more ≡ from.more + more = (let a = first.1 in let b = others.1 in omega (arith, a, b)) in (
      more,
      sum,
      λ few earlier knows.
          let v = first.3 spent (omega (arith, few)) earlier knows in
          let text : mid.line ++ next ≡ (opened ++ value_text s.class v.0) ++ codes ", " = sym (append_assoc mid.line closes_now (44 ∷ 32 ∷ [])) ∙ ap (λ xs. xs ++ codes ", ") v.2 in
          let follow = λ (later : Scope → Option Val) (sees : SeesAfter s.scope v.0 earlier later).
          subst (λ n. ScopesFollow (l ∷ ks) later packet content mid.place many to.place n ((opened ++ value_text s.class v.0) ++ codes ", ") after) total
          (subst (λ xs. ScopesFollow (l ∷ ks) later packet content mid.place many to.place (many + values_in rest + others.0) xs after) text (others.2 (omega (arith, few)) later (v.3 later sees)))
          in
          subst (λ (x : ScopeClass). ScopesFollow (x ∷ (l ∷ ks)) earlier packet content from.place spent to.place (spent + values_in (s ∷ rest) + more) opened after) (sym are.0) (v.0, mid.place, many, v.1, follow),
    )

-- the scopes of an event record after its header are in order, after those of the packet
pub scopes_ordered : (shared own : Option Class) (fields : Class) → InOrder 2 (scopes_of shared own fields)
scopes_ordered None None fields = (omega arith, tt)
scopes_ordered None (Some l) fields = (omega arith, (omega arith, tt))
scopes_ordered (Some k) None fields = (omega arith, (omega arith, tt))
scopes_ordered (Some k) (Some l) fields = (omega arith, (omega arith, (omega arith, tt)))

pub scopes_some : (shared own : Option Class) (fields : Class) → 0 < length (scopes_of shared own fields)
scopes_some None None fields = omega arith
scopes_some None (Some l) fields = omega arith
scopes_some (Some k) own fields = omega arith

-- the numbers of a run, in a buffer
pub run_numbers : (align : ℕ) (ss rest : List Slot) (ns ms : List PlannedNumber) (at span first place content more : ℕ) (last : Option ℕ) (packet before line after : List ℕ) → TakesNumbers align ss ns span rest → ms ≡ ns → IsLastNumber last ns packet first → IsLeastMultiple at align place → place ≡ next_multiple_of at align → (0 < length ns → 8 * first ≡ place) → place + span ≤ content → line ≡ before → after ≡ line ++ flat_map (run_text packet first) ms
    → (used : List Slot) × (ss ≡ used ++ rest) × PutsFields used packet content (numbers_to at more None before) (numbers_to (place + span) more last after)
run_numbers align ss rest ns ms at span first place content more last packet before line after takes same known least begins starts within kept wrote =
    let none : place + 0 ≡ place = omega arith in
    let leads : Leads at (place + 0) ss ns = subst (λ p. Leads at p ss ns) (sym none) (run_leads align at place ss ns takes.0 least begins) in
    let whole : 0 < length ns → (place % max 8 align ≡ 0) × (8 * first ≡ place) = λ some. (let eight : place % 8 ≡ 0 = omega (arith, starts some) in (base_divides place align eight least.multiple, starts some)) in
    let all = numbers_fields ss rest ns (max 8 align) at 0 span first place content more last packet before takes.1 leads known whole within in
    let text : before ++ flat_map (run_text packet first) ns ≡ after = sym (wrote ∙ ap (λ xs. xs ++ flat_map (run_text packet first) ms) kept ∙ ap (λ xs. before ++ flat_map (run_text packet first) xs) same) in
    (all.0, all.1, subst (λ xs. PutsFields all.0 packet content (numbers_to at more None before) (numbers_to (place + span) more last xs)) text all.2)

-- no number is asked for
pub no_number : (ns : List PlannedNumber) (packet : List ℕ) (first : ℕ) → IsLastNumber None ns packet first
no_number [] packet first = refl
no_number (n ∷ []) packet first = tt
no_number (n ∷ (m ∷ ns)) packet first = no_number (m ∷ ns) packet first

-- what is written where no number before it is known
pub after_no_number : (ns : List PlannedNumber) (packet : List ℕ) (first : ℕ) (P : Option ℕ → ℕ → Type 0) (r : Option ℕ) → IfSome r (P None) → IfSome r (λ text. (last : Option ℕ) × IsLastNumber last ns packet first × P last text)
after_no_number ns packet first P (Some text) puts = (None, no_number ns packet first, puts)
after_no_number ns packet first P None puts = tt

-- the last of some numbers
pub last_number : (ns : List PlannedNumber) (n : PlannedNumber) (r : Option ℕ) (packet : List ℕ) (first : ℕ) → 0 < length ns → n ≡ get_or ns (length ns - 1) n → n.integer.is_signed ≡ false → IfSome r (λ v. number_at n.integer packet (place_in first n) ≡ pos v) → IsLastNumber r ns packet first
last_number [] n r packet first some is plain read = absurd (omega (arith, some))
last_number (m ∷ []) n r packet first some is plain read = told r read
  where
    told : (o : Option ℕ) → IfSome o (λ v. number_at n.integer packet (place_in first n) ≡ pos v) → IfSome o (λ v. (m.integer.is_signed ≡ false) × (number_at m.integer packet (place_in first m) ≡ pos v))
    told None read = tt
    told (Some v) read = (subst (λ (x : PlannedNumber). x.integer.is_signed ≡ false) is plain, subst (λ (x : PlannedNumber). number_at x.integer packet (place_in first x) ≡ pos v) is read)
last_number (m ∷ (k ∷ ns)) n r packet first some is plain read =
    let count : suc (suc (length ns)) - 1 ≡ suc (length ns - 0) = omega arith in
    let fewer : length ns - 0 ≡ suc (length ns) - 1 = omega arith in
    last_number (k ∷ ns) n r packet first (omega arith) (is ∙ ap (λ i. get_or (m ∷ (k ∷ ns)) i n) count ∙ ap (λ i. get_or (k ∷ ns) i n) fewer) plain read

-- no field after the numbers of a run
pub after_none : (rest others : List Slot) (o : Option PlannedField) → o ≡ None → After rest o (λ xs. xs ≡ others) → rest ≡ others
after_none rest others o is after = subst (λ f. After rest f (λ xs. xs ≡ others)) is after

-- a field after the numbers of a run
pub after_some : (rest others : List Slot) (o : Option PlannedField) (f : PlannedField) → o ≡ Some f → After rest o (λ xs. xs ≡ others) → (s : Slot) × (rest ≡ s ∷ others) × IsField s f
after_some rest others o f is after = one rest (subst (λ g. After rest g (λ xs. xs ≡ others)) is after)
  where
    one : (xs : List Slot) → After xs (Some f) (λ ys. ys ≡ others) → (s : Slot) × (xs ≡ s ∷ others) × IsField s f
    one [] holds = absurd holds
    one (s ∷ xs) holds = (s, ap (λ ys. s ∷ ys) holds.1, holds.0)

-- the numbers of a run, and the field after them
pub run_joined : (slots rest others : List Slot) (ns : List PlannedNumber) (packet : List ℕ) (content first : ℕ) (from : Reached) (mid : Option ℕ → Reached) (r : Option ℕ) (to : ℕ → Reached)
    → ((last : Option ℕ) → IsLastNumber last ns packet first → (used : List Slot) × (slots ≡ used ++ rest) × PutsFields used packet content from (mid last))
    → IfSome r (λ t. (last : Option ℕ) × IsLastNumber last ns packet first × (used : List Slot) × (rest ≡ used ++ others) × PutsFields used packet content (mid last) (to t))
    → IfSome r (λ t. (used : List Slot) × (slots ≡ used ++ others) × PutsFields used packet content from (to t))
run_joined slots rest others ns packet content first from mid None to numbers field = tt
run_joined slots rest others ns packet content first from mid (Some t) to numbers field =
    let before = numbers field.0 field.1 in
    let used = before.0 in
    (used ++ field.2, before.1 ∙ ap (λ xs. used ++ xs) field.3 ∙ sym (append_assoc used field.2 others), fields_join packet content used field.2 from (mid field.0) (to t) before.2 field.4)

-- a field after the numbers of a run is one of theirs
pub run_field : (rest others : List Slot) (s : Slot) (ns : List PlannedNumber) (packet : List ℕ) (content first : ℕ) (mid : Option ℕ → Reached) (r : Option ℕ) (to : ℕ → Reached) → rest ≡ s ∷ others
    → IfSome r (λ t. (last : Option ℕ) × IsLastNumber last ns packet first × PutsField s packet content (mid last) (to t))
    → IfSome r (λ t. (last : Option ℕ) × IsLastNumber last ns packet first × (used : List Slot) × (rest ≡ used ++ others) × PutsFields used packet content (mid last) (to t))
run_field rest others s ns packet content first mid None to is field = tt
run_field rest others s ns packet content first mid (Some t) to is field = (field.0, field.1, s ∷ [], is, (to t, field.2, refl))

-- a length that is the number before
pub counts_after : (route : Route) (index n : ℕ) → LeadsBefore route index → Counts (lengths.Field route) (after_members index (Some n)) n
counts_after route zero n leads = absurd (omega (arith, leads.1.2))
counts_after route (suc i) n leads = counts_last route (record { index = suc i; last = known (Some n) }) n leads refl

-- as many elements as are fixed
pub counts_fixed : (placed : PlacedRun) (index n : ℕ) (length_is : Length) → length_is ≡ lengths.Fixed n → CountsAfter placed index length_is n
counts_fixed placed index n length_is is =
    (None, no_number placed.run.now.numbers placed.packet.now.bytes.now ((placed.end - placed.run.now.span) / 8), (λ earlier env vs counted last. ap (λ l. length_of l earlier (vs ∷ env)) is))

-- as many as the number before says, if it is known
pub counts_number : (placed : PlacedRun) (index : ℕ) (length_is : Length) (r : Option ℕ) → IsLength index length_is many.Counted → IsLastOf placed r → IfSome r (CountsAfter placed index length_is)
counts_number placed index length_is None is last = tt
counts_number placed index length_is (Some n) is last = (Some n, last, subst (λ l. Counts l (after_members index (Some n)) n) (sym is.1) (counts_after is.0 index n is.2))

-- what is printed before a value, and the value after it, are its field
pub field_next : (s : Slot) (f : PlannedField) (packet : List ℕ) (content begin place more some end : ℕ) (last : Option ℕ) (before line after : List ℕ) → IsField s f → begin ≡ next_multiple_of place f.align → begin ≤ content → line ≡ before ++ f.ready
    → PutsNext (after_members s.index last) (form s.class) (value_text s.class) packet content begin line (record { place = end; text = 0; more = some; last = known None }) after
    → PutsField s packet content (numbers_to place more last before) (numbers_to end (more + some) None after)
field_next s f packet content begin place more some end last before line after is begins within wrote puts =
    let to : Next = record { place = end; text = 0; more = some; last = known None } in
    let shown : Shown = λ v. s.lead ++ value_text s.class v in
    let at : begin ≡ next_multiple_of place s.align = begins ∙ ap (next_multiple_of place) is.align in
    let there = next_led (after_members s.index last) s.class s.lead packet content begin before line to after (wrote ∙ ap (λ t. before ++ t) is.ready) puts in
    (omega (arith, at, within), some, refl, subst (λ p. PutsNext (after_members s.index last) (form s.class) shown packet content p before to after) at there, tt)

pub field_alone : (s : Slot) (f : PlannedField) (packet : List ℕ) (content begin place more end : ℕ) (last : Option ℕ) (before line after : List ℕ) → IsField s f → begin ≡ next_multiple_of place f.align → begin ≤ content → line ≡ before ++ f.ready
    → PutsOne (form s.class) (value_text s.class) packet content begin end line after
    → PutsField s packet content (numbers_to place more last before) (numbers_to end more None after)
field_alone s f packet content begin place more end last before line after is begins within wrote puts =
    let none : more + 0 ≡ more = omega arith in
    subst (λ n. PutsField s packet content (numbers_to place more last before) (numbers_to end n None after)) none
    (field_next s f packet content begin place more 0 end last before line after is begins within wrote (puts_next (after_members s.index last) (form s.class) (value_text s.class) packet content begin end 0 line after puts))
