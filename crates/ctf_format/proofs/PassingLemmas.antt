-- Values that are passed over have a text.
use Rattle.std.proofs.Common.{◌≡◌, ℕ, zero, suc, ◌+◌, ◌*◌, ◌%◌, ◌/◌, ◌<◌, ◌≤◌, List, [], ◌∷◌, ◌++◌, codes, length, Option, Some, None, IfSome, refl, sym, ap, subst, ◌∙◌, arith, append_assoc}
use Rattle.std.specs.Prelude.{pos, if◌then◌else◌}
use Rattle.std.proofs.lemmas.Nat.{pow_pos}
use Rattle.std.specs.Fmt.{decimal}
use Rattle.std.specs.Int.{next_multiple_of}
use Rattle.std.specs.List.{flat_map}
use Rattle.ctf_bits.specs.Align.{IsLeastMultiple}
use Rattle.ctf_bits.specs.Number.{number, signed_number}
use Rattle.ctf_class.specs.Integers.{bits_of}
use Rattle.ctf_bits.proofs.Aligns.{IsLeastMultiple-next}
use Rattle.ctf_class.proofs.AlignmentLemmas.{divides_too}
use Rattle.ctf_class.specs.Alignment.{IsAlignment}
use Rattle.ctf_class.specs.Records.{AreMany, IsField, IsInteger, IsStructure, Slot, TakesNumbers}
use Rattle.ctf_class.specs.declared.record_plan.PlannedField.{PlannedField}
use Rattle.ctf_class.specs.declared.record_plan.PlannedRun.{PlannedRun}
use Rattle.ctf_class.specs.declared.route.Length.{Length}
use Rattle.ctf_class.specs.declared.route.Length.TheVariants as lengths
use Rattle.ctf_class.specs.declared.class.Class.{Class}
use Rattle.ctf_class.specs.declared.class.Kind as kind
use Rattle.ctf_class.specs.declared.integer.Integer.{Integer}
use Rattle.ctf_class.specs.declared.many.Many.{Many}
use Rattle.ctf_class.specs.declared.structures.Structures.{Structures}
use Rattle.ctf_decode.specs.Forms as forms
use Rattle.ctf_decode.specs.Forms.{Form, align_of, integer}
use Rattle.ctf_decode.specs.Routes.{length_of}
use Rattle.ctf_decode.proofs.Aligns.{align-is}
use Rattle.ctf_decode.specs.Values.{Val, label, signed, unsigned}
use Rattle.ctf_decode.specs.Views.{form}
use Rattle.ctf_format.specs.Passing.{IsElement, Passes, PassesFields, PassesOther, next_at}
use Rattle.ctf_format.specs.Records.{BeginsAt, IsLastNumber, IsLastOf, PutsField, PutsFields, TakesRun, after_members, after_number, reached}
use Rattle.ctf_format.specs.RunNumbers.{run_text}
use Rattle.ctf_format.specs.Rows.{enclosed}
use Rattle.ctf_format.specs.Standing.{Before, Counts, PutsElements, PutsNext, PutsOne, PutsSome, among, array_text}
use Rattle.ctf_format.specs.Texts.{Shown, value_text, string_text}
use Rattle.ctf_format.specs.declared.content.Content.{Content}
use Rattle.ctf_format.specs.declared.passed_record.Element.{Element}
use Rattle.ctf_format.specs.declared.placed_run.PlacedRun.{PlacedRun}
use Rattle.ctf_format.specs.declared.planned_record.Reach.{Reach}
use Rattle.ctf_format.specs.declared.standing.Last.TheVariants as lasts
use Rattle.ctf_format.specs.declared.standing.Next.{Next}
use Rattle.ctf_format.proofs.ArrayLemmas.{Going, closed, going_begins, going_ends, going_on, puts_array, puts_element, puts_none, puts_some}
use Rattle.ctf_format.proofs.ElementsLemmas.{counted_text, form_any, text_any}
use Rattle.ctf_format.proofs.RecordsLemmas.{after_none, after_some, field_alone, field_next, fields_join, no_number, numbers_to, run_numbers}
use Rattle.ctf_format.proofs.StandingLemmas.{as_one, form_integer, form_text, leaf_stands, puts_next, text_text, mark_at}
use Rattle.ctf_format.proofs.StructuresLemmas.{structure_puts}

-- an integer, and an enumeration, that is within the content
pub integer_passes : (i : Integer) (a : ℕ) (shown : Shown) (packet : List ℕ) (content place : ℕ) → next_multiple_of place a + bits_of i ≤ content → Passes (PutsOne (integer a i) shown packet content place (next_multiple_of place a + bits_of i))
integer_passes i a shown packet content place within before =
    let b = next_multiple_of place a in
    let v : Val = if i.is_signed then signed (signed_number i.order packet b (bits_of i)) else unsigned (number i.order packet b (bits_of i)) in
    (before ++ shown v, λ spent few earlier env. (v, leaf_stands (among packet content earlier) (b + bits_of i) spent v few within, refl))

pub enumeration_passes : (i : Integer) (a : ℕ) (shown : Shown) (packet : List ℕ) (content place : ℕ) → next_multiple_of place a + bits_of i ≤ content → Passes (PutsOne (forms.enumeration a i) shown packet content place (next_multiple_of place a + bits_of i))
enumeration_passes i a shown packet content place within before =
    let b = next_multiple_of place a in
    let v : Val = label (if i.is_signed then signed_number i.order packet b (bits_of i) else pos (number i.order packet b (bits_of i))) in
    (before ++ shown v, λ spent few earlier env. (v, leaf_stands (among packet content earlier) (b + bits_of i) spent v few within, refl))

-- an integer is an element
pub integer_element : (packet : Content) (e : Element) (i : Integer) (align : ℕ) (k : Class) → IsInteger k i align → e.align ≡ align → e.span ≡ bits_of i → e.count ≡ 1 → IsElement packet e k
integer_element packet e i align k is aligned spans counted = record {
  align = aligned ∙ is.1;
  stands = λ place within before.
      let a_is : e.align ≡ k.align = aligned ∙ is.1 in
      let end : next_multiple_of place e.align + e.span ≡ next_multiple_of place k.align + bits_of i = λ j. next_multiple_of place (a_is j) + spans j in
      let one = integer_passes i k.align (value_text k) packet.bytes.now packet.end place (subst (λ n. n ≤ packet.end) end within) before in
      let as_class : PutsOne (form k) (value_text k) packet.bytes.now packet.end place (next_multiple_of place k.align + bits_of i) before one.0 = subst (λ f. PutsOne f (value_text k) packet.bytes.now packet.end place (next_multiple_of place k.align + bits_of i) before one.0) (form_integer k i is.0) one.1 in
      let at_end = subst (λ n. PutsOne (form k) (value_text k) packet.bytes.now packet.end place n before one.0) (sym end) as_class in
      (one.0, subst (λ n. PutsSome (form k) (value_text k) n packet.bytes.now packet.end place (next_multiple_of place e.align + e.span) before one.0) (sym counted) (puts_some (form k) (value_text k) packet.bytes.now packet.end place (next_multiple_of place e.align + e.span) before one.0 at_end));
}

-- what holds of the classes of a field, and what follows
pub many_so : (Is So : Class → Type 0) → ((k : Class) → Is k → So k) → (index : ℕ) (m : Class) (several : Many) → AreMany Is index m several → AreMany So index m several
many_so Is So so index m several are = (are.0, are.1, (are.2.0, are.2.1, so are.2.0 are.2.2))

-- The loop over elements, where so many were passed over.
abbrev pub PassesGoing : Form → Shown → ℕ → ℕ → List ℕ → ℕ → ℕ → ℕ → ℕ → Type 0
PassesGoing inner shown each count packet content place i at =
    Passes (λ before line. Going inner shown each count packet content place i at before line)

module _ (packet : Content) (e : Element) (k : Class) (is : IsElement packet e k) (count place : ℕ) where
  abbrev pub going : ℕ → ℕ → Type 0
  going i at = PassesGoing (form k) (value_text k) e.count count packet.bytes.now packet.end place i at

  pub passing_begins : going 0 place
  passing_begins before = (before, going_begins (form k) (value_text k) e.count count packet.bytes.now packet.end place before)

  pub passing_on : (i at end : ℕ) → i < count → end ≡ next_multiple_of at e.align + e.span → end ≤ packet.end → going i at → going (i + 1) end
  passing_on i at end few ends within so_far before =
      let g = so_far before in
      let line = g.0 in
      let lead = mark_at 91 i in
      let index : List ℕ = 91 ∷ (decimal i ++ codes "] = ") in
      let from = line ++ (lead ∷ 32 ∷ index) in
      let one = is.stands at (subst (λ n. n ≤ packet.end) ends within) from in
      let there : PutsSome (form k) (value_text k) e.count packet.bytes.now packet.end at end from one.0 = subst (λ n. PutsSome (form k) (value_text k) e.count packet.bytes.now packet.end at n from one.0) (sym ends) one.1 in
      let element = puts_element (form k) (value_text k) e.count lead i packet.bytes.now packet.end at end line from index one.0 refl (λ v. ap (λ xs. 91 ∷ xs) (sym (append_assoc (decimal i) (codes "] = ") (value_text k v)))) there in
      (one.0, going_on (form k) (value_text k) e.count count packet.bytes.now packet.end place before i at end lead line one.0 few refl g.1 element)

  pub passing_ends : (at : ℕ) → (count ≡ 0 → at ≡ place) → going count at → Passes (PutsElements (enclosed 91 93) (form k) (value_text k) e.count count packet.bytes.now packet.end place at)
  passing_ends at none all before = by count refl
    where
      by : (n : ℕ) → count ≡ n → (after : List ℕ) × PutsElements (enclosed 91 93) (form k) (value_text k) e.count count packet.bytes.now packet.end place at before after
      by zero zeroed =
          let after = before ++ (91 ∷ 32 ∷ 93 ∷ []) in
          let here = puts_none (form k) (value_text k) e.count packet.bytes.now packet.end place before after refl in
          (after, subst (λ n. PutsElements (enclosed 91 93) (form k) (value_text k) e.count n packet.bytes.now packet.end place at before after) (sym zeroed) (subst (λ p. PutsElements (enclosed 91 93) (form k) (value_text k) e.count 0 packet.bytes.now packet.end place p before after) (sym (none zeroed)) here))
      by (suc n) more =
          let g = all before in
          let line = g.0 in
          let after = line ++ (32 ∷ 93 ∷ []) in
          let some : 0 < count = omega (arith, more) in
          (after, closed (form k) (value_text k) e.count count packet.bytes.now packet.end place at before line after some refl (going_ends (form k) (value_text k) e.count count packet.bytes.now packet.end place before at line g.1))

-- a structure of integers that begins at a byte is an element
pub structure_element : (packet : Content) (e : Element) (s : Structures) (k : Class) → IsStructure k s → s.align % 8 ≡ 0 → IsAlignment s.align → e.align ≡ s.align → e.span ≡ s.span → e.count ≡ s.count → IsElement packet e k
structure_element packet e s k is whole power aligned spans counted = record {
  align = aligned ∙ is.begins;
  stands = λ place within before.
      let bytes = packet.bytes.now in
      let content = packet.end in
      let begin = next_multiple_of place s.align in
      let some : 0 < s.align = (let above = pow_pos power.exponent in omega (arith, above, power.value)) in
      let least : IsLeastMultiple place s.align begin = IsLeastMultiple-next place s.align some in
      let eight : begin % 8 ≡ 0 = divides_too begin s.align 8 least.multiple whole in
      let first = begin / 8 in
      let end : next_multiple_of place e.align + e.span ≡ begin + s.span = λ j. next_multiple_of place (aligned j) + spans j in
      let starts : 8 * first ≡ begin = omega (arith, eight) in
      let line = before ++ flat_map (run_text bytes first) s.numbers in
      let after = line ++ (32 ∷ 125 ∷ []) in
      let puts = structure_puts k s bytes content place begin first before line after is least refl starts (subst (λ n. n ≤ content) end within) refl refl in
      (after, subst (λ n. PutsSome (form k) (value_text k) n bytes content place (next_multiple_of place e.align + e.span) before after) (sym counted) (subst (λ n. PutsSome (form k) (value_text k) s.count bytes content place n before after) (sym end) puts));
}

-- a value alone is a field, whatever is printed before it
pub alone_passes : (s : Slot) (f : PlannedField) (packet : List ℕ) (content begin place more end : ℕ) (last : Option ℕ) → IsField s f → begin ≡ next_multiple_of place f.align → begin ≤ content → Passes (PutsOne (form s.class) (value_text s.class) packet content begin end)
    → Passes (λ before after. PutsField s packet content (numbers_to place more last before) (numbers_to end more None after))
alone_passes s f packet content begin place more end last is begins within passes before =
    let line = before ++ f.ready in
    let p = passes line in
    (p.0, field_alone s f packet content begin place more end last before line p.0 is begins within refl p.1)

-- so is a value after the members of a structure
pub next_passes : (s : Slot) (f : PlannedField) (packet : List ℕ) (content begin place more some end : ℕ) (last : Option ℕ) → IsField s f → begin ≡ next_multiple_of place f.align → begin ≤ content
    → Passes (λ line after. PutsNext (after_members s.index last) (form s.class) (value_text s.class) packet content begin line (record { place = end; text = 0; more = some; last = lasts.Unknown }) after)
    → Passes (λ before after. PutsField s packet content (numbers_to place more last before) (numbers_to end (more + some) None after))
next_passes s f packet content begin place more some end last is begins within passes before =
    let line = before ++ f.ready in
    let p = passes line in
    (p.0, field_next s f packet content begin place more some end last before line p.0 is begins within refl p.1)

-- a value as that of the class that it is of
pub class_passes : (k l : Form) (shown told : Shown) (packet : List ℕ) (content place end : ℕ) → k ≡ l → shown ≡ told → Passes (PutsOne k shown packet content place end) → Passes (PutsOne l told packet content place end)
class_passes k l shown told packet content place end forms_are texts_are passes before =
    let p = passes before in
    (p.0, as_one k l shown told packet content place end before p.0 p.0 forms_are texts_are refl p.1)

-- a text whose length is the number before
pub counted_passes : (m : Class) (many : Length) (before : Before) (n : ℕ) (packet : List ℕ) (content place end : ℕ) → m.kind ≡ kind.Text many → Counts many before n → ((a : ℕ) → Passes (PutsOne (forms.text a (lengths.Fixed n)) string_text packet content place end))
    → Passes (λ line after. PutsNext before (form m) (value_text m) packet content place line (record { place = end; text = 0; more = 0; last = lasts.Unknown }) after)
counted_passes m many before n packet content place end is counts passes line =
    let a = m.align in
    let p = passes a line in
    let to : Next = record { place = end; text = 0; more = 0; last = lasts.Unknown } in
    let next : PutsNext before (forms.text a many) string_text packet content place line to p.0 = λ spent room earlier env vs counted last.
    let v = puts_next before (forms.text a (lengths.Fixed n)) string_text packet content place end 0 line p.0 p.1 spent room earlier env vs counted last in
    (v.0, counted_text a many n (among packet content earlier) (vs ∷ env) place spent (counts earlier env vs counted last) ∙ v.1, v.2, v.3)
    in
    (p.0, subst (λ t. PutsNext before (form m) t packet content place line to p.0) (text_text m many is) (subst (λ f. PutsNext before f string_text packet content place line to p.0) (form_text m many is) next))

-- elements are the value of an array
pub array_passes : (before : Before) (length_is : Length) (c : Class) (k : Class) (packet : Content) (e : Element) (place start count more end : ℕ) → c.kind ≡ kind.Array length_is k → IsElement packet e k → start ≡ next_multiple_of place e.align → start ≤ packet.end → more ≡ count * e.count → Counts length_is before count
    → Passes (PutsElements (enclosed 91 93) (form k) (value_text k) e.count count packet.bytes.now packet.end start end)
    → Passes (λ line after. PutsNext before (form c) (value_text c) packet.bytes.now packet.end place line (record { place = end; text = 0; more = more; last = lasts.Unknown }) after)
array_passes before length_is c k packet e place start count more end is element starts within sum counts passes line =
    let p = passes line in
    let bytes = packet.bytes.now in
    let content = packet.end in
    let to : Next = record { place = end; text = 0; more = more; last = lasts.Unknown } in
    let begins : start ≡ next_multiple_of place (align_of (form k)) = starts ∙ ap (next_multiple_of place) (element.align ∙ sym (align-is k)) in
    let next = puts_array before length_is c.align (form k) (value_text k) e.count bytes content place start count more end 0 line p.0 begins within sum counts p.1 in
    (p.0, subst (λ t. PutsNext before (form c) t bytes content place line to p.0) (text_any c length_is k is) (subst (λ f. PutsNext before f (array_text (value_text k)) bytes content place line to p.0) (form_any c length_is k is) next))

-- an array of a fixed length, whatever is before it
pub fixed_passes : (r : Option Reach) (packet : Content) (e : Element) (count place : ℕ) (c k : Class) (many : Length) → c.kind ≡ kind.Array many k → IsElement packet e k → many ≡ lengths.Fixed count
    → ((before : Before) (d l : Class) (length_is : Length) → d.kind ≡ kind.Array length_is l → IsElement packet e l → Counts length_is before count → IfSome r (λ to. Passes (λ line after. PutsNext before (form d) (value_text d) packet.bytes.now packet.end place line (next_at to) after)))
    → IfSome r (λ to. (before : Before) → Passes (λ line after. PutsNext before (form c) (value_text c) packet.bytes.now packet.end place line (next_at to) after))
fixed_passes None packet e count place c k many is element fixed passes = tt
fixed_passes (Some to) packet e count place c k many is element fixed passes = λ before. passes before c k many is element (λ earlier env vs counted last. ap (λ l. length_of l earlier (vs ∷ env)) fixed)

-- no field was passed over
pub fields_begin : (slots : List Slot) (packet : Content) (from : Reach) → PassesFields slots slots packet from from
fields_begin slots packet from before = (before, ([], refl, refl))

-- fields after fields
pub fields_pass : (slots rest others : List Slot) (packet : Content) (from mid to : Reach) → PassesFields slots rest packet from mid → PassesFields rest others packet mid to → PassesFields slots others packet from to
fields_pass slots rest others packet from mid to first second before =
    let p = first before in
    let q = second p.0 in
    let used = p.1.0 in
    let more = q.1.0 in
    (q.0, (used ++ more, p.1.1 ∙ ap (λ xs. used ++ xs) q.1.1 ∙ sym (append_assoc used more others), fields_join packet.bytes.now packet.end used more (reached from before) (reached mid p.0) (reached to q.0) p.1.2 q.1.2))

-- the numbers of a run, of which the last is known
numbers_pass : (r : PlannedRun) (packet : Content) (at more end place : ℕ) (last : Option ℕ) (slots rest : List Slot) → TakesNumbers r.align slots r.numbers r.span rest → BeginsAt at r place → place + r.span ≡ end → end ≤ packet.end → IsLastNumber last r.numbers packet.bytes.now (place / 8) → (before : List ℕ)
    → (used : List Slot) × (slots ≡ used ++ rest) × PutsFields used packet.bytes.now packet.end (numbers_to at more None before) (numbers_to end more last (before ++ flat_map (run_text packet.bytes.now (place / 8)) r.numbers))
numbers_pass r packet at more end place last slots rest takes begins ends within is before =
    let bytes = packet.bytes.now in
    let first = place / 8 in
    let text = before ++ flat_map (run_text bytes first) r.numbers in
    let starts : 0 < length r.numbers → 8 * first ≡ place = λ some. (let whole = begins.whole some in omega (arith, whole)) in
    let all = run_numbers r.align slots rest r.numbers r.numbers at r.span first place packet.end more last bytes before before text takes refl is begins.least begins.value starts (omega (arith, ends, within)) refl refl in
    (all.0, all.1, subst (λ p. PutsFields all.0 bytes packet.end (numbers_to at more None before) (numbers_to p more last text)) ends all.2)

-- a run without a field after its numbers
pub run_alone : (r : PlannedRun) (packet : Content) (from : Reach) (end place : ℕ) (slots others : List Slot) → TakesRun slots r others → r.field ≡ None → BeginsAt from.place r place → place + r.span ≡ end → end ≤ packet.end → PassesFields slots others packet from (record { place = end; more = from.more })
run_alone r packet from end place slots others takes none begins ends within before =
    let bytes = packet.bytes.now in
    let p = numbers_pass r packet from.place from.more end place None slots takes.0 takes.1 begins ends within (no_number r.numbers bytes (place / 8)) before in
    let left : takes.0 ≡ others = after_none takes.0 others r.field none takes.2 in
    (before ++ flat_map (run_text bytes (place / 8)) r.numbers, (p.0, p.1 ∙ ap (λ xs. p.0 ++ xs) left, p.2))

-- a run with one
pub run_fielded : (r : PlannedRun) (f : PlannedField) (packet : Content) (from to : Reach) (end place : ℕ) (slots others : List Slot) → TakesRun slots r others → r.field ≡ Some f → BeginsAt from.place r place → place + r.span ≡ end → end ≤ packet.end
    → ((s : Slot) → IsField s f → Passes (λ line after. (last : Option ℕ) × IsLastNumber last r.numbers packet.bytes.now (place / 8) × PutsField s packet.bytes.now packet.end (numbers_to end from.more last line) (reached to after)))
    → PassesFields slots others packet from to
run_fielded r f packet from to end place slots others takes is begins ends within passes before =
    let bytes = packet.bytes.now in
    let one = after_some takes.0 others r.field f is takes.2 in
    let s = one.0 in
    let line = before ++ flat_map (run_text bytes (place / 8)) r.numbers in
    let q = passes s one.2 line in
    let last = q.1.0 in
    let p = numbers_pass r packet from.place from.more end place last slots takes.0 takes.1 begins ends within q.1.1 before in
    let mid = numbers_to end from.more last line in
    (q.0, (p.0 ++ s ∷ [], p.1 ∙ ap (λ xs. p.0 ++ xs) one.1 ∙ sym (append_assoc p.0 (s ∷ []) others), fields_join bytes packet.end p.0 (s ∷ []) (reached from before) mid (reached to q.0) p.2 (reached to q.0, q.1.2, refl)))

-- so are the values of arrays and structures
pub other_passes : (s : Slot) (f : PlannedField) (placed : PlacedRun) (from : Reach) (begin : ℕ) (to : Reach) → IsField s f → begin ≡ next_multiple_of from.place f.align → begin ≤ placed.packet.now.end → PassesOther s.index s.class placed (record { place = begin; more = from.more }) to
    → Passes (λ before after. (last : Option ℕ) × IsLastOf placed last × PutsField s placed.packet.now.bytes.now placed.packet.now.end (after_number from last before) (reached to after))
other_passes s f placed from begin to is begins within passes before =
    let bytes = placed.packet.now.bytes.now in
    let content = placed.packet.now.end in
    let line = before ++ f.ready in
    let p = passes line in
    let last = p.1.0 in
    let other = p.1.2 in
    let field = field_next s f bytes content begin from.place from.more other.0 to.place last before line p.0 is begins within refl other.2 in
    (p.0, (last, p.1.1, subst (λ n. PutsField s bytes content (numbers_to from.place from.more last before) (numbers_to to.place n None p.0)) (sym other.1) field))

-- what holds of each field that a plan's could be
pub each_field : (r : Option Reach) (f : PlannedField) (Holds : Slot → Reach → Type 0) → ((s : Slot) → IsField s f → IfSome r (Holds s)) → IfSome r (λ to. (s : Slot) → IsField s f → Holds s to)
each_field None f Holds holds = tt
each_field (Some to) f Holds holds = holds
