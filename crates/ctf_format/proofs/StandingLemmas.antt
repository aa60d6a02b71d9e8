-- Values that are shown where they are, one member more at a time.
use Rattle.std.proofs.Common.{◌≡◌, ℕ, zero, suc, ◌+◌, ◌-◌, ◌*◌, ◌/◌, ◌<◌, ◌≤◌, Bool, true, false, cond, List, [], ◌∷◌, ◌++◌, map, take, drop, length, get_or, position, nat_eq, not, Option, Some, None, IfSome, Ok, Err, pos, rules, refl, sym, ap, subst, ◌∙◌, arith, append_assoc, append-nil, length-append}
use Rattle.std.specs.Int.{next_multiple_of}
use Rattle.std.specs.List.{take_while}
use Rattle.std.specs.Prelude.{⊤, slice_get}
use Rattle.std.proofs.lemmas.Bool.{lt-ltb, le-ltb}
use Rattle.std.proofs.Math.Seq.{take-length}
use Rattle.std.proofs.lemmas.List.{take_more, map-append, length-map, length-take-le, take-append-le, take-take}
use Rattle.ctf_bits.specs.Number.{number, signed_number}
use Rattle.ctf_class.specs.declared.class.Class as class
use Rattle.ctf_class.specs.declared.class.Class.{Class}
use Rattle.ctf_class.specs.declared.class.Kind as kind
use Rattle.ctf_class.specs.declared.class.Kind.{Kind, fold-Kind}
use Rattle.ctf_class.specs.declared.class.Member.{Member}
use Rattle.ctf_class.specs.declared.integer.Integer.{Integer}
use Rattle.ctf_class.specs.declared.route.Length.{Length}
use Rattle.ctf_class.specs.declared.route.Length.TheVariants.{Fixed}
use Rattle.ctf_class.specs.declared.route.Scope.{Scope}
use Rattle.ctf_class.specs.Integers.{bits_of}
use Rattle.ctf_class.specs.Names.{label_text}
use Rattle.ctf_decode.specs.Values.{Val, vals_of, unsigned, signed, group, text as text_val}
use Rattle.ctf_decode.specs.Forms as forms
use Rattle.ctf_decode.specs.Forms.{Form, parts_of, integer, string, structure}
use Rattle.ctf_decode.specs.Input.{Input, Env, integer_at}
use Rattle.ctf_decode.specs.Breaks.{too_many, past}
use Rattle.ctf_decode.specs.Walk.{Step, and_then, begin, open_at, as_group, leaf, string_end, string_at, walk, walk_members}
use Rattle.ctf_decode.specs.Views as views
use Rattle.ctf_decode.specs.Views.{form, shape}
use Rattle.ctf_decode.specs.Fields.{members_in}
use Rattle.ctf_decode.specs.declared.scopes.TheConstants.{MOST_VALUES}
use Rattle.ctf_format.specs.Standing.{PutsMembers}
use Rattle.ctf_format.specs.Numbers.{number_text}
use Rattle.ctf_format.specs.Rows.{row, enclosed}
use Rattle.ctf_format.specs.Standing.{Before, among, PutsOne, ValueIs, LastIs, PutsNext, StandsAs, StandsAsNumber}
use Rattle.ctf_format.specs.Texts.{Shown, Part, value_text, part_text, member_part, member_texts, integer_text, string_text, kind_step, class_step, member_step}
use Rattle.ctf_format.specs.declared.standing.Position.{Position}
use Rattle.ctf_format.specs.declared.standing.Last.{Last}
use Rattle.ctf_format.specs.declared.standing.Last.TheVariants as lasts
use Rattle.ctf_format.specs.declared.standing.MembersEnd.{MembersEnd}
use Rattle.ctf_format.specs.declared.standing.Next.{Next}
use Rattle.ctf_format.proofs.NamesLemmas.{here, drop-all}

-- the mark before the text of an index, where this one is before the first; 44 is a comma
abbrev pub mark_at : ℕ → ℕ → ℕ
mark_at first zero = first
mark_at first (suc i) = 44

-- what a kind of class shows
abbrev pub kind_text : Kind → Shown
kind_text = fold-Kind Shown Shown Part kind_step class_step member_step

pub begins : (c : Input) (s : ℕ) (r : Step Val) → s < c.limit → begin c s r ≡ r
begins c s r few = ap (λ b. cond b r (Err too_many)) (lt-ltb s c.limit few)

ends : (c : Input) (e s : ℕ) (w : Val) → e ≤ c.content → leaf c e s w ≡ Ok (w, e, s + 1)
ends c e s w within = ap (λ b. cond b (Err (past e)) (Ok (w, e, s + 1))) (le-ltb c.content e within)

pub leaf_stands : (c : Input) (e s : ℕ) (w : Val) → s < c.limit → e ≤ c.content → begin c s (leaf c e s w) ≡ Ok (w, e, s + 1)
leaf_stands c e s w few within = begins c s (leaf c e s w) few ∙ ends c e s w within

module _ (a : ℕ) (i : Integer) (packet : List ℕ) (content place end : ℕ) (before after : List ℕ) where
  abbrev Puts_integer : Type 0
  Puts_integer = PutsOne (integer a i) (integer_text i) packet content place end before after

  pub puts_signed : i.is_signed ≡ true → end ≡ next_multiple_of place a + bits_of i → end ≤ content → after ≡ before ++ number_text i (signed_number i.order packet (next_multiple_of place a) (bits_of i)) → Puts_integer
  puts_signed is ending within wrote spent few earlier env =
      let c = among packet content earlier in
      let b = next_multiple_of place a in
      let z = signed_number i.order packet b (bits_of i) in
      let value : integer_at c i b ≡ signed z = ap (λ t. cond t (signed z) (unsigned (number i.order packet b (bits_of i)))) is in
      let e = b + bits_of i in
      (signed z, ap (λ v. begin c spent (leaf c e spent v)) value ∙ leaf_stands c e spent (signed z) few (subst (λ n. n ≤ content) ending within) ∙ ap (λ n. Ok (signed z, n, spent + 1)) (sym ending), wrote)

  pub puts_unsigned : i.is_signed ≡ false → end ≡ next_multiple_of place a + bits_of i → end ≤ content → after ≡ before ++ number_text i (pos (number i.order packet (next_multiple_of place a) (bits_of i))) → Puts_integer
  puts_unsigned is ending within wrote spent few earlier env =
      let c = among packet content earlier in
      let b = next_multiple_of place a in
      let n = number i.order packet b (bits_of i) in
      let value : integer_at c i b ≡ unsigned n = ap (λ t. cond t (signed (signed_number i.order packet b (bits_of i))) (unsigned n)) is in
      let e = b + bits_of i in
      (unsigned n, ap (λ v. begin c spent (leaf c e spent v)) value ∙ leaf_stands c e spent (unsigned n) few (subst (λ n. n ≤ content) ending within) ∙ ap (λ m. Ok (unsigned n, m, spent + 1)) (sym ending), wrote)

  -- the same of one that is not below zero, signed or not
  pub puts_plain : (s : Bool) (n : ℕ) → i.is_signed ≡ s → end ≡ next_multiple_of place a + bits_of i → end ≤ content → n ≡ number i.order packet (next_multiple_of place a) (bits_of i)
      → (i.is_signed ≡ true → signed_number i.order packet (next_multiple_of place a) (bits_of i) ≡ pos n) → after ≡ before ++ number_text i (pos n) → Puts_integer
  puts_plain true n is ending within read plain wrote = puts_signed is ending within (wrote ∙ ap (λ z. before ++ number_text i z) (sym (plain is)))
  puts_plain false n is ending within read plain wrote = puts_unsigned is ending within (wrote ∙ ap (λ m. before ++ number_text i (pos m)) read)

module _ (packet : List ℕ) (content place end n : ℕ) (before after : List ℕ) where
  -- the whole bytes that are left
  abbrev left : List ℕ
  left = take ((content - next_multiple_of place 8) / 8) (drop (next_multiple_of place 8 / 8) packet)

  pub puts_string : position (λ x. nat_eq x 0) left ≡ Some n → end ≡ next_multiple_of place 8 + 8 * (n + 1) → after ≡ before ++ label_text (take n left) → (a : ℕ) → PutsOne (string a) string_text packet content place end before after
  unfolding string_at
  puts_string first ending wrote a spent few earlier env =
      let c = among packet content earlier in
      let b = next_multiple_of place 8 in
      let w = text_val (take n left) in
      (w, begins c spent (string_at c b spent) few ∙ ap (string_end b spent left) first ∙ ap (λ m. Ok (w, m, spent + 1)) (sym ending), wrote)

  pub puts_text : end ≡ next_multiple_of place 8 + 8 * n → end ≤ content → after ≡ before ++ label_text (take_while (λ x. not (nat_eq x 0)) (take n (drop (next_multiple_of place 8 / 8) packet))) → (a : ℕ) → PutsOne (forms.text a (Fixed n)) string_text packet content place end before after
  puts_text ending within wrote a spent few earlier env =
      let c = among packet content earlier in
      let e = next_multiple_of place 8 + 8 * n in
      let w = text_val (take_while (λ x. not (nat_eq x 0)) (take n (drop (next_multiple_of place 8 / 8) packet))) in
      (w, leaf_stands c e spent w few (subst (λ m. m ≤ content) ending within) ∙ ap (λ m. Ok (w, m, spent + 1)) (sym ending), wrote)

row_snoc : (texts : List (List ℕ)) (text : List ℕ) → row 44 (texts ++ text ∷ []) ≡ row 44 texts ++ (44 ∷ 32 ∷ text)
row_snoc [] text = ap (λ xs. 44 ∷ 32 ∷ xs) (append-nil text)
row_snoc (t ∷ texts) text =
    ap (λ xs. 44 ∷ 32 ∷ (t ++ xs)) (row_snoc texts text) ∙ ap (λ xs. 44 ∷ 32 ∷ xs) (sym (append_assoc t (row 44 texts) (44 ∷ 32 ∷ text)))

-- one text more after the first ones
pub row_more : (first : ℕ) (texts : List (List ℕ)) (text : List ℕ) → row first (texts ++ text ∷ []) ≡ row first texts ++ (mark_at first (length texts) ∷ 32 ∷ text)
row_more first [] text = ap (λ xs. first ∷ 32 ∷ xs) (append-nil text)
row_more first (t ∷ texts) text =
    ap (λ xs. first ∷ 32 ∷ (t ++ xs)) (row_snoc texts text) ∙ ap (λ xs. first ∷ 32 ∷ xs) (sym (append_assoc t (row 44 texts) (44 ∷ 32 ∷ text)))

texts_more : (parts : List Part) (vs : List Val) (part : Part) (v : Val) → length vs ≡ length parts → member_texts (parts ++ part ∷ []) (vals_of (vs ++ v ∷ [])) ≡ member_texts parts (vals_of vs) ++ part_text part v ∷ []
texts_more [] [] part v same = refl
texts_more [] (w ∷ vs) part v same = absurd (omega (arith, same))
texts_more (p ∷ parts) [] part v same = absurd (omega (arith, same))
texts_more (p ∷ parts) (w ∷ vs) part v same = ap (λ ts. part_text p w ∷ ts) (texts_more parts vs part v (omega (arith, same)))

texts_length : (parts : List Part) (vs : List Val) → length vs ≡ length parts → length (member_texts parts (vals_of vs)) ≡ length parts
texts_length [] vs same = refl
texts_length (p ∷ parts) [] same = absurd (omega (arith, same))
texts_length (p ∷ parts) (w ∷ vs) same = ap suc (texts_length parts vs (omega (arith, same)))

-- The loop over members: as many as an index says were written, with so many values in them, and the others are after
-- them.
abbrev pub Going : ((Scope → Option Val) → Env → Type 0) → List Member → List ℕ → ℕ → ℕ → ℕ → ℕ → ℕ → (List Val → Type 0) → List ℕ → List ℕ → Type 0
Going Where ms packet content place i at more Are before line =
    (spent : ℕ) → spent + length ms + more ≤ MOST_VALUES → (earlier : Scope → Option Val) (env : Env) → Where earlier env
    → (vs : List Val)
    × (walk_members (parts_of (map views.member_part (drop i ms))) (among packet content earlier) env vs at (spent + i + more) ≡ walk_members (parts_of (map views.member_part ms)) (among packet content earlier) env [] place spent)
    × (length vs ≡ i) × (line ≡ before ++ row 123 (member_texts (map member_part (take i ms)) (vals_of vs))) × Are vs

-- whatever was decoded before
abbrev pub anywhere : (Scope → Option Val) → Env → Type 0
anywhere earlier env = ⊤

-- a value is after so many members, of which this is known
abbrev pub PutsAfter : ((Scope → Option Val) → Env → Type 0) → (List Val → Type 0) → ℕ → Form → Shown → List ℕ → ℕ → ℕ → List ℕ → Next → List ℕ → Type 0
PutsAfter Where Are i k shown packet content place line next after =
    (spent : ℕ) → spent + next.more < MOST_VALUES → (earlier : Scope → Option Val) (env : Env) (vs : List Val) → Where earlier env → length vs ≡ i → Are vs
    → (v : Val) × (walk k (among packet content earlier) (vs ∷ env) place spent ≡ Ok (v, next.place, spent + 1 + next.more)) × (after ≡ line ++ shown v) × ValueIs next.last v

-- so is one after which this is known of all
abbrev pub PutsBecoming : ((Scope → Option Val) → Env → Type 0) → (List Val → Type 0) → (List Val → Type 0) → ℕ → Form → Shown → List ℕ → ℕ → ℕ → List ℕ → Next → List ℕ → Type 0
PutsBecoming Where Are Become i k shown packet content place line next after =
    (spent : ℕ) → spent + next.more < MOST_VALUES → (earlier : Scope → Option Val) (env : Env) (vs : List Val) → Where earlier env → length vs ≡ i → Are vs
    → (v : Val) × (walk k (among packet content earlier) (vs ∷ env) place spent ≡ Ok (v, next.place, spent + 1 + next.more)) × (after ≡ line ++ shown v) × Become (vs ++ v ∷ [])

pub last_is : (l : Last) (vs : List Val) (v : Val) → ValueIs l v → LastIs l (vs ++ v ∷ [])
last_is lasts.Unknown vs v is = tt
last_is (lasts.Unsigned n) vs v is = (vs, ap (λ w. vs ++ w ∷ []) is)
last_is (lasts.Label z) vs v is = (vs, ap (λ w. vs ++ w ∷ []) is)

-- what is there in a step, if there is a value
abbrev value_of : Step Val → Val
value_of (Ok x) = x.0
value_of (Err e) = unsigned 0

-- a value that was found is what stands there
pub stands_is : (l : Last) (k : Form) (packet : List ℕ) (content place end spent total : ℕ) (earlier : Scope → Option Val) (env : Env) (v : Val) → spent < MOST_VALUES → walk k (among packet content earlier) env place spent ≡ Ok (v, end, total) → StandsAs l k packet content place → ValueIs l v
stands_is lasts.Unknown k packet content place end spent total earlier env v few walked stands = tt
stands_is (lasts.Unsigned n) k packet content place end spent total earlier env v few walked stands = ap value_of (sym walked ∙ (stands spent few earlier env).1)
stands_is (lasts.Label z) k packet content place end spent total earlier env v few walked stands = ap value_of (sym walked ∙ (stands spent few earlier env).1)

abbrev Part_of : Type 0
Part_of = List ℕ × Form

-- classes and their texts, level by level
pub part-is : (m : Member) → views.member_part m ≡ (m.name, form m.class)
part-is m = search (rules, class.the_lemmas)

pub form-is : (c : Class) → form c ≡ shape c.kind c.align
form-is c = search (rules, class.the_lemmas)

pub value-is : (c : Class) → value_text c ≡ kind_text c.kind
value-is c = search (rules, class.the_lemmas)

shape-Integer : (i : Integer) (a : ℕ) → shape (kind.Integer i) a ≡ integer a i
shape-Integer i a = search (rules, class.the_lemmas)

shape-String : (a : ℕ) → shape kind.String a ≡ string a
shape-String a = search (rules, class.the_lemmas)

shape-Text : (many : Length) (a : ℕ) → shape (kind.Text many) a ≡ forms.text a many
shape-Text many a = search (rules, class.the_lemmas)

shape-Structure : (ms : List Member) (a : ℕ) → shape (kind.Structure ms) a ≡ structure a (parts_of (map views.member_part ms))
shape-Structure ms a = search (rules, class.the_lemmas)

text-Integer : (i : Integer) → kind_text (kind.Integer i) ≡ integer_text i
text-Integer i = search (rules, class.the_lemmas)

text-String : kind_text kind.String ≡ string_text
text-String = search (rules, class.the_lemmas)

text-Text : (many : Length) → kind_text (kind.Text many) ≡ string_text
text-Text many = search (rules, class.the_lemmas)

pub text-Structure : (ms : List Member) → kind_text (kind.Structure ms) ≡ (λ v. enclosed 123 125 (member_texts (map member_part ms) (members_in v)))
text-Structure ms = search (rules, class.the_lemmas)

module _ (Where : (Scope → Option Val) → Env → Type 0) (ms : List Member) (packet : List ℕ) (content place : ℕ) (before : List ℕ) where
  pub going_begins : (Are : List Val → Type 0) → Are [] → Going Where ms packet content place 0 place 0 Are before before
  going_begins Are none spent room earlier env is_there =
      let s : spent + 0 + 0 ≡ spent = omega arith in
      ([], ap (λ n. walk_members (parts_of (map views.member_part ms)) (among packet content earlier) env [] place n) s, refl, sym (append-nil before), none)

  next : (c : Input) (env : Env) (i : ℕ) (m : Member) (vs : List Val) (at spent : ℕ) → i < length ms → m ≡ get_or ms i m
      → walk_members (parts_of (map views.member_part (drop i ms))) c env vs at spent ≡ and_then (walk (form m.class) c (vs ∷ env) at spent) (λ w q t. walk_members (parts_of (map views.member_part (drop (i + 1) ms))) c env (vs ++ w ∷ []) q t)
  next c env i m vs at spent within is =
      let rest = map views.member_part (drop (i + 1) ms) in
      ap (λ ns. walk_members (parts_of (map views.member_part ns)) c env vs at spent) (here ms i m within is) ∙ ap (λ (x : Part_of). walk_members (parts_of (x ∷ rest)) c env vs at spent) (part-is m)

  texts_on : (i : ℕ) (m : Member) (vs : List Val) (v : Val) (lead : ℕ) (line more : List ℕ) → i < length ms → m ≡ get_or ms i m → length vs ≡ i → lead ≡ mark_at 123 i
      → line ≡ before ++ row 123 (member_texts (map member_part (take i ms)) (vals_of vs)) → more ≡ line ++ (lead ∷ 32 ∷ part_text (member_part m) v) → more ≡ before ++ row 123 (member_texts (map member_part (take (i + 1) ms)) (vals_of (vs ++ v ∷ [])))
  texts_on i m vs v lead line more within is as_many marked wrote added =
      let parts = map member_part (take i ms) in
      let all = member_texts parts (vals_of vs) in
      let text = part_text (member_part m) v in
      let counted : length parts ≡ i = length-map (take i ms) member_part ∙ length-take-le i ms (omega (arith, within)) in
      let same : length vs ≡ length parts = as_many ∙ sym counted in
      let lead_is : mark_at 123 (length all) ≡ lead = ap (mark_at 123) (texts_length parts vs same ∙ counted) ∙ sym marked in
      let parts_are : map member_part (take (i + 1) ms) ≡ parts ++ member_part m ∷ [] = ap (map member_part) (take_more ms i m within ∙ ap (λ x. take i ms ++ x ∷ []) (sym is)) ∙ map-append member_part (take i ms) (m ∷ []) in
      let longer : member_texts (map member_part (take (i + 1) ms)) (vals_of (vs ++ v ∷ [])) ≡ all ++ text ∷ [] = ap (λ ps. member_texts ps (vals_of (vs ++ v ∷ []))) parts_are ∙ texts_more parts vs (member_part m) v same in
      added ∙ ap (λ xs. xs ++ (lead ∷ 32 ∷ text)) wrote ∙ append_assoc before (row 123 all) (lead ∷ 32 ∷ text)
      ∙ ap (λ l. before ++ (row 123 all ++ (l ∷ 32 ∷ text))) (sym lead_is) ∙ ap (λ xs. before ++ xs) (sym (row_more 123 all text)) ∙ ap (λ ts. before ++ row 123 ts) (sym longer)

  pub going_further : (i at more : ℕ) (Are Become : List Val → Type 0) (m : Member) (lead : ℕ) (line : List ℕ) (to : Next) (after : List ℕ) → i < length ms → m ≡ get_or ms i m → lead ≡ mark_at 123 i → Going Where ms packet content place i at more Are before line
      → PutsBecoming Where Are Become i (form m.class) (λ v. lead ∷ 32 ∷ part_text (member_part m) v) packet content at line to after → Going Where ms packet content place (i + 1) to.place (more + to.more) Become before after
  going_further i at more Are Become m lead line to after within is marked going puts spent room earlier env is_there =
      let c = among packet content earlier in
      let g = going spent (omega (arith, room)) earlier env is_there in
      let vs = g.0 in
      let p = puts (spent + i + more) (omega (arith, room, within)) earlier env vs is_there g.2 g.4 in
      let rest = λ (w : Val) (q t : ℕ). walk_members (parts_of (map views.member_part (drop (i + 1) ms))) c env (vs ++ w ∷ []) q t in
      let total : spent + (i + 1) + (more + to.more) ≡ spent + i + more + 1 + to.more = omega arith in
      let walked = ap (rest p.0 to.place) total ∙ sym (next c env i m vs at (spent + i + more) within is ∙ ap (λ r. and_then r rest) p.1) ∙ g.1 in
      let longer : length (vs ++ p.0 ∷ []) ≡ i + 1 = length-append vs (p.0 ∷ []) ∙ ap (λ n. n + 1) g.2 in
      (vs ++ p.0 ∷ [], walked, longer, texts_on i m vs p.0 lead line after within is g.2 marked g.3 p.2, p.3)

  pub going_on : (i at more : ℕ) (Are Become : List Val → Type 0) (m : Member) (lead : ℕ) (line : List ℕ) (to : Next) (after : List ℕ) → i < length ms → m ≡ get_or ms i m → lead ≡ mark_at 123 i → Going Where ms packet content place i at more Are before line
      → ((vs : List Val) (v : Val) → length vs ≡ i → Are vs → ValueIs to.last v → Become (vs ++ v ∷ [])) → PutsAfter Where Are i (form m.class) (λ v. lead ∷ 32 ∷ part_text (member_part m) v) packet content at line to after → Going Where ms packet content place (i + 1) to.place (more + to.more) Become before after
  going_on i at more Are Become m lead line to after within is marked going become puts = going_further i at more Are Become m lead line to after within is marked going
      (λ spent room earlier env vs there counted are. let p = puts spent room earlier env vs there counted are in (p.0, p.1, p.2, become vs p.0 counted are p.3))

  pub going_ends : (at more text : ℕ) (Are : List Val → Type 0) (line : List ℕ) → Going Where ms packet content place (length ms) at more Are before line → PutsMembers (row 123) Where Are ms packet content place before (record { place = at; text = text; more = more }) line
  going_ends at more text Are line going spent room earlier env is_there =
      let c = among packet content earlier in
      let g = going spent room earlier env is_there in
      let over = ap (λ ns. walk_members (parts_of (map views.member_part ns)) c env g.0 at (spent + length ms + more)) (drop-all ms (length ms) (omega arith)) in
      (g.0, sym g.1 ∙ over, g.2, g.3 ∙ ap (λ ns. before ++ row 123 (member_texts (map member_part ns) (vals_of g.0))) (take-length ms), g.4)

pub mark_next : (first i : ℕ) → 44 ≡ mark_at first (i + 1)
mark_next first i = let n : suc i ≡ i + 1 = omega arith in ap (mark_at first) n

-- What classes of one kind are decoded as, and what they show.
module _ (c : Class) where
  whole : (k : Kind) → c.kind ≡ k → shape k c.align ≡ form c
  whole k is = ap (λ x. shape x c.align) (sym is) ∙ sym (form-is c)

  shows : (k : Kind) → c.kind ≡ k → kind_text k ≡ value_text c
  shows k is = ap kind_text (sym is) ∙ sym (value-is c)

  pub form_integer : (i : Integer) → c.kind ≡ kind.Integer i → integer c.align i ≡ form c
  form_integer i is = sym (shape-Integer i c.align) ∙ whole (kind.Integer i) is

  pub text_integer : (i : Integer) → c.kind ≡ kind.Integer i → integer_text i ≡ value_text c
  text_integer i is = sym (text-Integer i) ∙ shows (kind.Integer i) is

  pub form_string : c.kind ≡ kind.String → string c.align ≡ form c
  form_string is = sym (shape-String c.align) ∙ whole kind.String is

  pub text_string : c.kind ≡ kind.String → string_text ≡ value_text c
  text_string is = sym text-String ∙ shows kind.String is

  pub form_text : (many : Length) → c.kind ≡ kind.Text many → forms.text c.align many ≡ form c
  form_text many is = sym (shape-Text many c.align) ∙ whole (kind.Text many) is

  pub text_text : (many : Length) → c.kind ≡ kind.Text many → string_text ≡ value_text c
  text_text many is = sym (text-Text many) ∙ shows (kind.Text many) is

  pub form_structure : (ms : List Member) → c.kind ≡ kind.Structure ms → structure c.align (parts_of (map views.member_part ms)) ≡ form c
  form_structure ms is = sym (shape-Structure ms c.align) ∙ whole (kind.Structure ms) is

  pub text_structure : (ms : List Member) (vs : List Val) → c.kind ≡ kind.Structure ms → enclosed 123 125 (member_texts (map member_part ms) (vals_of vs)) ≡ value_text c (group (vals_of vs))
  text_structure ms vs is = ap (λ f. f (group (vals_of vs))) (sym (text-Structure ms) ∙ shows (kind.Structure ms) is)

-- The same value, as that of the class that it is of, in the whole buffer.
pub as_one : (k l : Form) (shown told : Shown) (packet : List ℕ) (content place end : ℕ) (before line after : List ℕ) → k ≡ l → shown ≡ told → line ≡ after → PutsOne k shown packet content place end before line → PutsOne l told packet content place end before after
as_one k l shown told packet content place end before line after forms_are texts_are same puts =
    subst (λ xs. PutsOne l told packet content place end before xs) same (subst (λ t. PutsOne l t packet content place end before line) texts_are (subst (λ f. PutsOne f shown packet content place end before line) forms_are puts))

pub as_class : (r : Option Position) (k l : Form) (shown told : Shown) (packet : List ℕ) (content place : ℕ) (before line : List ℕ) → k ≡ l → shown ≡ told
    → IfSome r (λ e. PutsOne k shown packet content place e.place before (take e.text line)) → IfSome r (λ e. PutsOne l told packet content place e.place before (take e.text line))
as_class (Some e) k l shown told packet content place before line forms_are texts_are puts = as_one k l shown told packet content place e.place before (take e.text line) (take e.text line) forms_are texts_are refl puts
as_class None k l shown told packet content place before line forms_are texts_are puts = tt

-- What is before a line is before the buffer that the line is in.
pub same_front : (text at n : ℕ) (line items : List ℕ) → length line ≡ n → at ≤ n → text ≤ at → take text line ≡ take text (take n (line ++ drop (length line) items))
same_front text at n line items long room near =
    let within : text ≤ n = omega (arith, room, near) in
    let short : text ≤ length line = omega (arith, within, long) in
    sym (take-append-le text line (drop (length line) items) short) ∙ sym (take-take text n (line ++ drop (length line) items) within)

pub member-is : (m : Member) → member_part m ≡ (m.name, value_text m.class)
member-is m = search (rules, class.the_lemmas)

closed_row : (parts : List Part) (vs : List Val) → 0 < length parts → length vs ≡ length parts → row 123 (member_texts parts (vals_of vs)) ++ (32 ∷ 125 ∷ []) ≡ enclosed 123 125 (member_texts parts (vals_of vs))
closed_row [] vs some same = absurd (omega (arith, some))
closed_row (p ∷ parts) [] some same = absurd (omega (arith, same))
closed_row (p ∷ parts) (v ∷ vs) some same = refl

-- the mark after the members
pub closed : (Where : (Scope → Option Val) → Env → Type 0) (Are : List Val → Type 0) (ms : List Member) (packet : List ℕ) (content place text : ℕ) (end : MembersEnd) (before line after : List ℕ) → 0 < length ms → after ≡ line ++ (32 ∷ 125 ∷ []) → PutsMembers (row 123) Where Are ms packet content place before end line → PutsMembers (enclosed 123 125) Where Are ms packet content place before (record { place = end.place; text = text; more = end.more }) after
closed Where Are ms packet content place text end before line after some added puts spent room earlier env is_there =
    let p = puts spent room earlier env is_there in
    let parts = map member_part ms in
    let counted = length-map ms member_part in
    let texts = member_texts parts (vals_of p.0) in
    (p.0, p.1, p.2, added ∙ ap (λ xs. xs ++ (32 ∷ 125 ∷ [])) p.3 ∙ append_assoc before (row 123 texts) (32 ∷ 125 ∷ []) ∙ ap (λ xs. before ++ xs) (closed_row parts p.0 (omega (arith, some, counted)) (p.2 ∙ sym counted)), p.4)

-- the members of a structure are its value
pub puts_structure : (Where : (Scope → Option Val) → Env → Type 0) (Are : List Val → Type 0) (Is : Option Val → Type 0) → ((vs : List Val) → Are vs → Is (Some (group (vals_of vs)))) → (k : Class) (ms : List Member) (packet : List ℕ) (content place start spent : ℕ) (end : MembersEnd) (total : ℕ) (before after : List ℕ) → k.kind ≡ kind.Structure ms → start ≡ next_multiple_of place k.align → start ≤ content → total ≡ spent + 1 + length ms + end.more → total ≤ MOST_VALUES
    → PutsMembers (enclosed 123 125) Where Are ms packet content start before end after
    → (earlier : Scope → Option Val) (env : Env) → Where earlier env → (v : Val) × (walk (form k) (among packet content earlier) env place spent ≡ Ok (v, end.place, total)) × (after ≡ before ++ value_text k v) × Is (Some v)
puts_structure Where Are Is known k ms packet content place start spent end total before after is starts within counted room puts earlier env is_there =
    let c = among packet content earlier in
    let p = puts (spent + 1) (omega (arith, counted, room)) earlier env is_there in
    let parts = parts_of (map views.member_part ms) in
    let inner = λ (b : ℕ). begin c spent (open_at c b (and_then (walk_members parts c env [] b (spent + 1)) as_group)) in
    let opened : open_at c start (and_then (walk_members parts c env [] start (spent + 1)) as_group) ≡ and_then (walk_members parts c env [] start (spent + 1)) as_group = ap (λ b. cond b (Err (past start)) (and_then (walk_members parts c env [] start (spent + 1)) as_group)) (le-ltb content start within) in
    let walked : walk (form k) c env place spent ≡ Ok (group (vals_of p.0), end.place, total) =
    ap (λ f. walk f c env place spent) (sym (form_structure k ms is)) ∙ ap inner (sym starts)
    ∙ begins c spent (open_at c start (and_then (walk_members parts c env [] start (spent + 1)) as_group)) (omega (arith, counted, room))
    ∙ opened ∙ ap (λ r. and_then r as_group) p.1 ∙ ap (λ n. Ok (group (vals_of p.0), end.place, n)) (sym counted)
    in
    (group (vals_of p.0), walked, p.3 ∙ ap (λ xs. before ++ xs) (text_structure k ms p.0 is), known p.0 p.4)

-- one value alone, after the members of a structure
pub puts_next : (before : Before) (k : Form) (shown : Shown) (packet : List ℕ) (content place end text : ℕ) (line after : List ℕ) → PutsOne k shown packet content place end line after
    → PutsNext before k shown packet content place line (record { place = end; text = text; more = 0; last = lasts.Unknown }) after
puts_next before k shown packet content place end text line after puts spent room earlier env vs counted last =
    let p = puts spent (omega (arith, room)) earlier (vs ∷ env) in
    let none : spent + 1 ≡ spent + 1 + 0 = omega arith in
    (p.0, p.1 ∙ ap (λ n. Ok (p.0, end, n)) none, p.2, tt)

-- the same where it is known
pub standing_next : (l : Last) (before : Before) (k : Form) (shown : Shown) (packet : List ℕ) (content place end text more : ℕ) (line after : List ℕ) → PutsNext before k shown packet content place line (record { place = end; text = text; more = more; last = lasts.Unknown }) after
    → StandsAs l k packet content place → PutsNext before k shown packet content place line (record { place = end; text = text; more = more; last = l }) after
standing_next l before k shown packet content place end text more line after puts stands spent room earlier env vs counted last =
    let p = puts spent room earlier env vs counted last in
    (p.0, p.1, p.2, stands_is l k packet content place end spent (spent + 1 + more) earlier (vs ∷ env) p.0 (omega (arith, room)) p.1 stands)

-- one unsigned integer
pub stands_number : (a : ℕ) (i : Integer) (packet : List ℕ) (content place n : ℕ) → i.is_signed ≡ false → next_multiple_of place a + bits_of i ≤ content → n ≡ number i.order packet (next_multiple_of place a) (bits_of i) → StandsAsNumber (integer a i) packet content place n
stands_number a i packet content place n is within read spent few earlier env =
    let c = among packet content earlier in
    let b = next_multiple_of place a in
    let value : integer_at c i b ≡ unsigned n = ap (λ t. cond t (signed (signed_number i.order packet b (bits_of i))) (unsigned (number i.order packet b (bits_of i)))) is ∙ ap unsigned (sym read) in
    (b + bits_of i, ap (λ v. begin c spent (leaf c (b + bits_of i) spent v)) value ∙ leaf_stands c (b + bits_of i) spent (unsigned n) few within)

-- the last of some
pub last_of : {A : Type 0} (xs : List A) (x : A) (i : ℕ) → length xs ≡ i → slice_get (xs ++ x ∷ []) i ≡ Some x
last_of [] x zero same = refl
last_of [] x (suc i) same = absurd (omega (arith, same))
last_of (y ∷ xs) x zero same = absurd (omega (arith, same))
last_of (y ∷ xs) x (suc i) same = last_of xs x i (omega (arith, same))
