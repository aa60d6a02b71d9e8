-- Headers that are read by their plan are those of their class.
use Rattle.std.proofs.Common.{◌≡◌, ℕ, ℤ, Bool, true, false, cond, pos, ◌+◌, ◌%◌, ◌≤◌, List, [], ◌∷◌, Option, Some, None, IfSome, option_map, refl, sym, ap, subst, ◌∙◌, add_assoc, add-zero, le-add_right, arith}
use Rattle.std.proofs.Math.Nat.{mod_self, sub-zero}
use Rattle.std.specs.Prelude.{codes, ◌-◌}
use Rattle.std.specs.Int.{next_multiple_of}
use Rattle.std.specs.List.{last_or}
use Rattle.std.specs.Str.{bytes_eq}
use Rattle.ctf_bits.specs.Number.{number}
use Rattle.ctf_class.proofs.AlignmentLemmas.{divides_too, next_after}
use Rattle.ctf_class.specs.declared.class.Class.{Class}
use Rattle.ctf_class.specs.declared.class.Member.{Member}
use Rattle.ctf_class.specs.declared.header_plan.HeaderIntegers.{HeaderIntegers}
use Rattle.ctf_class.specs.declared.header_plan.HeaderNumber.{HeaderNumber}
use Rattle.ctf_class.specs.declared.integer.Integer.{Integer}
use Rattle.ctf_class.specs.declared.class.Kind as kind
use Rattle.ctf_class.specs.declared.header_plan.HeaderPlan.{HeaderPlan}
use Rattle.ctf_class.specs.declared.header_plan.HeaderTag.{HeaderTag}
use Rattle.ctf_class.specs.declared.span.Label.{Label}
use Rattle.ctf_class.specs.HeaderPlans.{AreIntegers, AreLaid, Chooses, IsChosenBy, IsHeaderPlan, IsTagged, IsTagNear, no_integers, with_member}
use Rattle.ctf_class.specs.Integers.{bits_of}
use Rattle.ctf_clock.specs.Clock.{Line}
use Rattle.ctf_clock.specs.declared.moment.Moment.{Moment}
use Rattle.ctf_decode.specs.Fields.{named_id, number_in}
use Rattle.ctf_decode.specs.Forms.{enumeration, integer}
use Rattle.ctf_decode.specs.Values.{Val, label}
use Rattle.ctf_decode.specs.Views.{form, shape}
use Rattle.ctf_decode.proofs.Views.{form-is, shape-Enumeration}
use Rattle.ctf_decode.specs.declared.scopes.TheConstants.{MOST_VALUES}
use Rattle.ctf_packet.specs.Moved.{moved_in}
use Rattle.ctf_record_text.proofs.Telling.{Telling, TellsAll, TellsMember, TellsMembers, TellsValue, tag_there, tells_pair, tells_structure, value_at, set_by-none, tells_integer, no_members, more_members}
use Rattle.ctf_record_text.specs.Headers.{Tells, set_by}
use Rattle.ctf_record_text.specs.Planned.{ReadsIntegers, number_at, id_after, clock_after}
use Rattle.ctf_record_text.specs.declared.planned_header.HeaderRead.{HeaderRead}

-- a multiple is rounded up already
pub up_multiple : (begin align : ℕ) → begin % align ≡ 0 → next_multiple_of begin align ≡ begin
up_multiple begin align multiple =
    ap (λ k. begin + (align - k) % align) multiple ∙ ap (λ k. begin + k % align) (sub-zero align) ∙ ap (λ k. begin + k) (mod_self align) ∙ add-zero begin

none_some : {A : Type 0} {P : Type 0} (r : Option A) (x : A) → r ≡ None → r ≡ Some x → P
none_some r x none some = absurd (let both : None ≡ Some x = sym none ∙ some in cc)

some_same : {A : Type 0} (x y : A) → Some x ≡ Some y → x ≡ y
some_same x y same = cc

-- an integer that sets the clock stays the one that does
kept : (t : Bool) (n m : HeaderNumber) (before : Option HeaderNumber) → before ≡ Some m → (t ≡ true → before ≡ None) → cond t (Some n) before ≡ Some m
kept true n m before is alone = none_some before m (alone refl) is
kept false n m before is alone = is

stays : (ms : List Member) (h end : HeaderIntegers) (m : HeaderNumber) → AreLaid ms h end → h.stamp ≡ Some m → end.stamp ≡ Some m
stays [] h end m laid is = ap (λ (x : HeaderIntegers). x.stamp) (sym laid) ∙ is
stays (x ∷ ms) h end m laid is =
    let n = laid.0 in
    stays ms (with_member x n h) end m laid.2 (kept n.integer.is_moving n m h.stamp is laid.1.alone)

-- what is known of the structure stays
same_structure : (ms : List Member) (h end : HeaderIntegers) → AreLaid ms h end → (h.align ≡ end.align) × (h.skipped ≡ end.skipped)
same_structure [] h end laid = (ap (λ (x : HeaderIntegers). x.align) laid, ap (λ (x : HeaderIntegers). x.skipped) laid)
same_structure (x ∷ ms) h end laid = same_structure ms (with_member x laid.0 h) end laid.2

-- integers end further on, and are more
grows : (ms : List Member) (h end : HeaderIntegers) → AreLaid ms h end → (h.span ≤ end.span) × (h.values ≤ end.values)
grows [] h end laid = subst (λ (x : HeaderIntegers). (h.span ≤ x.span) × (h.values ≤ x.values)) laid (omega arith, omega arith)
grows (x ∷ ms) h end laid =
    let n = laid.0 in
    let a = x.class.align in
    let begins : h.span ≤ n.distance = subst (λ d. h.span ≤ d) (sym laid.1.distance) (le-add_right h.span ((a - h.span % a) % a)) in
    let more = grows ms (with_member x n h) end laid.2 in
    (omega (arith, begins, more.0), omega (arith, more.1))

module _ (line : Option Line) (bytes : List ℕ) (begin : ℕ) (clock : Moment) where
  -- the clock after one integer more, which sets it or does not
  clock_by : (t : Bool) (before : Option HeaderNumber) (n : HeaderNumber) (now next : Moment) (moves : List (ℕ × ℕ)) → (t ≡ true → before ≡ None) → (t ≡ true → moves ≡ (n.integer.size, number_at bytes begin n) ∷ []) → (t ≡ false → moves ≡ [])
      → clock_after line before bytes begin clock ≡ Some now → (t ≡ true → clock_after line (Some n) bytes begin clock ≡ Some next) → (then : Moment) × (clock_after line (cond t (Some n) before) bytes begin clock ≡ Some then) × (set_by line now moves ≡ Some then)
  clock_by true before n now next moves alone sets none is after =
      let same : clock ≡ now = some_same clock now (ap (λ b. clock_after line b bytes begin clock) (sym (alone refl)) ∙ is) in
      (next, after refl, (λ j. set_by line (sym same j) (sets refl j)) ∙ after refl)
  clock_by false before n now next moves alone sets none is after = (now, is, ap (set_by line now) (none refl) ∙ set_by-none line now)

  -- the class number after one integer more, which is one or is none
  id_by : (t : Bool) (before : Option HeaderNumber) (n : HeaderNumber) (tag : Option ℕ) (numbers : List ℤ) → (t ≡ true → numbers ≡ pos (number_at bytes begin n) ∷ [])
      → last_or (option_map pos (id_after before bytes begin tag)) (cond t numbers []) ≡ option_map pos (id_after (cond t (Some n) before) bytes begin tag)
  id_by true before n tag numbers is = ap (last_or (option_map pos (id_after before bytes begin tag))) (is refl)
  id_by false before n tag numbers is = refl

-- what an integer without a sign gives
unsigned_gives : (i : Integer) (bytes : List ℕ) (b : ℕ) → i.is_signed ≡ false → (k : ℕ) → number_in (integer k i) (value_at bytes i b) ≡ pos (number i.order bytes b (bits_of i)) ∷ []
unsigned_gives i bytes b unsigned_is k = rw (unsigned_is) refl

moves_so : (i : Integer) (bytes : List ℕ) (b : ℕ) → i.is_signed ≡ false → i.is_moving ≡ true → moved_in i (value_at bytes i b) ≡ (i.size, number i.order bytes b (bits_of i)) ∷ []
moves_so i bytes b unsigned_is moves = rw (moves, unsigned_is) refl

moves_not : (i : Integer) (v : Val) → i.is_moving ≡ false → moved_in i v ≡ []
moves_not i v still = rw (still) refl

module _ (line : Option Line) (bytes : List ℕ) (content begin : ℕ) (clock : Moment) (tag : Option ℕ) where
  -- how far a header was read with so many of its integers
  abbrev pub telling_at : HeaderIntegers → Moment → Telling
  telling_at h now = record { id = option_map pos (id_after h.id bytes begin tag); clock = now; place = begin + h.span; spent = h.values }

  pub reads : (ms : List Member) (h end : HeaderIntegers) (now next : Moment) → begin % h.align ≡ 0 → AreLaid ms h end → clock_after line h.stamp bytes begin clock ≡ Some now → clock_after line end.stamp bytes begin clock ≡ Some next
      → begin + end.span ≤ content → end.values ≤ MOST_VALUES → TellsMembers line bytes content ms (telling_at h now) (telling_at end next)
  reads [] h end now next multiple laid h_clock end_clock within few =
      let same : now ≡ next = some_same now next (sym h_clock ∙ ap (λ (x : HeaderIntegers). clock_after line x.stamp bytes begin clock) laid ∙ end_clock) in
      subst (λ (t : Telling). TellsMembers line bytes content [] (telling_at h now) t) (λ j. telling_at (laid j) (same j)) (no_members line bytes content (telling_at h now))
  reads (m ∷ ms) h end now next multiple laid h_clock end_clock within few =
      let n = laid.0 in
      let is = laid.1 in
      let i = n.integer in
      let after = with_member m n h in
      let b = begin + n.distance in
      let more = grows ms after end laid.2 in
      let stepped = clock_by line bytes begin clock i.is_moving h.stamp n now next (moved_in i (value_at bytes i b)) is.alone (λ moves. moves_so i bytes b (is.stamp moves) moves) (moves_not i (value_at bytes i b)) h_clock
      (λ moves. ap (λ s. clock_after line s bytes begin clock) (sym (stays ms after end n laid.2 (ap (λ t. cond t (Some n) h.stamp) moves))) ∙ end_clock) in
      let begins : b ≡ next_multiple_of (begin + h.span) m.class.align = ap (λ d. begin + d) is.distance ∙ sym (next_after begin h.span m.class.align (divides_too begin h.align m.class.align multiple is.divides)) in
      let first : TellsMember line bytes content m (telling_at h now) (telling_at after stepped.0) =
      tells_integer line m i bytes content b (telling_at h now) (telling_at after stepped.0) is.is (omega (arith, few, more.1)) begins (omega (arith, within, more.0))
      stepped.2 (id_by line bytes begin clock (bytes_eq m.name (codes "id")) h.id n tag (number_in (integer m.class.align i) (value_at bytes i b)) (λ named. unsigned_gives i bytes b (is.id named) m.class.align)) (sym (add_assoc begin n.distance (bits_of i))) refl
      in
      more_members line bytes content m ms (telling_at h now) (telling_at after stepped.0) (telling_at end next) first (reads ms after end stepped.0 next multiple laid.2 stepped.1 end_clock within few)

-- what was read of a header is how far it was read
abbrev read_telling : HeaderRead → Telling
read_telling to = record { id = option_map pos to.id; clock = to.clock; place = to.place; spent = to.values }

-- a name that is `id`
named_so : (m : Member) (i : Integer) (ls : List Label) (z : ℤ) → m.class.kind ≡ kind.Enumeration i ls → bytes_eq m.name (codes "id") ≡ true → named_id m.name (form m.class) (label z) ≡ z ∷ []
named_so m i ls z is named =
    let class : form m.class ≡ enumeration m.class.align i = form-is m.class ∙ ap (λ x. shape x m.class.align) is ∙ shape-Enumeration i ls m.class.align in
    ap (λ b. cond b (number_in (form m.class) (label z)) []) named ∙ ap (λ k. number_in k (label z)) class

module _ (line : Option Line) (bytes : List ℕ) (content begin : ℕ) (clock : Moment) (are : HeaderIntegers) (to : HeaderRead) where
  -- the integers of a structure that begins there
  read_all : (k : Class) (skipped values : ℕ) (tag : Option ℕ) (is : AreIntegers k skipped values are) → begin % are.align ≡ 0 → begin + are.span ≤ content → are.values ≤ MOST_VALUES → ReadsIntegers line are bytes (record { tag = tag; clock = clock; place = begin }) to
      → TellsAll line bytes content is.members (record { id = option_map pos tag; clock = clock; place = begin + 0; spent = values }) (read_telling to)
  read_all k skipped values tag is multiple within few read =
      let start = no_integers k.align skipped values in
      let same : telling_at line bytes content begin clock tag are to.clock ≡ read_telling to = λ j. record { id = option_map pos (sym read.id j); clock = to.clock; place = sym read.place j; spent = sym read.values j } in
      let from_start : begin % k.align ≡ 0 = ap (λ a. begin % a) (same_structure is.members start are is.laid).0 ∙ multiple in
      let all = reads line bytes content begin clock tag is.members start are clock to.clock from_start is.laid refl read.clock within few in
      subst (λ (t : Telling). TellsAll line bytes content is.members (telling_at line bytes content begin clock tag start clock) t) same (λ earlier env. all earlier env [])

  -- the same, of a structure that could begin at a place
  integers_told : (k : Class) (skipped values : ℕ) (tag : Option ℕ) (from : Telling) (is : AreIntegers k skipped values are) → begin ≡ next_multiple_of from.place are.align → values ≡ from.spent + 1 → clock ≡ from.clock → option_map pos tag ≡ from.id → begin % are.align ≡ 0 → begin + are.span ≤ content → are.values ≤ MOST_VALUES
      → ReadsIntegers line are bytes (record { tag = tag; clock = clock; place = begin }) to → TellsValue line bytes content (form k) from (read_telling to)
  integers_told k skipped values tag from is begins more clock_is id multiple within few read =
      let start = no_integers k.align skipped values in
      let at : Telling = record { id = option_map pos tag; clock = clock; place = begin + 0; spent = values } in
      let bigger = grows is.members start are is.laid in
      let place : begin + 0 ≡ next_multiple_of from.place k.align = add-zero begin ∙ begins ∙ ap (next_multiple_of from.place) (sym (same_structure is.members start are is.laid).0) in
      tells_structure line k is.members bytes content from at (read_telling to) is.is place more clock_is id (omega (arith, within)) (omega (arith, few, bigger.1)) (read_all k skipped values tag is multiple within few read)

pub plain_told : (line : Option Line) (k : Class) (bytes : List ℕ) (content place begin : ℕ) (clock : Moment) (are : HeaderIntegers) (to : HeaderRead) → AreIntegers k 0 1 are → begin ≡ next_multiple_of place are.align → begin % are.align ≡ 0 → begin + are.span ≤ content → are.values ≤ MOST_VALUES
    → ReadsIntegers line are bytes (record { tag = None; clock = clock; place = begin }) to → Tells line (form k) bytes content clock place to
plain_told line k bytes content place begin clock are to is begins multiple within few read =
    integers_told line bytes content begin clock are to k 0 1 None (record { id = None; clock = clock; place = place; spent = 0 }) is begins refl refl refl multiple within few read

pub tagged_told : (line : Option Line) (k : Class) (bytes : List ℕ) (content place header begin : ℕ) (clock : Moment) (are : HeaderIntegers) (to : HeaderRead) (tag : HeaderTag) (plan : HeaderPlan) (n : ℕ) (is : IsTagged k tag plan) → Chooses (bits_of tag.number.integer) is.choices is.options (pos n) are → tag.number.distance ≡ 0
    → header ≡ next_multiple_of place k.align → header % k.align ≡ 0 → n ≡ number_at bytes header tag.number → begin ≡ next_multiple_of (header + are.skipped) are.align → begin % are.align ≡ 0 → begin + are.span ≤ content → are.values ≤ MOST_VALUES
    → ReadsIntegers line are bytes (record { tag = Some n; clock = clock; place = begin }) to → Tells line (form k) bytes content clock place to
tagged_told line k bytes content place header begin clock are to tag plan n is chooses first header_is whole n_is begins multiple within few read =
    let i = tag.number.integer in
    let size = bits_of i in
    let of = chooses.option in
    let m = of.option in
    let from : Telling = record { id = None; clock = clock; place = place; spent = 0 } in
    let opened : Telling = record { id = None; clock = clock; place = header; spent = 1 } in
    let chose : Telling = record { id = Some (pos n); clock = clock; place = header + size; spent = 3 } in
    let skips : size ≡ are.skipped = (same_structure of.integers.members (no_integers m.class.align size 4) are of.integers.laid).1 in
    let opens : begin ≡ next_multiple_of (header + size) are.align = begins ∙ ap (λ t. next_multiple_of (header + t) are.align) (sym skips) in
    let after : header + size ≤ begin = subst (λ b. header + size ≤ b) (sym opens) (le-add_right (header + size) ((are.align - (header + size) % are.align) % are.align)) in
    let tag_begins : next_multiple_of header is.member.class.align ≡ header = up_multiple header is.member.class.align (divides_too header k.align is.member.class.align whole is.divides) in
    let here : n ≡ number i.order bytes header size = n_is ∙ ap (λ d. number i.order bytes (header + d) size) first ∙ ap (λ b. number i.order bytes b size) (add-zero header) in
    let of_option = integers_told line bytes content begin clock are to m.class size 4 (Some n) chose of.integers opens refl refl refl multiple within few read in
    let there = tag_there is.member.class.align i bytes content header n (header + size) is.unsigned tag_begins refl (omega (arith, within, after)) here in
    let pair = tells_pair line is.member is.variant i is.labels is.route is.choices is.options bytes content opened chose (read_telling to) (pos n) (header + size) chooses.i m
    is.of_tag is.of_variant is.origin is.steps (omega arith) of.within of.is there chooses.chooses (sym (ap (last_or None) (named_so is.member i is.labels (pos n) is.of_tag is.named))) refl refl refl of_option in
    tells_structure line k (is.member ∷ is.variant ∷ []) bytes content from opened (read_telling to) is.is header_is refl refl refl (omega (arith, within, after)) (omega arith) pair

-- what was read of a tag before the integers that it chooses: nothing, where there is none
abbrev pub ReadsTag : List ℕ → ℕ → Option HeaderTag → Option ℕ → Type 0
ReadsTag bytes begin None tag = tag ≡ None
ReadsTag bytes begin (Some t) tag = (n : ℕ) × (tag ≡ Some n) × (n ≡ number_at bytes begin t.number) × (t.first ≤ n) × (n ≤ t.last)

usual_by : (line : Option Line) (k : Class) (bytes : List ℕ) (content place header begin : ℕ) (clock : Moment) (plan : HeaderPlan) (to : HeaderRead) (t : Option HeaderTag) (tag : Option ℕ) → IsChosenBy k plan t → IfSome t (IsTagNear plan) → ReadsTag bytes header t tag
    → header ≡ next_multiple_of place k.align → header % k.align ≡ 0 → begin ≡ next_multiple_of (header + plan.usual.skipped) plan.usual.align → begin % plan.usual.align ≡ 0 → begin + plan.usual.span ≤ content → plan.usual.values ≤ MOST_VALUES → ReadsIntegers line plan.usual bytes (record { tag = tag; clock = clock; place = begin }) to
    → Tells line (form k) bytes content clock place to
usual_by line k bytes content place header begin clock plan to None tag is near told header_is whole begins multiple within few read =
    let are = plan.usual in
    let same = same_structure is.0.members (no_integers k.align 0 1) are is.0.laid in
    let alone : begin ≡ next_multiple_of place are.align =
    begins ∙ ap (λ s. next_multiple_of (header + s) are.align) (sym same.1) ∙ ap (λ b. next_multiple_of b are.align) (add-zero header) ∙ up_multiple header are.align (ap (λ a. header % a) (sym same.0) ∙ whole) ∙ header_is ∙ ap (next_multiple_of place) same.0
    in
    plain_told line k bytes content place begin clock are to is.0 alone multiple within few (subst (λ t. ReadsIntegers line are bytes (record { tag = t; clock = clock; place = begin }) to) told read)
usual_by line k bytes content place header begin clock plan to (Some t) tag is near told header_is whole begins multiple within few read =
    let n = told.0 in
    tagged_told line k bytes content place header begin clock plan.usual to t plan n is (is.usual n told.3 told.4) near.begin header_is whole told.2 begins multiple within few (subst (λ o. ReadsIntegers line plan.usual bytes (record { tag = o; clock = clock; place = begin }) to) told.1 read)

-- a header of the usual integers
pub usual_told : (line : Option Line) (k : Class) (bytes : List ℕ) (content place header begin : ℕ) (clock : Moment) (plan : HeaderPlan) (to : HeaderRead) (tag : Option ℕ) → IsHeaderPlan plan k → ReadsTag bytes header plan.tag tag
    → header ≡ next_multiple_of place plan.align → header % plan.align ≡ 0 → begin ≡ next_multiple_of (header + plan.usual.skipped) plan.usual.align → begin % plan.usual.align ≡ 0 → begin + plan.usual.span ≤ content → plan.usual.values ≤ MOST_VALUES → ReadsIntegers line plan.usual bytes (record { tag = tag; clock = clock; place = begin }) to
    → Tells line (form k) bytes content clock place to
usual_told line k bytes content place header begin clock plan to tag is told header_is whole begins multiple within few read =
    usual_by line k bytes content place header begin clock plan to plan.tag tag is.chosen is.near.tag told (header_is ∙ ap (next_multiple_of place) is.align) (ap (λ a. header % a) (sym is.align) ∙ whole) begins multiple within few read

-- a header of the other integers
pub other_told : (line : Option Line) (k : Class) (bytes : List ℕ) (content place header begin : ℕ) (clock : Moment) (plan : HeaderPlan) (to : HeaderRead) (t : HeaderTag) (are : HeaderIntegers) (n : ℕ) → IsHeaderPlan plan k → plan.tag ≡ Some t → plan.other ≡ Some are → n ≡ number_at bytes header t.number → n ≡ t.last + 1
    → header ≡ next_multiple_of place plan.align → header % plan.align ≡ 0 → begin ≡ next_multiple_of (header + are.skipped) are.align → begin % are.align ≡ 0 → begin + are.span ≤ content → are.values ≤ MOST_VALUES → ReadsIntegers line are bytes (record { tag = Some n; clock = clock; place = begin }) to → Tells line (form k) bytes content clock place to
other_told line k bytes content place header begin clock plan to t are n is has_tag has_other told next header_is whole begins multiple within few read =
    let of_tag : IsTagged k t plan = subst (λ o. IsChosenBy k plan o) has_tag is.chosen in
    let near : IsTagNear plan t = subst (λ o. IfSome o (IsTagNear plan)) has_tag is.near.tag in
    let size = bits_of t.number.integer in
    let chosen : Chooses size of_tag.choices of_tag.options (pos (t.last + 1)) are = subst (λ o. IfSome o (Chooses size of_tag.choices of_tag.options (pos (t.last + 1)))) has_other of_tag.other in
    tagged_told line k bytes content place header begin clock are to t plan n of_tag (subst (λ m. Chooses size of_tag.choices of_tag.options (pos m) are) (sym next) chosen) near.begin (header_is ∙ ap (next_multiple_of place) is.align) (ap (λ a. header % a) (sym is.align) ∙ whole) told begins multiple within few read
