-- What is decoded while the bytes of a packet come.
use Rattle.std.proofs.Common.{◌≡◌, ℕ, suc, ◌+◌, ◌-◌, ◌*◌, ◌/◌, ◌<◌, ◌≤◌, false, cond, List, [], ◌∷◌, ◌++◌, length, take, drop, get_or, map, Some, None, Ok, Err, inl, inr, refl, sym, ap, subst, ◌∙◌, arith, nat_lt, nat_eq, length-append, length-drop}
use Rattle.std.specs.Prelude.{min, max, position, Result, IfOk}
use Rattle.std.specs.Int.{next_multiple_of}
use Rattle.std.specs.List.{position_or_len}
use Rattle.std.proofs.lemmas.Bool.{lt-ltb, le-ltb, ne_eqb}
use Rattle.std.proofs.lemmas.List.{append_assoc, take-append-drop, length-take, get_or-take, get_or-drop, drop_more}
use Rattle.std.proofs.lemmas.List.Sums.{position_or_len_is}
use Rattle.ctf_bits.specs.declared.source.Ending.{Ending}
use Rattle.ctf_class.specs.declared.class.Class.{Class}
use Rattle.ctf_class.specs.declared.class.Member.{Member}
use Rattle.ctf_decode.specs.Values.{Val}
use Rattle.ctf_decode.specs.Forms.{Form, string, parts_of}
use Rattle.ctf_decode.specs.Input.{Input, Env, bytes_from}
use Rattle.ctf_decode.specs.Breaks.{Fault, too_many, past, no_option}
use Rattle.ctf_decode.specs.Known.{Known}
use Rattle.ctf_class.specs.declared.class.Kind.TheVariants.{String}
use Rattle.ctf_decode.specs.declared.decoding.Decoded.{Decoded}
use Rattle.ctf_decode.specs.Views.{form, shape, member_part, val, env, earlier}
use Rattle.ctf_decode.specs.Walk.{Step, and_then, begin, open_at, repeat, string_end, string_at, walk, walk_members}
use Rattle.ctf_decode.specs.declared.scopes.TheConstants.{MOST_VALUES}
use Rattle.ctf_decode.proofs.Views.{part-is, form-is, shape-String}
use Rattle.ctf_packet.specs.Scopes.{longest, fault_in_front}
use Rattle.ctf_packet.specs.declared.fault.StreamFault.{StreamFault}
use Rattle.ctf_packet.specs.declared.fault.StreamFault.TheVariants as faults
use Rattle.ctf_decode.specs.Laws.{Is}
use Rattle.ctf_decode.proofs.Sound.{test, walk_is}
use Rattle.ctf_packet.proofs.Forward.{forward}
use Rattle.ctf_packet_demand.proofs.Lasting.{Answers, Lasts, walk_more, walk_beyond}
use Rattle.ctf_packet_demand.proofs.Needing.{walk_needs}
use Rattle.ctf_fetch.specs.Fetching.{longest_bytes, OrNoMemory}
use Rattle.ctf_fetch.specs.Openings.{TakesMore}
use Rattle.ctf_fetch.specs.Demand.{there, input_at, found_at, text_at, IsFound, EndsNear, Failed, FailsToOpen}
use Rattle.ctf_fetch.specs.declared.demand.ValuePlace.{ValuePlace}

-- bytes that begin with these
pub grown_all : (before after : List ℕ) → take (length before) after ≡ before → after ≡ before ++ drop (length before) after
grown_all before after first = sym (take-append-drop (length before) after) ∙ ap (λ l. l ++ drop (length before) after) first

pub grown_more : (before after more : List ℕ) → take (length before) after ≡ before → after ++ more ≡ before ++ (drop (length before) after ++ more)
grown_more before after more first =
    ap (λ l. l ++ more) (grown_all before after first) ∙ append_assoc before (drop (length before) after) more

-- bytes that begin with bytes that begin with these
module _ (k : Form) (env : Env) (known : Known) (p s : ℕ) where
  abbrev pub at : List ℕ → Step Val
  at bytes = walk k (there bytes known) env p s

  whole : (bytes more : List ℕ) → Answers (min (8 * length (bytes ++ more)) longest) (at bytes) (at (bytes ++ more))
  whole bytes more =
      let l = length-append bytes more in
      walk_more bytes more (min (8 * length bytes) longest) (min (8 * length (bytes ++ more)) longest) MOST_VALUES (earlier known) (omega (arith, l)) (omega arith) k env p s

  -- what is in some bytes is in all that begin with them
  pub found_more : (bytes more : List ℕ) (x : Val × ℕ × ℕ) → at bytes ≡ Ok x → at (bytes ++ more) ≡ Ok x
  found_more bytes more x found = subst (λ r. Answers (min (8 * length (bytes ++ more)) longest) r (at (bytes ++ more))) found (whole bytes more)

  -- and a fault that more bytes do not mend is one of all
  pub fails_more : (bytes more : List ℕ) (f : Fault) → at bytes ≡ Err f → Lasts (min (8 * length (bytes ++ more)) longest) f → at (bytes ++ more) ≡ Err f
  fails_more bytes more f found = subst (λ r. Answers (min (8 * length (bytes ++ more)) longest) r (at (bytes ++ more))) found (whole bytes more)

  -- more is asked for than is there
  pub asks_past : (bytes : List ℕ) (e : ℕ) → at bytes ≡ Err (past e) → min (8 * length bytes) longest < e
  asks_past bytes e asks =
      let n = min (8 * length bytes) longest in
      walk_beyond bytes [] n n MOST_VALUES (earlier known) (omega arith) (omega arith) k env p s e asks

  -- a value ends no earlier than what its beginning asked for
  pub ends_after : (bytes more : List ℕ) (e : ℕ) (x : Val × ℕ × ℕ) → at bytes ≡ Err (past e) → at (bytes ++ more) ≡ Ok x → e ≤ x.1
  ends_after bytes more e x asks found =
      let l = length-append bytes more in
      walk_needs bytes more (min (8 * length bytes) longest) (min (8 * length (bytes ++ more)) longest) MOST_VALUES (earlier known) (omega (arith, l)) (omega arith) k env p s e x asks found

  -- a value does not end before its place
  pub forward_at : (bytes : List ℕ) (x : Val × ℕ × ℕ) → at bytes ≡ Ok x → p ≤ x.1
  forward_at bytes x found =
      let c = there bytes known in
      let stands = subst (Is k c env p s) found (walk_is k c env p s) in
      forward k c env p x.0 x.1 stands.0

  -- no more values were begun than may be
  pub few_values : (bytes : List ℕ) (x : Val × ℕ × ℕ) → at bytes ≡ Ok x → x.2 ≤ MOST_VALUES
  few_values bytes x found =
      let is = subst (Is k (there bytes known) env p s) found (walk_is k (there bytes known) env p s) in
      is.2

  -- where a value ends that is not there yet, but for so many bytes that were there before
  abbrev pub Near : ℕ → List ℕ → Type 0
  Near before bytes = (more : List ℕ) (x : Val × ℕ × ℕ) → at (bytes ++ more) ≡ Ok x → 8 * length bytes ≤ max (8 * before) (x.1 + 7)

  pub near_first : (bytes : List ℕ) → Near (length bytes) bytes
  near_first bytes more x found = omega arith

  pub near_more : (before : ℕ) (bytes later : List ℕ) (e : ℕ) → at bytes ≡ Err (past e) → take (length bytes) later ≡ bytes → length later ≡ (e + 7) / 8 → Near before later
  near_more before bytes later e asks first ends more x found =
      let after = ends_after bytes (drop (length bytes) later ++ more) e x asks (ap at (sym (grown_more bytes later more first)) ∙ found) in
      omega (arith, after, ends)

  -- what was asked for did not come
  pub fails_short : (ending : Ending) (bytes later left : List ℕ) (e : ℕ) (fault : StreamFault) → at bytes ≡ Err (past e) → take (length bytes) later ≡ bytes
      → TakesMore ending e later left (Err fault) → OrNoMemory (Failed ending (at (later ++ left))) fault
  fails_short ending bytes later left e fault asks first takes = elim takes [
    | inl refused ↦ inl refused
    | inr short ↦
        let parts = grown_more bytes later left first in
        let few = subst (λ l. min (8 * length l) longest < e) parts short.1 in
        inr (past e, ap at parts ∙ fails_more bytes (drop (length bytes) later ++ left) (past e) asks few, short.0)
  ]

  -- another fault
  pub fails_many : (ending : Ending) (bytes left : List ℕ) → at bytes ≡ Err too_many → OrNoMemory (Failed ending (at (bytes ++ left))) faults.TooManyValues
  fails_many ending bytes left found = inr (too_many, fails_more bytes left too_many found tt, refl)

  pub fails_option : (ending : Ending) (bytes left : List ℕ) → at bytes ≡ Err no_option → OrNoMemory (Failed ending (at (bytes ++ left))) faults.NoOption
  fails_option ending bytes left found = inr (no_option, fails_more bytes left no_option found tt, refl)

-- a fault of a step is one of what follows from it
pub failed_then : {A B : Type 0} (ending : Ending) (r : Step A) (next : A → ℕ → ℕ → Step B) (fault : StreamFault) → OrNoMemory (Failed ending r) fault → OrNoMemory (Failed ending (and_then r next)) fault
failed_then ending r next fault (inl refused) = inl refused
failed_then ending r next fault (inr h) = inr (h.0, ap (λ x. and_then x next) h.1, h.2)

-- the next member of a structure
module _ (c : Input) (e : Env) (ms : List Member) (i : ℕ) (m : Member) (within : i < length ms) (here : get_or ms i m ≡ m) (done : List Val) (p s : ℕ) where
  abbrev rest : ℕ → List Val → ℕ → ℕ → Step (List Val)
  rest j vs q t = walk_members (parts_of (map member_part (drop j ms))) c e vs q t

  one : rest i done p s ≡ and_then (walk (form m.class) c (done ∷ e) p s) (λ v q t. rest (i + 1) (done ++ v ∷ []) q t)
  one =
      ap (λ l. walk_members (parts_of (map member_part l)) c e done p s) (drop_more ms i m within)
      ∙ ap (λ x. and_then (walk x c (done ∷ e) p s) (λ v q t. rest (i + 1) (done ++ v ∷ []) q t)) (ap (λ x. x.1) (part-is (get_or ms i m)) ∙ ap (λ (x : Member). form x.class) here)

  pub member_ok : (v : Val) (q t : ℕ) → walk (form m.class) c (done ∷ e) p s ≡ Ok (v, q, t) → rest (i + 1) (done ++ v ∷ []) q t ≡ rest i done p s
  member_ok v q t h = sym (one ∙ ap (λ r. and_then r (λ v q t. rest (i + 1) (done ++ v ∷ []) q t)) h)

  pub member_fails : (ending : Ending) (fault : StreamFault) → OrNoMemory (Failed ending (walk (form m.class) c (done ∷ e) p s)) fault → OrNoMemory (Failed ending (rest i done p s)) fault
  member_fails ending fault h =
      subst (λ r. OrNoMemory (Failed ending r) fault) (sym one) (failed_then ending (walk (form m.class) c (done ∷ e) p s) (λ v q t. rest (i + 1) (done ++ v ∷ []) q t) fault h)

-- the next element of an array
module _ (f : ℕ → ℕ → Step Val) (n i : ℕ) (within : i < n) (done : List Val) (p s : ℕ) where
  next : repeat f (n - i) done p s ≡ and_then (f p s) (λ v q t. repeat f (n - (i + 1)) (done ++ v ∷ []) q t)
  next = let one : n - i ≡ suc (n - (i + 1)) = omega arith in ap (λ k. repeat f k done p s) one

  pub element_ok : (v : Val) (q t : ℕ) → f p s ≡ Ok (v, q, t) → repeat f (n - (i + 1)) (done ++ v ∷ []) q t ≡ repeat f (n - i) done p s
  element_ok v q t h = sym (next ∙ ap (λ r. and_then r (λ v q t. repeat f (n - (i + 1)) (done ++ v ∷ []) q t)) h)

  pub element_fails : (ending : Ending) (fault : StreamFault) → OrNoMemory (Failed ending (f p s)) fault → OrNoMemory (Failed ending (repeat f (n - i) done p s)) fault
  element_fails ending fault h =
      subst (λ r. OrNoMemory (Failed ending r) fault) (sym next) (failed_then ending (f p s) (λ v q t. repeat f (n - (i + 1)) (done ++ v ∷ []) q t) fault h)

-- an opening that is not there
pub open_fails : (c : Input) (ending : Ending) (b s : ℕ) (parts : Step Val) (fault : StreamFault) → s < c.limit → c.content < b → fault ≡ fault_in_front ending (past b)
    → Failed ending (begin c s (open_at c b parts)) fault
open_fails c ending b s parts fault few short is =
    (past b, ap (λ t. cond t (open_at c b parts) (Err too_many)) (lt-ltb s c.limit few) ∙ ap (λ t. cond t (Err (past b)) parts) (lt-ltb c.content b short), is)

pub open_full : (c : Input) (ending : Ending) (b s : ℕ) (parts : Step Val) → c.limit ≤ s → Failed ending (begin c s (open_at c b parts)) faults.TooManyValues
open_full c ending b s parts full = (too_many, ap (λ t. cond t (open_at c b parts) (Err too_many)) (le-ltb s c.limit full), refl)

pub opens_at : (c : Input) (b s : ℕ) (parts : Step Val) → s < c.limit → b ≤ c.content → begin c s (open_at c b parts) ≡ parts
opens_at c b s parts few there_is =
    ap (λ t. cond t (open_at c b parts) (Err too_many)) (lt-ltb s c.limit few) ∙ ap (λ t. cond t (Err (past b)) parts) (le-ltb c.content b there_is)

-- the bytes up to an opening did not come
pub open_short : (ending : Ending) (place : ValuePlace) (b : ℕ) (bytes left : List ℕ) (fault : StreamFault) → place.spent < MOST_VALUES
    → TakesMore ending b bytes left (Err fault) → OrNoMemory (FailsToOpen ending place b (bytes ++ left)) fault
open_short ending place b bytes left fault few takes = elim takes [
  | inl refused ↦ inl refused
  | inr short ↦
      inr (λ parts. open_fails (input_at place (bytes ++ left)) ending b place.spent parts fault few short.1 short.0)
]

-- bytes of which none is zero
none_zero : (xs : List ℕ) → ((k : ℕ) → k < length xs → nat_eq (get_or xs k 0) 0 ≡ false) → position (λ x. nat_eq x 0) xs ≡ None
none_zero xs none =
    let q : position_or_len (λ x. nat_eq x 0) xs ≡ length xs = position_or_len_is (λ x. nat_eq x 0) xs (length xs) 0 (omega arith) none (λ h. absurd (omega (arith, h))) in
    subst (λ j. cond (nat_lt j (length xs)) (Some j) None ≡ None) (sym q) (ap (λ t. cond t (Some (length xs)) None) (le-ltb (length xs) (length xs) (omega arith)))

-- a string of which no zero byte came yet asks for one byte more
abbrev pub first_bit : ValuePlace → ℕ
first_bit place = next_multiple_of place.end 8

-- the bytes of the string that came, up to an index
abbrev pub NoZero : ValuePlace → List ℕ → ℕ → Type 0
NoZero place bytes n = (k : ℕ) → first_bit place / 8 ≤ k → k < n → nat_eq (get_or bytes k 0) 0 ≡ false

module _ (place : ValuePlace) (bytes : List ℕ) (n : ℕ) where
  pub text_asks : length bytes ≤ longest_bytes → length bytes ≤ n → first_bit place / 8 ≤ n → n ≤ max (length bytes) (first_bit place / 8) → NoZero place bytes n → text_at place bytes ≡ Err (past (8 * (n + 1)))
  unfolding string_at
  text_asks few all after within none =
      let c = input_at place bytes in
      let b = first_bit place in
      let xs = bytes_from c b in
      let m = (c.content - b) / 8 in
      let counted = length-take m (drop (b / 8) bytes) in
      let dropped = length-drop (b / 8) bytes in
      let whole_byte : 8 * (b / 8) ≡ b = omega arith in
      let len : length xs ≡ n - b / 8 = omega (arith, counted, dropped, whole_byte, few, all, after, within) in
      let each = λ (k : ℕ) (h : k < length xs).
      let there_is : k < m = omega (arith, h, counted) in
      let same : get_or xs k 0 ≡ get_or bytes (b / 8 + k) 0 = get_or-take m (drop (b / 8) bytes) k 0 there_is ∙ get_or-drop (b / 8) bytes k 0 in
      ap (λ y. nat_eq y 0) same ∙ none (b / 8 + k) (omega arith) (omega (arith, h, len)) in
      let ends : b + 8 * (length xs + 1) ≡ 8 * (n + 1) = omega (arith, len, whole_byte, after) in
      ap (string_end b place.spent xs) (none_zero xs each) ∙ ap (λ e. Err (past e)) ends

-- a string that was begun is what the function on lists looks for
pub text_walk : (a : ℕ) (place : ValuePlace) (bytes : List ℕ) (e : Env) → place.spent < MOST_VALUES → walk (string a) (input_at place bytes) e place.end place.spent ≡ text_at place bytes
text_walk a place bytes e few =
    ap (λ t. cond t (text_at place bytes) (Err too_many)) (lt-ltb place.spent MOST_VALUES few)

-- the class of a string, of which a value was begun
pub found_text : (class : Class) (place : ValuePlace) (bytes : List ℕ) → class.kind ≡ String → place.spent < MOST_VALUES → found_at class place bytes ≡ text_at place bytes
found_text class place bytes is few =
    let whole = form-is class ∙ ap (λ k. shape k class.align) is ∙ shape-String class.align in
    ap (λ k. walk k (input_at place bytes) (env place.frame.now) place.end place.spent) whole ∙ text_walk class.align place bytes (env place.frame.now) few

pub not_zero : (n byte : ℕ) → byte ≡ n → (byte ≡ 0 → ⊥) → nat_eq n 0 ≡ false
not_zero n byte is some = ne_eqb n 0 (λ h. some (is ∙ h))

-- one byte more that is not zero
pub none_more : (place : ValuePlace) (bytes later : List ℕ) (n : ℕ) → NoZero place bytes n → take (length bytes) later ≡ bytes → n ≤ max (length bytes) (first_bit place / 8)
    → nat_eq (get_or later n 0) 0 ≡ false → NoZero place later (n + 1)
none_more place bytes later n none first within last k after below = elim (test k n) [
  | inl t ↦
      let there_is : k < length bytes = omega (arith, t.1, within, after) in
      let same : get_or later k 0 ≡ get_or bytes k 0 = sym (get_or-take (length bytes) later k 0 there_is) ∙ ap (λ l. get_or l k 0) first in
      ap (λ y. nat_eq y 0) same ∙ none k after t.1
  | inr t ↦ (let is : n ≡ k = omega (arith, t.1, below) in subst (λ j. nat_eq (get_or later j 0) 0 ≡ false) is last)
]

module _ (place : ValuePlace) (few : place.spent < MOST_VALUES) where
  same : (bytes : List ℕ) → at (string 8) [] place.scopes.now place.end place.spent bytes ≡ text_at place bytes
  same bytes = text_walk 8 place bytes [] few

  -- a byte that was asked for
  pub text_near : (before : ℕ) (bytes later : List ℕ) (e : ℕ) → text_at place bytes ≡ Err (past e) → take (length bytes) later ≡ bytes → length later ≡ (e + 7) / 8 → EndsNear place before later
  text_near before bytes later e asks first ends more x found =
      near_more (string 8) [] place.scopes.now place.end place.spent before bytes later e (same bytes ∙ asks) first ends more x (same (later ++ more) ∙ found)

  pub text_past : (bytes : List ℕ) (e : ℕ) → text_at place bytes ≡ Err (past e) → min (8 * length bytes) longest < e
  text_past bytes e asks = asks_past (string 8) [] place.scopes.now place.end place.spent bytes e (same bytes ∙ asks)

  -- and that did not come
  pub text_short : (ending : Ending) (bytes later left : List ℕ) (e : ℕ) (fault : StreamFault) → text_at place bytes ≡ Err (past e) → take (length bytes) later ≡ bytes
      → TakesMore ending e later left (Err fault) → OrNoMemory (Failed ending (text_at place (later ++ left))) fault
  text_short ending bytes later left e fault asks first takes =
      subst (λ r. OrNoMemory (Failed ending r) fault) (same (later ++ left))
      (fails_short (string 8) [] place.scopes.now place.end place.spent ending bytes later left e fault (same bytes ∙ asks) first takes)

-- a string that was looked at once its bytes came
pub string_near : (class : Class) (place : ValuePlace) (before : ℕ) (came all : List ℕ) (r : Result Decoded StreamFault) → class.kind ≡ String → place.spent < MOST_VALUES
    → EndsNear place before came → take (length came) all ≡ came → IfOk r (IsFound (found_at class place all)) → IfOk r (λ d. 8 * length all ≤ max (8 * length came) (d.end + 7))
    → IfOk r (λ d. 8 * length all ≤ max (8 * before) (d.end + 7))
string_near class place before came all (Ok d) is few near first found close =
    let rest = drop (length came) all in
    let found_there = ap (text_at place) (sym (grown_all came all first)) ∙ sym (found_text class place all is few) ∙ found in
    let after = near rest (val d.value, d.end, d.spent) found_there in
    omega (arith, after, close)
string_near class place before came all (Err f) is few near first found close = tt
