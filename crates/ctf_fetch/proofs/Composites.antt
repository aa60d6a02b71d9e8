-- Structures, arrays and variants that are decoded part after part while bytes come.
use Rattle.std.proofs.Common.{◌≡◌, ℕ, ◌+◌, ◌-◌, ◌*◌, ◌<◌, ◌≤◌, List, [], ◌∷◌, ◌++◌, length, take, drop, get_or, map, Option, Some, Ok, Err, inl, inr, refl, sym, ap, subst, ◌∙◌, arith, cond, append-nil, drop_of_length-le}
use Rattle.std.specs.Prelude.{min}
use Rattle.std.specs.Int.{next_multiple_of}
use Rattle.std.proofs.lemmas.Bool.{lt-ltb}
use Rattle.std.proofs.lemmas.List.{map-append}
use Rattle.ctf_bits.specs.declared.source.Ending.{Ending}
use Rattle.ctf_class.specs.declared.class.Class.{Class}
use Rattle.ctf_class.specs.declared.class.Kind as kind
use Rattle.ctf_class.specs.declared.class.Member.{Member}
use Rattle.ctf_class.specs.declared.route.Length.{Length}
use Rattle.ctf_decode.specs.Values.{Val, choice}
use Rattle.ctf_decode.specs.Forms.{parts_of}
use Rattle.ctf_decode.specs.Routes.{length_of}
use Rattle.ctf_decode.specs.Breaks.{too_many, no_option}
use Rattle.ctf_decode.specs.Views.{form, shape, member_part, val, env, earlier}
use Rattle.ctf_decode.specs.Walk.{Step, and_then, begin, open_at, repeat, as_group, as_list, as_choice, walk, walk_members}
use Rattle.ctf_decode.specs.declared.scopes.TheConstants.{MOST_VALUES}
use Rattle.ctf_decode.specs.declared.value.Value as value
use Rattle.ctf_decode.specs.declared.value.Value.{Value}
use Rattle.ctf_decode.proofs.Views.{form-is, shape-Structure, val-Group, val-List, val-Choice}
use Rattle.ctf_decode.proofs.Arrays.{walk-array}
use Rattle.ctf_decode.proofs.Steps.{option_past, choice_ok, choice_as}
use Rattle.ctf_packet.specs.Scopes.{longest}
use Rattle.ctf_packet.specs.declared.fault.StreamFault.{StreamFault}
use Rattle.ctf_packet.specs.declared.fault.StreamFault.TheVariants as faults
use Rattle.ctf_fetch.specs.Fetching.{OrNoMemory}
use Rattle.ctf_fetch.specs.Demand.{there, input_at, found_at, members_at, elements_at, option_in, options_at, Failed, FailsToOpen, IsOpened}
use Rattle.ctf_fetch.specs.declared.demand.ValuePlace.{ValuePlace}
use Rattle.ctf_fetch.proofs.Parts.{grown_more, found_more, failed_then, member_ok, element_ok, element_fails, opens_at}

module _ (place : ValuePlace) (ms : List Member) where
  -- the members of a structure from an index on, and all of them
  abbrev pub members_from : ℕ → List ℕ → List Val → ℕ → ℕ → Step (List Val)
  members_from i bytes done p s = walk_members (parts_of (map member_part (drop i ms))) (input_at place bytes) (env place.frame.now) done p s

  abbrev pub members_all : List ℕ → Step (List Val)
  members_all bytes = walk_members (parts_of (map member_part ms)) (input_at place bytes) (env place.frame.now) [] place.end place.spent

  -- whatever follows these bytes, the members from an index on are what is left of all
  abbrev pub MembersLeft : ℕ → List ℕ → List Value → ℕ → ℕ → Type 0
  MembersLeft i bytes values p s = (more : List ℕ) → members_from i (bytes ++ more) (map val values) p s ≡ members_all (bytes ++ more)

  pub members_step : (i : ℕ) (m : Member) → i < length ms → m ≡ get_or ms i m → (old new : List ℕ) → take (length old) new ≡ old → (values : List Value) (v : Value) (p s q t : ℕ)
      → walk (form m.class) (input_at place new) (map val values ∷ env place.frame.now) p s ≡ Ok (val v, q, t) → MembersLeft i old values p s → MembersLeft (i + 1) new (values ++ v ∷ []) q t
  members_step i m within here old new first values v p s q t found left more =
      let c = input_at place (new ++ more) in
      let e = env place.frame.now in
      let done = map val values in
      let also = found_more (form m.class) (done ∷ e) place.scopes.now p s new more (val v, q, t) found in
      let one = member_ok c e ms i m within (sym here) done p s (val v) q t also in
      let all = ap (λ b. members_from i b done p s) (grown_more old new more first) ∙ left (drop (length old) new ++ more) ∙ ap members_all (sym (grown_more old new more first)) in
      ap (λ vs. members_from (i + 1) (new ++ more) vs q t) (map-append val values (v ∷ [])) ∙ one ∙ all

  pub members_done : (i : ℕ) → length ms ≤ i → (bytes : List ℕ) (values : List Value) (p s : ℕ) → MembersLeft i bytes values p s → members_at ms place bytes ≡ Ok (val (value.Group values), p, s)
  members_done i above bytes values p s left =
      let none : drop i ms ≡ [] = drop_of_length-le ms above in
      let ended : members_from i bytes (map val values) p s ≡ Ok (map val values, p, s) = ap (λ l. walk_members (parts_of (map member_part l)) (input_at place bytes) (env place.frame.now) (map val values) p s) none in
      let whole = ap members_all (sym (append-nil bytes)) ∙ sym (left []) ∙ ap (λ b. members_from i b (map val values) p s) (append-nil bytes) ∙ ended in
      ap (λ r. and_then r as_group) whole ∙ ap (λ v. Ok (v, p, s)) (sym (val-Group values))

module _ (place : ValuePlace) (element : Class) (count : ℕ) where
  abbrev elements_from : ℕ → List ℕ → List Val → ℕ → ℕ → Step (List Val)
  elements_from n bytes done p s = repeat (walk (form element) (input_at place bytes) (env place.frame.now)) n done p s

  abbrev pub elements_all : List ℕ → Step (List Val)
  elements_all bytes = elements_from count bytes [] place.end place.spent

  -- whatever follows these bytes, so many elements are what is left of all
  abbrev pub ElementsLeft : ℕ → List ℕ → List Value → ℕ → ℕ → Type 0
  ElementsLeft n bytes values p s = (more : List ℕ) → elements_from n (bytes ++ more) (map val values) p s ≡ elements_all (bytes ++ more)

  pub elements_step : (i : ℕ) → i < count → (old new : List ℕ) → take (length old) new ≡ old → (values : List Value) (v : Value) (p s q t : ℕ)
      → walk (form element) (input_at place new) (env place.frame.now) p s ≡ Ok (val v, q, t) → ElementsLeft (count - i) old values p s → ElementsLeft (count - (i + 1)) new (values ++ v ∷ []) q t
  elements_step i within old new first values v p s q t found left more =
      let done = map val values in
      let f = walk (form element) (input_at place (new ++ more)) (env place.frame.now) in
      let also = found_more (form element) (env place.frame.now) place.scopes.now p s new more (val v, q, t) found in
      let one = element_ok f count i within done p s (val v) q t also in
      let all = ap (λ b. elements_from (count - i) b done p s) (grown_more old new more first) ∙ left (drop (length old) new ++ more) ∙ ap elements_all (sym (grown_more old new more first)) in
      ap (λ vs. elements_from (count - (i + 1)) (new ++ more) vs q t) (map-append val values (v ∷ [])) ∙ one ∙ all

  pub elements_short : (ending : Ending) (fault : StreamFault) (i : ℕ) → i < count → (old new left : List ℕ) → take (length old) new ≡ old → (values : List Value) (p s : ℕ)
      → ElementsLeft (count - i) old values p s → OrNoMemory (Failed ending (walk (form element) (input_at place (new ++ left)) (env place.frame.now) p s)) fault
      → OrNoMemory (Failed ending (elements_at element count place (new ++ left))) fault
  elements_short ending fault i within old new left first values p s rest told =
      let done = map val values in
      let f = walk (form element) (input_at place (new ++ left)) (env place.frame.now) in
      let all = ap (λ b. elements_from (count - i) b done p s) (grown_more old new left first) ∙ rest (drop (length old) new ++ left) ∙ ap elements_all (sym (grown_more old new left first)) in
      failed_then ending (elements_all (new ++ left)) as_list fault
      (subst (λ r. OrNoMemory (Failed ending r) fault) all (element_fails f count i within done p s ending fault told))

  pub elements_done : (n : ℕ) → n ≡ 0 → (bytes : List ℕ) (values : List Value) (p s : ℕ) → ElementsLeft n bytes values p s → elements_at element count place bytes ≡ Ok (val (value.List values), p, s)
  elements_done n none bytes values p s left =
      let ended : elements_from n bytes (map val values) p s ≡ Ok (map val values, p, s) = ap (λ k. elements_from k bytes (map val values) p s) none in
      let whole = ap elements_all (sym (append-nil bytes)) ∙ sym (left []) ∙ ap (λ b. elements_from n b (map val values) p s) (append-nil bytes) ∙ ended in
      ap (λ r. and_then r as_list) whole ∙ ap (λ v. Ok (v, p, s)) (sym (val-List values))

module _ (place : ValuePlace) (options : List Member) (chosen : Option ℕ) (i : ℕ) (is : chosen ≡ Some i) (few : place.spent < MOST_VALUES) where
  -- the option that was chosen is what is looked for
  option_is : (bytes : List ℕ) → options_at options chosen place bytes ≡ option_in options i place bytes
  option_is bytes =
      ap (λ o. options_at options o place bytes) is ∙ ap (λ t. cond t (option_in options i place bytes) (Err too_many)) (lt-ltb place.spent MOST_VALUES few)

  pub option_none : (ending : Ending) (bytes : List ℕ) → length options ≤ i → OrNoMemory (Failed ending (options_at options chosen place bytes)) faults.NoOption
  option_none ending bytes beyond =
      let none = option_past (input_at place bytes) (env place.frame.now) options i place.end (place.spent + 1) beyond in
      inr (no_option, option_is bytes ∙ ap (λ r. and_then r (as_choice i)) none, refl)

  module _ (m : Member) (within : i < length options) (here : m ≡ get_or options i m) where
    pub option_short : (ending : Ending) (bytes : List ℕ) (fault : StreamFault) → OrNoMemory (Failed ending (walk (form m.class) (input_at place bytes) (env place.frame.now) place.end (place.spent + 1))) fault
        → OrNoMemory (Failed ending (options_at options chosen place bytes)) fault
    option_short ending bytes fault told =
        let same = choice_as (input_at place bytes) (env place.frame.now) options i m within here place.end (place.spent + 1) in
        subst (λ r. OrNoMemory (Failed ending r) fault) (same ∙ sym (option_is bytes)) (failed_then ending (walk (form m.class) (input_at place bytes) (env place.frame.now) place.end (place.spent + 1)) (as_choice i) fault told)

    pub option_found : (bytes : List ℕ) (v inner : Value) (q t : ℕ) → walk (form m.class) (input_at place bytes) (env place.frame.now) place.end (place.spent + 1) ≡ Ok (val v, q, t) → inner ≡ v
        → options_at options chosen place bytes ≡ Ok (val (value.Choice i inner), q, t)
    option_found bytes v inner q t found boxed =
        option_is bytes ∙ choice_ok (input_at place bytes) (env place.frame.now) options i m within here place.end (place.spent + 1) (val v) q t found
        ∙ ap (λ x. Ok (x, q, t)) (ap (λ x. choice i (val x)) (sym boxed) ∙ sym (val-Choice i inner))

module _ (class : Class) (place : ValuePlace) where
  -- a structure that is opened, or that is not
  structure_is : (ms : List Member) (bytes : List ℕ) → class.kind ≡ kind.Structure ms
      → found_at class place bytes ≡ begin (input_at place bytes) place.spent (open_at (input_at place bytes) (next_multiple_of place.end class.align) (and_then (walk_members (parts_of (map member_part ms)) (input_at place bytes) (env place.frame.now) [] (next_multiple_of place.end class.align) (place.spent + 1)) as_group))
  structure_is ms bytes is =
      ap (λ k. walk k (input_at place bytes) (env place.frame.now) place.end place.spent) (form-is class ∙ ap (λ k. shape k class.align) is ∙ shape-Structure ms class.align)

  pub structure_fails : (ms : List Member) (ending : Ending) (bytes : List ℕ) (fault : StreamFault) → class.kind ≡ kind.Structure ms
      → OrNoMemory (FailsToOpen ending place (next_multiple_of place.end class.align) bytes) fault → OrNoMemory (Failed ending (found_at class place bytes)) fault
  structure_fails ms ending bytes fault is (inl refused) = inl refused
  structure_fails ms ending bytes fault is (inr fails) = inr (subst (λ r. Failed ending r fault) (sym (structure_is ms bytes is)) (fails _))

  pub structure_found : (ms : List Member) (inner : ValuePlace) (bytes : List ℕ) → class.kind ≡ kind.Structure ms → IsOpened place (next_multiple_of place.end class.align) inner
      → inner.end ≤ min (8 * length bytes) longest → found_at class place bytes ≡ members_at ms inner bytes
  structure_found ms inner bytes is opened within =
      let b = next_multiple_of place.end class.align in
      let parts = and_then (walk_members (parts_of (map member_part ms)) (input_at place bytes) (env place.frame.now) [] b (place.spent + 1)) as_group in
      let ends = opened.end in
      structure_is ms bytes is ∙ opens_at (input_at place bytes) b place.spent parts opened.begun (omega (arith, ends, within))
      ∙ (λ j. and_then (walk_members (parts_of (map member_part ms)) (there bytes (sym opened.scopes j)) (env (sym opened.frame j)) [] (sym opened.end j) (sym opened.spent j)) as_group)

  -- the same of an array
  abbrev array_of : Class → ℕ → List ℕ → Step Val
  array_of element count bytes =
      let b = next_multiple_of place.end element.align in
      begin (input_at place bytes) place.spent (open_at (input_at place bytes) b (and_then (repeat (walk (form element) (input_at place bytes) (env place.frame.now)) count [] b (place.spent + 1)) as_list))

  array_is : (many : Length) (element : Class) (count : ℕ) (bytes : List ℕ) → class.kind ≡ kind.Array many element → count ≡ length_of many (earlier place.scopes.now) (env place.frame.now)
      → found_at class place bytes ≡ array_of element count bytes
  array_is many element count bytes is counted =
      sym (walk-array (input_at place bytes) (env place.frame.now) place.end place.spent class element many is) ∙ ap (λ n. array_of element n bytes) (sym counted)

  pub array_fails : (many : Length) (element : Class) (count : ℕ) (ending : Ending) (bytes : List ℕ) (fault : StreamFault) → class.kind ≡ kind.Array many element → count ≡ length_of many (earlier place.scopes.now) (env place.frame.now)
      → OrNoMemory (FailsToOpen ending place (next_multiple_of place.end element.align) bytes) fault → OrNoMemory (Failed ending (found_at class place bytes)) fault
  array_fails many element count ending bytes fault is counted (inl refused) = inl refused
  array_fails many element count ending bytes fault is counted (inr fails) =
      inr (subst (λ r. Failed ending r fault) (sym (array_is many element count bytes is counted)) (fails _))

  pub array_found : (many : Length) (element : Class) (count : ℕ) (inner : ValuePlace) (bytes : List ℕ) → class.kind ≡ kind.Array many element → count ≡ length_of many (earlier place.scopes.now) (env place.frame.now)
      → IsOpened place (next_multiple_of place.end element.align) inner → inner.end ≤ min (8 * length bytes) longest → found_at class place bytes ≡ elements_at element count inner bytes
  array_found many element count inner bytes is counted opened within =
      let b = next_multiple_of place.end element.align in
      let parts = and_then (repeat (walk (form element) (input_at place bytes) (env place.frame.now)) count [] b (place.spent + 1)) as_list in
      let ends = opened.end in
      array_is many element count bytes is counted ∙ opens_at (input_at place bytes) b place.spent parts opened.begun (omega (arith, ends, within))
      ∙ (λ j. and_then (repeat (walk (form element) (there bytes (sym opened.scopes j)) (env (sym opened.frame j))) count [] (sym opened.end j) (sym opened.spent j)) as_list)
