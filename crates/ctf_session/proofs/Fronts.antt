-- The item in front of a merge, and the names of streams.
use Rattle.std.proofs.Common.{◌≡◌, ℕ, ℤ, Bool, true, false, cond, List, [], Option, Some, None, slice_get, get_or, option_map, refl, sym, ap, ◌∙◌, subst}
use Rattle.std.specs.Option.{unwrap_or}
use Rattle.std.proofs.lemmas.List.Elements.{All-get_or}
use Rattle.std.proofs.lemmas.Option.{get_or_from_slice_get, slice_get-map, slice_get_within, unwrap_or-slice_get}
use Rattle.ctf_record_text.specs.Texts.{event_text}
use Rattle.ctf_merge.specs.Merged.{item}
use Rattle.ctf_clock.specs.declared.moment.Moment.{Moment}
use Rattle.ctf_merge.specs.Merges.{Merge, IsNext, first_now, names_of, writes_of}
use Rattle.ctf_packet.specs.Classes.{Classes}
use Rattle.ctf_packet.specs.Items as items
use Rattle.ctf_stream.specs.Reader.{Reader, item_ahead}
use Rattle.ctf_packet.specs.ItemTimes.{time_of}
use Rattle.ctf_session.specs.Opening.{AreAsked}
use Rattle.ctf_stream.specs.Asked.{IsEarly, texts_of}
use Rattle.ctf_stream.specs.Shown.{item_of, Shows, ShowsClock, ShowsText}
use Rattle.ctf_stream.specs.declared.item.EventText.{EventText}
use Rattle.ctf_stream.specs.declared.item.Item.{Item}
use Rattle.ctf_timestamp.specs.Trims.{is_early, is_past, verdict_of}
use Rattle.ctf_timestamp.specs.declared.trim.Trim.{Trim}
use Rattle.ctf_timestamp.specs.declared.trim.Verdict.TheVariants.{Before, Within, After}

-- the name of a stream is that of its reader
pub name_at : (readers : List Reader) (number : ℕ) (r : Reader) → slice_get readers number ≡ Some r → get_or (names_of readers) number [] ≡ r.name
name_at readers number r at =
    get_or_from_slice_get (names_of readers) number r.name [] (slice_get-map (λ (r : Reader). r.name) readers number ∙ rw at refl)

pub name_none : (readers : List Reader) (number : ℕ) → slice_get readers number ≡ None → [] ≡ get_or (names_of readers) number []
name_none readers number none =
    ap (λ (o : Option Reader). unwrap_or (option_map (λ (r : Reader). r.name) o) []) (sym none)
    ∙ ap (λ (o : Option (List ℕ)). unwrap_or o []) (sym (slice_get-map (λ (r : Reader). r.name) readers number))
    ∙ unwrap_or-slice_get (names_of readers) number []

-- what the reader of the stream shows is the item that comes next
pub front_is : (m : Merge) (number : ℕ) (is : IsNext m number) (r : Reader) (x : Item) (next : items.Item Classes) → slice_get m.readers number ≡ Some r → Shows r.trace r.name r.ahead (Some x)
    → first_now m ≡ item number next → (end : ℕ) × ((length : ℕ) × (next ≡ item_of x end length))
front_is m number is r x next at shows first =
    let same_next : is.next ≡ next = let e = sym is.first ∙ first in cc in
    let same_front : is.front ≡ r = let e = sym is.at ∙ at in cc in
    let ahead : item_ahead r.ahead ≡ Some is.next = subst (λ (s : Reader). item_ahead s.ahead ≡ Some is.next) same_front (rw is.ahead refl) in
    let given : is.next ≡ item_of x shows.0.0 shows.0.1.0 = let e = sym ahead ∙ shows.0.1.1 in cc in
    (shows.0.0, (shows.0.1.0, sym same_next ∙ given))

-- the text that the reader of the stream gives is that of the item that comes next
pub text_is : (m : Merge) (number : ℕ) (is : IsNext m number) (r : Reader) (t : EventText) (next : items.Item Classes) → slice_get m.readers number ≡ Some r → ShowsText r.ahead t
    → first_now m ≡ item number next → (e : items.Event Classes) × (next ≡ items.event e) × (t.moment ≡ e.clock) × (t.text.now ≡ event_text e)
text_is m number is r t next at shows first =
    let same_next : is.next ≡ next = let e = sym is.first ∙ first in cc in
    let same_front : is.front ≡ r = let e = sym is.at ∙ at in cc in
    let ahead : item_ahead r.ahead ≡ Some is.next = subst (λ (s : Reader). item_ahead s.ahead ≡ Some is.next) same_front (rw is.ahead refl) in
    let given : is.next ≡ items.event shows.0 = let e = sym ahead ∙ shows.1 in cc in
    (shows.0, sym same_next ∙ given, shows.2, shows.3)

-- what a reader is asked for
asked_at : (begin : Option ℤ) (readers : List Reader) (number : ℕ) (r : Reader) → AreAsked begin (writes_of readers) → slice_get readers number ≡ Some r → r.writes ≡ texts_of begin
asked_at begin readers number r asked at =
    let writes = writes_of readers in
    let found : slice_get writes number ≡ Some r.writes = slice_get-map (λ (s : Reader). s.writes) readers number ∙ ap (option_map (λ (s : Reader). s.writes)) at in
    let within = slice_get_within writes number r.writes found in
    subst (λ w. w ≡ texts_of begin) (get_or_from_slice_get writes number r.writes r.writes found) (All-get_or (λ w. w ≡ texts_of begin) writes number r.writes within asked)

-- an event record before the beginning is not wanted
early_unwanted : (trim : Trim) (clock : Option Moment) → IsEarly (texts_of trim.begin) clock → verdict_of trim (option_map (λ m. m.time) clock) ≡ Within → ⊥
early_unwanted trim clock early within = by trim.begin clock refl early within
  where
    by : (begin : Option ℤ) (clock : Option Moment) → trim.begin ≡ begin → IsEarly (texts_of begin) clock → verdict_of trim (option_map (λ m. m.time) clock) ≡ Within → ⊥
    by None clock is early within = absurd early
    by (Some b) None is early within = absurd early
    by (Some b) (Some m) is early within =
        let before : is_early trim.begin m.time ≡ true = ap (λ o. is_early o m.time) is ∙ early in
        not_within (is_past trim.end m.time) (ap (λ t. cond (is_past trim.end m.time) After (cond t Before Within)) (sym before) ∙ within)
      where
        not_within : (past : Bool) → cond past After Before ≡ Within → ⊥
        not_within true is = let same = is in cc
        not_within false is = let same = is in cc

-- so the clock alone is told of no item that is wanted
pub none_passed : (m : Merge) (number : ℕ) (is : IsNext m number) (r : Reader) (clock : Option Moment) (trim : Trim) → slice_get m.readers number ≡ Some r → ShowsClock r.ahead clock → IsEarly r.writes clock → AreAsked trim.begin (writes_of m.readers)
    → ((next : items.Item Classes) → first_now m ≡ item number next → verdict_of trim (time_of next) ≡ Within) → ⊥
none_passed m number is r clock trim at shows early asked wanted =
    let same_front : is.front ≡ r = let e = sym is.at ∙ at in cc in
    let ahead : item_ahead r.ahead ≡ Some is.next = subst (λ (s : Reader). item_ahead s.ahead ≡ Some is.next) same_front (rw is.ahead refl) in
    let given : is.next ≡ items.event shows.0 = let e = sym ahead ∙ shows.1 in cc in
    let time : time_of is.next ≡ option_map (λ m. m.time) clock = ap time_of given ∙ ap (option_map (λ m. m.time)) (sym shows.2) in
    early_unwanted trim clock (subst (λ w. IsEarly w clock) (asked_at trim.begin m.readers number r asked at) early) (ap (verdict_of trim) (sym time) ∙ wanted is.next is.first)
