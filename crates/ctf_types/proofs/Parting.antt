-- What one more declaration gives, put where it goes.
use Rattle.std.proofs.Common.{◌≡◌, ℕ, ◌<◌, Bool, true, false, nat_eq, List, [], ◌∷◌, ◌++◌, length, get_or, set, replicate, Option, Some, None, refl, sym, ap, ◌∙◌, subst, arith, append-nil}
use Rattle.std.specs.Prelude.{filter_map, if◌then◌else◌, Result, Ok, Err, IfOk}
use Rattle.std.specs.List.{cons_option}
use Rattle.std.proofs.lemmas.List.Elements.{filter_map-append}
use Rattle.std.proofs.lemmas.List.{get_or-set_same, get_or-set_other, get_or-replicate, length-set, length-replicate}
use Rattle.ctf_class.specs.declared.class.Class.{Class}
use Rattle.ctf_class.specs.declared.trace.EventClass.{EventClass}
use Rattle.ctf_types.specs.declared.gather.TraceParts.{TraceParts}
use Rattle.ctf_types.specs.declared.linked.StreamHead.{StreamHead}
use Rattle.ctf_types.specs.declared.linked.Linked.{Linked}
use Rattle.ctf_types.specs.declared.linked.Linked.TheVariants as linked
use Rattle.ctf_types.specs.Gathered.{head_in, header_in, event_at, events_at}
use Rattle.ctf_types.specs.Parted.{IsParted}

-- a row that gives nothing of a kind, and one that gives something
adds_none : {B : Type 0} (f : Linked → Option B) (rows : List Linked) (row : Linked) (xs : List B) → f row ≡ None → xs ≡ filter_map f rows → xs ≡ filter_map f (rows ++ row ∷ [])
adds_none f rows row xs none e =
    e ∙ sym (filter_map-append f rows (row ∷ []) ∙ ap (λ o. filter_map f rows ++ cons_option o []) none ∙ append-nil (filter_map f rows))

adds_one : {B : Type 0} (f : Linked → Option B) (rows : List Linked) (row : Linked) (xs : List B) (b : B) → f row ≡ Some b → xs ≡ filter_map f rows → xs ++ b ∷ [] ≡ filter_map f (rows ++ row ∷ [])
adds_one f rows row xs b one e =
    ap (λ ys. ys ++ b ∷ []) e ∙ sym (filter_map-append f rows (row ∷ []) ∙ ap (λ o. filter_map f rows ++ cons_option o []) one)

no_events : (rows : List Linked) (row : Linked) (parts : TraceParts) → ((j : ℕ) → event_at j row ≡ None) → IsParted rows parts →
    (j : ℕ) → j < length parts.events → get_or parts.events j [] ≡ events_at j (rows ++ row ∷ [])
no_events rows row parts none p j l = adds_none (event_at j) rows row (get_or parts.events j []) (none j) (p.events j l)

pub with_trace : (rows : List Linked) (header : Option Class) (parts : TraceParts) → IsParted rows parts →
    IsParted (rows ++ linked.Trace header ∷ []) (record { headers = parts.headers ++ header ∷ []; heads = parts.heads; events = parts.events })
with_trace rows header parts p = record {
  headers = adds_one header_in rows (linked.Trace header) parts.headers header refl p.headers;
  heads = adds_none head_in rows (linked.Trace header) parts.heads refl p.heads;
  events = no_events rows (linked.Trace header) parts (λ j. refl) p;
}

pub with_stream : (rows : List Linked) (head : StreamHead) (parts : TraceParts) → IsParted rows parts →
    IsParted (rows ++ linked.Stream head ∷ []) (record { headers = parts.headers; heads = parts.heads ++ head ∷ []; events = parts.events })
with_stream rows head parts p = record {
  headers = adds_none header_in rows (linked.Stream head) parts.headers refl p.headers;
  heads = adds_one head_in rows (linked.Stream head) parts.heads head refl p.heads;
  events = no_events rows (linked.Stream head) parts (λ j. refl) p;
}

pub with_other : (rows : List Linked) (parts : TraceParts) → IsParted rows parts → IsParted (rows ++ linked.Other ∷ []) parts
with_other rows parts p = record {
  headers = adds_none header_in rows linked.Other parts.headers refl p.headers;
  heads = adds_none head_in rows linked.Other parts.heads refl p.heads;
  events = no_events rows linked.Other parts (λ j. refl) p;
}

pub with_event : (rows : List Linked) (place : ℕ) (e : EventClass) (parts : TraceParts) → place < length parts.events → IsParted rows parts →
    IsParted (rows ++ linked.Event place e ∷ []) (record { headers = parts.headers; heads = parts.heads; events = set parts.events place (get_or parts.events place [] ++ e ∷ []) })
with_event rows place e parts below p = record {
  headers = adds_none header_in rows (linked.Event place e) parts.headers refl p.headers;
  heads = adds_none head_in rows (linked.Event place e) parts.heads refl p.heads;
  events = λ j l. at j (nat_eq place j) refl (subst (λ n. j < n) (length-set parts.events place (get_or parts.events place [] ++ e ∷ [])) l);
}
  where
    at : (j : ℕ) (b : Bool) → nat_eq place j ≡ b → j < length parts.events →
        get_or (set parts.events place (get_or parts.events place [] ++ e ∷ [])) j [] ≡ events_at j (rows ++ linked.Event place e ∷ [])
    at j true is l =
        let same : j ≡ place = grind (arith, is) in
        let here : event_at place (linked.Event place e) ≡ Some e = ap (λ b. if b then Some e else None) (let z : nat_eq place place ≡ true = grind arith in z) in
        subst (λ n. get_or (set parts.events place (get_or parts.events place [] ++ e ∷ [])) n [] ≡ events_at n (rows ++ linked.Event place e ∷ [])) (sym same)
        (get_or-set_same parts.events place (get_or parts.events place [] ++ e ∷ []) [] below
        ∙ adds_one (event_at place) rows (linked.Event place e) (get_or parts.events place []) e here (p.events place below))
    at j false is l =
        let other : j ≡ place → ⊥ = λ h. grind (arith, h, is) in
        get_or-set_other parts.events place j (get_or parts.events place [] ++ e ∷ []) [] other
        ∙ adds_none (event_at j) rows (linked.Event place e) (get_or parts.events j []) (ap (λ b. if b then Some e else None) is) (p.events j l)

pub nothing_yet : (count : ℕ) → IsParted [] (record { headers = []; heads = []; events = replicate count [] })
nothing_yet count = record {
  headers = refl;
  heads = refl;
  events = λ j l. get_or-replicate count j [] [] (subst (λ n. j < n) (length-replicate count []) l);
}

pub on_ok : {T E : Type 0} (P Q : T → Type 0) → ((t : T) → P t → Q t) → (r : Result T E) → IfOk r P → IfOk r Q
on_ok P Q f (Ok t) h = f t h
on_ok P Q f (Err e) h = tt
