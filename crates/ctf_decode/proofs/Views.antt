-- Values, frames and classes, level by level.
use Rattle.std.proofs.Common.{◌≡◌, ℕ, ℤ, zero, List, [], ◌∷◌, map, None, option_map, Bor, refl, ap, ◌∙◌, rules, drop, suc, ◌+◌, ◌<◌, arith, sym, length, get_or}
use Rattle.std.specs.Prelude.{slice_get, option_and_then}
use Rattle.std.proofs.Math.Seq.{drop-cons}
use Rattle.ctf_class.specs.declared.integer.Integer.{Integer}
use Rattle.ctf_class.specs.declared.route.Length.{Length}
use Rattle.ctf_class.specs.declared.route.Route.{Route}
use Rattle.ctf_class.specs.declared.span.Choice.{Choice}
use Rattle.ctf_class.specs.declared.span.Label.{Label}
use Rattle.ctf_class.specs.declared.class.Class as class
use Rattle.ctf_class.specs.declared.class.Class.{Class}
use Rattle.ctf_class.specs.declared.class.Kind as kind
use Rattle.ctf_class.specs.declared.class.Kind.{Kind}
use Rattle.ctf_class.specs.declared.class.Member.{Member}
use Rattle.ctf_decode.specs.Values.{Val, label, group, list, choice, vals_of, nth, down}
use Rattle.ctf_decode.specs.Forms as forms
use Rattle.ctf_decode.specs.Forms.{parts_of}
use Rattle.ctf_decode.specs.Views.{form, shape, member_part, val, val_step, env}
use Rattle.ctf_decode.specs.declared.value.Value.TheOpen.{Value-F}
use Rattle.ctf_decode.specs.declared.value.Value.TheFolds.{fold_out-Value, map-Value}
use Rattle.ctf_decode.specs.declared.value.Value.TheViews.{out-Value, roll-Value, roll-out-Value, rolls-Group}
use Rattle.ctf_decode.specs.declared.value.Value as value
use Rattle.ctf_decode.specs.declared.value.Value.{Value}
use Rattle.ctf_decode.specs.declared.place.Frame as frame
use Rattle.ctf_decode.specs.declared.place.Frame.{Frame}

pub val-Label : (z : ℤ) → val (value.Label z) ≡ label z
val-Label z = search (rules, value.the_lemmas)

pub val-Group : (vs : List Value) → val (value.Group vs) ≡ group (vals_of (map val vs))
val-Group vs = search (rules, value.the_lemmas)

pub val-List : (vs : List Value) → val (value.List vs) ≡ list (vals_of (map val vs))
val-List vs = search (rules, value.the_lemmas)

pub val-Choice : (i : ℕ) (v : Value) → val (value.Choice i v) ≡ choice i (val v)
val-Choice i v = search (rules, value.the_lemmas)

pub env-Top : env frame.Top ≡ []
env-Top = search (rules, frame.the_lemmas)

pub env-Within : (vs : Bor (List Value)) (f : Bor Frame) → env (frame.Within vs f) ≡ map val vs.now ∷ env f.now
env-Within vs f = search (rules, frame.the_lemmas)

pub form-is : (c : Class) → form c ≡ shape c.kind c.align
form-is c = search (rules, class.the_lemmas)

pub part-is : (m : Member) → member_part m ≡ (m.name, form m.class)
part-is m = search (rules, class.the_lemmas)

pub shape-Integer : (i : Integer) (a : ℕ) → shape (kind.Integer i) a ≡ forms.integer a i
shape-Integer i a = search (rules, class.the_lemmas)

pub shape-Enumeration : (i : Integer) (ls : List Label) (a : ℕ) → shape (kind.Enumeration i ls) a ≡ forms.enumeration a i
shape-Enumeration i ls a = search (rules, class.the_lemmas)

pub shape-String : (a : ℕ) → shape kind.String a ≡ forms.string a
shape-String a = search (rules, class.the_lemmas)

pub shape-Structure : (ms : List Member) (a : ℕ) → shape (kind.Structure ms) a ≡ forms.structure a (parts_of (map member_part ms))
shape-Structure ms a = search (rules, class.the_lemmas)

pub shape-Variant : (tag : Route) (choices : List Choice) (ms : List Member) (a : ℕ) → shape (kind.Variant tag choices ms) a ≡ forms.variant a tag choices (parts_of (map member_part ms))
shape-Variant tag choices ms a = search (rules, class.the_lemmas)

pub shape-Array : (many : Length) (c : Class) (a : ℕ) → shape (kind.Array many c) a ≡ forms.array a many (form c)
shape-Array many c a = search (rules, class.the_lemmas)

pub shape-Text : (many : Length) (a : ℕ) → shape (kind.Text many) a ≡ forms.text a many
shape-Text many a = search (rules, class.the_lemmas)

pub nth-vals_of : (vs : List Value) (i : ℕ) → nth (vals_of (map val vs)) i ≡ option_map val (slice_get vs i)
nth-vals_of [] i = refl
nth-vals_of (v ∷ vs) zero = refl
nth-vals_of (v ∷ vs) (suc i) = nth-vals_of vs i

val_out : (v : Value) (o : Value-F Value) → out-Value v ≡ o → val v ≡ val_step (map-Value Value Val val o)
val_out v o e = fold_out-Value Val val_step v ∙ ap (λ x. val_step (map-Value Value Val val x)) e

-- steps go on through groups alone
down_at : (i : ℕ) (is : List ℕ) (v : Value) → ((x : List Value) → v ≡ value.Group x → ⊥) → (o : Value-F Value) → out-Value v ≡ o → None ≡ down (i ∷ is) (val v)
down_at i is v h (Value-F.Unsigned n) e = sym (ap (down (i ∷ is)) (val_out v (Value-F.Unsigned n) e))
down_at i is v h (Value-F.Signed n) e = sym (ap (down (i ∷ is)) (val_out v (Value-F.Signed n) e))
down_at i is v h (Value-F.Label n) e = sym (ap (down (i ∷ is)) (val_out v (Value-F.Label n) e))
down_at i is v h (Value-F.Text n) e = sym (ap (down (i ∷ is)) (val_out v (Value-F.Text n) e))
down_at i is v h (Value-F.Group x) e = absurd (h x (sym (roll-out-Value v) ∙ ap roll-Value e ∙ rolls-Group x))
down_at i is v h (Value-F.List n) e = sym (ap (down (i ∷ is)) (val_out v (Value-F.List n) e))
down_at i is v h (Value-F.Choice n w) e = sym (ap (down (i ∷ is)) (val_out v (Value-F.Choice n w) e))

drop_here : (is : List ℕ) (i : ℕ) → i < length is → drop i is ≡ get_or is i 0 ∷ drop (i + 1) is
drop_here is i h = let e : suc i ≡ i + 1 = omega arith in drop-cons is i 0 h ∙ ap (λ k. get_or is i 0 ∷ drop k is) e

pub down_other : (is : List ℕ) (i : ℕ) (v : Value) → i < length is → ((x : List Value) → v ≡ value.Group x → ⊥) → None ≡ down (drop i is) (val v)
down_other is i v l h = down_at (get_or is i 0) (drop (i + 1) is) v h (out-Value v) refl ∙ ap (λ xs. down xs (val v)) (sym (drop_here is i l))

pub down_group : (is : List ℕ) (i : ℕ) (v : Value) (ms : List Value) → i < length is → v ≡ value.Group ms → option_and_then (down (drop (i + 1) is)) (option_map val (slice_get ms (get_or is i 0))) ≡ down (drop i is) (val v)
down_group is i v ms l e =
    ap (option_and_then (down (drop (i + 1) is))) (sym (nth-vals_of ms (get_or is i 0)))
    ∙ ap (down (get_or is i 0 ∷ drop (i + 1) is)) (sym (ap val e ∙ val-Group ms))
    ∙ ap (λ xs. down xs (val v)) (sym (drop_here is i l))
