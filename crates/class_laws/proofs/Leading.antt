-- Where each route of a class leads to an integer or an enumeration of the classes before it, what is looked for is
-- found in values of these classes.
use Rattle.std.proofs.Common.{◌≡◌, ℕ, zero, suc, ℤ, false, cond, List, [], ◌∷◌, ◌++◌, Option, Some, None, refl, sym, ap, ◌∙◌, subst}
use Rattle.std.specs.Prelude.{slice_get, option_and_then}
use Rattle.std.proofs.lemmas.Option.{none-some, same_Some}
use Rattle.ctf_bits.specs.Number.{number, signed_number}
use Rattle.ctf_class.specs.declared.integer.Integer.{Integer}
use Rattle.ctf_class.specs.declared.route.Length.{Length}
use Rattle.ctf_class.specs.declared.route.Length.TheVariants.{Fixed, Field}
use Rattle.ctf_class.specs.declared.route.Origin.{Origin}
use Rattle.ctf_class.specs.declared.route.Origin.TheVariants.{Enclosing, Earlier}
use Rattle.ctf_class.specs.declared.route.Route.{Route}
use Rattle.ctf_class.specs.declared.route.Scope.{Scope}
use Rattle.ctf_class.specs.Integers.{bits_of}
use Rattle.ctf_decode.specs.Values.{Val, unsigned, signed, label, vals_of, nth, down}
use Rattle.ctf_decode.specs.Forms.{Form, Parts, integer, enumeration, string, structure, variant, array, text, no_parts, part}
use Rattle.ctf_decode.specs.Input.{Input, Env, integer_at}
use Rattle.ctf_decode.specs.Routes.{inside, found_from, found}
use Rattle.ctf_packet.proofs.Conforming.{Conforms, ConformAll, stands_conform}
use Rattle.class_laws.specs.Finding.{HasLength, FindsAll, FindsInMembers, FindsInOptions}

-- the classes before a class, as `Env` has the values: the earlier members of the structures around it, the innermost
-- first
abbrev pub Around : Type 0
Around = List (List Form)

-- the classes of earlier scopes
abbrev pub After : Type 0
After = Scope → Option Form

abbrev pub forms_in : Parts → List Form
forms_in no_parts = []
forms_in (part n k ps) = k ∷ forms_in ps

-- the class that steps lead to
abbrev mutual
  pub form_down : List ℕ → Form → Option Form
  form_down [] k = Some k
  form_down (i ∷ is) (structure a ps) = option_and_then (form_down is) (slice_get (forms_in ps) i)
  form_down (i ∷ is) _ = None

abbrev pub form_inside : List ℕ → List Form → Option Form
form_inside [] ks = None
form_inside (i ∷ is) ks = option_and_then (form_down is) (slice_get ks i)

abbrev pub led_from : Origin → List ℕ → After → Around → Option Form
led_from (Enclosing k) steps after around = option_and_then (form_inside steps) (slice_get around k)
led_from (Earlier scope) steps after around = option_and_then (form_down steps) (after scope)

-- the class that a route leads to
abbrev pub led : Route → After → Around → Option Form
led route after around = led_from route.origin route.steps after around

-- an unsigned integer
abbrev pub IsLength : Option Form → Type 0
IsLength o = (a : ℕ) × (i : Integer) × (o ≡ Some (integer a i)) × (i.is_signed ≡ false)

abbrev pub IsTag : Option Form → Type 0
IsTag o = (a : ℕ) × (i : Integer) × (o ≡ Some (enumeration a i))

abbrev pub LeadsToLength : Length → After → Around → Type 0
LeadsToLength (Fixed n) after around = Unit {0}
LeadsToLength (Field route) after around = IsLength (led route after around)

abbrev mutual
  -- each route of a class leads to a length or a tag
  pub Leads : Form → After → Around → Type 0
  Leads (structure a ps) after around = LeadsInMembers ps after around []
  Leads (variant a tag choices ps) after around = IsTag (led tag after around) × LeadsInOptions ps after around
  Leads (array a many k) after around = LeadsToLength many after around × Leads k after around
  Leads (text a many) after around = LeadsToLength many after around
  Leads _ after around = Unit {0}

  pub LeadsInMembers : Parts → After → Around → List Form → Type 0
  LeadsInMembers no_parts after around done = Unit {0}
  LeadsInMembers (part n k ps) after around done = Leads k after (done ∷ around) × LeadsInMembers ps after around (done ++ k ∷ [])

  pub LeadsInOptions : Parts → After → Around → Type 0
  LeadsInOptions no_parts after around = Unit {0}
  LeadsInOptions (part n k ps) after around = Leads k after around × LeadsInOptions ps after around

-- an unsigned integer has an unsigned number
abbrev pub IsNumber : Integer → Val → Type 0
IsNumber i v = i.is_signed ≡ false → (n : ℕ) × (v ≡ unsigned n)

pub read_number : (c : Input) (i : Integer) (b : ℕ) → IsNumber i (integer_at c i b)
read_number c i b e = (
  number i.order c.packet b (bits_of i),
  ap (λ t. cond t (signed (signed_number i.order c.packet b (bits_of i))) (unsigned (number i.order c.packet b (bits_of i)))) e,
)

-- a value of a class, in the form of that class
abbrev pub Fits : Form → Val → Type 0
Fits = Conforms IsNumber

abbrev pub FitAll : List Form → List Val → Type 0
FitAll [] [] = Unit {0}
FitAll [] (v ∷ vs) = ⊥
FitAll (k ∷ ks) [] = ⊥
FitAll (k ∷ ks) (v ∷ vs) = Fits k v × FitAll ks vs

abbrev pub FitAround : Around → Env → Type 0
FitAround [] [] = Unit {0}
FitAround [] (vs ∷ env) = ⊥
FitAround (ks ∷ around) [] = ⊥
FitAround (ks ∷ around) (vs ∷ env) = FitAll ks vs × FitAround around env

-- a scope with a class has a value of it
abbrev pub FitsIn : Option Form → Option Val → Type 0
FitsIn None o = Unit {0}
FitsIn (Some k) o = (v : Val) × (o ≡ Some v) × Fits k v

abbrev pub FitAfter : After → (Scope → Option Val) → Type 0
FitAfter after earlier = (scope : Scope) → FitsIn (after scope) (earlier scope)

pub fit_more : (ks : List Form) (vs : List Val) (k : Form) (v : Val) → FitAll ks vs → Fits k v → FitAll (ks ++ k ∷ []) (vs ++ v ∷ [])
fit_more [] [] k v h g = (g, tt)
fit_more [] (w ∷ vs) k v h g = absurd h
fit_more (l ∷ ks) [] k v h g = absurd h
fit_more (l ∷ ks) (w ∷ vs) k v h g = (h.0, fit_more ks vs k v h.1 g)

all_fit : (ps : Parts) (vs : List Val) → ConformAll IsNumber ps vs → FitAll (forms_in ps) vs
all_fit no_parts vs h = subst (FitAll []) (sym h) tt
all_fit (part n k ps) vs h = subst (FitAll (k ∷ forms_in ps)) (sym h.2) (h.3, all_fit ps h.1 h.4)

-- the value of the class that was found
abbrev Gets : Option Form → Option Val → Type 0
Gets o p = (k : Form) → o ≡ Some k → (v : Val) × (p ≡ Some v) × Fits k v

fit_at : (ks : List Form) (vs : List Val) (i : ℕ) → FitAll ks vs → Gets (slice_get ks i) (slice_get vs i)
fit_at [] vs i h k e = absurd (none-some k e)
fit_at (l ∷ ks) [] i h k e = absurd h
fit_at (l ∷ ks) (v ∷ vs) zero h k e = (v, refl, subst (λ m. Fits m v) (same_Some l k e) h.0)
fit_at (l ∷ ks) (v ∷ vs) (suc i) h k e = fit_at ks vs i h.1 k e

env_at : (around : Around) (env : Env) (i : ℕ) → FitAround around env → (ks : List Form) → slice_get around i ≡ Some ks → (vs : List Val) × (slice_get env i ≡ Some vs) × FitAll ks vs
env_at [] env i h ks e = absurd (none-some ks e)
env_at (l ∷ around) [] i h ks e = absurd h
env_at (l ∷ around) (vs ∷ env) zero h ks e = (vs, refl, subst (λ m. FitAll m vs) (same_Some l ks e) h.0)
env_at (l ∷ around) (vs ∷ env) (suc i) h ks e = env_at around env i h.1 ks e

nth_is : (vs : List Val) (i : ℕ) → nth (vals_of vs) i ≡ slice_get vs i
nth_is [] i = refl
nth_is (v ∷ vs) zero = refl
nth_is (v ∷ vs) (suc i) = nth_is vs i

-- one thing, and what follows from it
pub bound : {X Y : Type 0} (f : X → Option Y) (o : Option X) (y : Y) → option_and_then f o ≡ Some y → (x : X) × (o ≡ Some x) × (f x ≡ Some y)
bound f None y e = absurd (none-some y e)
bound f (Some x) y e = (x, refl, e)

fit_down : (is : List ℕ) (k : Form) (v : Val) → Fits k v → Gets (form_down is k) (down is v)
fit_down [] k v h l e = (v, refl, subst (λ m. Fits m v) (same_Some k l e) h)
fit_down (i ∷ is) (structure a ps) v h l e =
    let step = bound (form_down is) (slice_get (forms_in ps) i) l e in
    let at = fit_at (forms_in ps) h.0 i (all_fit ps h.0 h.2) step.0 step.1 in
    let rest = fit_down is step.0 at.0 at.2 l step.2 in
    (rest.0, ap (down (i ∷ is)) h.1 ∙ ap (option_and_then (down is)) (nth_is h.0 i ∙ at.1) ∙ rest.1, rest.2)
fit_down (i ∷ is) (integer a j) v h l e = absurd (none-some l e)
fit_down (i ∷ is) (enumeration a j) v h l e = absurd (none-some l e)
fit_down (i ∷ is) (string a) v h l e = absurd (none-some l e)
fit_down (i ∷ is) (variant a tag choices ps) v h l e = absurd (none-some l e)
fit_down (i ∷ is) (array a many k) v h l e = absurd (none-some l e)
fit_down (i ∷ is) (text a many) v h l e = absurd (none-some l e)

fit_inside : (is : List ℕ) (ks : List Form) (vs : List Val) → FitAll ks vs → Gets (form_inside is ks) (inside is vs)
fit_inside [] ks vs h l e = absurd (none-some l e)
fit_inside (i ∷ is) ks vs h l e =
    let step = bound (form_down is) (slice_get ks i) l e in
    let at = fit_at ks vs i h step.0 step.1 in
    let rest = fit_down is step.0 at.0 at.2 l step.2 in
    (rest.0, ap (option_and_then (down is)) at.1 ∙ rest.1, rest.2)

fit_after : (o : Option Form) (p : Option Val) → FitsIn o p → Gets o p
fit_after None p h k e = absurd (none-some k e)
fit_after (Some l) p h k e = (h.0, h.1, subst (λ m. Fits m h.0) (same_Some l k e) h.2)

module _ (after : After) (earlier : Scope → Option Val) (scopes : FitAfter after earlier) where
  fit_from : (origin : Origin) (steps : List ℕ) (around : Around) (env : Env) → FitAround around env → Gets (led_from origin steps after around) (found_from origin steps earlier env)
  fit_from (Enclosing k) steps around env h l e =
      let step = bound (form_inside steps) (slice_get around k) l e in
      let at = env_at around env k h step.0 step.1 in
      let rest = fit_inside steps step.0 at.0 at.2 l step.2 in
      (rest.0, ap (option_and_then (inside steps)) at.1 ∙ rest.1, rest.2)
  fit_from (Earlier scope) steps around env h l e =
      let step = bound (form_down steps) (after scope) l e in
      let at = fit_after (after scope) (earlier scope) (scopes scope) step.0 step.1 in
      let rest = fit_down steps step.0 at.0 at.2 l step.2 in
      (rest.0, ap (option_and_then (down steps)) at.1 ∙ rest.1, rest.2)

  -- what a route leads to is there
  fit_found : (route : Route) (around : Around) (env : Env) → FitAround around env → Gets (led route after around) (found route earlier env)
  unfolding found
  fit_found route around env h = fit_from route.origin route.steps around env h

  finds_tag : (route : Route) (around : Around) (env : Env) → FitAround around env → IsTag (led route after around) → (z : ℤ) × (found route earlier env ≡ Some (label z))
  finds_tag route around env h t =
      let at = fit_found route around env h (enumeration t.0 t.1) t.2 in
      (at.2.0, at.1 ∙ ap Some at.2.1)

  finds_number : (route : Route) (around : Around) (env : Env) → FitAround around env → IsLength (led route after around) → (n : ℕ) × (found route earlier env ≡ Some (unsigned n))
  finds_number route around env h t =
      let at = fit_found route around env h (integer t.0 t.1) t.2 in
      let is = at.2 t.3 in
      (is.0, at.1 ∙ ap Some is.1)

module _ (after : After) (c : Input) (scopes : FitAfter after c.earlier) where
  finds_length : (many : Length) (around : Around) (env : Env) → FitAround around env → LeadsToLength many after around → HasLength many c env
  finds_length (Fixed n) around env h t = tt
  finds_length (Field route) around env h t = finds_number after c.earlier scopes route around env h t

  mutual
    pub finds_all : (k : Form) (around : Around) (env : Env) → FitAround around env → Leads k after around → FindsAll k c env
    finds_all (integer a i) around env h t = tt
    finds_all (enumeration a i) around env h t = tt
    finds_all (string a) around env h t = tt
    finds_all (structure a ps) around env h t = finds_members ps around env [] [] h tt t
    finds_all (variant a tag choices ps) around env h t = (finds_tag after c.earlier scopes tag around env h t.0, finds_options ps around env h t.1)
    finds_all (array a many k) around env h t = (finds_length many around env h t.0, finds_all k around env h t.1)
    finds_all (text a many) around env h t = finds_length many around env h t

    finds_members : (ps : Parts) (around : Around) (env : Env) (ks : List Form) (done : List Val) → FitAround around env → FitAll ks done → LeadsInMembers ps after around ks → FindsInMembers ps c env done
    finds_members no_parts around env ks done h g t = tt
    finds_members (part n k ps) around env ks done h g t = (
      finds_all k (ks ∷ around) (done ∷ env) (g, h) t.0,
      λ p v q s. finds_members ps around env (ks ++ k ∷ []) (done ++ v ∷ []) h
          (fit_more ks done k v g (stands_conform IsNumber (λ d i b. read_number d i b) k c (done ∷ env) p v q s)) t.1,
    )

    finds_options : (ps : Parts) (around : Around) (env : Env) → FitAround around env → LeadsInOptions ps after around → FindsInOptions ps c env
    finds_options no_parts around env h t = tt
    finds_options (part n k ps) around env h t = (finds_all k around env h t.0, finds_options ps around env h t.1)
