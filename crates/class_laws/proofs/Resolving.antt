-- Each route of a resolved class leads to the class of what its path finds.
use Rattle.std.proofs.Common.{◌≡◌, ℕ, suc, ◌+◌, Bool, true, false, cond, List, [], ◌∷◌, ◌++◌, map, Option, Some, None, refl, sym, ap, ◌∙◌, subst, arith, rules}
use Rattle.std.specs.Prelude.{slice_get, option_and_then, find, filter_map}
use Rattle.std.specs.List.{enumerate_from}
use Rattle.std.specs.Option.{option_map_or}
use Rattle.std.proofs.lemmas.Option.{none-some, same_Some}
use Rattle.ctf_bits.specs.declared.number.Order.{Order}
use Rattle.ctf_class.specs.declared.class.Class as class
use Rattle.ctf_class.specs.declared.class.Class.{Class}
use Rattle.ctf_class.specs.declared.class.Kind.{Kind}
use Rattle.ctf_class.specs.declared.class.Kind.TheVariants as kind
use Rattle.ctf_class.specs.declared.class.Member.{Member}
use Rattle.ctf_class.specs.declared.integer.Integer.{Integer}
use Rattle.ctf_class.specs.declared.route.Length.{Length}
use Rattle.ctf_class.specs.declared.route.Length.TheVariants as lengths
use Rattle.ctf_class.specs.declared.route.Origin.{Origin}
use Rattle.ctf_class.specs.declared.route.Origin.TheVariants.{Enclosing, Earlier}
use Rattle.ctf_class.specs.declared.route.Route.{Route}
use Rattle.ctf_class.specs.declared.route.Scope.{Scope}
use Rattle.ctf_class.specs.declared.span.Label.{Label}
use Rattle.ctf_class.specs.declared.trace.Clock.{Clock}
use Rattle.ctf_decode.specs.Forms as forms
use Rattle.ctf_decode.specs.Forms.{Form, Parts, parts_of}
use Rattle.ctf_decode.specs.Views.{form, shape, member_part}
use Rattle.ctf_decode.proofs.Views.{shape-Integer, shape-Enumeration, shape-String, shape-Structure, shape-Variant, shape-Array, shape-Text}
use Rattle.ctf_meaning.specs.Name.{Word, Words, same_word}
use Rattle.ctf_meaning.specs.There.{first}
use Rattle.ctf_meaning.specs.Shapes.{Shape, Field, Members, integer, float, string, enum, struct, variant, array, sequence, no_member, member, fields_in, align_of}
use Rattle.ctf_meaning.specs.Paths.{Frame, Spot, at_member, below, frames, members_of, member_named, Found, field_at, route_from, after_words, scope_named, found_below, has_member, found_near, found_at, is_length, length_at, labels_in, tag_at}
use Rattle.ctf_meaning.specs.Links.{is_character, choices_of, class_by, named_by, placed, class_at, members_at, options_at}
use Rattle.ctf_meaning.proofs.Lists.{Each, each_append, each_map, each_mapped, filtered_each, first_each}
use Rattle.class_laws.proofs.Leading.{Around, After, forms_in, form_down, form_inside, led, IsLength, IsTag, LeadsToLength, Leads, LeadsInMembers, LeadsInOptions, bound}

-- R of each pair of two lists
abbrev pub Pairs : {X Y : Type 0} → (X → Y → Type 0) → List X → List Y → Type 0
Pairs R [] [] = Unit {0}
Pairs R [] (y ∷ ys) = ⊥
Pairs R (x ∷ xs) [] = ⊥
Pairs R (x ∷ xs) (y ∷ ys) = R x y × Pairs R xs ys

pub pairs_more : {X Y : Type 0} (R : X → Y → Type 0) (xs : List X) (ys : List Y) (x : X) (y : Y) → Pairs R xs ys → R x y → Pairs R (xs ++ x ∷ []) (ys ++ y ∷ [])
pairs_more R [] [] x y h r = (r, tt)
pairs_more R [] (z ∷ ys) x y h r = absurd h
pairs_more R (w ∷ xs) [] x y h r = absurd h
pairs_more R (w ∷ xs) (z ∷ ys) x y h r = (h.0, pairs_more R xs ys x y h.1 r)

-- each of a list with its number has its other one
pub pairs_numbered : {X Y : Type 0} (R : X → Y → Type 0) (n : ℕ) (xs : List X) (ys : List Y) (get : ℕ → Option Y) → ((i : ℕ) → get (n + i) ≡ slice_get ys i) → Pairs R xs ys
    → Each (λ p. (y : Y) × (get p.0 ≡ Some y) × R p.1 y) (enumerate_from n xs)
pairs_numbered R n [] ys get h s = tt
pairs_numbered R n (x ∷ xs) [] get h s = absurd s
pairs_numbered R n (x ∷ xs) (y ∷ ys) get h s = (
  (y, ap get (let here : n ≡ n + 0 = omega arith in here) ∙ h 0, s.0),
  pairs_numbered R (n + 1) xs ys get (λ i. ap get (let moved : n + 1 + i ≡ n + suc i = omega arith in moved) ∙ h (suc i)) s.1,
)

pub find_each : {X : Type 0} (P : X → Type 0) (test : X → Bool) (xs : List X) → Each P xs → (x : X) → find test xs ≡ Some x → P x
find_each P test [] h x e = absurd (none-some x e)
find_each {X} P test (y ∷ ys) h x e = by_case (test y) e (λ k. find_each P test ys h.1 x k)
  where
    by_case : (b : Bool) → cond b (Some y) (find test ys) ≡ Some x → (find test ys ≡ Some x → P x) → P x
    by_case true k go = subst P (same_Some y x k) h.0
    by_case false k go = go k

-- the form of a class by its shape, as far as routes go by it
abbrev mutual
  pub Seen : Shape → Form → Type 0
  Seen (integer i) k = (a : ℕ) × (j : Integer) × (k ≡ forms.integer a j) × (j.is_signed ≡ i.is_signed)
  Seen (enum i labels) k = (a : ℕ) × (j : Integer) × (k ≡ forms.enumeration a j)
  Seen (struct align members) k = (a : ℕ) × (ps : Parts) × (k ≡ forms.structure a ps) × SeenMembers members ps
  Seen _ k = Unit {0}

  pub SeenMembers : Members → Parts → Type 0
  SeenMembers no_member ps = ps ≡ forms.no_parts
  SeenMembers (member word s more) ps = (n : List ℕ) × (k : Form) × (qs : Parts) × (ps ≡ forms.part n k qs) × Seen s k × SeenMembers more qs

abbrev pub SeenFields : List Field → List Form → Type 0
SeenFields = Pairs (λ f k. Seen f.shape k)

pub seen_fields : (members : Members) (ps : Parts) → SeenMembers members ps → SeenFields (fields_in members) (forms_in ps)
seen_fields no_member ps s = subst (λ qs. SeenFields [] (forms_in qs)) (sym s) tt
seen_fields (member word sh more) ps s =
    subst (λ qs. SeenFields (fields_in (member word sh more)) (forms_in qs)) (sym s.3) (s.4, seen_fields more s.2 s.5)

named_at : (word : Word) (fs : List Field) (ks : List Form) (p : ℕ × Field) → SeenFields fs ks → member_named word fs ≡ Some p → (k : Form) × (slice_get ks p.0 ≡ Some k) × Seen p.1.shape k
named_at word fs ks p s e =
    find_each (λ q. (k : Form) × (slice_get ks q.0 ≡ Some k) × Seen q.1.shape k) (λ q. same_word q.1.name word) (enumerate_from 0 fs)
    (pairs_numbered (λ f k. Seen f.shape k) 0 fs ks (slice_get ks) (λ i. ap (slice_get ks) (let same : 0 + i ≡ i = omega arith in same)) s) p e

inside_down : (steps : List ℕ) (a : ℕ) (ps : Parts) (l : Form) → form_inside steps (forms_in ps) ≡ Some l → form_down steps (forms.structure a ps) ≡ Some l
inside_down [] a ps l e = absurd (none-some l e)
inside_down (i ∷ is) a ps l e = e

nothing_inside : (steps : List ℕ) (l : Form) → form_inside steps [] ≡ Some l → ⊥
nothing_inside [] l e = none-some l e
nothing_inside (i ∷ is) l e = none-some l e

-- the members of a class that is seen
abbrev Under : Shape → Form → Type 0
Under s k = (ks : List Form) × SeenFields (members_of s) ks × ((steps : List ℕ) (l : Form) → form_inside steps ks ≡ Some l → form_down steps k ≡ Some l)

under : (s : Shape) (k : Form) → Seen s k → Under s k
under (struct align members) k s = (
  forms_in s.1,
  seen_fields members s.1 s.3,
  λ steps l e. subst (λ m. form_down steps m ≡ Some l) (sym s.2) (inside_down steps s.0 s.1 l e),
)
under (integer i) k s = ([], tt, λ steps l e. absurd (nothing_inside steps l e))
under float k s = ([], tt, λ steps l e. absurd (nothing_inside steps l e))
under string k s = ([], tt, λ steps l e. absurd (nothing_inside steps l e))
under (enum i labels) k s = ([], tt, λ steps l e. absurd (nothing_inside steps l e))
under (variant tag options) k s = ([], tt, λ steps l e. absurd (nothing_inside steps l e))
under (array count element) k s = ([], tt, λ steps l e. absurd (nothing_inside steps l e))
under (sequence path element) k s = ([], tt, λ steps l e. absurd (nothing_inside steps l e))

abbrev found_by : List ℕ → Shape → Found
found_by steps s = (steps, s)

abbrev LedInside : List Form → Found → Type 0
LedInside ks found = (k : Form) × (form_inside found.0 ks ≡ Some k) × Seen found.1 k

field_led : (fs : List Field) (words : Words) (ks : List Form) (found : Found) → SeenFields fs ks → field_at fs words ≡ Some found → LedInside ks found
field_led fs [] ks found s e = absurd (none-some found e)
field_led fs (word ∷ []) ks found s e =
    let p = bound _ (member_named word fs) found e in
    let at = named_at word fs ks p.0 s p.1 in
    subst (LedInside ks) (same_Some (found_by ((p.0).0 ∷ []) (p.0).1.shape) found p.2) (at.0, ap (option_and_then (form_down [])) at.1, at.2)
field_led fs (word ∷ next ∷ words) ks found s e =
    let p = bound _ (member_named word fs) found e in
    let at = named_at word fs ks p.0 s p.1 in
    let u = under (p.0).1.shape at.0 at.2 in
    let rest = bound _ (field_at (members_of (p.0).1.shape) (next ∷ words)) found p.2 in
    let led = field_led (members_of (p.0).1.shape) (next ∷ words) u.0 rest.0 u.1 rest.1 in
    subst (LedInside ks) (same_Some (found_by ((p.0).0 ∷ (rest.0).0) (rest.0).1) found rest.2)
    (led.0, ap (option_and_then (form_down (rest.0).0)) at.1 ∙ u.2 (rest.0).0 led.0 led.1, led.2)

module _ (after : After) where
  -- a frame of members that the classes before have
  abbrev pub GoodBefore : Scope → List Field → Type 0
  GoodBefore scope fs = (a : ℕ) × (ps : Parts) × (after scope ≡ Some (forms.structure a ps)) × SeenFields fs (forms_in ps)

  abbrev pub Good : Around → Origin → List Field → Type 0
  Good around (Enclosing k) fs = (ks : List Form) × (slice_get around k ≡ Some ks) × SeenFields fs ks
  Good around (Earlier scope) fs = GoodBefore scope fs

  -- a route leads to the class of what was found
  abbrev pub Reaches : Around → Route × Shape → Type 0
  Reaches around r = (k : Form) × (led r.0 after around ≡ Some k) × Seen r.1 k

  good_led : (around : Around) (origin : Origin) (fs : List Field) (words : Words) (found : Found) → Good around origin fs → field_at fs words ≡ Some found → Reaches around (route_from origin found)
  good_led around (Enclosing k) fs words found g e =
      let f = field_led fs words g.0 found g.2 e in
      (f.0, ap (option_and_then (form_inside found.0)) g.1 ∙ f.1, f.2)
  good_led around (Earlier scope) fs words found g e =
      let f = field_led fs words (forms_in g.1) found g.3 e in
      (f.0, ap (option_and_then (form_down found.0)) g.2 ∙ inside_down found.0 g.0 g.1 f.0 f.1, f.2)

  abbrev GoodFrame : Around → Origin × Frame → Type 0
  GoodFrame around q = Good around q.0 q.1.fields

  below_led : (around : Around) (scope : Scope) (words : Words) (q : Origin × Frame) → GoodFrame around q → (r : Route × Shape) → found_below scope words q ≡ Some r → Reaches around r
  below_led around scope words q g r e = by_case _ e
    where
      by_case : (b : Bool)
          → cond b (option_and_then (λ name. option_and_then (λ rest. option_and_then (λ found. Some (route_from q.0 found)) (field_at q.1.fields rest)) (after_words name words)) q.1.name) None ≡ Some r
          → Reaches around r
      by_case true h =
          let name = bound _ q.1.name r h in
          let rest = bound _ (after_words name.0 words) r name.2 in
          let found = bound _ (field_at q.1.fields rest.0) r rest.2 in
          subst (Reaches around) (same_Some _ r found.2) (good_led around q.0 q.1.fields rest.0 found.0 g found.1)
      by_case false h = absurd (none-some r h)

  module _ (around : Around) (spot : Spot) (good : Each (GoodFrame around) (frames spot)) where
    near_led : (path : Words) (r : Route × Shape) → found_near spot path ≡ Some r → Reaches around r
    near_led path r e =
        let p = bound _ (find (λ q. has_member path q.1) (frames spot)) r e in
        let found = bound _ (field_at (p.0).1.fields path) r p.2 in
        let at = find_each (GoodFrame around) (λ q. has_member path q.1) (frames spot) good p.0 p.1 in
        subst (Reaches around) (same_Some _ r found.2) (good_led around (p.0).0 (p.0).1.fields path found.0 at found.1)

    found_led : (path : Words) (r : Route × Shape) → found_at spot path ≡ Some r → Reaches around r
    found_led path r e = by_name (scope_named path) e
      where
        by_name : (o : Option (Scope × Words)) → option_map_or (λ p. first (filter_map (found_below p.0 p.1) (frames spot))) o (found_near spot path) ≡ Some r → Reaches around r
        by_name None h = near_led path r h
        by_name (Some p) h =
            first_each (Reaches around) (filter_map (found_below p.0 p.1) (frames spot))
            (filtered_each (Reaches around) (found_below p.0 p.1) (frames spot)
            (each_map (GoodFrame around) (λ q. (y : Route × Shape) → found_below p.0 p.1 q ≡ Some y → Reaches around y) (λ q g. below_led around p.0 p.1 q g) (frames spot) good)) r h

    length_led : (path : Words) (route : Route) → length_at spot path ≡ Some route → IsLength (led route after around)
    length_led path route e =
        let found = bound _ (found_at spot path) route e in
        by_case (found.0).0 (found.0).1 (is_length (found.0).1) refl found.2 (found_led path found.0 found.1)
      where
        is_plain : (s : Shape) (k : Form) → is_length s ≡ true → Seen s k → IsLength (Some k)
        is_plain (integer i) k t s = (s.0, s.1, ap Some s.2, s.3 ∙ grind (arith, t))
        is_plain float k t s = absurd (grind (arith, t))
        is_plain string k t s = absurd (grind (arith, t))
        is_plain (enum i labels) k t s = absurd (grind (arith, t))
        is_plain (struct align members) k t s = absurd (grind (arith, t))
        is_plain (variant tag options) k t s = absurd (grind (arith, t))
        is_plain (array count element) k t s = absurd (grind (arith, t))
        is_plain (sequence other element) k t s = absurd (grind (arith, t))

        by_case : (r : Route) (s : Shape) (b : Bool) → is_length s ≡ b → cond b (Some r) None ≡ Some route → Reaches around (r, s) → IsLength (led route after around)
        by_case r s true t h at =
            subst (λ x. IsLength (led x after around)) (same_Some r route h) (subst IsLength (sym at.1) (is_plain s at.0 t at.2))
        by_case r s false t h at = absurd (none-some route h)

    tag_led : (tag : Option Words) (found : Route × List Label) → tag_at spot tag ≡ Some found → IsTag (led found.0 after around)
    tag_led tag r e =
        let path = bound _ tag r e in
        let found = bound _ (found_at spot path.0) r path.2 in
        let labels = bound _ (labels_in (found.0).1) r found.2 in
        let at = found_led path.0 found.0 found.1 in
        subst (λ (x : Route × List Label). IsTag (led x.0 after around)) (same_Some _ r labels.2) (subst IsTag (sym at.1) (is_tag (found.0).1 at.0 labels.0 labels.1 at.2))
      where
        is_tag : (s : Shape) (k : Form) (ls : List Label) → labels_in s ≡ Some ls → Seen s k → IsTag (Some k)
        is_tag (enum i labels) k ls t s = (s.0, s.1, ap Some s.2)
        is_tag (integer i) k ls t s = absurd (none-some ls t)
        is_tag float k ls t s = absurd (none-some ls t)
        is_tag string k ls t s = absurd (none-some ls t)
        is_tag (struct align members) k ls t s = absurd (none-some ls t)
        is_tag (variant other options) k ls t s = absurd (none-some ls t)
        is_tag (array count element) k ls t s = absurd (none-some ls t)
        is_tag (sequence other element) k ls t s = absurd (none-some ls t)

  abbrev pub SeenAround : List Frame → Around → Type 0
  SeenAround = Pairs (λ f ks. SeenFields f.fields ks)

  abbrev pub GoodScope : Frame → Type 0
  GoodScope f = GoodBefore f.scope f.fields

  frames_good : (spot : Spot) (around : Around) → SeenAround spot.around around → Each GoodScope spot.before → Each (GoodFrame around) (frames spot)
  frames_good spot around s b =
      each_append (GoodFrame around) (map (λ p. (Enclosing p.0, p.1)) (enumerate_from 0 spot.around)) (map (λ f. (Earlier f.scope, f)) spot.before)
      (each_mapped (GoodFrame around) (λ p. (Enclosing p.0, p.1)) (enumerate_from 0 spot.around)
      (pairs_numbered (λ f ks. SeenFields f.fields ks) 0 spot.around around (slice_get around) (λ i. ap (slice_get around) (let same : 0 + i ≡ i = omega arith in same)) s))
      (each_mapped (GoodFrame around) (λ f. (Earlier f.scope, f)) spot.before b)

-- the form of a class that is made
made : (s : Shape) (what : Kind) → form (class_by s what) ≡ shape what (align_of s)
made s what = search (rules, class.the_lemmas)

pub form_by : (s : Shape) (what : Kind) (c : Class) (k : Form) → Some (class_by s what) ≡ Some c → shape what (align_of s) ≡ k → form c ≡ k
form_by s what c k e is = ap form (sym (same_Some (class_by s what) c e)) ∙ made s what ∙ is

pub member_made : (word : Word) (c : Class) → member_part (named_by word c) ≡ (word, form c)
member_made word c = search (rules, class.the_lemmas)

module _ (order : Order) (clocks : List Clock) where
  mutual
    -- a class is seen by its shape
    pub class_seen : (spot : Spot) (s : Shape) (c : Class) → class_at order clocks spot s ≡ Some c → Seen s (form c)
    class_seen spot (integer i) c e =
        (align_of (integer i), placed order _ i, form_by (integer i) (kind.Integer (placed order _ i)) c _ e (shape-Integer _ _), refl)
    class_seen spot (enum i labels) c e =
        (align_of (enum i labels), placed order false i, form_by (enum i labels) (kind.Enumeration (placed order false i) labels) c _ e (shape-Enumeration _ _ _))
    class_seen spot (struct align members) c e =
        let ms = bound _ (members_at order clocks spot [] members) c e in
        (align_of (struct align members), parts_of (map member_part ms.0), form_by (struct align members) (kind.Structure ms.0) c _ ms.2 (shape-Structure _ _), members_seen spot [] members ms.0 ms.1)
    class_seen spot float c e = tt
    class_seen spot string c e = tt
    class_seen spot (variant tag options) c e = tt
    class_seen spot (array count element) c e = tt
    class_seen spot (sequence path element) c e = tt

    members_seen : (spot : Spot) (earlier : List Field) (members : Members) (ms : List Member) → members_at order clocks spot earlier members ≡ Some ms → SeenMembers members (parts_of (map member_part ms))
    members_seen spot earlier no_member ms e = subst (λ xs. SeenMembers no_member (parts_of (map member_part xs))) (same_Some [] ms e) refl
    members_seen spot earlier (member word s more) ms e =
        let c = bound _ (class_at order clocks (at_member spot earlier word) s) ms e in
        let rest = bound _ (members_at order clocks spot (earlier ++ record { name = word; shape = s } ∷ []) more) ms c.2 in
        let others = parts_of (map member_part rest.0) in
        subst (λ xs. SeenMembers (member word s more) (parts_of (map member_part xs))) (same_Some (named_by word c.0 ∷ rest.0) ms rest.2)
        (subst (λ (p : forms.Part). SeenMembers (member word s more) (forms.part p.0 p.1 others)) (sym (member_made word c.0))
        (word, form c.0, others, refl, class_seen (at_member spot earlier word) s c.0 c.1, members_seen spot (earlier ++ record { name = word; shape = s } ∷ []) more rest.0 rest.1))

  module _ (after : After) where
    array_leads : (s : Shape) (b : Bool) (many : Length) (element c : Class) (around : Around) → Some (class_by s (cond b (kind.Text many) (kind.Array many element))) ≡ Some c
        → LeadsToLength many after around → Leads (form element) after around → Leads (form c) after around
    array_leads s true many element c around e l k = subst (λ m. Leads m after around) (sym (form_by s (kind.Text many) c _ e (shape-Text many _))) l
    array_leads s false many element c around e l k = subst (λ m. Leads m after around) (sym (form_by s (kind.Array many element) c _ e (shape-Array many element _))) (l, k)

    mutual
      -- each of its routes leads to a length or a tag
      pub class_leads : (spot : Spot) (s : Shape) (c : Class) (around : Around) → SeenAround after spot.around around → Each (GoodScope after) spot.before → class_at order clocks spot s ≡ Some c
          → Leads (form c) after around
      class_leads spot (integer i) c around g b e =
          subst (λ m. Leads m after around) (sym (form_by (integer i) (kind.Integer (placed order _ i)) c _ e (shape-Integer _ _))) tt
      class_leads spot string c around g b e = subst (λ m. Leads m after around) (sym (form_by string kind.String c _ e (shape-String _))) tt
      class_leads spot (enum i labels) c around g b e =
          subst (λ m. Leads m after around) (sym (form_by (enum i labels) (kind.Enumeration (placed order false i) labels) c _ e (shape-Enumeration _ _ _))) tt
      class_leads spot float c around g b e = absurd (none-some c e)
      class_leads spot (struct align members) c around g b e =
          let ms = bound _ (members_at order clocks spot [] members) c e in
          subst (λ m. Leads m after around) (sym (form_by (struct align members) (kind.Structure ms.0) c _ ms.2 (shape-Structure _ _)))
          (members_lead spot [] members ms.0 around [] g b tt ms.1)
      class_leads spot (variant tag options) c around g b e =
          let found = bound _ (tag_at spot tag) c e in
          let os = bound _ (options_at order clocks (below spot) options) c found.2 in
          subst (λ m. Leads m after around)
          (sym (form_by (variant tag options) (kind.Variant (found.0).0 (choices_of (fields_in options) (found.0).1) os.0) c _ os.2 (shape-Variant _ _ _ _)))
          (tag_led after around spot (frames_good after spot around g b) tag found.0 found.1, options_lead (below spot) options os.0 around g b os.1)
      class_leads spot (array count element) c around g b e =
          let k = bound _ (class_at order clocks (below spot) element) c e in
          array_leads (array count element) (is_character element) (lengths.Fixed count) k.0 c around k.2 tt (class_leads (below spot) element k.0 around g b k.1)
      class_leads spot (sequence path element) c around g b e =
          let route = bound _ (length_at spot path) c e in
          let k = bound _ (class_at order clocks (below spot) element) c route.2 in
          array_leads (sequence path element) (is_character element) (lengths.Field route.0) k.0 c around k.2
          (length_led after around spot (frames_good after spot around g b) path route.0 route.1) (class_leads (below spot) element k.0 around g b k.1)

      members_lead : (spot : Spot) (earlier : List Field) (members : Members) (ms : List Member) (around : Around) (done : List Form) → SeenAround after spot.around around → Each (GoodScope after) spot.before
          → SeenFields earlier done → members_at order clocks spot earlier members ≡ Some ms → LeadsInMembers (parts_of (map member_part ms)) after around done
      members_lead spot earlier no_member ms around done g b d e =
          subst (λ xs. LeadsInMembers (parts_of (map member_part xs)) after around done) (same_Some [] ms e) tt
      members_lead spot earlier (member word s more) ms around done g b d e =
          let c = bound _ (class_at order clocks (at_member spot earlier word) s) ms e in
          let now = earlier ++ record { name = word; shape = s } ∷ [] in
          let rest = bound _ (members_at order clocks spot now more) ms c.2 in
          let others = parts_of (map member_part rest.0) in
          subst (λ xs. LeadsInMembers (parts_of (map member_part xs)) after around done) (same_Some (named_by word c.0 ∷ rest.0) ms rest.2)
          (subst (λ (p : forms.Part). LeadsInMembers (forms.part p.0 p.1 others) after around done) (sym (member_made word c.0)) (
            class_leads (at_member spot earlier word) s c.0 (done ∷ around) (d, g) b c.1,
            members_lead spot now more rest.0 around (done ++ form c.0 ∷ []) g b
                (pairs_more (λ f k. Seen f.shape k) earlier done (record { name = word; shape = s }) (form c.0) d (class_seen (at_member spot earlier word) s c.0 c.1)) rest.1,
          ))

      options_lead : (spot : Spot) (options : Members) (os : List Member) (around : Around) → SeenAround after spot.around around → Each (GoodScope after) spot.before
          → options_at order clocks spot options ≡ Some os → LeadsInOptions (parts_of (map member_part os)) after around
      options_lead spot no_member os around g b e = subst (λ xs. LeadsInOptions (parts_of (map member_part xs)) after around) (same_Some [] os e) tt
      options_lead spot (member word s more) os around g b e =
          let c = bound _ (class_at order clocks spot s) os e in
          let rest = bound _ (options_at order clocks spot more) os c.2 in
          let others = parts_of (map member_part rest.0) in
          subst (λ xs. LeadsInOptions (parts_of (map member_part xs)) after around) (same_Some (named_by word c.0 ∷ rest.0) os rest.2)
          (subst (λ (p : forms.Part). LeadsInOptions (forms.part p.0 p.1 others) after around) (sym (member_made word c.0))
          (class_leads spot s c.0 around g b c.1, options_lead spot more rest.0 around g b rest.1))
