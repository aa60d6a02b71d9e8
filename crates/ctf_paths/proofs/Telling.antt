-- Classes of members and options, one after another, and what is kept of them.
use Rattle.std.proofs.Common.{◌≡◌, ◌⊎◌, ℕ, ◌+◌, max, List, [], ◌∷◌, ◌++◌, take, drop, Option, Some, Ok, Err, inl, inr, refl, ap, sym, subst, ◌∙◌, append_assoc}
use Rattle.std.specs.Prelude.{slice_get}
use Rattle.ctf_bits.specs.declared.number.Order.{Order}
use Rattle.ctf_class.specs.declared.class.Class.{Class}
use Rattle.ctf_class.specs.declared.class.Kind.{Kind}
use Rattle.ctf_class.specs.declared.class.Kind.TheVariants as kind
use Rattle.ctf_class.specs.declared.class.Member.{Member}
use Rattle.ctf_class.specs.declared.route.Length.TheVariants as lengths
use Rattle.ctf_class.specs.declared.route.Route.{Route}
use Rattle.ctf_class.specs.declared.span.Label.{Label}
use Rattle.ctf_class.specs.declared.trace.Clock.{Clock}
use Rattle.ctf_meaning.specs.declared.fault.ResolveFault.{ResolveFault}
use Rattle.ctf_meaning.specs.declared.fault.ResolveFault.TheVariants.{NoMemory, LengthOrTag}
use Rattle.ctf_meaning.specs.Name.{Word, Words}
use Rattle.ctf_meaning.specs.Shapes.{Shape, Field, Members, integer, float, string, enum, struct, variant, array, sequence, no_member, member, fields_in, align_of, depth_of, depth_of_members, nodes_of, nodes_of_members}
use Rattle.ctf_meaning.specs.Paths.{Spot, at_member, below, length_at, tag_at}
use Rattle.ctf_meaning.specs.Links.{mapping_faults, array_kind, choices_of, class_by, named_by}
use Rattle.ctf_meaning_steps.specs.Told.{Told, ◌>>=◌, unless, there_or}
use Rattle.ctf_meaning_steps.specs.Linking.{class_told, members_told, options_told}
use Rattle.ctf_paths.proofs.Lists.{drop_get, take_get}
use Rattle.ctf_paths.specs.Telling.{each_told, member_told, option_told, depth_in, nodes_in, class_around}

-- a fault that is reported, unless an allocation failed
abbrev Fails : {A : Type 0} → Told A → ResolveFault → Type 0
Fails told fault = (fault ≡ NoMemory) ⊎ (told ≡ Err fault)

pub bind_fails : {A B : Type 0} (told : Told A) (f : A → Told B) (fault : ResolveFault) → Fails told fault → Fails (told >>= f) fault
bind_fails told f fault e = elim e [ inl refused ↦ inl refused | inr is ↦ inr (ap (λ t. t >>= f) is) ]

-- that these are the same fails alike
pub same_fails : {A : Type 0} (a b : Told A) (fault : ResolveFault) → a ≡ b → Fails a fault → Fails b fault
same_fails a b fault e h = subst (λ t. Fails t fault) e h

-- what a class keeps of its shape
record Keeps (shape : Shape) (c : Class) : Type 0 where
  align : c.align ≡ align_of shape
  depth : c.depth ≡ depth_of shape
  nodes : c.nodes ≡ nodes_of shape

abbrev told : Class → Told Class
told c = Ok c

keeps_made : (shape : Shape) (what : Kind) (c : Class) → told (class_by shape what) ≡ told c → Keeps shape c
keeps_made shape what c e =
    let same : class_by shape what ≡ c = cc in
    record { align = sym (ap (λ (x : Class). x.align) same); depth = sym (ap (λ (x : Class). x.depth) same); nodes = sym (ap (λ (x : Class). x.nodes) same) }

keeps_bind : {A : Type 0} (shape : Shape) (c : Class) (told : Told A) (f : A → Told Class) → ((a : A) → f a ≡ Ok c → Keeps shape c) → (told >>= f) ≡ Ok c → Keeps shape c
keeps_bind shape c (Ok a) f h e = h a e
keeps_bind shape c (Err fault) f h e = absurd (cc)

keeps_unless : (shape : Shape) (c : Class) (faults : List ResolveFault) (told : Told Class) → (told ≡ Ok c → Keeps shape c) → unless faults told ≡ Ok c → Keeps shape c
keeps_unless shape c [] told h e = h e
keeps_unless shape c (fault ∷ more) told h e = absurd (cc)

-- The trace's order and clocks.
module _ (order : Order) (clocks : List Clock) where
  keeps : (spot : Spot) (shape : Shape) (c : Class) → class_told order clocks spot shape ≡ Ok c → Keeps shape c
  keeps spot (integer i) c e = keeps_unless (integer i) c (mapping_faults clocks (spot, integer i)) _ (λ h. keeps_made (integer i) _ c h) e
  keeps spot float c e = absurd (cc)
  keeps spot string c e = keeps_made string kind.String c e
  keeps spot (enum i labels) c e = keeps_unless (enum i labels) c (mapping_faults clocks (spot, enum i labels)) _ (λ h. keeps_made (enum i labels) _ c h) e
  keeps spot (struct align members) c e =
      keeps_bind (struct align members) c (members_told order clocks spot [] members) _ (λ ms h. keeps_made (struct align members) (kind.Structure ms) c h) e
  keeps spot (variant tag options) c e =
      keeps_bind (variant tag options) c (there_or LengthOrTag (tag_at spot tag)) _ (λ found h.
      keeps_bind (variant tag options) c (options_told order clocks (below spot) options) _ (λ os g.
      keeps_made (variant tag options) (kind.Variant found.0 (choices_of (fields_in options) found.1) os) c g) h) e
  keeps spot (array count element) c e =
      keeps_bind (array count element) c (class_told order clocks (below spot) element) _ (λ k h. keeps_made (array count element) (array_kind (lengths.Fixed count) element k) c h) e
  keeps spot (sequence path element) c e =
      keeps_bind (sequence path element) c (there_or LengthOrTag (length_at spot path)) _ (λ route h.
      keeps_bind (sequence path element) c (class_told order clocks (below spot) element) _ (λ k g.
      keeps_made (sequence path element) (array_kind (lengths.Field route) element k) c g) h) e

  more_told : (at : List Field → Field → Told Member) (earlier : List Field) (fs : List Field) (rest : Told (List Member)) (word : Word) (told : Told Class) → rest ≡ each_told at earlier fs
      → (told >>= λ c. rest >>= λ ms. Ok (named_by word c ∷ ms)) ≡ ((told >>= λ c. Ok (named_by word c)) >>= λ m. each_told at earlier fs >>= λ ms. Ok (m ∷ ms))
  more_told at earlier fs rest word (Ok c) e = ap (λ t. t >>= λ ms. Ok (named_by word c ∷ ms)) e
  more_told at earlier fs rest word (Err fault) e = refl

  members-each : (spot : Spot) (earlier : List Field) (ms : Members) → members_told order clocks spot earlier ms ≡ each_told (member_told order clocks spot) earlier (fields_in ms)
  members-each spot earlier no_member = refl
  members-each spot earlier (member word shape more) =
      let next = earlier ++ record { name = word; shape = shape } ∷ [] in
      more_told (member_told order clocks spot) next (fields_in more) (members_told order clocks spot next more) word (class_told order clocks (at_member spot earlier word) shape) (members-each spot next more)

  options-each : (spot : Spot) (earlier : List Field) (ms : Members) → options_told order clocks spot ms ≡ each_told (option_told order clocks spot) earlier (fields_in ms)
  options-each spot earlier no_member = refl
  options-each spot earlier (member word shape more) =
      let next = earlier ++ record { name = word; shape = shape } ∷ [] in
      more_told (option_told order clocks spot) next (fields_in more) (options_told order clocks spot more) word (class_told order clocks spot shape) (options-each spot next more)

-- what leads to a value
bind_ok : {A B : Type 0} (t : Told A) (f : A → Told B) (b : B) → (t >>= f) ≡ Ok b → (a : A) × (t ≡ Ok a) × (f a ≡ Ok b)
bind_ok (Ok a) f b e = (a, refl, e)
bind_ok (Err fault) f b e = absurd (cc)

-- what members keep of their shapes, all together
record Sums (ms : Members) (made : List Member) : Type 0 where
  depth : depth_in made ≡ depth_of_members ms
  nodes : nodes_in made ≡ nodes_of_members ms

abbrev KeptAt : (List Field → Field → Told Member) → Type 0
KeptAt at = (earlier : List Field) (f : Field) (m : Member) → at earlier f ≡ Ok m → Keeps f.shape m.class

abbrev some_members : List Member → Told (List Member)
some_members ms = Ok ms

abbrev a_member : Member → Told Member
a_member m = Ok m

same_members : (a b : List Member) → some_members a ≡ some_members b → a ≡ b
same_members a b e = cc

same_member : (a b : Member) → a_member a ≡ a_member b → a ≡ b
same_member a b e = cc

sums_kept : (at : List Field → Field → Told Member) → KeptAt at → (earlier : List Field) (ms : Members) (made : List Member) → each_told at earlier (fields_in ms) ≡ Ok made → Sums ms made
sums_kept at kept earlier no_member made e =
    let same = same_members [] made e in
    record { depth = ap depth_in (sym same); nodes = ap nodes_in (sym same) }
sums_kept at kept earlier (member word shape more) made e =
    let f : Field = record { name = word; shape = shape } in
    let next = earlier ++ f ∷ [] in
    let one = bind_ok (at earlier f) (λ m. each_told at next (fields_in more) >>= λ ms. Ok (m ∷ ms)) made e in
    let rest = bind_ok (each_told at next (fields_in more)) (λ ms. Ok (one.0 ∷ ms)) made one.2 in
    let same = same_members (one.0 ∷ rest.0) made rest.2 in
    let k = kept earlier f one.0 one.1 in
    let all = sums_kept at kept next more rest.0 rest.1 in
    record {
      depth = ap depth_in (sym same) ∙ (λ i. max (k.depth i) (all.depth i));
      nodes = ap nodes_in (sym same) ∙ (λ i. k.nodes i + all.nodes i);
    }

named_kept : (word : Word) (shape : Shape) (told : Told Class) (m : Member) → ((c : Class) → told ≡ Ok c → Keeps shape c) → (told >>= λ c. Ok (named_by word c)) ≡ Ok m → Keeps shape m.class
named_kept word shape told m kept e =
    let one = bind_ok told (λ c. Ok (named_by word c)) m e in
    let same = same_member (named_by word one.0) m one.2 in
    subst (Keeps shape) (ap (λ (x : Member). x.class) same) (kept one.0 one.1)

row_joined : (m : Member) (made : List Member) (told : Told (List Member)) → (told >>= λ ms. Ok ((made ++ m ∷ []) ++ ms)) ≡ ((told >>= λ ms. Ok (m ∷ ms)) >>= λ ms. Ok (made ++ ms))
row_joined m made (Ok ms) = ap some_members (append_assoc made (m ∷ []) ms)
row_joined m made (Err fault) = refl

-- one row more
pub row_ok : (at : List Field → Field → Told Member) (fs : List Field) (i : ℕ) (f : Field) (m : Member) (made : List Member) → slice_get fs i ≡ Some f → at (take i fs) f ≡ Ok m
    → (each_told at (take (i + 1) fs) (drop (i + 1) fs) >>= λ ms. Ok ((made ++ m ∷ []) ++ ms)) ≡ (each_told at (take i fs) (drop i fs) >>= λ ms. Ok (made ++ ms))
row_ok at fs i f m made here is =
    ap (λ earlier. each_told at earlier (drop (i + 1) fs) >>= λ ms. Ok ((made ++ m ∷ []) ++ ms)) (take_get fs i f here)
    ∙ row_joined m made (each_told at (take i fs ++ f ∷ []) (drop (i + 1) fs))
    ∙ ap (λ t. (t >>= λ m. each_told at (take i fs ++ f ∷ []) (drop (i + 1) fs) >>= λ ms. Ok (m ∷ ms)) >>= λ ms. Ok (made ++ ms)) (sym is)
    ∙ ap (λ xs. each_told at (take i fs) xs >>= λ ms. Ok (made ++ ms)) (sym (drop_get fs i f here))

pub row_fails : (at : List Field → Field → Told Member) (fs : List Field) (i : ℕ) (f : Field) (made : List Member) (fault : ResolveFault) → slice_get fs i ≡ Some f → Fails (at (take i fs) f) fault
    → Fails (each_told at (take i fs) (drop i fs) >>= λ ms. Ok (made ++ ms)) fault
row_fails at fs i f made fault here e =
    let rest = λ (m : Member). each_told at (take i fs ++ f ∷ []) (drop (i + 1) fs) >>= λ ms. Ok (m ∷ ms) in
    let first = bind_fails (at (take i fs) f) rest fault e in
    let row = bind_fails (at (take i fs) f >>= rest) (λ ms. Ok (made ++ ms)) fault first in
    same_fails _ _ fault (ap (λ xs. each_told at (take i fs) xs >>= λ ms. Ok (made ++ ms)) (sym (drop_get fs i f here))) row

-- The trace's order and clocks.
module _ (order : Order) (clocks : List Clock) where
  members_kept : (spot : Spot) → KeptAt (member_told order clocks spot)
  members_kept spot earlier f m e =
      named_kept f.name f.shape (class_told order clocks (at_member spot earlier f.name) f.shape) m (λ c h. keeps order clocks (at_member spot earlier f.name) f.shape c h) e

  options_kept : (spot : Spot) → KeptAt (option_told order clocks spot)
  options_kept spot earlier f m e =
      named_kept f.name f.shape (class_told order clocks spot f.shape) m (λ c h. keeps order clocks spot f.shape c h) e

  pub structure_told : (spot : Spot) (align : ℕ) (ms : Members) (made : List Member) (r : Class) → each_told (member_told order clocks spot) [] (fields_in ms) ≡ Ok made
      → r ≡ class_around align (depth_in made) (nodes_in made) (kind.Structure made) → class_told order clocks spot (struct align ms) ≡ Ok r
  structure_told spot align ms made r e is =
      let sums = sums_kept (member_told order clocks spot) (members_kept spot) [] ms made e in
      ap (λ t. t >>= λ ms'. Ok (class_by (struct align ms) (kind.Structure ms'))) (members-each order clocks spot [] ms ∙ e)
      ∙ sym (λ i. told (class_around align (sums.depth i) (sums.nodes i) (kind.Structure made)))
      ∙ ap told (sym is)

  pub structure_fails : (spot : Spot) (align : ℕ) (ms : Members) (fault : ResolveFault) → Fails (each_told (member_told order clocks spot) [] (fields_in ms)) fault → Fails (class_told order clocks spot (struct align ms)) fault
  structure_fails spot align ms fault e =
      bind_fails (members_told order clocks spot [] ms) (λ ms'. Ok (class_by (struct align ms) (kind.Structure ms'))) fault (same_fails _ _ fault (sym (members-each order clocks spot [] ms)) e)

  -- the class of a variant, once its tag is found
  abbrev after_tag : Spot → Option Words → Members → Route × List Label → Told Class
  after_tag spot tag ms found = options_told order clocks (below spot) ms >>= λ os. Ok (class_by (variant tag ms) (kind.Variant found.0 (choices_of (fields_in ms) found.1) os))

  pub variant_told : (spot inner : Spot) (tag : Option Words) (ms : Members) (found : Route × List Label) (made : List Member) (r : Class) → there_or LengthOrTag (tag_at spot tag) ≡ Ok found → inner ≡ below spot
      → each_told (option_told order clocks inner) [] (fields_in ms) ≡ Ok made
      → r ≡ class_around 1 (depth_in made) (nodes_in made) (kind.Variant found.0 (choices_of (fields_in ms) found.1) made) → class_told order clocks spot (variant tag ms) ≡ Ok r
  variant_told spot inner tag ms found made r there at e is =
      let each = ap (λ (s : Spot). each_told (option_told order clocks s) [] (fields_in ms)) (sym at) ∙ e in
      let sums = sums_kept (option_told order clocks (below spot)) (options_kept (below spot)) [] ms made each in
      let what = kind.Variant found.0 (choices_of (fields_in ms) found.1) made in
      ap (λ t. t >>= after_tag spot tag ms) there
      ∙ ap (λ t. t >>= λ os. Ok (class_by (variant tag ms) (kind.Variant found.0 (choices_of (fields_in ms) found.1) os))) (options-each order clocks (below spot) [] ms ∙ each)
      ∙ sym (λ i. told (class_around 1 (sums.depth i) (sums.nodes i) what))
      ∙ ap told (sym is)

  pub variant_fails : (spot inner : Spot) (tag : Option Words) (ms : Members) (found : Route × List Label) (fault : ResolveFault) → there_or LengthOrTag (tag_at spot tag) ≡ Ok found → inner ≡ below spot
      → Fails (each_told (option_told order clocks inner) [] (fields_in ms)) fault → Fails (class_told order clocks spot (variant tag ms)) fault
  variant_fails spot inner tag ms found fault there at e =
      let same = ap (λ (s : Spot). each_told (option_told order clocks s) [] (fields_in ms)) at ∙ sym (options-each order clocks (below spot) [] ms) in
      let options = bind_fails (options_told order clocks (below spot) ms) (λ os. Ok (class_by (variant tag ms) (kind.Variant found.0 (choices_of (fields_in ms) found.1) os))) fault (same_fails _ _ fault same e) in
      same_fails _ _ fault (ap (λ t. t >>= after_tag spot tag ms) (sym there)) options

  pub array_told : (spot inner : Spot) (count : ℕ) (element : Shape) (c r : Class) → inner ≡ below spot → class_told order clocks inner element ≡ Ok c
      → r ≡ class_around c.align c.depth c.nodes (array_kind (lengths.Fixed count) element c) → class_told order clocks spot (array count element) ≡ Ok r
  array_told spot inner count element c r at e is =
      let k = keeps order clocks inner element c e in
      ap (λ s. class_told order clocks s element >>= λ c. Ok (class_by (array count element) (array_kind (lengths.Fixed count) element c))) (sym at)
      ∙ ap (λ t. t >>= λ c. Ok (class_by (array count element) (array_kind (lengths.Fixed count) element c))) e
      ∙ sym (λ i. told (class_around (k.align i) (k.depth i) (k.nodes i) (array_kind (lengths.Fixed count) element c)))
      ∙ ap told (sym is)

  pub sequence_told : (spot inner : Spot) (path : Words) (element : Shape) (route : Route) (c r : Class) → there_or LengthOrTag (length_at spot path) ≡ Ok route → inner ≡ below spot → class_told order clocks inner element ≡ Ok c
      → r ≡ class_around c.align c.depth c.nodes (array_kind (lengths.Field route) element c) → class_told order clocks spot (sequence path element) ≡ Ok r
  sequence_told spot inner path element route c r there at e is =
      let k = keeps order clocks inner element c e in
      ap (λ t. t >>= λ route. class_told order clocks (below spot) element >>= λ c. Ok (class_by (sequence path element) (array_kind (lengths.Field route) element c))) there
      ∙ ap (λ s. class_told order clocks s element >>= λ c. Ok (class_by (sequence path element) (array_kind (lengths.Field route) element c))) (sym at)
      ∙ ap (λ t. t >>= λ c. Ok (class_by (sequence path element) (array_kind (lengths.Field route) element c))) e
      ∙ sym (λ i. told (class_around (k.align i) (k.depth i) (k.nodes i) (array_kind (lengths.Field route) element c)))
      ∙ ap told (sym is)
