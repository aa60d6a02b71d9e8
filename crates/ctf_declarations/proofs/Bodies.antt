-- Members of a body, one item after another.
use Rattle.std.proofs.Common.{◌≡◌, ℕ, ◌+◌, ◌<◌, true, false, nat_lt, ◌||◌, List, [], ◌∷◌, ◌++◌, map, drop, take, length, get_or, Result, Ok, Err, Some, refl, ap, sym, ◌∙◌}
use Rattle.std.proofs.Common.{append_assoc}
use Rattle.std.specs.List.{list_any}
use Rattle.std.proofs.lemmas.List.{map-append}
use Rattle.std.proofs.lemmas.Grind.{take_at_read}
use Rattle.tsdl_tree.specs.declared.tree.Item.{Item}
use Rattle.tsdl_tree.specs.declared.tree.TypeDeclaration.{TypeDeclaration}
use Rattle.tsdl_tree.specs.declared.tree.Declarator.{Declarator}
use Rattle.ctf_meaning.specs.declared.fault.ResolveFault.{ResolveFault}
use Rattle.ctf_meaning.specs.declared.fault.ResolveFault.TheVariants.{TooDeep}
use Rattle.ctf_meaning.specs.Parts.{Given, own_name}
use Rattle.ctf_meaning.specs.Reading.{item_of}
use Rattle.ctf_meaning.specs.Settings.{when}
use Rattle.ctf_meaning.specs.Shapes.{Shape, Field, arrays, declared, depth_of}
use Rattle.ctf_meaning.specs.Own.{most_deep}
use Rattle.ctf_meaning.specs.Written.{Form, Fields, items_from}
use Rattle.ctf_meaning_steps.specs.Told.{Told, ◌>>=◌, unless, Follows}
use Rattle.ctf_meaning_steps.specs.Seen.{Seen, within, declare}
use Rattle.ctf_meaning_steps.specs.Classes.{fields_told, has_deep, field_faults}
use Rattle.ctf_meaning_steps.specs.Items.{Made, shape_told, item_told, body_told}
use Rattle.ctf_declarations.specs.Given.{item_form}
use Rattle.ctf_declarations.specs.Members.{member_told, names_told}
use Rattle.ctf_declarations.proofs.Steps.{Tell, tell_same, bind_fault, unless_bind, follows_same, follows_map, drop_next}
use Rattle.ctf_declarations.proofs.Forms.{no_fields}

pub append_none : {X : Type 0} (xs : List X) → xs ++ [] ≡ xs
append_none [] = refl
append_none (x ∷ xs) = ap (λ l. x ∷ l) (append_none xs)

abbrev pair : Seen → List Field → Seen × List Field
pair own fields = (own, fields)

-- what follows a value that is made where there is no fault
bind_unless : {A B C : Type 0} (t : Told A) (faults : A → List ResolveFault) (f : A → B) (g : B → Told C) →
    (t >>= λ a. unless (faults a) (g (f a))) ≡ ((t >>= λ a. unless (faults a) (Ok (f a))) >>= g)
bind_unless (Ok a) faults f g = unless_bind (faults a) (Ok (f a)) g
bind_unless (Err e) faults f g = refl

-- a declaration of names has no member
types_made : (t : Told Made) (fields : List Field) (g : Shape → List Field) → ((s : Shape) → g s ≡ []) →
    ((t >>= λ made. Ok made.own) >>= λ own. Ok (pair own fields)) ≡ (t >>= λ made. unless (field_faults (g made.shape)) (Ok (pair made.own (fields ++ g made.shape))))
types_made (Ok made) fields g none =
    ap (λ (l : List Field). Ok (pair made.own l)) (sym (append_none fields))
    ∙ ap (λ (l : List Field). unless (field_faults l) (Ok (pair made.own (fields ++ l)))) (sym (none made.shape))
types_made (Err f) fields g none = refl

pub member_types : {V : Type 0} (outer own : Seen) (fields : List Field) (d : TypeDeclaration) (view : V → Seen) (r : Result V ResolveFault) →
    Follows (names_told outer own (item_of d)) view r → Follows (member_told outer (own, fields) (item_of d)) (λ v. pair (view v) fields) r
member_types outer own fields d view r h =
    follows_same (λ v. pair (view v) fields) r (names_told outer own (item_of d) >>= λ o. Ok (pair o fields)) (member_told outer (own, fields) (item_of d))
    (types_made (item_told outer own (item_of d)) fields (fields_told (item_of d)) (no_fields d))
    (follows_map (names_told outer own (item_of d)) view (λ o. pair o fields) r h)

module _ (outer own : Seen) (fields : List Field) (xs : List Item) (i : ℕ) (x : Item) (is : x ≡ get_or xs i x) (h : i < length xs) where
  split : body_told outer own fields (items_from (map item_form (drop i xs))) ≡ (member_told outer (own, fields) (item_form x) >>= λ n. body_told outer n.0 n.1 (items_from (map item_form (drop (i + 1) xs))))
  split =
      ap (λ l. body_told outer own fields (items_from (map item_form l))) (drop_next xs i x is h)
      ∙ bind_unless (item_told outer own (item_form x)) (λ made. field_faults (fields_told (item_form x) made.shape)) (λ made. pair made.own (fields ++ fields_told (item_form x) made.shape)) (λ n. body_told outer n.0 n.1 (items_from (map item_form (drop (i + 1) xs))))

  pub body_next : (after : Seen × List Field) → member_told outer (own, fields) (item_form x) ≡ Ok after →
      body_told outer after.0 after.1 (items_from (map item_form (drop (i + 1) xs))) ≡ body_told outer own fields (items_from (map item_form (drop i xs)))
  body_next after e = sym (split ∙ ap (λ t. t >>= λ n. body_told outer n.0 n.1 (items_from (map item_form (drop (i + 1) xs)))) e)

  pub body_fault : (f : ResolveFault) → Tell (member_told outer (own, fields) (item_form x)) f → Tell (body_told outer own fields (items_from (map item_form (drop i xs)))) f
  body_fault f e =
      tell_same (member_told outer (own, fields) (item_form x) >>= λ n. body_told outer n.0 n.1 (items_from (map item_form (drop (i + 1) xs)))) (body_told outer own fields (items_from (map item_form (drop i xs)))) f (sym split)
      (bind_fault (member_told outer (own, fields) (item_form x)) (λ n. body_told outer n.0 n.1 (items_from (map item_form (drop (i + 1) xs)))) f e)

-- a declarator's member
pub declared_more : (shape : Shape) (ds : List Declarator) (d : Declarator) → declared (Some shape) (ds ++ d ∷ []) ≡ declared (Some shape) ds ++ record { name = d.name; shape = arrays d.lengths shape } ∷ []
declared_more shape [] d = refl
declared_more shape (x ∷ ds) d = ap (λ l. record { name = x.name; shape = arrays x.lengths shape } ∷ l) (declared_more shape ds d)

-- whether some declarator's member is too deep
pub deep_declared : (shape : Shape) (ds : List Declarator) → list_any (λ d. nat_lt most_deep (depth_of (arrays d.lengths shape))) ds ≡ has_deep (declared (Some shape) ds)
deep_declared shape [] = refl
deep_declared shape (d ∷ ds) = ap (λ b. nat_lt most_deep (depth_of (arrays d.lengths shape)) || b) (deep_declared shape ds)

-- The members of a class that is written, after its own name.
module _ (outer own : Seen) (fields : List Field) (i : Item) (form : Form) (ds : List Declarator) (shape : Shape) (after : Seen) (gs : List Given)
    (is : item_form i ≡ Fields form ds) (told : shape_told (within own outer) form ≡ Ok shape) (named : own_name form ≡ gs) (given : declare own shape gs ≡ Ok after) where
  abbrev members_after : Made → Told (Seen × List Field)
  members_after made = unless (field_faults (declared (Some made.shape) ds)) (Ok (pair made.own (fields ++ declared (Some made.shape) ds)))

  member_fields : member_told outer (own, fields) (item_form i) ≡ unless (field_faults (declared (Some shape) ds)) (Ok (pair after (fields ++ declared (Some shape) ds)))
  member_fields =
      ap (member_told outer (own, fields)) is
      ∙ ap (λ t. (t >>= λ s. declare own s (own_name form) >>= λ a. Ok (record { shape = s; own = a })) >>= members_after) told
      ∙ ap (λ t. (t >>= λ a. Ok (record { shape = shape; own = a })) >>= members_after) (ap (declare own shape) named ∙ given)

  pub member_deep : list_any (λ d. nat_lt most_deep (depth_of (arrays d.lengths shape))) ds ≡ true → member_told outer (own, fields) (item_form i) ≡ Err TooDeep
  member_deep h = member_fields ∙ ap (λ b. unless (when b TooDeep) (Ok (pair after (fields ++ declared (Some shape) ds)))) (sym (deep_declared shape ds) ∙ h)

  pub member_fits : list_any (λ d. nat_lt most_deep (depth_of (arrays d.lengths shape))) ds ≡ false → (all : List Field) → all ≡ fields ++ declared (Some shape) ds →
      member_told outer (own, fields) (item_form i) ≡ Ok (after, all)
  member_fits h all e =
      member_fields ∙ ap (λ b. unless (when b TooDeep) (Ok (pair after (fields ++ declared (Some shape) ds)))) (sym (deep_declared shape ds) ∙ h) ∙ ap (λ (l : List Field). Ok (pair after l)) (sym e)

-- the members of one declarator more
module _ (shape : Shape) (ds : List Declarator) (i : ℕ) (d : Declarator) (is : d ≡ get_or ds i d) (h : i < length ds) where
  pub declared_next : declared (Some shape) (take (i + 1) ds) ≡ declared (Some shape) (take i ds) ++ record { name = d.name; shape = arrays d.lengths shape } ∷ []
  declared_next =
      ap (declared (Some shape)) ((take_at_read ds i d h).1 ∙ ap (λ x. take i ds ++ x ∷ []) (sym is))
      ∙ declared_more shape (take i ds) d

pub pushed : {X : Type 0} (view : X → Field) (old items after : List X) (x : X) (more next : List Field) (f : Field) → after ≡ items ++ x ∷ [] → view x ≡ f → map view items ≡ map view old ++ more → next ≡ more ++ f ∷ [] → map view after ≡ map view old ++ next
pushed view old items after x more next f e v m n =
    ap (map view) e ∙ map-append view items (x ∷ []) ∙ ap (λ l. l ++ view x ∷ []) m ∙ ap (λ y. (map view old ++ more) ++ y ∷ []) v
    ∙ append_assoc (map view old) more (f ∷ []) ∙ ap (λ l. map view old ++ l) (sym n)
