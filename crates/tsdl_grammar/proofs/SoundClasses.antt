-- What is read is spelled so: classes, declarations of names and bodies.
use Rattle.std.proofs.Common.{ℕ, zero, suc, Bool, true, false, List, ◌∷◌, ◌++◌, Option, Some, None, refl}
use Rattle.std.proofs.lemmas.List.{append-nil}
use Rattle.tsdl_text.specs.declared.token.Symbol.TheVariants as s
use Rattle.tsdl_text.specs.declared.token.Token.{Token}
use Rattle.tsdl_tree.specs.declared.tree.Typename.{Typename}
use Rattle.tsdl_tree.specs.declared.tree.Declarator.{Declarator}
use Rattle.tsdl_tree.specs.declared.tree.Reference.TheVariants as references
use Rattle.tsdl_tree.specs.declared.tree.Specifier.{Specifier}
use Rattle.tsdl_tree.specs.declared.tree.Specifier.TheVariants as classes
use Rattle.tsdl_tree.specs.declared.tree.Compound.TheVariants as compounds
use Rattle.tsdl_tree.specs.declared.tree.TypeDeclaration.TheVariants as typedecls
use Rattle.tsdl_tree.specs.declared.tree.Item.{Item}
use Rattle.tsdl_tree.specs.declared.tree.Item.TheVariants as items
use Rattle.tsdl_grammar.specs.Terminals.{Word, Words, Is}
use Rattle.tsdl_grammar.specs.Repeats.{Many, Listed, Optional}
use Rattle.tsdl_grammar.specs.Grammar.{IsName, IsAlign, IsTag, IsContainer, IsTypename, IsDeclarator, IsCompoundName, IsClass, IsPlain, IsCompound, IsBody, AreItems, IsItem, IsTypedecl}
use Rattle.tsdl_grammar.specs.Steps.{Parse, begins, begins_compound, begins_labels}
use Rattle.tsdl_grammar.specs.Reading.{named_by, enum_at, integer_at, floating_point_at, string_at, declared_at, class_declared, fields_after, compound_after, alias_name_at, struct_at, variant_at, compound_at, plain_at, class_at, alias_at, definition_at, typedecl_at, item_at, body_at}
use Rattle.tsdl_grammar.proofs.ReadsTools.{Reads, Ended, reads_ended, reads_then, reads_last, reads_as, reads_done, reads_bad, reads_if, reads_token, reads_close, reads_past, reads_shut, reads_open, reads_loop, reads_optional}
use Rattle.tsdl_grammar.proofs.Sound.{identifier_reads, attributes_read, typename_reads, declarators_read, align_reads, tag_reads, container_reads, labels_read}
use Rattle.tsdl_grammar.proofs.CompleteCompounds.{IsEither}

-- ---- classes without bodies

enum_named : {d : ℕ} {t : Token} {n : Option Word} {us : List Token} (rest : List Token) → Is s.Enum t → Optional IsName n us → Reads (named_by references.Enum n rest) d d rest (λ c vs. IsEither c (t ∷ (us ++ vs)))
enum_named rest i Optional.none = reads_bad
enum_named rest i (Optional.some (IsName.name j)) = reads_done (IsEither.name (IsCompoundName.enum i j))

enum_reads : (d : ℕ) (ts : List Token) → Reads (enum_at d ts) d d ts IsEither
unfolding enum_at
enum_reads d ts = reads_token s.Enum _ refl (λ t rest i. reads_then _ (reads_optional _ _ IsName identifier_reads rest) (λ n rest us p. reads_if (begins_labels rest)
    (λ e. reads_then _ (reads_optional _ _ IsContainer (container_reads d) rest) (λ k rest vs q. reads_last (λ xs. classes.Compound n (compounds.Enum k xs)) (labels_read d rest) (λ xs ws r. IsEither.whole (IsCompound.enum i p q r))))
    (λ e. enum_named rest i p)))

integer_reads : (d : ℕ) (ts : List Token) → Reads (integer_at d ts) d d ts IsPlain
unfolding integer_at
integer_reads d ts = reads_token s.Integer _ refl (λ t rest i. reads_last (λ xs. classes.Integer xs) (attributes_read d rest) (λ xs us p. IsPlain.integer i p))

floating_point_reads : (d : ℕ) (ts : List Token) → Reads (floating_point_at d ts) d d ts IsPlain
unfolding floating_point_at
floating_point_reads d ts = reads_token s.FloatingPoint _ refl (λ t rest i. reads_last (λ xs. classes.FloatingPoint xs) (attributes_read d rest) (λ xs us p. IsPlain.floating_point i p))

string_reads : (d : ℕ) (ts : List Token) → Reads (string_at d ts) d d ts IsPlain
unfolding string_at
string_reads d ts = reads_token s.String _ refl (λ t rest i. reads_if (begins s.OpenBrace rest)
    (λ e. reads_last (λ xs. classes.String xs) (attributes_read d rest) (λ xs us p. IsPlain.string_with i p))
    (λ e. reads_done (IsPlain.string i)))

-- ---- what is after a class

-- that class, with declarators up to their semicolon
data IsDeclared (c : Specifier) : Specifier × List Declarator → List Token → Type 0 where
  declared : {ds : List Declarator} {ts : List Token} → Ended (Listed IsDeclarator) ds ts → IsDeclared c (c, ds) ts

class_declared_reads : {d : ℕ} (c : Specifier) (ts : List Token) → Reads (class_declared c ts) d d ts (IsDeclared c)
unfolding class_declared declared_at
class_declared_reads c ts = reads_last (λ ds. (c, ds)) (reads_ended (declarators_read ts)) (λ ds vs q. IsDeclared.declared q)

fields_of : {c : Specifier} {x : Specifier × List Declarator} {us vs : List Token} → IsClass c us → IsDeclared c x vs → IsItem (items.Fields x.0 x.1) (us ++ vs)
fields_of p (IsDeclared.declared (Ended.ended q i)) = IsItem.fields p q i

fields_after_read : {d : ℕ} {c : Specifier} {us : List Token} (ts : List Token) → IsClass c us → Reads (fields_after c ts) d d ts (λ x vs. IsItem x (us ++ vs))
unfolding fields_after
fields_after_read {c = c} ts p = reads_last (λ x. items.Fields x.0 x.1) (class_declared_reads c ts) (λ x vs q. fields_of p q)

-- the name of an alias, up to its semicolon
data IsAliasName : Typename → List Token → Type 0 where
  name : {a : Token} {n : Typename} {ts : List Token} → Is s.Assign a → Ended IsTypename n ts → IsAliasName n (a ∷ ts)

alias_name_reads : {d : ℕ} (ts : List Token) → Reads (alias_name_at ts) d d ts IsAliasName
unfolding alias_name_at
alias_name_reads ts = reads_token s.Assign _ refl (λ a rest i. reads_as (reads_ended (typename_reads false rest)) (λ n us q. IsAliasName.name i q))

alias_of : {t : Token} {c : Specifier} {n : Typename} {us vs : List Token} → Is s.Typealias t → IsClass c us → IsAliasName n vs → IsTypedecl (typedecls.Alias c n) (t ∷ (us ++ vs))
alias_of i p (IsAliasName.name j (Ended.ended q l)) = IsTypedecl.alias i p j q l

definition_of : {t : Token} {c : Specifier} {x : Specifier × List Declarator} {us vs : List Token} → Is s.Typedef t → IsClass c us → IsDeclared c x vs → IsTypedecl (typedecls.Definition x.0 x.1) (t ∷ (us ++ vs))
definition_of i p (IsDeclared.declared (Ended.ended q l)) = IsTypedecl.definition i p q l

compound_after_reads : {d : ℕ} {c : Specifier} {us : List Token} (ts : List Token) → IsEither c us → Reads (compound_after c ts) d d ts (λ x vs. IsTypedecl x (us ++ vs))
unfolding compound_after
compound_after_reads ts (IsEither.whole {n = Some n} p) = reads_token s.Semicolon _ refl (λ e rest i. reads_done (IsTypedecl.declared p i))
compound_after_reads ts (IsEither.whole {n = None} p) = reads_bad
compound_after_reads ts (IsEither.name p) = reads_bad

-- ---- compounds

either_plain : {c : Specifier} {ts : List Token} → IsEither c ts → IsPlain c ts
either_plain (IsEither.whole p) = IsPlain.compound p
either_plain (IsEither.name p) = IsPlain.compound_name p

struct_named : {d : ℕ} {t : Token} {n : Option Word} {us : List Token} (rest : List Token) → Is s.Struct t → Optional IsName n us → Reads (named_by references.Struct n rest) d d rest (λ c vs. IsEither c (t ∷ (us ++ vs)))
struct_named rest i Optional.none = reads_bad
struct_named rest i (Optional.some (IsName.name j)) = reads_done (IsEither.name (IsCompoundName.struct i j))

variant_named : {d : ℕ} {t : Token} {n : Option Word} {g : Option Words} {us vs : List Token} (rest : List Token) → Is s.Variant t → Optional IsName n us → Optional IsTag g vs
    → Reads (named_by (λ n. references.Variant n g) n rest) d d rest (λ c ws. IsEither c (t ∷ (us ++ (vs ++ ws))))
variant_named rest i Optional.none q = reads_bad
variant_named rest i (Optional.some (IsName.name j)) q = reads_done (rw append-nil (IsEither.name (IsCompoundName.variant i j q)))

module _ (body : Parse (List Item)) (d : ℕ) (h : (ts : List Token) → Reads (body ts) d d ts IsBody) where
  struct_reads : (ts : List Token) → Reads (struct_at body ts) d d ts IsEither
  unfolding struct_at
  struct_reads ts = reads_token s.Struct _ refl (λ t rest i. reads_then _ (reads_optional _ _ IsName identifier_reads rest) (λ n rest us p. reads_if (begins s.OpenBrace rest)
      (λ e. reads_then _ (h rest) (λ es rest vs q. reads_last (λ a. classes.Compound n (compounds.Struct es a)) (reads_optional _ _ IsAlign align_reads rest) (λ a ws r. IsEither.whole (IsCompound.struct i p q r))))
      (λ e. struct_named rest i p)))

  variant_reads : (ts : List Token) → Reads (variant_at body ts) d d ts IsEither
  unfolding variant_at
  variant_reads ts = reads_token s.Variant _ refl (λ t rest i. reads_then _ (reads_optional _ _ IsName identifier_reads rest) (λ n rest us p. reads_then _ (reads_optional _ _ IsTag tag_reads rest) (λ g rest vs q.
      reads_if (begins s.OpenBrace rest)
      (λ e. reads_last (λ es. classes.Compound n (compounds.Variant g es)) (h rest) (λ es ws r. IsEither.whole (IsCompound.variant i p q r)))
      (λ e. variant_named rest i p q))))

  compound_reads : (ts : List Token) → Reads (compound_at body d ts) d d ts IsEither
  unfolding compound_at
  compound_reads ts = reads_if (begins s.Struct ts) (λ e. struct_reads ts) (λ e. reads_if (begins s.Variant ts) (λ f. variant_reads ts) (λ f. enum_reads d ts))

  plain_reads : (before : Bool) (ts : List Token) → Reads (plain_at body before d ts) d d ts IsPlain
  unfolding plain_at
  plain_reads before ts = reads_if (begins s.Integer ts) (λ e. integer_reads d ts)
      (λ e. reads_if (begins s.FloatingPoint ts) (λ f. floating_point_reads d ts)
      (λ f. reads_if (begins s.String ts) (λ g. string_reads d ts)
      (λ g. reads_if (begins_compound ts) (λ l. reads_as (compound_reads ts) (λ c us p. either_plain p))
      (λ l. reads_last (λ n. classes.Named (references.Plain n)) (typename_reads before ts) (λ n us p. IsPlain.typename p)))))

  pub class_reads : (before : Bool) (ts : List Token) → Reads (class_at body before d ts) d d ts IsClass
  unfolding class_at
  class_reads before ts = reads_past s.Const ts (λ zs. plain_at body before d zs) refl
      (reads_as (plain_reads before ts) (λ c us p. IsClass.plain p))
      (λ q rest i. reads_as (plain_reads before rest) (λ c us p. IsClass.const i p))

  -- ---- declarations of names, items

  alias_reads : (ts : List Token) → Reads (alias_at body d ts) d d ts IsTypedecl
  unfolding alias_at
  alias_reads ts = reads_token s.Typealias _ refl (λ t rest i. reads_then _ (class_reads false rest) (λ c rest us p.
      reads_last (λ n. typedecls.Alias c n) (alias_name_reads rest) (λ n vs q. alias_of i p q)))

  definition_reads : (ts : List Token) → Reads (definition_at body d ts) d d ts IsTypedecl
  unfolding definition_at
  definition_reads ts = reads_token s.Typedef _ refl (λ t rest i. reads_then _ (class_reads true rest) (λ c rest us p.
      reads_last (λ x. typedecls.Definition x.0 x.1) (class_declared_reads c rest) (λ x vs q. definition_of i p q)))

  pub typedecl_reads : (ts : List Token) → Reads (typedecl_at body d ts) d d ts IsTypedecl
  unfolding typedecl_at
  typedecl_reads ts = reads_if (begins s.Typealias ts) (λ e. alias_reads ts)
      (λ e. reads_if (begins s.Typedef ts) (λ f. definition_reads ts)
      (λ f. reads_then _ (compound_reads ts) (λ c rest us p. compound_after_reads rest p)))

  item_reads : (ts : List Token) → Reads (item_at body d ts) d d ts IsItem
  unfolding item_at
  item_reads ts = reads_if (begins s.Typealias ts) (λ e. reads_last (λ x. items.Types x) (alias_reads ts) (λ x us p. IsItem.typedecl p))
      (λ e. reads_if (begins s.Typedef ts) (λ f. reads_last (λ x. items.Types x) (definition_reads ts) (λ x us p. IsItem.typedecl p))
      (λ f. reads_if (begins_compound ts)
      (λ g. reads_then _ (compound_reads ts) (λ c rest us p. reads_if (begins s.Semicolon rest)
      (λ l. reads_last (λ x. items.Types x) (compound_after_reads rest p) (λ x vs q. IsItem.typedecl q))
      (λ l. fields_after_read rest (IsClass.plain (either_plain p)))))
      (λ g. reads_then _ (class_reads true ts) (λ c rest us p. fields_after_read rest p))))

items_of : {es : List Item} {ts : List Token} → Many IsItem es ts → AreItems es ts
items_of Many.none = AreItems.none
items_of (Many.more p m) = AreItems.more p (items_of m)

pub body_reads : (d : ℕ) (ts : List Token) → Reads (body_at d ts) d d ts IsBody
unfolding body_at
body_reads zero ts = reads_shut _
body_reads (suc d) ts = reads_open d _ (λ o rest i. reads_then _ (reads_loop _ _ IsItem (item_reads (body_at d) d (body_reads d)) _ rest) (λ es rest us m. reads_close _ (λ c rest j. reads_done (IsBody.body i (items_of m) j))))
