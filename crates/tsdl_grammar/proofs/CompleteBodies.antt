-- Bodies and declarations of names that are spelled so are read, unless braces nest too deep.
use Rattle.std.proofs.Common.{◌≡◌, ℕ, zero, suc, ◌≤◌, inl, inr, Bool, true, false, cond, List, [], ◌∷◌, ◌++◌, length, Option, Some, refl, sym, append_assoc, arith}
use Rattle.std.proofs.lemmas.List.{length-append}
use Rattle.tsdl_text.specs.declared.token.Symbol.TheVariants as s
use Rattle.tsdl_text.specs.declared.token.Token.{Token}
use Rattle.tsdl_tree.specs.declared.tree.Declarator.{Declarator}
use Rattle.tsdl_tree.specs.declared.tree.Typename.{Typename}
use Rattle.tsdl_tree.specs.declared.tree.Reference.{Reference}
use Rattle.tsdl_tree.specs.declared.tree.Specifier.{Specifier}
use Rattle.tsdl_tree.specs.declared.tree.Specifier.TheVariants as classes
use Rattle.tsdl_tree.specs.declared.tree.Compound.{Compound}
use Rattle.tsdl_tree.specs.declared.tree.TypeDeclaration.{TypeDeclaration}
use Rattle.tsdl_tree.specs.declared.tree.TypeDeclaration.TheVariants as typedecls
use Rattle.tsdl_tree.specs.declared.tree.Item.{Item}
use Rattle.tsdl_tree.specs.declared.tree.Item.TheVariants as items
use Rattle.tsdl_grammar.specs.Terminals.{Word, Is}
use Rattle.tsdl_grammar.specs.Repeats.{Listed}
use Rattle.tsdl_grammar.specs.Grammar.{IsTypename, IsDeclarator, IsCompoundName, IsClass, IsPlain, IsCompound, IsBody, AreItems, IsItem, IsTypedecl}
use Rattle.tsdl_grammar.specs.Spelling.{run}
use Rattle.tsdl_grammar.specs.Steps.{Parse, loop, before_close}
use Rattle.tsdl_grammar.specs.Reading.{declared_at, class_declared, fields_after, compound_after, compound_at, plain_at, class_at, alias_name_at, alias_at, definition_at, typedecl_at, item_at, body_at}
use Rattle.tsdl_grammar.proofs.ComesTools.{Comes, comes_is, comes_then, deep_then, comes_as, comes_token, comes_more, comes_end, open_deep, open_is, not_empty, shorter, no_turn}
use Rattle.tsdl_grammar.proofs.Room.{is_other}
use Rattle.tsdl_grammar.proofs.ComesTokens.{no_run}
use Rattle.tsdl_grammar.proofs.CompleteParts.{typename_comes, declarators_come}
use Rattle.tsdl_grammar.proofs.CompleteCompounds.{Ends, ends_at, declarators_other, declarators_end, declarators_run, struct_name_comes, struct_comes, variant_name_comes, variant_comes, enum_name_comes, enum_comes, Opens, IsEither, either_opens, opens_is, opens_other}
use Rattle.tsdl_grammar.proofs.CompleteClasses.{plain_integer, plain_floating_point, plain_string, plain_string_with, plain_compound, plain_typename, class_const, class_of_plain, class_compound, class_begins, opens_begins, NoDeclaration, class_or}

-- ---- declarations of names

declared_come : {c : Specifier} {ds : List Declarator} {us : List Token} (e : Token) (post : List Token) → Listed IsDeclarator ds us → Is s.Semicolon e → Comes (class_declared c (us ++ (e ∷ post))) ((c, ds), post)
unfolding class_declared declared_at
declared_come e post q l = comes_then _ (comes_then _ (declarators_come q e post l) (comes_token _ l (comes_is refl))) (comes_is refl)

alias_comes : {t a e : Token} {c : Specifier} {n : Typename} (ts : List Token) {us : List Token} (body : Parse (List Item)) (d : ℕ) (post : List Token) → Is s.Typealias t → Is s.Assign a → IsTypename n us → Is s.Semicolon e
    → Comes (class_at body false d (ts ++ (a ∷ (us ++ (e ∷ post))))) (c, a ∷ (us ++ (e ∷ post))) → Comes (alias_at body d ((t ∷ (ts ++ (a ∷ (us ++ e ∷ [])))) ++ post)) (typedecls.Alias c n, post)
unfolding alias_at alias_name_at
alias_comes {e = e} ts body d post i j q l h =
    rw (append_assoc, append_assoc) (comes_token _ i (comes_then _ h (comes_then _ (comes_token _ j (comes_then _ (typename_comes q false (e ∷ post) (no_run post l refl)) (comes_token _ l (comes_is refl)))) (comes_is refl))))

definition_comes : {t e : Token} {c : Specifier} {ds : List Declarator} (ts : List Token) {us : List Token} (body : Parse (List Item)) (d : ℕ) (post : List Token) → Is s.Typedef t → Listed IsDeclarator ds us → Is s.Semicolon e
    → Comes (class_at body true d (ts ++ (us ++ (e ∷ post)))) (c, us ++ (e ∷ post)) → Comes (definition_at body d ((t ∷ (ts ++ (us ++ e ∷ []))) ++ post)) (typedecls.Definition c ds, post)
unfolding definition_at
definition_comes {e = e} ts body d post i q l h =
    rw (append_assoc, append_assoc) (comes_token _ i (comes_then _ h (comes_then _ (declared_come e post q l) (comes_is refl))))

after_comes : {e : Token} (n : Word) (c : Compound) (post : List Token) → Is s.Semicolon e → Comes (compound_after (classes.Compound (Some n) c) (e ∷ post)) (typedecls.Compound n c, post)
unfolding compound_after
after_comes n c post l = comes_token _ l (comes_is refl)

fields_come : {c : Specifier} {ds : List Declarator} {us : List Token} (e : Token) (post : List Token) → Listed IsDeclarator ds us → Is s.Semicolon e → Comes (fields_after c (us ++ (e ∷ post))) (items.Fields c ds, post)
unfolding fields_after
fields_come e post q i = comes_then _ (declared_come e post q i) (comes_is refl)

typedecl_alias : {t : Token} (ts : List Token) {x : TypeDeclaration × List Token} (body : Parse (List Item)) (d : ℕ) → Is s.Typealias t → Comes (alias_at body d (t ∷ ts)) x → Comes (typedecl_at body d (t ∷ ts)) x
unfolding typedecl_at
typedecl_alias ts body d i h = rw i.holds h

typedecl_definition : {t : Token} (ts : List Token) {x : TypeDeclaration × List Token} (body : Parse (List Item)) (d : ℕ) → Is s.Typedef t → Comes (definition_at body d (t ∷ ts)) x → Comes (typedecl_at body d (t ∷ ts)) x
unfolding typedecl_at
typedecl_definition ts body d i h = rw (is_other s.Typealias i refl, i.holds) h

typedecl_compound : {e : Token} {n : Word} {c : Compound} (ts : List Token) (body : Parse (List Item)) (d : ℕ) (post : List Token) → Opens (ts ++ (e ∷ post)) → Is s.Semicolon e
    → Comes (compound_at body d (ts ++ (e ∷ post))) (classes.Compound (Some n) c, e ∷ post) → Comes (typedecl_at body d ((ts ++ e ∷ []) ++ post)) (typedecls.Compound n c, post)
unfolding typedecl_at
typedecl_compound ts body d post o l h =
    rw (append_assoc, opens_other s.Typealias o refl refl refl, opens_other s.Typedef o refl refl refl) (comes_then _ h (after_comes _ _ post l))

-- ---- items

item_alias : {t : Token} (ts : List Token) {post : List Token} {x : TypeDeclaration} (body : Parse (List Item)) (d : ℕ) → Is s.Typealias t → Comes (alias_at body d (t ∷ ts)) (x, post) → Comes (item_at body d (t ∷ ts)) (items.Types x, post)
unfolding item_at
item_alias ts body d i h = rw i.holds (comes_then _ h (comes_is refl))

item_definition : {t : Token} (ts : List Token) {post : List Token} {x : TypeDeclaration} (body : Parse (List Item)) (d : ℕ) → Is s.Typedef t → Comes (definition_at body d (t ∷ ts)) (x, post) → Comes (item_at body d (t ∷ ts)) (items.Types x, post)
unfolding item_at
item_definition ts body d i h = rw (is_other s.Typealias i refl, i.holds) (comes_then _ h (comes_is refl))

item_compound : {e : Token} {n : Word} {c : Compound} (ts : List Token) (body : Parse (List Item)) (d : ℕ) (post : List Token) → Opens (ts ++ (e ∷ post)) → Is s.Semicolon e
    → Comes (compound_at body d (ts ++ (e ∷ post))) (classes.Compound (Some n) c, e ∷ post) → Comes (item_at body d ((ts ++ e ∷ []) ++ post)) (items.Types (typedecls.Compound n c), post)
unfolding item_at
item_compound ts body d post o l h =
    rw (append_assoc, opens_other s.Typealias o refl refl refl, opens_other s.Typedef o refl refl refl, opens_is o)
    (comes_then _ h (rw l.holds (comes_then _ (after_comes _ _ post l) (comes_is refl))))

-- the fields of a compound
fields_compound : {c : Specifier} {ds : List Declarator} (ts : List Token) {us : List Token} (body : Parse (List Item)) (d : ℕ) (e : Token) (post : List Token) → Opens ts → Listed IsDeclarator ds us → Is s.Semicolon e
    → Comes (compound_at body d ts) (c, us ++ (e ∷ post)) → Comes (item_at body d ts) (items.Fields c ds, post)
unfolding item_at
fields_compound ts body d e post o q l h =
    rw (opens_other s.Typealias o refl refl refl, opens_other s.Typedef o refl refl refl, opens_is o)
    (comes_then _ h (rw (declarators_other s.Semicolon q (e ∷ post)) (fields_come e post q l)))

-- the fields of another class
fields_other : {c : Specifier} {ds : List Declarator} (ts : List Token) {us : List Token} (body : Parse (List Item)) (d : ℕ) (e : Token) (post : List Token) → NoDeclaration ts → Listed IsDeclarator ds us → Is s.Semicolon e
    → Comes (class_at body true d ts) (c, us ++ (e ∷ post)) → Comes (item_at body d ts) (items.Fields c ds, post)
unfolding item_at
fields_other ts body d e post z q l h = rw (z.typealias, z.typedef, z.struct, z.variant, z.enum) (comes_then _ h (fields_come e post q l))

item_fields : {c : Specifier} {ds : List Declarator} {ts us : List Token} (body : Parse (List Item)) (d : ℕ) (e : Token) (post : List Token) → IsClass c ts → Listed IsDeclarator ds us → Is s.Semicolon e
    → Comes (class_at body true d (ts ++ (us ++ (e ∷ post)))) (c, us ++ (e ∷ post)) → Comes (item_at body d ((ts ++ (us ++ e ∷ [])) ++ post)) (items.Fields c ds, post)
item_fields {ts = ts} {us = us} body d e post p q l h =
    rw (append_assoc, append_assoc) (elim (class_or p (us ++ (e ∷ post))) [
      | inl k ↦ let o = either_opens k (us ++ (e ∷ post)) in fields_compound (ts ++ (us ++ (e ∷ post))) body d e post o q l (comes_as (sym (class_compound body true d o)) h)
      | inr z ↦ fields_other (ts ++ (us ++ (e ∷ post))) body d e post z q l h
    ])

-- an item begins with a token other than a closing brace
pub typedecl_begins : {x : TypeDeclaration} {ts : List Token} → IsTypedecl x ts → (post : List Token) → before_close (ts ++ post) ≡ true
typedecl_begins (IsTypedecl.alias i p j q l) post = rw (is_other s.CloseBrace i refl) refl
typedecl_begins (IsTypedecl.definition i p q l) post = rw (is_other s.CloseBrace i refl) refl
typedecl_begins (IsTypedecl.declared p l) post = rw append_assoc (opens_begins (either_opens (IsEither.whole p) _))

item_begins : {x : Item} {ts : List Token} → IsItem x ts → (post : List Token) → before_close (ts ++ post) ≡ true
item_begins (IsItem.fields p q l) post = rw append_assoc (class_begins p _)
item_begins (IsItem.typedecl p) post = typedecl_begins p post

-- ---- bodies

deep_body : {o : Token} {es : List Item} (ts : List Token) {post : List Token} → Is s.OpenBrace o → Comes (body_at 0 (o ∷ ts)) (es, post)
unfolding body_at
deep_body ts i = deep_then _ (open_deep _ i)

full_body : {o c : Token} {es : List Item} (ts : List Token) (d : ℕ) (post : List Token) → Is s.OpenBrace o → Is s.CloseBrace c
    → ((n : ℕ) → length ts ≤ n → Comes (loop before_close (item_at (body_at d) d) n (ts ++ (c ∷ post))) (es, c ∷ post)) → Comes (body_at (suc d) ((o ∷ (ts ++ c ∷ [])) ++ post)) (es, post)
unfolding body_at
full_body {c = c} ts d post i j h =
    rw append_assoc (comes_then _ (comes_is (open_is d _ i)) (comes_then _ (h _ (omega (arith, length-append ts (c ∷ post)))) (comes_token _ j (comes_is refl))))

close_ends : (body : Parse (List Item)) (d n : ℕ) (c : Token) (post : List Token) → Is s.CloseBrace c → Comes (loop before_close (item_at body d) n (c ∷ post)) ([], c ∷ post)
close_ends body d n c post j = comes_end _ _ n (c ∷ post) (rw j.holds refl)

compound_name_comes : {r : Reference} {ts : List Token} → IsCompoundName r ts → (d : ℕ) (post : List Token) → Ends post → Comes (compound_at (body_at d) d (ts ++ post)) (classes.Named r, post)
compound_name_comes (IsCompoundName.struct i n) d post z = struct_name_comes (body_at d) d post i n z
compound_name_comes (IsCompoundName.variant i n p) d post z = variant_name_comes (body_at d) d post i n p z
compound_name_comes (IsCompoundName.enum i n) d post z = enum_name_comes (body_at d) d post i n z

mutual
  pub class_comes : {c : Specifier} {ts : List Token} → IsClass c ts → (d : ℕ) (before : Bool) (post : List Token) → Ends post → run post ≡ cond before 1 0 → Comes (class_at (body_at d) before d (ts ++ post)) (c, post)
  class_comes (IsClass.plain p) d before post z r = class_of_plain (body_at d) before d post p r (plain_comes p d before post z r)
  class_comes (IsClass.const i p) d before post z r = class_const _ _ (body_at d) before d i (plain_comes p d before post z r)

  plain_comes : {c : Specifier} {ts : List Token} → IsPlain c ts → (d : ℕ) (before : Bool) (post : List Token) → Ends post → run post ≡ cond before 1 0 → Comes (plain_at (body_at d) before d (ts ++ post)) (c, post)
  plain_comes (IsPlain.integer i p) d before post z r = plain_integer (body_at d) before d post i p
  plain_comes (IsPlain.floating_point i p) d before post z r = plain_floating_point (body_at d) before d post i p
  plain_comes (IsPlain.string i) d before post z r = plain_string (body_at d) before d post i z
  plain_comes (IsPlain.string_with i p) d before post z r = plain_string_with (body_at d) before d post i p
  plain_comes (IsPlain.compound p) d before post z r = plain_compound (body_at d) before d (either_opens (IsEither.whole p) post) (compound_comes p d post z)
  plain_comes (IsPlain.compound_name p) d before post z r = plain_compound (body_at d) before d (either_opens (IsEither.name p) post) (compound_name_comes p d post z)
  plain_comes (IsPlain.typename p) d before post z r = plain_typename (body_at d) before d post p r

  compound_comes : {n : Option Word} {c : Compound} {ts : List Token} → IsCompound n c ts → (d : ℕ) (post : List Token) → Ends post → Comes (compound_at (body_at d) d (ts ++ post)) (classes.Compound n c, post)
  compound_comes (IsCompound.struct i p q r) d post z = struct_comes (body_at d) d post i p q r z (λ rest. body_comes q d rest)
  compound_comes (IsCompound.variant i p q r) d post z = variant_comes (body_at d) d post i p q r (body_comes r d post)
  compound_comes (IsCompound.enum i p q r) d post z = enum_comes (body_at d) d post i p q r

  body_comes : {es : List Item} {ts : List Token} → IsBody es ts → (d : ℕ) (post : List Token) → Comes (body_at d (ts ++ post)) (es, post)
  body_comes (IsBody.body i m j) zero post = deep_body _ i
  body_comes (IsBody.body {c = c} i m j) (suc d) post = full_body _ d post i j (λ n le. items_come m d n le c post j)

  items_come : {es : List Item} {ts : List Token} → AreItems es ts → (d n : ℕ) → length ts ≤ n → (c : Token) (post : List Token) → Is s.CloseBrace c → Comes (loop before_close (item_at (body_at d) d) n (ts ++ (c ∷ post))) (es, c ∷ post)
  items_come AreItems.none d n le c post j = close_ends _ d n c post j
  items_come (AreItems.more {ts = ts} {us = us} p m) d zero le c post j = absurd (no_turn ts us (not_empty before_close ts refl (item_begins p [])) le)
  items_come (AreItems.more {ts = ts} {us = us} p m) d (suc n) le c post j =
      rw append_assoc (comes_more _ _ n (item_begins p (us ++ (c ∷ post))) (item_comes p d (us ++ (c ∷ post))) (items_come m d n (shorter ts us n (not_empty before_close ts refl (item_begins p [])) le) c post j))

  item_comes : {x : Item} {ts : List Token} → IsItem x ts → (d : ℕ) (post : List Token) → Comes (item_at (body_at d) d (ts ++ post)) (x, post)
  item_comes (IsItem.fields {us = us} {e = e} p q l) d post =
      item_fields (body_at d) d e post p q l (class_comes p d true (us ++ (e ∷ post)) (declarators_end q (e ∷ post)) (declarators_run q e post l))
  item_comes (IsItem.typedecl (IsTypedecl.alias {a = a} {e = e} {ts = ts} {us = us} i p j q l)) d post =
      item_alias _ (body_at d) d i (alias_comes ts (body_at d) d post i j q l (class_comes p d false (a ∷ (us ++ (e ∷ post))) (ends_at _ j refl refl refl refl) (no_run _ j refl)))
  item_comes (IsItem.typedecl (IsTypedecl.definition {e = e} {ts = ts} {us = us} i p q l)) d post =
      item_definition _ (body_at d) d i (definition_comes ts (body_at d) d post i q l (class_comes p d true (us ++ (e ∷ post)) (declarators_end q (e ∷ post)) (declarators_run q e post l)))
  item_comes (IsItem.typedecl (IsTypedecl.declared {e = e} {ts = ts} p l)) d post =
      item_compound ts (body_at d) d post (either_opens (IsEither.whole p) (e ∷ post)) l (compound_comes p d (e ∷ post) (ends_at post l refl refl refl refl))

pub typedecl_comes : {x : TypeDeclaration} {ts : List Token} → IsTypedecl x ts → (d : ℕ) (post : List Token) → Comes (typedecl_at (body_at d) d (ts ++ post)) (x, post)
typedecl_comes (IsTypedecl.alias {a = a} {e = e} {ts = ts} {us = us} i p j q l) d post =
    typedecl_alias _ (body_at d) d i (alias_comes ts (body_at d) d post i j q l (class_comes p d false (a ∷ (us ++ (e ∷ post))) (ends_at _ j refl refl refl refl) (no_run _ j refl)))
typedecl_comes (IsTypedecl.definition {e = e} {ts = ts} {us = us} i p q l) d post =
    typedecl_definition _ (body_at d) d i (definition_comes ts (body_at d) d post i q l (class_comes p d true (us ++ (e ∷ post)) (declarators_end q (e ∷ post)) (declarators_run q e post l)))
typedecl_comes (IsTypedecl.declared {e = e} {ts = ts} p l) d post =
    typedecl_compound ts (body_at d) d post (either_opens (IsEither.whole p) (e ∷ post)) l (compound_comes p d (e ∷ post) (ends_at post l refl refl refl refl))
