-- Blocks and whole trees that are spelled so are read, unless braces nest too deep.
use Rattle.std.proofs.Common.{◌≡◌, ℕ, ◌-◌, ◌≤◌, true, false, List, [], ◌∷◌, ◌++◌, length, Some, None, refl, append_assoc, arith}
use Rattle.std.proofs.lemmas.List.{append-nil, length-append}
use Rattle.tsdl_text.specs.declared.token.Symbol.{Symbol}
use Rattle.tsdl_text.specs.declared.token.Symbol.TheVariants as s
use Rattle.tsdl_text.specs.declared.token.Token.{Token}
use Rattle.tsdl_text.specs.Symbols.{is_same}
use Rattle.tsdl_tree.specs.declared.tree.Setting.{Setting}
use Rattle.tsdl_tree.specs.declared.tree.Specifier.{Specifier}
use Rattle.tsdl_tree.specs.declared.tree.TypeDeclaration.{TypeDeclaration}
use Rattle.tsdl_tree.specs.declared.tree.BlockEntry.{BlockEntry}
use Rattle.tsdl_tree.specs.declared.tree.BlockEntry.TheVariants as entries
use Rattle.tsdl_tree.specs.declared.tree.BlockKind.{BlockKind}
use Rattle.tsdl_tree.specs.declared.tree.TableKind.{TableKind}
use Rattle.tsdl_tree.specs.declared.tree.Declaration.{Declaration}
use Rattle.tsdl_tree.specs.declared.tree.Declaration.TheVariants as declarations
use Rattle.tsdl_tree.specs.declared.tree.Tree.{Tree}
use Rattle.tsdl_grammar.specs.Terminals.{Words, Is, IsEntryWord}
use Rattle.tsdl_grammar.specs.Repeats.{Many}
use Rattle.tsdl_grammar.specs.Grammar.{IsPath, IsSetting, AreAttributes, IsClass, IsTypedecl, IsBlockWord, IsTableWord, IsEntry, IsDeclaration}
use Rattle.tsdl_grammar.specs.Spelling.{Spells}
use Rattle.tsdl_grammar.specs.Steps.{loop, all, begins, begins_declaration, before_close, before_end}
use Rattle.tsdl_grammar.specs.Reading.{body_at, typedecl_at, class_after, entry_at, block_kind, table_kind, block_at, table_at, declaration_at, tree_at}
use Rattle.tsdl_grammar.proofs.ComesTools.{Comes, comes_is, comes_then, comes_token, comes_open, many_come}
use Rattle.tsdl_grammar.proofs.Room.{is_other}
use Rattle.tsdl_grammar.proofs.ComesTokens.{no_run}
use Rattle.tsdl_grammar.proofs.CompleteTerms.{path_comes, path_begins, setting_after_comes, setting_begins, attributes_come}
use Rattle.tsdl_grammar.proofs.CompleteCompounds.{ends_at, Opens, IsEither, either_opens, opens_other}
use Rattle.tsdl_grammar.proofs.CompleteBodies.{class_comes, typedecl_begins, typedecl_comes}

-- ---- entries

class_after_comes : {a e : Token} {c : Specifier} {us : List Token} (d : ℕ) (n : Words) (post : List Token) → Is s.Assign a → IsClass c us → Is s.Semicolon e → Comes (class_after (body_at d) d n (a ∷ (us ++ (e ∷ post)))) (entries.Class n c, post)
unfolding class_after
class_after_comes {e = e} d n post i p j =
    comes_token _ i (comes_then _ (class_comes p d false (e ∷ post) (ends_at post j refl refl refl refl) (no_run post j refl)) (comes_token _ j (comes_is refl)))

entry_class : {t a e : Token} {n : Words} {c : Specifier} {ts us : List Token} (d : ℕ) (post : List Token) → IsEntryWord t → IsPath n (t ∷ ts) → Is s.Assign a → IsClass c us → Is s.Semicolon e
    → Comes (entry_at (body_at d) d ((t ∷ (ts ++ (a ∷ (us ++ e ∷ [])))) ++ post)) (entries.Class n c, post)
unfolding entry_at
entry_class {a = a} {e = e} {n = n} {us = us} d post w p i q j =
    rw (append_assoc, append_assoc, w.holds) (comes_then _ (path_comes p (a ∷ (us ++ (e ∷ post))) (is_other s.Dot i refl)) (rw (is_other s.Equals i refl) (class_after_comes d n post i q j)))

entry_setting : {x : Setting} {ts : List Token} (d : ℕ) (post : List Token) → IsSetting x ts → begins_declaration (ts ++ post) ≡ false → Comes (entry_at (body_at d) d (ts ++ post)) (entries.Setting x, post)
unfolding entry_at
entry_setting d post (IsSetting.setting {us = us} {e = e} {c = c} p i q j) z =
    rw z (rw (append_assoc, append_assoc) (comes_then _ (path_comes p (e ∷ (us ++ (c ∷ post))) (is_other s.Dot i refl)) (rw i.holds (comes_then _ (setting_after_comes post i q j) (comes_is refl)))))

opens_declares : {ts : List Token} → Opens ts → begins_declaration ts ≡ true
opens_declares (Opens.struct i) = rw i.holds refl
opens_declares (Opens.variant i) = rw (is_other s.Struct i refl, i.holds) refl
opens_declares (Opens.enum i) = rw (is_other s.Struct i refl, is_other s.Variant i refl, i.holds) refl

typedecl_declares : {x : TypeDeclaration} {ts : List Token} → IsTypedecl x ts → (post : List Token) → begins_declaration (ts ++ post) ≡ true
typedecl_declares (IsTypedecl.alias i p j q l) post = rw (is_other s.Struct i refl, is_other s.Variant i refl, is_other s.Enum i refl, is_other s.Typedef i refl, i.holds) refl
typedecl_declares (IsTypedecl.definition i p q l) post = rw (is_other s.Struct i refl, is_other s.Variant i refl, is_other s.Enum i refl, i.holds) refl
typedecl_declares (IsTypedecl.declared p l) post = rw append_assoc (opens_declares (either_opens (IsEither.whole p) _))

entry_typedecl : {x : TypeDeclaration} {ts : List Token} (d : ℕ) (post : List Token) → IsTypedecl x ts → Comes (entry_at (body_at d) d (ts ++ post)) (entries.Types x, post)
unfolding entry_at
entry_typedecl d post p = rw (typedecl_declares p post) (comes_then _ (typedecl_comes p d post) (comes_is refl))

entry_comes : {x : BlockEntry} {ts : List Token} → IsEntry x ts → (d : ℕ) (post : List Token) → Comes (entry_at (body_at d) d (ts ++ post)) (x, post)
entry_comes (IsEntry.setting w p) d post = entry_setting d post p w.holds
entry_comes (IsEntry.class w p i q j) d post = entry_class d post w p i q j
entry_comes (IsEntry.typedecl p) d post = entry_typedecl d post p

entry_begins : {x : BlockEntry} {ts : List Token} → IsEntry x ts → (post : List Token) → before_close (ts ++ post) ≡ true
entry_begins (IsEntry.setting w p) post = setting_begins p post
entry_begins (IsEntry.class w p i q j) post = path_begins p []
entry_begins (IsEntry.typedecl p) post = typedecl_begins p post

-- ---- declarations

entries_come : {xs : List BlockEntry} {ts : List Token} → Many IsEntry xs ts → (d : ℕ) (c : Token) (post : List Token) → Is s.CloseBrace c → (n : ℕ) → length ts ≤ n → Comes (loop before_close (entry_at (body_at d) d) n (ts ++ (c ∷ post))) (xs, c ∷ post)
entries_come m d c post j n le =
    many_come before_close (entry_at (body_at d) d) refl (λ x ts p rest. entry_begins p rest) (λ x ts p rest. entry_comes p d rest) m (c ∷ post) (rw j.holds refl) n le

block_comes : {o c e : Token} {k : BlockKind} {xs : List BlockEntry} {ts : List Token} (d : ℕ) (post : List Token) → Is s.OpenBrace o → Many IsEntry xs ts → Is s.CloseBrace c → Is s.Semicolon e
    → Comes (block_at d k ((o ∷ (ts ++ (c ∷ e ∷ []))) ++ post)) (declarations.Block k xs, post)
unfolding block_at
block_comes {c = c} {e = e} {ts = ts} d post i m j l =
    rw append_assoc (comes_open d _ i (comes_then _ (entries_come m (d - 1) c (e ∷ post) j _ (omega (arith, length-append ts (c ∷ e ∷ post)))) (comes_token _ j (comes_token _ l (comes_is refl)))))

table_comes : {o c e : Token} {k : TableKind} {xs : List Setting} {ts : List Token} (d : ℕ) (post : List Token) → Is s.OpenBrace o → Many IsSetting xs ts → Is s.CloseBrace c → Is s.Semicolon e
    → Comes (table_at d k ((o ∷ (ts ++ (c ∷ e ∷ []))) ++ post)) (declarations.Table k xs, post)
unfolding table_at
table_comes {c = c} {e = e} {ts = ts} d post i m j l =
    rw append_assoc (comes_then _ (rw append_assoc at (attributes_come (AreAttributes.attributes i m j) d (e ∷ post))) (comes_token _ l (comes_is refl)))

block_kind_is : {k : BlockKind} {t : Token} → IsBlockWord k t → block_kind t ≡ Some k
block_kind_is (IsBlockWord.trace i) = rw i.holds refl
block_kind_is (IsBlockWord.stream i) = rw (is_other s.Trace i refl, i.holds) refl
block_kind_is (IsBlockWord.event i) = rw (is_other s.Trace i refl, is_other s.Stream i refl, i.holds) refl

no_block_kind : {k : TableKind} {t : Token} → IsTableWord k t → block_kind t ≡ None
no_block_kind (IsTableWord.clock i) = rw (is_other s.Trace i refl, is_other s.Stream i refl, is_other s.Event i refl) refl
no_block_kind (IsTableWord.env i) = rw (is_other s.Trace i refl, is_other s.Stream i refl, is_other s.Event i refl) refl
no_block_kind (IsTableWord.callsite i) = rw (is_other s.Trace i refl, is_other s.Stream i refl, is_other s.Event i refl) refl

table_kind_is : {k : TableKind} {t : Token} → IsTableWord k t → table_kind t ≡ Some k
table_kind_is (IsTableWord.clock i) = rw i.holds refl
table_kind_is (IsTableWord.env i) = rw (is_other s.Clock i refl, i.holds) refl
table_kind_is (IsTableWord.callsite i) = rw (is_other s.Clock i refl, is_other s.Env i refl, i.holds) refl

declaration_block : {k : BlockKind} {t : Token} {x : Declaration × List Token} (d : ℕ) (ts : List Token) → IsBlockWord k t → Comes (block_at d k ts) x → Comes (declaration_at d (t ∷ ts)) x
unfolding declaration_at
declaration_block d ts i h = rw (block_kind_is i) h

declaration_table : {k : TableKind} {t : Token} {x : Declaration × List Token} (d : ℕ) (ts : List Token) → IsTableWord k t → Comes (table_at d k ts) x → Comes (declaration_at d (t ∷ ts)) x
unfolding declaration_at
declaration_table d ts i h = rw (no_block_kind i, table_kind_is i) h

typedecl_other : (b : Symbol) {x : TypeDeclaration} {ts : List Token} → IsTypedecl x ts → (post : List Token) → is_same s.Struct b ≡ false → is_same s.Variant b ≡ false → is_same s.Enum b ≡ false
    → is_same s.Typedef b ≡ false → is_same s.Typealias b ≡ false → begins b (ts ++ post) ≡ false
typedecl_other b (IsTypedecl.alias i p j q l) post x y z u v = is_other b i v
typedecl_other b (IsTypedecl.definition i p q l) post x y z u v = is_other b i u
typedecl_other b (IsTypedecl.declared p l) post x y z u v = rw append_assoc (opens_other b (either_opens (IsEither.whole p) _) x y z)

declaration_typedecl : {x : TypeDeclaration} (d : ℕ) (ts post : List Token) → before_close ts ≡ true → begins s.Trace ts ≡ false → begins s.Stream ts ≡ false → begins s.Event ts ≡ false → begins s.Clock ts ≡ false → begins s.Env ts ≡ false → begins s.Callsite ts ≡ false
    → Comes (typedecl_at (body_at d) d ts) (x, post) → Comes (declaration_at d ts) (declarations.Types x, post)
unfolding declaration_at
declaration_typedecl d [] post n x y z u v w h = absurd cc
declaration_typedecl d (t ∷ ts) post n x y z u v w h = rw (x, y, z, u, v, w) (comes_then _ h (comes_is refl))

declaration_comes : {x : Declaration} {ts : List Token} → IsDeclaration x ts → (d : ℕ) (post : List Token) → Comes (declaration_at d (ts ++ post)) (x, post)
declaration_comes (IsDeclaration.block k i m j l) d post = declaration_block d _ k (block_comes d post i m j l)
declaration_comes (IsDeclaration.table k i m j l) d post = declaration_table d _ k (table_comes d post i m j l)
declaration_comes (IsDeclaration.typedecl {ts = ts} p) d post =
    declaration_typedecl d (ts ++ post) post (typedecl_begins p post) (typedecl_other s.Trace p post refl refl refl refl refl) (typedecl_other s.Stream p post refl refl refl refl refl) (typedecl_other s.Event p post refl refl refl refl refl)
    (typedecl_other s.Clock p post refl refl refl refl refl) (typedecl_other s.Env p post refl refl refl refl refl) (typedecl_other s.Callsite p post refl refl refl refl refl) (typedecl_comes p d post)

not_end : (ts : List Token) → before_close ts ≡ true → before_end ts ≡ true
not_end [] e = absurd cc
not_end (t ∷ ts) e = refl

declaration_begins : {x : Declaration} {ts : List Token} → IsDeclaration x ts → (post : List Token) → before_end (ts ++ post) ≡ true
declaration_begins (IsDeclaration.block k i m j l) post = refl
declaration_begins (IsDeclaration.table k i m j l) post = refl
declaration_begins (IsDeclaration.typedecl {ts = ts} p) post = not_end (ts ++ post) (typedecl_begins p post)

-- ---- trees

all_declarations : {xs : List Declaration} {ts : List Token} → Many IsDeclaration xs ts → (d : ℕ) → Comes (all before_end (declaration_at d) ts) (xs, [])
all_declarations {ts = ts} m d =
    rw append-nil at (many_come before_end (declaration_at d) refl (λ x ts p rest. declaration_begins p rest) (λ x ts p rest. declaration_comes p d rest) m [] refl (length ts) (omega arith))

-- The tree that is spelled is read, unless braces nest too deep.
pub tree_comes : (tree : Tree) (ts : List Token) → Spells tree ts → (d : ℕ) → Comes (tree_at d ts) tree
unfolding tree_at
tree_comes tree ts m d = comes_then _ (all_declarations m d) (comes_is refl)
