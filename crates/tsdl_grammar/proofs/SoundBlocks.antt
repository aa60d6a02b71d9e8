-- What is read is spelled so: entries, blocks and the tree.
use Rattle.std.proofs.Common.{◌≡◌, ℕ, zero, suc, ◌-◌, Bool, true, false, cond, List, [], ◌∷◌, ◌++◌, Option, Some, None, Ok, refl, sym, ap, subst, ◌∙◌, append_assoc, arith}
use Rattle.std.proofs.lemmas.Option.{same_Some}
use Rattle.tsdl_text.specs.declared.token.Symbol.TheVariants as s
use Rattle.tsdl_text.specs.declared.token.Token.{Token}
use Rattle.tsdl_tree.specs.declared.tree.Setting.{Setting}
use Rattle.tsdl_tree.specs.declared.tree.Item.{Item}
use Rattle.tsdl_tree.specs.declared.tree.BlockEntry.TheVariants as entries
use Rattle.tsdl_tree.specs.declared.tree.BlockKind.{BlockKind}
use Rattle.tsdl_tree.specs.declared.tree.BlockKind.TheVariants as blocks
use Rattle.tsdl_tree.specs.declared.tree.TableKind.{TableKind}
use Rattle.tsdl_tree.specs.declared.tree.TableKind.TheVariants as tables
use Rattle.tsdl_tree.specs.declared.tree.Declaration.TheVariants as declarations
use Rattle.tsdl_grammar.specs.Terminals.{Words, is, Is, IsEntryWord}
use Rattle.tsdl_grammar.specs.Grammar.{IsPath, AreAttributes, IsBody, IsBlockWord, IsTableWord, IsEntry, IsDeclaration}
use Rattle.tsdl_grammar.specs.Steps.{◌>>=◌, Parse, begins, begins_declaration}
use Rattle.tsdl_grammar.specs.Reading.{setting_after, class_after, entry_at, body_at, block_kind, table_kind, block_at, table_at, declaration_by, declaration_at}
use Rattle.tsdl_grammar.proofs.Room.{room, symbol_no_brace, room_same}
use Rattle.tsdl_grammar.proofs.ReadsTools.{Reads, reads_then, reads_then_at, reads_last, reads_done, reads_bad, reads_after, reads_if, reads_token, reads_close, reads_shut, reads_open, reads_loop}
use Rattle.tsdl_grammar.proofs.Sound.{path_reads, setting_after_reads, attributes_read}
use Rattle.tsdl_grammar.proofs.SoundClasses.{class_reads, typedecl_reads, body_reads}

-- ---- entries

-- the name of an entry, which begins with no word of a declaration
data AreEntryWords : Words → List Token → Type 0 where
  words : {t : Token} {ws : Words} {ts : List Token} → IsEntryWord t → IsPath ws (t ∷ ts) → AreEntryWords ws (t ∷ ts)

entry_words_of : {ws : Words} {us : List Token} (ts rest : List Token) → begins_declaration ts ≡ false → ts ≡ us ++ rest → IsPath ws us → AreEntryWords ws us
entry_words_of ts rest e q (IsPath.last i) = AreEntryWords.words (record { holds = sym (ap begins_declaration q) ∙ e }) (IsPath.last i)
entry_words_of ts rest e q (IsPath.more i j p) = AreEntryWords.words (record { holds = sym (ap begins_declaration q) ∙ e }) (IsPath.more i j p)

setting_entry_reads : {d : ℕ} {n : Words} {us : List Token} (ts : List Token) → AreEntryWords n us → Reads (setting_after n ts >>= λ x. Ok (entries.Setting x.0, x.1)) d d ts (λ x vs. IsEntry x (us ++ vs))
setting_entry_reads ts (AreEntryWords.words i p) = reads_last (λ x. entries.Setting x) (setting_after_reads ts p) (λ x us q. IsEntry.setting i q)

module _ (body : Parse (List Item)) (d : ℕ) (h : (ts : List Token) → Reads (body ts) d d ts IsBody) where
  class_entry_reads : {n : Words} {us : List Token} (ts : List Token) → AreEntryWords n us → Reads (class_after body d n ts) d d ts (λ x vs. IsEntry x (us ++ vs))
  unfolding class_after
  class_entry_reads ts (AreEntryWords.words i p) = reads_token s.Assign _ refl (λ a rest j. reads_then _ (class_reads body d h false rest) (λ c rest us q. reads_token s.Semicolon _ refl (λ e rest l. reads_done (IsEntry.class i p j q l))))

  entry_reads : (ts : List Token) → Reads (entry_at body d ts) d d ts IsEntry
  unfolding entry_at
  entry_reads ts = reads_if (begins_declaration ts)
      (λ e. reads_last (λ x. entries.Types x) (typedecl_reads body d h ts) (λ x us p. IsEntry.typedecl p))
      (λ e. reads_then_at _ (path_reads ts) (λ n rest us q p. reads_if (begins s.Equals rest)
      (λ f. setting_entry_reads rest (entry_words_of ts rest e q p))
      (λ f. class_entry_reads rest (entry_words_of ts rest e q p))))

-- ---- blocks

block_reads : (d : ℕ) {t : Token} (kind : BlockKind) (ts : List Token) → IsBlockWord kind t → Reads (block_at d kind ts) d d ts (λ x vs. IsDeclaration x (t ∷ vs))
unfolding block_at
block_reads zero kind ts i = reads_shut _
block_reads (suc d) kind ts i =
    let e : suc d - 1 ≡ d = omega arith in
    reads_open d _ (λ o rest j. reads_then _ (reads_loop _ _ IsEntry (rw e (entry_reads (body_at d) d (body_reads d))) _ rest) (λ xs rest us m.
    reads_close _ (λ c rest l. reads_token s.Semicolon _ refl (λ e rest n. reads_done (IsDeclaration.block i j m l n)))))

table_of : {t e : Token} {k : TableKind} {xs : List Setting} {us : List Token} → IsTableWord k t → AreAttributes xs us → Is s.Semicolon e → IsDeclaration (declarations.Table k xs) (t ∷ (us ++ e ∷ []))
table_of i (AreAttributes.attributes j m l) n = rw append_assoc (IsDeclaration.table i j m l n)

table_reads : (d : ℕ) {t : Token} (kind : TableKind) (ts : List Token) → IsTableWord kind t → Reads (table_at d kind ts) d d ts (λ x vs. IsDeclaration x (t ∷ vs))
unfolding table_at
table_reads d kind ts i = reads_then _ (attributes_read d ts) (λ xs rest us p. reads_token s.Semicolon _ refl (λ e rest j. reads_done (table_of i p j)))

block_word_by : (t : Token) (a b c : Bool) → is s.Trace t ≡ a → is s.Stream t ≡ b → is s.Event t ≡ c → (kind : BlockKind)
    → cond a (Some blocks.Trace) (cond b (Some blocks.Stream) (cond c (Some blocks.Event) None)) ≡ Some kind → IsBlockWord kind t
block_word_by t true b c i j l kind e = subst (λ k. IsBlockWord k t) (same_Some blocks.Trace kind e) (IsBlockWord.trace (record { holds = i }))
block_word_by t false true c i j l kind e = subst (λ k. IsBlockWord k t) (same_Some blocks.Stream kind e) (IsBlockWord.stream (record { holds = j }))
block_word_by t false false true i j l kind e = subst (λ k. IsBlockWord k t) (same_Some blocks.Event kind e) (IsBlockWord.event (record { holds = l }))
block_word_by t false false false i j l kind e = absurd cc

block_word : (t : Token) (kind : BlockKind) → block_kind t ≡ Some kind → IsBlockWord kind t
block_word t kind e = block_word_by t (is s.Trace t) (is s.Stream t) (is s.Event t) refl refl refl kind e

table_word_by : (t : Token) (a b c : Bool) → is s.Clock t ≡ a → is s.Env t ≡ b → is s.Callsite t ≡ c → (kind : TableKind)
    → cond a (Some tables.Clock) (cond b (Some tables.Env) (cond c (Some tables.Callsite) None)) ≡ Some kind → IsTableWord kind t
table_word_by t true b c i j l kind e = subst (λ k. IsTableWord k t) (same_Some tables.Clock kind e) (IsTableWord.clock (record { holds = i }))
table_word_by t false true c i j l kind e = subst (λ k. IsTableWord k t) (same_Some tables.Env kind e) (IsTableWord.env (record { holds = j }))
table_word_by t false false true i j l kind e = subst (λ k. IsTableWord k t) (same_Some tables.Callsite kind e) (IsTableWord.callsite (record { holds = l }))
table_word_by t false false false i j l kind e = absurd cc

table_word : (t : Token) (kind : TableKind) → table_kind t ≡ Some kind → IsTableWord kind t
table_word t kind e = table_word_by t (is s.Clock t) (is s.Env t) (is s.Callsite t) refl refl refl kind e

block_word_room : {t : Token} {kind : BlockKind} → IsBlockWord kind t → (d : ℕ) (ts : List Token) → room d (t ∷ ts) ≡ room d ts
block_word_room (IsBlockWord.trace i) d ts = room_same (symbol_no_brace i refl) d ts
block_word_room (IsBlockWord.stream i) d ts = room_same (symbol_no_brace i refl) d ts
block_word_room (IsBlockWord.event i) d ts = room_same (symbol_no_brace i refl) d ts

table_word_room : {t : Token} {kind : TableKind} → IsTableWord kind t → (d : ℕ) (ts : List Token) → room d (t ∷ ts) ≡ room d ts
table_word_room (IsTableWord.clock i) d ts = room_same (symbol_no_brace i refl) d ts
table_word_room (IsTableWord.env i) d ts = room_same (symbol_no_brace i refl) d ts
table_word_room (IsTableWord.callsite i) d ts = room_same (symbol_no_brace i refl) d ts

declared_by : (d : ℕ) (t : Token) (ts : List Token) (o : Option BlockKind) (u : Option TableKind) → block_kind t ≡ o → table_kind t ≡ u → Reads (declaration_by d o u t ts) d d (t ∷ ts) IsDeclaration
declared_by d t ts (Some kind) u e f = let i = block_word t kind e in reads_after (block_word_room i d ts) (block_reads d kind ts i)
declared_by d t ts None (Some kind) e f = let i = table_word t kind f in reads_after (table_word_room i d ts) (table_reads d kind ts i)
declared_by d t ts None None e f = reads_last (λ x. declarations.Types x) (typedecl_reads (body_at d) d (body_reads d) (t ∷ ts)) (λ x us p. IsDeclaration.typedecl p)

pub declaration_reads : (d : ℕ) (ts : List Token) → Reads (declaration_at d ts) d d ts IsDeclaration
unfolding declaration_at
declaration_reads d [] = reads_bad
declaration_reads d (t ∷ ts) = declared_by d t ts (block_kind t) (table_kind t) refl refl
