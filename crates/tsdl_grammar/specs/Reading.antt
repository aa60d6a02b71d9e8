-- Reading tokens from left to right: what is read and the rest, or why not.
use Rattle.std.specs.Prelude.{ℕ, zero, suc, ◌-◌, Bool, true, false, List, [], ◌∷◌, take, drop, Option, Some, None, Result, Ok, Err, if◌then◌else◌}
use Rattle.tsdl_text.specs.declared.token.Symbol.TheVariants as s
use Rattle.tsdl_text.specs.declared.token.Token.{Token}
use Rattle.tsdl_text.specs.Symbols.{is_word, is_identifier, is_string, constant_of}
use Rattle.tsdl_text.specs.Strings.{string_value}
use Rattle.tsdl_tree.specs.declared.tree.Number.{Number}
use Rattle.tsdl_tree.specs.declared.tree.Value.{Value}
use Rattle.tsdl_tree.specs.declared.tree.Value.TheVariants as values
use Rattle.tsdl_tree.specs.declared.tree.Setting.{Setting}
use Rattle.tsdl_tree.specs.declared.tree.Typename.{Typename}
use Rattle.tsdl_tree.specs.declared.tree.Length.{Length}
use Rattle.tsdl_tree.specs.declared.tree.Length.TheVariants as lengths
use Rattle.tsdl_tree.specs.declared.tree.Declarator.{Declarator}
use Rattle.tsdl_tree.specs.declared.tree.Span.{Span}
use Rattle.tsdl_tree.specs.declared.tree.Label.{Label}
use Rattle.tsdl_tree.specs.declared.tree.Container.{Container}
use Rattle.tsdl_tree.specs.declared.tree.Container.TheVariants as containers
use Rattle.tsdl_tree.specs.declared.tree.Reference.{Reference}
use Rattle.tsdl_tree.specs.declared.tree.Reference.TheVariants as references
use Rattle.tsdl_tree.specs.declared.tree.Specifier.{Specifier}
use Rattle.tsdl_tree.specs.declared.tree.Specifier.TheVariants as classes
use Rattle.tsdl_tree.specs.declared.tree.Compound.TheVariants as compounds
use Rattle.tsdl_tree.specs.declared.tree.TypeDeclaration.{TypeDeclaration}
use Rattle.tsdl_tree.specs.declared.tree.TypeDeclaration.TheVariants as typedecls
use Rattle.tsdl_tree.specs.declared.tree.Item.{Item}
use Rattle.tsdl_tree.specs.declared.tree.Item.TheVariants as items
use Rattle.tsdl_tree.specs.declared.tree.BlockEntry.{BlockEntry}
use Rattle.tsdl_tree.specs.declared.tree.BlockEntry.TheVariants as entries
use Rattle.tsdl_tree.specs.declared.tree.BlockKind.{BlockKind}
use Rattle.tsdl_tree.specs.declared.tree.BlockKind.TheVariants as blocks
use Rattle.tsdl_tree.specs.declared.tree.TableKind.{TableKind}
use Rattle.tsdl_tree.specs.declared.tree.TableKind.TheVariants as tables
use Rattle.tsdl_tree.specs.declared.tree.Declaration.{Declaration}
use Rattle.tsdl_tree.specs.declared.tree.Declaration.TheVariants as declarations
use Rattle.tsdl_tree.specs.declared.tree.Tree.{Tree}
use Rattle.tsdl_grammar.specs.Terminals.{Word, Words, is}
use Rattle.tsdl_grammar.specs.Spelling.{run}
use Rattle.tsdl_grammar.specs.Steps.{Refusal, bad, ◌>>=◌, Parse, or_bad, expect, past, begins, begins_identifier, begins_compound, begins_labels, begins_declaration, before_close, before_label, before_end, all, optional, open_at}

-- ---- words, numbers, settings

unfoldable pub word_at : Parse Word
word_at [] = Err bad
word_at (t ∷ ts) = if is_word t.kind then Ok (t.text.now, ts) else Err bad

unfoldable pub identifier_at : Parse Word
identifier_at [] = Err bad
identifier_at (t ∷ ts) = if is_identifier t.kind then Ok (t.text.now, ts) else Err bad

unfoldable pub constant_at : Parse ℕ
constant_at [] = Err bad
constant_at (t ∷ ts) = or_bad (constant_of t.kind) >>= λ n. Ok (n, ts)

unfoldable pub dotted_at : Parse Word
dotted_at ts = do
  rest ← expect s.Dot ts
  word_at rest

unfoldable pub path_at : Parse Words
path_at ts = do
  first ← word_at ts
  more ← all (begins s.Dot) dotted_at first.1
  Ok (first.0 ∷ more.0, more.1)

-- a constant after its sign
unfoldable pub magnitude_at : Bool → Parse Number
magnitude_at is_negative ts = do
  n ← constant_at ts
  Ok (record { is_negative = is_negative; magnitude = n.0 }, n.1)

unfoldable pub number_at : Parse Number
number_at ts =
    if begins s.Minus ts then (expect s.Minus ts >>= λ rest. magnitude_at true rest)
    else magnitude_at false (past s.Plus ts)

unfoldable pub value_at : Parse Value
value_at [] = Err bad
value_at (t ∷ ts) =
    if is_word t.kind then (path_at (t ∷ ts) >>= λ p. Ok (values.Name p.0, p.1))
    else (if is_string t.kind then Ok (values.Text (string_value t.text.now), ts)
    else (number_at (t ∷ ts) >>= λ n. Ok (values.Number n.0, n.1)))

-- a setting's rest, after its name
unfoldable pub setting_after : Words → Parse Setting
setting_after n ts = do
  equals ← expect s.Equals ts
  v ← value_at equals
  end ← expect s.Semicolon v.1
  Ok (record { name = n; value = v.0 }, end)

unfoldable pub setting_at : Parse Setting
setting_at ts = do
  n ← path_at ts
  setting_after n.0 n.1

-- settings in braces
unfoldable pub attributes_at : ℕ → Parse (List Setting)
attributes_at d ts = do
  inner ← open_at d ts
  xs ← all before_close setting_at inner
  close ← expect s.CloseBrace xs.1
  Ok (xs.0, close)

-- ---- names of types, declarators

-- the words but `const`
unfoldable pub words_of : List Token → Words
words_of [] = []
words_of (t ∷ ts) = if is s.Const t then words_of ts else t.text.now ∷ words_of ts

abbrev pub some_words : Words → List Token → Result (Typename × List Token) Refusal
some_words [] ts = Err bad
some_words (w ∷ ws) ts = Ok (record { words = w ∷ ws }, ts)

-- how many tokens are a typename's: the whole run of typewords, or all but its last before a declarator
abbrev pub typename_len : Bool → List Token → ℕ
typename_len before_declarator ts = if before_declarator then run ts - 1 else run ts

unfoldable pub typename_at : Bool → Parse Typename
typename_at before_declarator ts =
    some_words (words_of (take (typename_len before_declarator ts) ts))
    (drop (typename_len before_declarator ts) ts)

abbrev pub bound_by : Option ℕ → Token → List Token → Result (Length × List Token) Refusal
bound_by (Some n) t ts = Ok (lengths.Constant n, ts)
bound_by None t ts = path_at (t ∷ ts) >>= λ p. Ok (lengths.Path p.0, p.1)

-- what is in brackets
unfoldable pub bound_at : Parse Length
bound_at [] = Err bad
bound_at (t ∷ ts) = bound_by (constant_of t.kind) t ts

unfoldable pub length_at : Parse Length
length_at ts = do
  inner ← expect s.OpenBracket ts
  l ← bound_at inner
  close ← expect s.CloseBracket l.1
  Ok (l.0, close)

unfoldable pub declarator_at : Parse Declarator
declarator_at ts = do
  n ← identifier_at ts
  ls ← all (begins s.OpenBracket) length_at n.1
  Ok (record { name = n.0; lengths = ls.0 }, ls.1)

unfoldable pub next_declarator_at : Parse Declarator
next_declarator_at ts = do
  rest ← expect s.Comma ts
  declarator_at rest

unfoldable pub declarators_at : Parse (List Declarator)
declarators_at ts = do
  first ← declarator_at ts
  more ← all (begins s.Comma) next_declarator_at first.1
  Ok (first.0 ∷ more.0, more.1)

-- declarators up to their semicolon
unfoldable pub declared_at : Parse (List Declarator)
declared_at ts = do
  ds ← declarators_at ts
  e ← expect s.Semicolon ds.1
  Ok (ds.0, e)

-- ---- parts of compounds

unfoldable pub align_at : Parse ℕ
align_at ts = do
  a ← expect s.Align ts
  o ← expect s.OpenParen a
  n ← constant_at o
  e ← expect s.CloseParen n.1
  Ok (n.0, e)

unfoldable pub tag_at : Parse Words
tag_at ts = do
  o ← expect s.Less ts
  p ← path_at o
  e ← expect s.Greater p.1
  Ok (p.0, e)

unfoldable pub container_at : ℕ → Parse Container
container_at d ts = do
  o ← expect s.Colon ts
  if begins s.Integer o then (do
    t ← expect s.Integer o
    xs ← attributes_at d t
    Ok (containers.Integer xs.0, xs.1))
      else (typename_at false o >>= λ n. Ok (containers.Named n.0, n.1))

-- the end of a range
unfoldable pub range_end_at : Parse Number
range_end_at ts = do
  rest ← expect s.Ellipsis ts
  number_at rest

unfoldable pub span_at : Parse Span
span_at ts = do
  e ← expect s.Equals ts
  m ← number_at e
  n ← optional (begins s.Ellipsis) range_end_at m.1
  Ok (record { first = m.0; last = n.0 }, n.1)

unfoldable pub label_name_at : Parse Word
label_name_at [] = Err bad
label_name_at (t ∷ ts) =
    if is_word t.kind then Ok (t.text.now, ts)
    else (if is_string t.kind then Ok (string_value t.text.now, ts) else Err bad)

unfoldable pub label_at : Parse Label
label_at ts = do
  n ← label_name_at ts
  r ← optional (begins s.Equals) span_at n.1
  Ok (record { name = n.0; span = r.0 }, r.1)

unfoldable pub next_label_at : Parse Label
next_label_at ts = do
  rest ← expect s.Comma ts
  label_at rest

-- labels in braces
unfoldable pub labels_at : ℕ → Parse (List Label)
labels_at d ts = do
  inner ← open_at d ts
  first ← label_at inner
  more ← all before_label next_label_at first.1
  close ← expect s.CloseBrace (past s.Comma more.1)
  Ok (first.0 ∷ more.0, close)

-- a compound's name alone
abbrev pub named_by : (Word → Reference) → Option Word → List Token
    → Result (Specifier × List Token) Refusal
named_by reference None ts = Err bad
named_by reference (Some n) ts = Ok (classes.Named (reference n), ts)

unfoldable pub enum_at : ℕ → Parse Specifier
enum_at d ts = do
  rest ← expect s.Enum ts
  n ← optional begins_identifier identifier_at rest
  if begins_labels n.1 then (do
    k ← optional (begins s.Colon) (container_at d) n.1
    xs ← labels_at d k.1
    Ok (classes.Compound n.0 (compounds.Enum k.0 xs.0), xs.1)) else named_by references.Enum n.0 n.1

-- ---- classes and declarations of names

unfoldable pub integer_at : ℕ → Parse Specifier
integer_at d ts = do
  rest ← expect s.Integer ts
  xs ← attributes_at d rest
  Ok (classes.Integer xs.0, xs.1)

unfoldable pub floating_point_at : ℕ → Parse Specifier
floating_point_at d ts = do
  rest ← expect s.FloatingPoint ts
  xs ← attributes_at d rest
  Ok (classes.FloatingPoint xs.0, xs.1)

unfoldable pub string_at : ℕ → Parse Specifier
string_at d ts = do
  rest ← expect s.String ts
  if begins s.OpenBrace rest then (attributes_at d rest >>= λ xs. Ok (classes.String xs.0, xs.1))
      else Ok (classes.String [], rest)

-- a class with the declarators after it
unfoldable pub class_declared : Specifier → Parse (Specifier × List Declarator)
class_declared c ts = do
  ds ← declared_at ts
  Ok ((c, ds.0), ds.1)

unfoldable pub fields_after : Specifier → Parse Item
fields_after c ts = do
  x ← class_declared c ts
  Ok (items.Fields x.0.0 x.0.1, x.1)

-- the semicolon after a compound with a name and a body
unfoldable pub compound_after : Specifier → Parse TypeDeclaration
compound_after (classes.Compound (Some n) c) ts =
    expect s.Semicolon ts >>= λ e. Ok (typedecls.Compound n c, e)
compound_after _ ts = Err bad

-- the name of an alias, after its class
unfoldable pub alias_name_at : Parse Typename
alias_name_at ts = do
  a ← expect s.Assign ts
  n ← typename_at false a
  e ← expect s.Semicolon n.1
  Ok (n.0, e)

-- a declaration of names in the place of an item
abbrev pub as_item : Result (TypeDeclaration × List Token) Refusal
    → Result (Item × List Token) Refusal
as_item read = read >>= λ d. Ok (items.Types d.0, d.1)

-- The parts that bodies are in, over the bodies.
module _ (body : Parse (List Item)) where
  unfoldable pub struct_at : Parse Specifier
  struct_at ts = do
    rest ← expect s.Struct ts
    n ← optional begins_identifier identifier_at rest
    if begins s.OpenBrace n.1 then (do
      es ← body n.1
      a ← optional (begins s.Align) align_at es.1
      Ok (classes.Compound n.0 (compounds.Struct es.0 a.0), a.1))
        else named_by references.Struct n.0 n.1

  unfoldable pub variant_at : Parse Specifier
  variant_at ts = do
    rest ← expect s.Variant ts
    n ← optional begins_identifier identifier_at rest
    g ← optional (begins s.Less) tag_at n.1
    if begins s.OpenBrace g.1
        then (body g.1 >>= λ es. Ok (classes.Compound n.0 (compounds.Variant g.0 es.0), es.1))
        else named_by (λ n. references.Variant n g.0) n.0 g.1

  unfoldable pub compound_at : ℕ → Parse Specifier
  compound_at d ts =
      if begins s.Struct ts then struct_at ts
      else (if begins s.Variant ts then variant_at ts else enum_at d ts)

  unfoldable pub plain_at : Bool → ℕ → Parse Specifier
  plain_at before_declarator d ts =
      if begins s.Integer ts then integer_at d ts
      else (if begins s.FloatingPoint ts then floating_point_at d ts
      else (if begins s.String ts then string_at d ts
      else (if begins_compound ts then compound_at d ts
      else (typename_at before_declarator ts
      >>= λ n. Ok (classes.Named (references.Plain n.0), n.1)))))

  unfoldable pub class_at : Bool → ℕ → Parse Specifier
  class_at before_declarator d ts = plain_at before_declarator d (past s.Const ts)

  unfoldable pub alias_at : ℕ → Parse TypeDeclaration
  alias_at d ts = do
    rest ← expect s.Typealias ts
    c ← class_at false d rest
    n ← alias_name_at c.1
    Ok (typedecls.Alias c.0 n.0, n.1)

  unfoldable pub definition_at : ℕ → Parse TypeDeclaration
  definition_at d ts = do
    rest ← expect s.Typedef ts
    c ← class_at true d rest
    x ← class_declared c.0 c.1
    Ok (typedecls.Definition x.0.0 x.0.1, x.1)

  unfoldable pub typedecl_at : ℕ → Parse TypeDeclaration
  typedecl_at d ts =
      if begins s.Typealias ts then alias_at d ts
      else (if begins s.Typedef ts then definition_at d ts
      else (compound_at d ts >>= λ c. compound_after c.0 c.1))

  unfoldable pub item_at : ℕ → Parse Item
  item_at d ts =
      if begins s.Typealias ts then as_item (alias_at d ts)
      else (if begins s.Typedef ts then as_item (definition_at d ts)
      else (if begins_compound ts then (compound_at d ts >>= λ c.
      if begins s.Semicolon c.1 then as_item (compound_after c.0 c.1)
      else fields_after c.0 c.1)
      else (class_at true d ts >>= λ c. fields_after c.0 c.1)))

  -- ---- blocks

  unfoldable pub class_after : ℕ → Words → Parse BlockEntry
  class_after d n ts = do
    a ← expect s.Assign ts
    c ← class_at false d a
    e ← expect s.Semicolon c.1
    Ok (entries.Class n c.0, e)

  unfoldable pub entry_at : ℕ → Parse BlockEntry
  entry_at d ts =
      if begins_declaration ts then (typedecl_at d ts >>= λ x. Ok (entries.Types x.0, x.1))
      else (path_at ts
      >>= λ n.
      if begins s.Equals n.1 then
      (setting_after n.0 n.1 >>= λ x. Ok (entries.Setting x.0, x.1))
      else class_after d n.0 n.1)

-- A body, with braces that nest no deeper than the number.
unfoldable pub body_at : ℕ → Parse (List Item)
body_at zero ts = open_at zero ts >>= λ inner. Err bad
body_at (suc d) ts = do
  inner ← open_at (suc d) ts
  es ← all before_close (item_at (body_at d) d) inner
  close ← expect s.CloseBrace es.1
  Ok (es.0, close)

abbrev pub block_kind : Token → Option BlockKind
block_kind t =
    if is s.Trace t then Some blocks.Trace
    else (if is s.Stream t then Some blocks.Stream
    else (if is s.Event t then Some blocks.Event else None))

abbrev pub table_kind : Token → Option TableKind
table_kind t =
    if is s.Clock t then Some tables.Clock
    else (if is s.Env t then Some tables.Env
    else (if is s.Callsite t then Some tables.Callsite else None))

-- entries in braces, and a semicolon
unfoldable pub block_at : ℕ → BlockKind → Parse Declaration
block_at d kind ts = do
  inner ← open_at d ts
  xs ← all before_close (entry_at (body_at (d - 1)) (d - 1)) inner
  close ← expect s.CloseBrace xs.1
  e ← expect s.Semicolon close
  Ok (declarations.Block kind xs.0, e)

-- settings in braces, and a semicolon
unfoldable pub table_at : ℕ → TableKind → Parse Declaration
table_at d kind ts = do
  xs ← attributes_at d ts
  e ← expect s.Semicolon xs.1
  Ok (declarations.Table kind xs.0, e)

abbrev pub declaration_by : ℕ → Option BlockKind → Option TableKind → Token → List Token
    → Result (Declaration × List Token) Refusal
declaration_by d (Some kind) other t ts = block_at d kind ts
declaration_by d None (Some kind) t ts = table_at d kind ts
declaration_by d None None t ts =
    typedecl_at (body_at d) d (t ∷ ts) >>= λ x. Ok (declarations.Types x.0, x.1)

unfoldable pub declaration_at : ℕ → Parse Declaration
declaration_at d [] = Err bad
declaration_at d (t ∷ ts) = declaration_by d (block_kind t) (table_kind t) t ts

-- the tree of all of the tokens, with braces that nest no deeper than the number
unfoldable pub tree_at : ℕ → List Token → Result Tree Refusal
tree_at d ts = all before_end (declaration_at d) ts >>= λ xs. Ok (record { declarations = xs.0 })
