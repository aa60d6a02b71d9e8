-- The grammar of TSDL (CTF 1.8.3, appendix C.2): which part of the tree a list of tokens spells,
-- by one case for each alternative, on the whole list. Above each part are its alternatives as a
-- grammar writes them: quoted words are tokens, `{ x }` is any number of x, `[ x ]` none or one.
use Rattle.std.specs.Prelude.{ℕ, true, false, List, [], ◌∷◌, ◌++◌, Option, Some, None}
use Rattle.tsdl_text.specs.declared.token.Symbol.TheVariants as s
use Rattle.tsdl_text.specs.declared.token.Token.{Token}
use Rattle.tsdl_tree.specs.declared.tree.Number.{Number}
use Rattle.tsdl_tree.specs.declared.tree.Value.{Value}
use Rattle.tsdl_tree.specs.declared.tree.Value.TheVariants as values
use Rattle.tsdl_tree.specs.declared.tree.Setting.{Setting}
use Rattle.tsdl_tree.specs.declared.tree.Typename.{Typename}
use Rattle.tsdl_tree.specs.declared.tree.Length.{Length}
use Rattle.tsdl_tree.specs.declared.tree.Length.TheVariants as lengths
use Rattle.tsdl_tree.specs.declared.tree.Declarator.{Declarator}
use Rattle.tsdl_tree.specs.declared.tree.Span.{Span}
use Rattle.tsdl_tree.specs.declared.tree.Label.{Label}
use Rattle.tsdl_tree.specs.declared.tree.Container.{Container}
use Rattle.tsdl_tree.specs.declared.tree.Container.TheVariants as containers
use Rattle.tsdl_tree.specs.declared.tree.Reference.{Reference}
use Rattle.tsdl_tree.specs.declared.tree.Reference.TheVariants as references
use Rattle.tsdl_tree.specs.declared.tree.Specifier.{Specifier}
use Rattle.tsdl_tree.specs.declared.tree.Specifier.TheVariants as classes
use Rattle.tsdl_tree.specs.declared.tree.Compound.{Compound}
use Rattle.tsdl_tree.specs.declared.tree.Compound.TheVariants as compounds
use Rattle.tsdl_tree.specs.declared.tree.TypeDeclaration.{TypeDeclaration}
use Rattle.tsdl_tree.specs.declared.tree.TypeDeclaration.TheVariants as typedecls
use Rattle.tsdl_tree.specs.declared.tree.Item.{Item}
use Rattle.tsdl_tree.specs.declared.tree.Item.TheVariants as items
use Rattle.tsdl_tree.specs.declared.tree.BlockEntry.{BlockEntry}
use Rattle.tsdl_tree.specs.declared.tree.BlockEntry.TheVariants as entries
use Rattle.tsdl_tree.specs.declared.tree.BlockKind.{BlockKind}
use Rattle.tsdl_tree.specs.declared.tree.BlockKind.TheVariants as blocks
use Rattle.tsdl_tree.specs.declared.tree.TableKind.{TableKind}
use Rattle.tsdl_tree.specs.declared.tree.TableKind.TheVariants as tables
use Rattle.tsdl_tree.specs.declared.tree.Declaration.{Declaration}
use Rattle.tsdl_tree.specs.declared.tree.Declaration.TheVariants as declarations
use Rattle.tsdl_grammar.specs.Terminals.{Word, Words, Is, IsIdentifier, IsConstant, IsString, IsWord, IsTypeword, IsEntryWord}
use Rattle.tsdl_grammar.specs.Repeats.{Many, Listed, Optional}

-- ---- words, numbers, settings

-- name, path = `WORD { "." WORD }`
pub data IsPath : Words → List Token → Type 0 where
  last : {w : Token} → IsWord w → IsPath (w.text.now ∷ []) (w ∷ [])
  more : {w d : Token} {ws : Words} {ts : List Token} → IsWord w → Is s.Dot d → IsPath ws ts
      → IsPath (w.text.now ∷ ws) (w ∷ d ∷ ts)

-- num = `[ "+" | "-" ] CONST`
pub data IsNumber : Number → List Token → Type 0 where
  constant : {c : Token} {n : ℕ} → IsConstant n c
      → IsNumber (record { is_negative = false; magnitude = n }) (c ∷ [])
  plus : {p c : Token} {n : ℕ} → Is s.Plus p → IsConstant n c
      → IsNumber (record { is_negative = false; magnitude = n }) (p ∷ c ∷ [])
  minus : {m c : Token} {n : ℕ} → Is s.Minus m → IsConstant n c
      → IsNumber (record { is_negative = true; magnitude = n }) (m ∷ c ∷ [])

-- value = `num | STRING | name`
pub data IsValue : Value → List Token → Type 0 where
  number : {n : Number} {ts : List Token} → IsNumber n ts → IsValue (values.Number n) ts
  string : {t : Token} {bytes : Word} → IsString bytes t → IsValue (values.Text bytes) (t ∷ [])
  name : {ws : Words} {ts : List Token} → IsPath ws ts → IsValue (values.Name ws) ts

-- setting = `name "=" value ";"`
pub data IsSetting : Setting → List Token → Type 0 where
  setting : {n : Words} {v : Value} {ts us : List Token} {e c : Token} → IsPath n ts → Is s.Equals e
      → IsValue v us → Is s.Semicolon c
      → IsSetting (record { name = n; value = v }) (ts ++ (e ∷ (us ++ c ∷ [])))

-- attrs = `"{" { setting } "}"`
pub data AreAttributes : List Setting → List Token → Type 0 where
  attributes : {xs : List Setting} {ts : List Token} {o c : Token} → Is s.OpenBrace o
      → Many IsSetting xs ts → Is s.CloseBrace c
      → AreAttributes xs (o ∷ (ts ++ c ∷ []))

-- ---- names of types, declarators

-- `{ typeword }`, of which `const` is not kept
pub data AreTypewords : Words → List Token → Type 0 where
  none : AreTypewords [] []
  skip : {c : Token} {ws : Words} {ts : List Token} → Is s.Const c → AreTypewords ws ts
      → AreTypewords ws (c ∷ ts)
  more : {w : Token} {ws : Words} {ts : List Token} → IsTypeword w → AreTypewords ws ts
      → AreTypewords (w.text.now ∷ ws) (w ∷ ts)

-- typename = `typeword { typeword }`, with a word other than `const`.
-- A typename is a whole run of typewords: after it comes `:=`, `;` or `{`, which are none, or a
-- declarator. Before a declarator it lacks the run's last word, which is the declarator's name: after
-- that name comes `[`, `,` or `;`. (`WholeRun` of the module Spelling says so of lists of tokens.)
pub data IsTypename : Typename → List Token → Type 0 where
  typename : {w : Word} {ws : Words} {ts : List Token} → AreTypewords (w ∷ ws) ts
      → IsTypename (record { words = w ∷ ws }) ts

-- `"[" ( CONST | path ) "]"`
pub data IsLength : Length → List Token → Type 0 where
  constant : {o c e : Token} {n : ℕ} → Is s.OpenBracket o → IsConstant n c → Is s.CloseBracket e
      → IsLength (lengths.Constant n) (o ∷ c ∷ e ∷ [])
  path : {o e : Token} {ws : Words} {ts : List Token} → Is s.OpenBracket o → IsPath ws ts
      → Is s.CloseBracket e → IsLength (lengths.Path ws) (o ∷ (ts ++ e ∷ []))

-- declarator = `IDENT { "[" ( CONST | path ) "]" }`
pub data IsDeclarator : Declarator → List Token → Type 0 where
  declarator : {n : Token} {xs : List Length} {ts : List Token} → IsIdentifier n
      → Many IsLength xs ts
      → IsDeclarator (record { name = n.text.now; lengths = xs }) (n ∷ ts)

-- ---- parts of compounds

-- `IDENT`
pub data IsName : Word → List Token → Type 0 where
  name : {n : Token} → IsIdentifier n → IsName n.text.now (n ∷ [])

-- `"align" "(" CONST ")"`
pub data IsAlign : ℕ → List Token → Type 0 where
  align : {a o c e : Token} {n : ℕ} → Is s.Align a → Is s.OpenParen o → IsConstant n c
      → Is s.CloseParen e → IsAlign n (a ∷ o ∷ c ∷ e ∷ [])

-- `"<" path ">"`
pub data IsTag : Words → List Token → Type 0 where
  tag : {o e : Token} {ws : Words} {ts : List Token} → Is s.Less o → IsPath ws ts → Is s.Greater e
      → IsTag ws (o ∷ (ts ++ e ∷ []))

-- `":" container`, where container = `"integer" attrs | typename`
pub data IsContainer : Container → List Token → Type 0 where
  integer : {o t : Token} {xs : List Setting} {ts : List Token} → Is s.Colon o → Is s.Integer t
      → AreAttributes xs ts
      → IsContainer (containers.Integer xs) (o ∷ t ∷ ts)
  typename : {o : Token} {n : Typename} {ts : List Token} → Is s.Colon o → IsTypename n ts
      → IsContainer (containers.Named n) (o ∷ ts)

-- `"=" num [ "..." num ]`
pub data IsSpan : Span → List Token → Type 0 where
  one : {e : Token} {m : Number} {ts : List Token} → Is s.Equals e → IsNumber m ts
      → IsSpan (record { first = m; last = None }) (e ∷ ts)
  range : {e d : Token} {m n : Number} {ts us : List Token} → Is s.Equals e → IsNumber m ts
      → Is s.Ellipsis d → IsNumber n us
      → IsSpan (record { first = m; last = Some n }) (e ∷ (ts ++ (d ∷ us)))

-- label = `(WORD | STRING) [ "=" num [ "..." num ] ]`
pub data IsLabel : Label → List Token → Type 0 where
  word : {w : Token} {r : Option Span} {ts : List Token} → IsWord w → Optional IsSpan r ts
      → IsLabel (record { name = w.text.now; span = r }) (w ∷ ts)
  string : {t : Token} {bytes : Word} {r : Option Span} {ts : List Token} → IsString bytes t
      → Optional IsSpan r ts
      → IsLabel (record { name = bytes; span = r }) (t ∷ ts)

-- `"{" labels "}"`, where labels = `label { "," label } [ "," ]`
pub data AreLabels : List Label → List Token → Type 0 where
  labels : {o c : Token} {xs : List Label} {ts : List Token} → Is s.OpenBrace o
      → Listed IsLabel xs ts → Is s.CloseBrace c
      → AreLabels xs (o ∷ (ts ++ c ∷ []))
  with_comma : {o m c : Token} {xs : List Label} {ts : List Token} → Is s.OpenBrace o
      → Listed IsLabel xs ts → Is s.Comma m → Is s.CloseBrace c
      → AreLabels xs (o ∷ (ts ++ (m ∷ c ∷ [])))

-- a compound by its name alone: `"struct" IDENT | "variant" IDENT [ "<" path ">" ] | "enum" IDENT`
pub data IsCompoundName : Reference → List Token → Type 0 where
  struct : {t n : Token} → Is s.Struct t → IsIdentifier n
      → IsCompoundName (references.Struct n.text.now) (t ∷ n ∷ [])
  variant : {t n : Token} {g : Option Words} {ts : List Token} → Is s.Variant t → IsIdentifier n
      → Optional IsTag g ts → IsCompoundName (references.Variant n.text.now g) (t ∷ n ∷ ts)
  enum : {t n : Token} → Is s.Enum t → IsIdentifier n
      → IsCompoundName (references.Enum n.text.now) (t ∷ n ∷ [])

-- ---- classes and declarations of names

mutual
  -- class = `[ "const" ] plain`
  pub data IsClass : Specifier → List Token → Type 0 where
    plain : {c : Specifier} {ts : List Token} → IsPlain c ts → IsClass c ts
    const : {q : Token} {c : Specifier} {ts : List Token} → Is s.Const q → IsPlain c ts
        → IsClass c (q ∷ ts)

  -- plain = `"integer" attrs | "floating_point" attrs | "string" [ attrs ] | compound | typename`
  pub data IsPlain : Specifier → List Token → Type 0 where
    integer : {t : Token} {xs : List Setting} {ts : List Token} → Is s.Integer t
        → AreAttributes xs ts → IsPlain (classes.Integer xs) (t ∷ ts)
    floating_point : {t : Token} {xs : List Setting} {ts : List Token} → Is s.FloatingPoint t
        → AreAttributes xs ts → IsPlain (classes.FloatingPoint xs) (t ∷ ts)
    string : {t : Token} → Is s.String t → IsPlain (classes.String []) (t ∷ [])
    string_with : {t : Token} {xs : List Setting} {ts : List Token} → Is s.String t
        → AreAttributes xs ts → IsPlain (classes.String xs) (t ∷ ts)
    compound : {n : Option Word} {c : Compound} {ts : List Token} → IsCompound n c ts
        → IsPlain (classes.Compound n c) ts
    compound_name : {r : Reference} {ts : List Token} → IsCompoundName r ts
        → IsPlain (classes.Named r) ts
    typename : {n : Typename} {ts : List Token} → IsTypename n ts
        → IsPlain (classes.Named (references.Plain n)) ts

  -- compound = `"struct" [ IDENT ] [ body [ "align" "(" CONST ")" ] ]
  --           | "variant" [ IDENT ] [ "<" path ">" ] [ body ]
  --           | "enum" [ IDENT ] [ [ ":" container ] "{" labels "}" ]`
  -- with an IDENT or a body: each with its body, and the name that the IDENT is, if there is one. (Each
  -- by its name alone is IsCompoundName.)
  pub data IsCompound : Option Word → Compound → List Token → Type 0 where
    struct : {t : Token} {n : Option Word} {es : List Item} {a : Option ℕ} {ts us vs : List Token}
        → Is s.Struct t → Optional IsName n ts → IsBody es us → Optional IsAlign a vs
        → IsCompound n (compounds.Struct es a) (t ∷ (ts ++ (us ++ vs)))
    variant : {t : Token} {n : Option Word} {g : Option Words} {es : List Item}
        {ts us vs : List Token}
        → Is s.Variant t → Optional IsName n ts → Optional IsTag g us → IsBody es vs
        → IsCompound n (compounds.Variant g es) (t ∷ (ts ++ (us ++ vs)))
    enum : {t : Token} {n : Option Word} {k : Option Container} {xs : List Label}
        {ts us vs : List Token}
        → Is s.Enum t → Optional IsName n ts → Optional IsContainer k us → AreLabels xs vs
        → IsCompound n (compounds.Enum k xs) (t ∷ (ts ++ (us ++ vs)))

  -- body = `"{" { item } "}"`
  pub data IsBody : List Item → List Token → Type 0 where
    body : {o c : Token} {es : List Item} {ts : List Token} → Is s.OpenBrace o → AreItems es ts
        → Is s.CloseBrace c → IsBody es (o ∷ (ts ++ c ∷ []))

  -- `{ item }`
  pub data AreItems : List Item → List Token → Type 0 where
    none : AreItems [] []
    more : {e : Item} {es : List Item} {ts us : List Token} → IsItem e ts → AreItems es us
        → AreItems (e ∷ es) (ts ++ us)

  -- item = `class declarator { "," declarator } ";" | typedecl`
  pub data IsItem : Item → List Token → Type 0 where
    fields : {c : Specifier} {ds : List Declarator} {ts us : List Token} {e : Token} → IsClass c ts
        → Listed IsDeclarator ds us → Is s.Semicolon e
        → IsItem (items.Fields c ds) (ts ++ (us ++ e ∷ []))
    typedecl : {d : TypeDeclaration} {ts : List Token} → IsTypedecl d ts → IsItem (items.Types d) ts

  -- typedecl = `"typealias" class ":=" typename ";"
  --           | "typedef" class declarator { "," declarator } ";"
  --           | compound ";"`, the last with an IDENT and a body
  pub data IsTypedecl : TypeDeclaration → List Token → Type 0 where
    alias : {t a e : Token} {c : Specifier} {n : Typename} {ts us : List Token} → Is s.Typealias t
        → IsClass c ts → Is s.Assign a → IsTypename n us → Is s.Semicolon e
        → IsTypedecl (typedecls.Alias c n) (t ∷ (ts ++ (a ∷ (us ++ e ∷ []))))
    definition : {t e : Token} {c : Specifier} {ds : List Declarator} {ts us : List Token}
        → Is s.Typedef t → IsClass c ts → Listed IsDeclarator ds us → Is s.Semicolon e
        → IsTypedecl (typedecls.Definition c ds) (t ∷ (ts ++ (us ++ e ∷ [])))
    declared : {e : Token} {n : Word} {c : Compound} {ts : List Token} → IsCompound (Some n) c ts
        → Is s.Semicolon e → IsTypedecl (typedecls.Compound n c) (ts ++ e ∷ [])

-- ---- blocks

-- `"trace" | "stream" | "event"`
pub data IsBlockWord : BlockKind → Token → Type 0 where
  trace : {t : Token} → Is s.Trace t → IsBlockWord blocks.Trace t
  stream : {t : Token} → Is s.Stream t → IsBlockWord blocks.Stream t
  event : {t : Token} → Is s.Event t → IsBlockWord blocks.Event t

-- `"clock" | "env" | "callsite"`
pub data IsTableWord : TableKind → Token → Type 0 where
  clock : {t : Token} → Is s.Clock t → IsTableWord tables.Clock t
  env : {t : Token} → Is s.Env t → IsTableWord tables.Env t
  callsite : {t : Token} → Is s.Callsite t → IsTableWord tables.Callsite t

-- `entry | typedecl`, where entry = `setting | name ":=" class ";"`
-- The name of an entry does not begin with `struct`, `variant`, `enum`, `typedef` or `typealias`.
pub data IsEntry : BlockEntry → List Token → Type 0 where
  setting : {t : Token} {x : Setting} {ts : List Token} → IsEntryWord t → IsSetting x (t ∷ ts)
      → IsEntry (entries.Setting x) (t ∷ ts)
  class : {t a e : Token} {n : Words} {c : Specifier} {ts us : List Token} → IsEntryWord t
      → IsPath n (t ∷ ts) → Is s.Assign a → IsClass c us → Is s.Semicolon e
      → IsEntry (entries.Class n c) (t ∷ (ts ++ (a ∷ (us ++ e ∷ []))))
  typedecl : {d : TypeDeclaration} {ts : List Token} → IsTypedecl d ts
      → IsEntry (entries.Types d) ts

-- `block | typedecl`, where
-- block = `("trace" | "stream" | "event") "{" { entry | typedecl } "}" ";"
--        | ("clock" | "env" | "callsite") "{" { setting } "}" ";"`
pub data IsDeclaration : Declaration → List Token → Type 0 where
  block : {t o c e : Token} {k : BlockKind} {xs : List BlockEntry} {ts : List Token}
      → IsBlockWord k t → Is s.OpenBrace o → Many IsEntry xs ts → Is s.CloseBrace c
      → Is s.Semicolon e
      → IsDeclaration (declarations.Block k xs) (t ∷ o ∷ (ts ++ (c ∷ e ∷ [])))
  table : {t o c e : Token} {k : TableKind} {xs : List Setting} {ts : List Token} → IsTableWord k t
      → Is s.OpenBrace o → Many IsSetting xs ts → Is s.CloseBrace c → Is s.Semicolon e
      → IsDeclaration (declarations.Table k xs) (t ∷ o ∷ (ts ++ (c ∷ e ∷ [])))
  typedecl : {d : TypeDeclaration} {ts : List Token} → IsTypedecl d ts
      → IsDeclaration (declarations.Types d) ts
