-- Values that are shown straight from the bits.
use Rattle.std.specs.Prelude.{◌≡◌, ℕ, ℤ, ◌+◌, ◌*◌, ◌<◌, ◌≤◌, List, [], ◌∷◌, ◌++◌, map, length, take, Option, Some, None, IfSome, Ok, ⊤, if◌then◌else◌}
use Rattle.ctf_class.specs.declared.class.Member.{Member}
use Rattle.ctf_class.specs.declared.integer.Integer.{Integer}
use Rattle.ctf_class.specs.declared.route.Length.{Length}
use Rattle.ctf_class.specs.declared.route.Scope.{Scope}
use Rattle.ctf_decode.specs.Fields.{elements_in, choice_in}
use Rattle.ctf_decode.specs.Values.{Val, vals_of, unsigned, label}
use Rattle.ctf_decode.specs.Forms.{Form, parts_of}
use Rattle.ctf_decode.specs.Input.{Input, Env}
use Rattle.ctf_decode.specs.Routes.{length_of}
use Rattle.ctf_decode.specs.Views as views
use Rattle.ctf_decode.specs.Walk.{walk, walk_members, repeat}
use Rattle.ctf_decode.specs.declared.scopes.TheConstants.{MOST_VALUES}
use Rattle.ctf_format.specs.Rows.{enclosed}
use Rattle.ctf_format.specs.Texts.{Shown, member_part, member_texts, element_texts, integer_text, chosen_text}
use Rattle.ctf_format.specs.declared.content.Content.{Content}
use Rattle.ctf_format.specs.declared.standing.Last.{Last}
use Rattle.ctf_format.specs.declared.standing.Last.TheVariants as lasts
use Rattle.ctf_format.specs.declared.standing.MembersEnd.{MembersEnd}
use Rattle.ctf_format.specs.declared.standing.Next.{Next}

-- a packet's bytes and the place in bits where its content ends, whatever was decoded before (own)
abbrev pub among : List ℕ → ℕ → (Scope → Option Val) → Input
among packet content earlier = record {
  packet = packet;
  content = content;
  earlier = earlier;
  limit = MOST_VALUES;
}

-- A value is there from a place to another, whatever was decoded before, and its text follows a text. So many values
-- were begun before it, and after it (own).
abbrev pub Puts : Form → Shown → List ℕ → ℕ → ℕ → ℕ → ℕ → ℕ → List ℕ → List ℕ → Type 0
Puts k shown packet content place spent end total before after =
    (earlier : Scope → Option Val) (env : Env)
    → (v : Val) × (walk k (among packet content earlier) env place spent ≡ Ok (v, end, total))
    × (after ≡ before ++ shown v)

-- a value that counts as one is there from a place to another, and its text follows a text, where there may be one more
abbrev pub PutsOne : Form → Shown → List ℕ → ℕ → ℕ → ℕ → List ℕ → List ℕ → Type 0
PutsOne k shown packet content place end before after =
    (spent : ℕ) → spent < MOST_VALUES
    → Puts k shown packet content place spent end (spent + 1) before after

-- a value is this, as far as it is known
abbrev pub ValueIs : Last → Val → Type 0
ValueIs lasts.Unknown v = ⊤
ValueIs (lasts.Unsigned n) v = v ≡ unsigned n
ValueIs (lasts.Label z) v = v ≡ label z

-- the last of these values is this, as far as it is known
abbrev pub LastIs : Last → List Val → Type 0
LastIs lasts.Unknown vs = ⊤
LastIs (lasts.Unsigned n) vs = (ws : List Val) × (vs ≡ ws ++ unsigned n ∷ [])
LastIs (lasts.Label z) vs = (ws : List Val) × (vs ≡ ws ++ label z ∷ [])

-- the value of an unsigned integer, if its number is known
abbrev pub known : Option ℕ → Last
known None = lasts.Unknown
known (Some n) = lasts.Unsigned n

-- what is known of the value of an integer with these bits
abbrev pub known_of : Integer → ℕ → Last
known_of i bits = if i.is_signed then lasts.Unknown else lasts.Unsigned bits

-- so many members before a value in its structure, and the number of the last of them, if that is known; else nothing
-- is known of them, also not how many they are
pub record Before : Type 0 where
  pub index : ℕ
  pub last : Last

-- this holds, if a number is known
abbrev pub IfKnown : Last → Type 0 → Type 0
IfKnown lasts.Unknown Holds = ⊤
IfKnown (lasts.Unsigned n) Holds = Holds
IfKnown (lasts.Label z) Holds = Holds

-- a value and its text are there after the members of a structure, with so many values in it, of which so much is known
abbrev pub PutsNext : Before → Form → Shown → List ℕ → ℕ → ℕ → List ℕ → Next → List ℕ → Type 0
PutsNext before k shown packet content place line next after =
    (spent : ℕ) → spent + next.more < MOST_VALUES
    → (earlier : Scope → Option Val) (env : Env) (vs : List Val)
    → IfKnown before.last (length vs ≡ before.index) → LastIs before.last vs
    → (v : Val)
    × (walk k (among packet content earlier) (vs ∷ env) place spent
    ≡ Ok (v, next.place, spent + 1 + next.more))
    × (after ≡ line ++ shown v) × ValueIs next.last v

-- a value and its text are there where this was decoded before, with so many values in it, of which so much is known
abbrev pub PutsWhere : ((Scope → Option Val) → Env → Type 0) → Form → Shown → List ℕ → ℕ → ℕ → List ℕ
    → Next → List ℕ → Type 0
PutsWhere Where k shown packet content place line next after =
    (spent : ℕ) → spent + next.more < MOST_VALUES → (earlier : Scope → Option Val) (env : Env)
    → Where earlier env
    → (v : Val)
    × (walk k (among packet content earlier) env place spent
    ≡ Ok (v, next.place, spent + 1 + next.more))
    × (after ≡ line ++ shown v) × ValueIs next.last v

-- so many elements of an array are there one after the other where this was decoded before, with so many values in all
-- of them
abbrev pub PutsRow : (List (List ℕ) → List ℕ) → ((Scope → Option Val) → Env → Type 0) → Form → Shown
    → ℕ → List ℕ → ℕ → ℕ → List ℕ → MembersEnd → List ℕ → Type 0
PutsRow together Where k shown count packet content place line end after =
    (spent : ℕ) → spent + count + end.more ≤ MOST_VALUES
    → (earlier : Scope → Option Val) (env : Env) → Where earlier env
    → (ws : List Val)
    × (repeat (walk k (among packet content earlier) env) count [] place spent
    ≡ Ok (ws, end.place, spent + count + end.more))
    × (length ws ≡ count)
    × (after ≡ line ++ together (element_texts shown 0 (vals_of ws)))

-- an unsigned integer of this number is at a place, whatever was decoded before
abbrev pub StandsAsNumber : Form → List ℕ → ℕ → ℕ → ℕ → Type 0
StandsAsNumber k packet content place n =
    (spent : ℕ) → spent < MOST_VALUES → (earlier : Scope → Option Val) (env : Env)
    → (end : ℕ)
    × (walk k (among packet content earlier) env place spent ≡ Ok (unsigned n, end, spent + 1))

-- an enumeration of this number is at a place, whatever was decoded before
abbrev pub StandsAsLabel : Form → List ℕ → ℕ → ℕ → ℤ → Type 0
StandsAsLabel k packet content place z =
    (spent : ℕ) → spent < MOST_VALUES → (earlier : Scope → Option Val) (env : Env)
    → (end : ℕ)
    × (walk k (among packet content earlier) env place spent ≡ Ok (label z, end, spent + 1))

-- a value at a place is this, as far as it is known, whatever was decoded before
abbrev pub StandsAs : Last → Form → List ℕ → ℕ → ℕ → Type 0
StandsAs lasts.Unknown k packet content place = ⊤
StandsAs (lasts.Unsigned n) k packet content place = StandsAsNumber k packet content place n
StandsAs (lasts.Label z) k packet content place = StandsAsLabel k packet content place z

-- an array of this length has so many elements after the members of a structure
abbrev pub Counts : Length → Before → ℕ → Type 0
Counts many before n =
    (earlier : Scope → Option Val) (env : Env) (vs : List Val)
    → IfKnown before.last (length vs ≡ before.index) → LastIs before.last vs
    → length_of many earlier (vs ∷ env) ≡ n

-- a value, if one was written, is in a packet, and its text follows a line now
abbrev pub Writes : Option Next → Before → Form → Shown → Content → ℕ → List ℕ → List ℕ → Type 0
Writes result before k shown packet place line items =
    IfSome result (λ next.
    PutsNext before k shown packet.bytes.now packet.end place line next (take next.text items))

-- what is shown of a variant of these options
abbrev pub variant_text : List Member → Shown
variant_text ms v = chosen_text (map member_part ms) (choice_in v)

-- what is shown of an array whose elements are shown so
abbrev pub array_text : Shown → Shown
array_text shown v = enclosed 91 93 (element_texts shown 0 (elements_in v))

-- what is shown of an array of integers
abbrev pub elements_text : Integer → Shown
elements_text i = array_text (integer_text i)

-- a value of so many values is there from a place to another, and its text follows a text, where there may be as many
-- more
abbrev pub PutsSome : Form → Shown → ℕ → List ℕ → ℕ → ℕ → ℕ → List ℕ → List ℕ → Type 0
PutsSome k shown many packet content place end before after =
    (spent : ℕ) → spent + many ≤ MOST_VALUES
    → Puts k shown packet content place spent end (spent + many) before after

-- so many values, each of so many, follow each other, where there may be as many more, and they are shown as elements
abbrev pub PutsElements : (List (List ℕ) → List ℕ) → Form → Shown → ℕ → ℕ → List ℕ → ℕ → ℕ → ℕ
    → List ℕ
    → List ℕ → Type 0
PutsElements together k shown each count packet content place end before after =
    (spent : ℕ) → spent + count * each ≤ MOST_VALUES → (earlier : Scope → Option Val) (env : Env)
    → (vs : List Val)
    × (repeat (walk k (among packet content earlier) env) count [] place spent
    ≡ Ok (vs, end, spent + count * each))
    × (length vs ≡ count)
    × (after ≡ before ++ together (element_texts shown 0 (vals_of vs)))

-- Members are there one after the other in a structure where this was decoded before, with so many values in them,
-- which are so, and their texts follow a text together.
abbrev pub PutsMembers : (List (List ℕ) → List ℕ) → ((Scope → Option Val) → Env → Type 0)
    → (List Val → Type 0) → List Member → List ℕ → ℕ → ℕ → List ℕ → MembersEnd → List ℕ → Type 0
PutsMembers together Where Are ms packet content place before end after =
    (spent : ℕ) → spent + length ms + end.more ≤ MOST_VALUES
    → (earlier : Scope → Option Val) (env : Env) → Where earlier env
    → (vs : List Val)
    × (walk_members (parts_of (map views.member_part ms)) (among packet content earlier) env []
    place spent
    ≡ Ok (vs, end.place, spent + length ms + end.more))
    × (length vs ≡ length ms)
    × (after ≡ before ++ together (member_texts (map member_part ms) (vals_of vs))) × Are vs
