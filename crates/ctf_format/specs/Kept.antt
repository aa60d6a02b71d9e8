-- Numbers that are kept while a record goes by its plan (all own).
use Rattle.std.specs.Prelude.{◌≡◌, ℕ, ◌+◌, ◌<◌, ◌≤◌, Bool, true, false, List, [], ◌∷◌, ◌++◌, get_or, length, Option, None, Ok, ⊤}
use Rattle.std.specs.Int.{next_multiple_of}
use Rattle.ctf_class.specs.Records.{ScopeClass, Slot}
use Rattle.ctf_class.specs.declared.record_plan.Count.{Count}
use Rattle.ctf_class.specs.declared.record_plan.Count.TheVariants as counts
use Rattle.ctf_class.specs.declared.route.Length.{Length}
use Rattle.ctf_class.specs.declared.route.Route.{Route}
use Rattle.ctf_class.specs.declared.route.Scope.{Scope}
use Rattle.ctf_decode.specs.Forms.{Form}
use Rattle.ctf_decode.specs.Input.{Env}
use Rattle.ctf_decode.specs.Routes.{found_from, length_of}
use Rattle.ctf_decode.specs.Values.{Val}
use Rattle.ctf_decode.specs.Views.{form}
use Rattle.ctf_decode.specs.Walk.{walk}
use Rattle.ctf_decode.specs.declared.scopes.TheConstants.{MOST_VALUES}
use Rattle.ctf_format.specs.Found.{Finds}
use Rattle.ctf_format.specs.Records.{Reached, ScopesFollow, after_last}
use Rattle.ctf_format.specs.Standing.{Before, IfKnown, LastIs, StandsAs, ValueIs, among, known}
use Rattle.ctf_format.specs.Texts.{Shown, value_text}
use Rattle.ctf_format.specs.declared.standing.Last.{Last}
use Rattle.ctf_format.specs.declared.standing.Last.TheVariants as lasts
use Rattle.ctf_format.specs.declared.standing.Next.{Next}

-- routes lead to these numbers, one after the other, as far as these are known
abbrev pub Knows : List Route → List Last → (Scope → Option Val) → Env → Type 0
Knows [] ns earlier env = ⊤
Knows (r ∷ rs) [] earlier env = ⊤
Knows (r ∷ rs) (n ∷ ns) earlier env =
    Finds n (found_from r.origin r.steps earlier env) × Knows rs ns earlier env

-- the first of these numbers are those that routes lead to from a record's scopes
abbrev pub BeginsWith : List Route → List Last → (Scope → Option Val) → Type 0
BeginsWith given ns earlier = (length given ≤ length ns) × Knows given ns earlier []

-- in a structure where as many routes do
abbrev pub Within : List Route → List Last → (Scope → Option Val) → Env → Type 0
Within known ns earlier [] = ⊥
Within known ns earlier (vs ∷ env) =
    (length known ≡ length ns) × Knows known ns earlier (vs ∷ env)

-- so many elements, by the kept numbers
abbrev pub IsCounted : Count → List Last → ℕ → Type 0
IsCounted (counts.Fixed n) ns count = count ≡ n
IsCounted (counts.Kept place) ns count = get_or ns place lasts.Unknown ≡ lasts.Unsigned count

-- an array of this length has so many elements where this was decoded before
abbrev pub CountsWhere : ((Scope → Option Val) → Env → Type 0) → Length → ℕ → Type 0
CountsWhere Where many count =
    (earlier : Scope → Option Val) (env : Env) → Where earlier env → length_of many earlier env ≡ count

-- A value and its text are there after the members of a structure, with so many values in it, where routes lead to
-- these numbers.
abbrev pub PutsKnowing : List Route → List Last → Before → Form → Shown → List ℕ → ℕ → ℕ → List ℕ
    → Next → List ℕ → Type 0
PutsKnowing routes ns before k shown packet content place line next after =
    (spent : ℕ) → spent + next.more < MOST_VALUES
    → (earlier : Scope → Option Val) (env : Env) (vs : List Val)
    → IfKnown before.last (length vs ≡ before.index) → LastIs before.last vs
    → Within routes ns earlier (vs ∷ env)
    → (v : Val)
    × (walk k (among packet content earlier) (vs ∷ env) place spent
    ≡ Ok (v, next.place, spent + 1 + next.more))
    × (after ≡ line ++ shown v) × ValueIs next.last v

-- the number of a value is kept after others, or is not
abbrev pub KeepsIf : Bool → Form → List ℕ → ℕ → ℕ → List Last → List Last → Type 0
KeepsIf false k packet content place ns ms = ms ≡ ns
KeepsIf true k packet content place ns ms =
    (n : Last) × StandsAs n k packet content place × (ms ≡ ns ++ n ∷ [])

-- A field's value comes after other fields, of which these numbers are kept, whatever else was decoded before them, and
-- what is printed of it follows what was written. It is what is known of it then, and so are the numbers kept.
abbrev pub PutsSlot : Slot → List ℕ → ℕ → Reached → List Last → Reached → List Last → Type 0
PutsSlot s packet content from ns to ms =
    let begun = next_multiple_of from.place s.align in
    (begun ≤ content) × (some : ℕ) × (to.more ≡ from.more + some)
    × PutsKnowing s.known ns (after_last s.index from.last) (form s.class)
    (λ v. s.lead ++ value_text s.class v) packet content begun from.line
    (record { place = to.place; text = 0; more = some; last = known None }) to.line
    × StandsAs to.last (form s.class) packet content begun
    × KeepsIf s.kept (form s.class) packet content begun ns ms

-- so do fields one after the other
abbrev pub PutsSlots : List Slot → List ℕ → ℕ → Reached → List Last → Reached → List Last → Type 0
PutsSlots [] packet content from ns to ms = (to ≡ from) × (ms ≡ ns)
PutsSlots (s ∷ ss) packet content from ns to ms =
    (mid : Reached) × (ks : List Last) × PutsSlot s packet content from ns mid ks
    × PutsSlots ss packet content mid ks to ms

-- The values of scopes and their texts follow each other, whatever was decoded before where the first of these numbers
-- are those that routes lead to.
abbrev pub PutsScopes : List Route → List Last → List ScopeClass → List ℕ → ℕ → ℕ → ℕ → ℕ → ℕ → List ℕ
    → List ℕ → Type 0
PutsScopes given ns ks packet content place spent end total before after =
    (earlier : Scope → Option Val) → BeginsWith given ns earlier
    → ScopesFollow ks earlier packet content place spent end total before after
