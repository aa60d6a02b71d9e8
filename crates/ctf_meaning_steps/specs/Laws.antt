-- Going through a text from its beginning gives what the text means.
use Rattle.std.specs.Prelude.{◌≡◌, ℕ, false, List, [], map, flat_map, find, nat_eq, slice_get, Option, Some, option_map, option_and_then, Ok, Err, Contains}
use Rattle.ctf_bits.specs.declared.number.Order.{Order}
use Rattle.ctf_class.specs.declared.class.Class.{Class}
use Rattle.ctf_class.specs.declared.route.Scope.{Scope}
use Rattle.ctf_class.specs.declared.trace.Clock.{Clock}
use Rattle.ctf_meaning.specs.declared.fault.ResolveFault.{ResolveFault}
use Rattle.ctf_meaning.specs.Written.{Declaration}
use Rattle.ctf_meaning.specs.Shapes.{Shape, has_float}
use Rattle.ctf_meaning.specs.Paths.{Spot, rank}
use Rattle.ctf_meaning.specs.Links.{link_faults_at, class_at}
use Rattle.ctf_meaning.specs.Scopes.{scope_at}
use Rattle.ctf_meaning.specs.Streams.{numbered}
use Rattle.ctf_meaning.specs.Faults.{own_faults, first_faults}
use Rattle.ctf_meaning_steps.specs.Blocks.{Placed, Walked, text_told}
use Rattle.ctf_meaning_steps.specs.Linking.{class_told}

-- the class of a scope among those of a declaration
abbrev pub class_among : Scope → List Placed → Option Shape
class_among scope row = option_map (λ p. p.1) (find (λ p. nat_eq (rank p.0) (rank scope)) row)

abbrev pub class_in_row : List (List Placed) → ℕ → Scope → Option Shape
class_in_row rows k scope = option_and_then (class_among scope) (slice_get rows k)

-- Where a text is gone through to its end, no declaration has an own fault, and the class of each scope is found.
abbrev pub WalkFindsScopes : Type 0
WalkFindsScopes =
    (text : List Declaration) (walked : Walked) → text_told text ≡ Ok walked →
    (flat_map (own_faults text) (numbered text) ≡ [])
    × ((k : ℕ) (scope : Scope) → scope_at text k scope ≡ class_in_row walked.rows k scope)

-- A fault that is reported on the way is an own fault of the first declaration that has one.
abbrev pub WalkTellsOwn : Type 0
WalkTellsOwn =
    (text : List Declaration) (fault : ResolveFault) → text_told text ≡ Err fault →
    Contains (first_faults (map (own_faults text) (numbered text))) fault

-- Where linking gives a class, no length, tag or mapping in it fails, and the class is what the shape is there.
abbrev pub LinkingGivesClass : Type 0
LinkingGivesClass =
    (order : Order) (clocks : List Clock) (spot : Spot) (shape : Shape) (c : Class)
    → class_told order clocks spot shape ≡ Ok c →
    (link_faults_at clocks spot shape ≡ []) × (class_at order clocks spot shape ≡ Some c)

-- A fault that it reports is one of them, where no float is in the shape.
abbrev pub LinkingTellsFault : Type 0
LinkingTellsFault =
    (order : Order) (clocks : List Clock) (spot : Spot) (shape : Shape) (fault : ResolveFault) →
    has_float shape ≡ false → class_told order clocks spot shape ≡ Err fault
    → Contains (link_faults_at clocks spot shape) fault
