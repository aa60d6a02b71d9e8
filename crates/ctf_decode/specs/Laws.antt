-- Laws of what is at a place.
use Rattle.std.specs.Prelude.{◌≡◌, ℕ, ◌+◌, ◌*◌, ◌^◌, ◌<◌, ◌≤◌, List, ◌++◌, length, All, Option, Ok, Err}
use Rattle.ctf_class.specs.declared.route.Scope.{Scope}
use Rattle.ctf_decode.specs.Values.{Val, count}
use Rattle.ctf_decode.specs.Forms.{Form}
use Rattle.ctf_decode.specs.Fields.{moved}
use Rattle.ctf_decode.specs.Input.{Input, Env}
use Rattle.ctf_decode.specs.Stands.{Stands}
use Rattle.ctf_decode.specs.Breaks.{past, Breaks}
use Rattle.ctf_decode.specs.Walk.{Step}

-- what is at a place: a value with which no more values were begun than may be there, or a fault
abbrev pub Is : Form → Input → Env → ℕ → ℕ → Step Val → Type 0
Is k c env p s (Ok x) = Stands k c env p x.0 x.1 × (x.2 ≡ s + count x.0) × (x.2 ≤ c.limit)
Is k c env p s (Err f) = Breaks k c env p s f

-- one of them is there, and nothing else
abbrev pub OneStands : Type 0
OneStands =
    (k : Form) (c : Input) (env : Env) (p s : ℕ)
    → (r : Step Val) × Is k c env p s r × ((x : Step Val) → Is k c env p s x → x ≡ r)

abbrev pub input_of : List ℕ → ℕ → (Scope → Option Val) → ℕ → Input
input_of packet content earlier limit = record {
  packet = packet;
  content = content;
  earlier = earlier;
  limit = limit;
}

-- what is in a beginning of a packet is in the whole
abbrev pub StandsInWhole : Type 0
StandsInWhole =
    (k : Form) (packet more : List ℕ) (content whole limit : ℕ) (earlier : Scope → Option Val)
    (env : Env) (p : ℕ) (v : Val) (q : ℕ)
    → content ≤ whole → content ≤ 8 * length packet
    → Stands k (input_of packet content earlier limit) env p v q
    → Stands k (input_of (packet ++ more) whole earlier limit) env p v q

-- a place that a beginning of a packet does not reach is reached by each packet with this beginning in which
-- a value is there
abbrev pub NeedsSoMuch : Type 0
NeedsSoMuch =
    (k : Form) (packet more : List ℕ) (content whole limit : ℕ) (earlier : Scope → Option Val)
    (env : Env) (p s n : ℕ) (v : Val) (q : ℕ)
    → content ≤ whole → content ≤ 8 * length packet
    → Breaks k (input_of packet content earlier limit) env p s (past n)
    → Stands k (input_of (packet ++ more) whole earlier limit) env p v q → n ≤ whole

-- each number by which a value sets the clock is one of so many bits
abbrev pub MovedAreHeld : Type 0
MovedAreHeld = (k : Form) (v : Val) → All (λ pair. pair.1 < 2 ^ pair.0) (moved k v)
