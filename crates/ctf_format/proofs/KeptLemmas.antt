-- Numbers that are kept are those that routes lead to.
use Rattle.std.proofs.Common.{◌≡◌, ℕ, zero, suc, ◌<◌, ◌≤◌, Bool, true, false, List, [], ◌∷◌, ◌++◌, take, length, get_or, slice_get, Option, Some, None, Ok, refl, sym, ap, subst, ◌∙◌, arith, length-append}
use Rattle.std.proofs.Common.{All, ◌⊎◌, inl, inr}
use Rattle.std.specs.Prelude.{option_and_then, ⊤}
use Rattle.ctf_class.specs.Records.{IsInPacket, LeadsTo, Piece, Pieces, alone, inner, no_pieces, more_pieces, from_after, from_inside, from_later, further_out, known_after, known_by, of_scope, outside, with_kept}
use Rattle.ctf_class.specs.declared.route.Origin.{Origin}
use Rattle.ctf_class.specs.declared.route.Origin.TheVariants.{Enclosing, Earlier}
use Rattle.ctf_class.specs.declared.route.Route.{Route}
use Rattle.ctf_class.specs.declared.route.Scope.{Scope}
use Rattle.ctf_class.specs.declared.route.Scope.TheVariants.{PacketHeader, PacketContext}
use Rattle.ctf_decode.specs.Forms.{Form}
use Rattle.ctf_decode.specs.Input.{Env}
use Rattle.ctf_decode.specs.Routes.{found, found_from, inside}
use Rattle.ctf_decode.specs.Values.{Val, down, group, label, nth, unsigned, vals_of}
use Rattle.ctf_decode.specs.Walk.{walk}
use Rattle.ctf_decode.specs.declared.scopes.TheConstants.{MOST_VALUES}
use Rattle.ctf_format.specs.Found.{Finds}
use Rattle.ctf_format.specs.Kept.{KeepsIf, Knows}
use Rattle.ctf_format.specs.Records.{SeesAfter, turn_of}
use Rattle.ctf_format.specs.Standing.{ValueIs, among}
use Rattle.ctf_format.specs.declared.standing.Last.{Last}
use Rattle.ctf_format.specs.declared.standing.Last.TheVariants as lasts
use Rattle.ctf_format.proofs.StandingLemmas.{last_of, stands_is}

-- a route leads to this number, as far as it is known
abbrev LeadsSo : Origin → List ℕ → Last → (Scope → Option Val) → Env → Type 0
LeadsSo o steps n earlier env = Finds n (found_from o steps earlier env)

-- what steps find among members stays where one more comes
inside_some : (is : List ℕ) (vs : List Val) (i : ℕ) (v x : Val) → option_and_then (down is) (slice_get vs i) ≡ Some x → option_and_then (down is) (slice_get (vs ++ v ∷ []) i) ≡ Some x
inside_some is [] zero v x at = absurd (cc)
inside_some is [] (suc i) v x at = absurd (cc)
inside_some is (w ∷ vs) zero v x at = at
inside_some is (w ∷ vs) (suc i) v x at = inside_some is vs i v x at

found_more : (steps : List ℕ) (vs : List Val) (v x : Val) → inside steps vs ≡ Some x → inside steps (vs ++ v ∷ []) ≡ Some x
found_more [] vs v x at = absurd (cc)
found_more (i ∷ is) vs v x at = inside_some is vs i v x at

-- and what they find in a structure's members is in its value
nth_of : (is : List ℕ) (ws : List Val) (i : ℕ) → option_and_then (down is) (nth (vals_of ws) i) ≡ option_and_then (down is) (slice_get ws i)
nth_of is [] zero = refl
nth_of is [] (suc i) = refl
nth_of is (w ∷ ws) zero = refl
nth_of is (w ∷ ws) (suc i) = nth_of is ws i

found_group : (steps : List ℕ) (ws : List Val) (x : Val) → inside steps ws ≡ Some x → down steps (group (vals_of ws)) ≡ Some x
found_group [] ws x at = absurd (cc)
found_group (i ∷ is) ws x at = nth_of is ws i ∙ at

-- a number that is found stays so where as much is found
finds_so : (n : Last) (one other : Option Val) → ((x : Val) → one ≡ Some x → other ≡ Some x) → Finds n one → Finds n other
finds_so lasts.Unknown one other same finds = tt
finds_so (lasts.Unsigned n) one other same finds = same (unsigned n) finds
finds_so (lasts.Label z) one other same finds = same (label z) finds

-- one member more
leads_more : (o : Origin) (steps : List ℕ) (n : Last) (earlier : Scope → Option Val) (env : Env) (vs : List Val) (v : Val) → LeadsSo o steps n earlier (vs ∷ env) → LeadsSo o steps n earlier ((vs ++ v ∷ []) ∷ env)
leads_more (Enclosing zero) steps n earlier env vs v leads = finds_so n (inside steps vs) (inside steps (vs ++ v ∷ [])) (λ x at. found_more steps vs v x at) leads
leads_more (Enclosing (suc out)) steps n earlier env vs v leads = leads
leads_more (Earlier scope) steps n earlier env vs v leads = leads

pub knows_more : (rs : List Route) (ns : List Last) (earlier : Scope → Option Val) (env : Env) (vs : List Val) (v : Val) → Knows rs ns earlier (vs ∷ env) → Knows rs ns earlier ((vs ++ v ∷ []) ∷ env)
knows_more [] ns earlier env vs v knows = tt
knows_more (r ∷ rs) [] earlier env vs v knows = tt
knows_more (r ∷ rs) (n ∷ ns) earlier env vs v knows = (leads_more r.origin r.steps n earlier env vs v knows.0, knows_more rs ns earlier env vs v knows.1)

-- within a structure
leads_inside : (o : Origin) (steps : List ℕ) (n : Last) (earlier : Scope → Option Val) (env : Env) (vs : List Val) → LeadsSo o steps n earlier env → LeadsSo (further_out o) steps n earlier (vs ∷ env)
leads_inside (Enclosing out) steps n earlier env vs leads = leads
leads_inside (Earlier scope) steps n earlier env vs leads = leads

pub knows_inside : (rs : List Route) (ns : List Last) (earlier : Scope → Option Val) (env : Env) (vs : List Val) → Knows rs ns earlier env → Knows (from_inside rs) ns earlier (vs ∷ env)
knows_inside [] ns earlier env vs knows = tt
knows_inside (r ∷ rs) [] earlier env vs knows = tt
knows_inside (r ∷ rs) (n ∷ ns) earlier env vs knows = (leads_inside r.origin r.steps n earlier env vs knows.0, knows_inside rs ns earlier env vs knows.1)

-- after a structure, whose members were these
leads_after : (o : Origin) (steps : List ℕ) (n : Last) (i : ℕ) (earlier : Scope → Option Val) (env : Env) (vs ws : List Val) → length vs ≡ i → LeadsSo o steps n earlier (ws ∷ (vs ∷ env)) → LeadsSo (outside i o steps).origin (outside i o steps).steps n earlier ((vs ++ group (vals_of ws) ∷ []) ∷ env)
leads_after (Enclosing zero) steps n i earlier env vs ws counted leads =
    let g = group (vals_of ws) in
    finds_so n (inside steps ws) (inside (i ∷ steps) (vs ++ g ∷ [])) (λ x at. ap (option_and_then (down steps)) (last_of vs g i counted) ∙ found_group steps ws x at) leads
leads_after (Enclosing (suc zero)) steps n i earlier env vs ws counted leads =
    let g = group (vals_of ws) in
    finds_so n (inside steps vs) (inside steps (vs ++ g ∷ [])) (λ x at. found_more steps vs g x at) leads
leads_after (Enclosing (suc (suc out))) steps n i earlier env vs ws counted leads = leads
leads_after (Earlier scope) steps n i earlier env vs ws counted leads = leads

pub knows_after : (rs : List Route) (ns : List Last) (i : ℕ) (earlier : Scope → Option Val) (env : Env) (vs ws : List Val) → length vs ≡ i → Knows rs ns earlier (ws ∷ (vs ∷ env)) → Knows (from_after i rs) ns earlier ((vs ++ group (vals_of ws) ∷ []) ∷ env)
knows_after [] ns i earlier env vs ws counted knows = tt
knows_after (r ∷ rs) [] i earlier env vs ws counted knows = tt
knows_after (r ∷ rs) (n ∷ ns) i earlier env vs ws counted knows = (leads_after r.origin r.steps n i earlier env vs ws counted knows.0, knows_after rs ns i earlier env vs ws counted knows.1)

-- no route leads to a scope from this turn on
abbrev IsBefore : ℕ → Origin → Type 0
IsBefore turn (Enclosing out) = ⊤
IsBefore turn (Earlier scope) = turn_of scope < turn

abbrev pub AreBefore : ℕ → List Route → Type 0
AreBefore turn [] = ⊤
AreBefore turn (r ∷ rs) = IsBefore turn r.origin × AreBefore turn rs

before_further : (turn : ℕ) (o : Origin) → IsBefore turn o → IsBefore turn (further_out o)
before_further turn (Enclosing out) before = tt
before_further turn (Earlier scope) before = before

pub before_inside : (turn : ℕ) (rs : List Route) → AreBefore turn rs → AreBefore turn (from_inside rs)
before_inside turn [] before = tt
before_inside turn (r ∷ rs) before = (before_further turn r.origin before.0, before_inside turn rs before.1)

before_outside : (turn i : ℕ) (o : Origin) (steps : List ℕ) → IsBefore turn o → IsBefore turn (outside i o steps).origin
before_outside turn i (Enclosing zero) steps before = tt
before_outside turn i (Enclosing (suc out)) steps before = tt
before_outside turn i (Earlier scope) steps before = before

before_after : (turn i : ℕ) (rs : List Route) → AreBefore turn rs → AreBefore turn (from_after i rs)
before_after turn i [] before = tt
before_after turn i (r ∷ rs) before = (before_outside turn i r.origin r.steps before.0, before_after turn i rs before.1)

before_and : (turn : ℕ) (rs : List Route) (steps : List ℕ) → AreBefore turn rs → AreBefore turn (rs ++ (record { origin = Enclosing 0; steps = steps }) ∷ [])
before_and turn [] steps before = (tt, tt)
before_and turn (r ∷ rs) steps before = (before.0, before_and turn rs steps before.1)

before_kept : (turn : ℕ) (kept : Bool) (i : ℕ) (rs : List Route) → AreBefore turn rs → AreBefore turn (with_kept kept i rs)
before_kept turn false i rs before = before
before_kept turn true i rs before = before_and turn rs (i ∷ []) before

mutual
  before_by : (turn i : ℕ) (rs : List Route) (p : Piece) → AreBefore turn rs → AreBefore turn (known_by i rs p)
  before_by turn i rs (alone kept m) before = before_kept turn kept i rs before
  before_by turn i rs (inner m base ps) before = before_after turn i (known_after 0 (from_inside rs) ps) (before_pieces turn 0 (from_inside rs) ps (before_inside turn rs before))

  pub before_pieces : (turn i : ℕ) (rs : List Route) (ps : Pieces) → AreBefore turn rs → AreBefore turn (known_after i rs ps)
  before_pieces turn i rs no_pieces before = before
  before_pieces turn i rs (more_pieces p ps) before = before_pieces turn (suc i) (known_by i rs p) ps (before_by turn i rs p before)

before_scope : (scope : Scope) (o : Origin) → IsBefore (turn_of scope) o → IsBefore (suc (turn_of scope)) (of_scope scope o)
before_scope scope (Enclosing zero) before = omega arith
before_scope scope (Enclosing (suc out)) before = tt
before_scope scope (Earlier other) before = omega (arith, before)

pub before_later : (scope : Scope) (rs : List Route) → AreBefore (turn_of scope) rs → AreBefore (suc (turn_of scope)) (from_later scope rs)
before_later scope [] before = tt
before_later scope (r ∷ rs) before = (before_scope scope r.origin before.0, before_later scope rs before.1)

pub before_longer : (one other : ℕ) (rs : List Route) → one ≤ other → AreBefore one rs → AreBefore other rs
before_longer one other [] longer before = tt
before_longer one other (r ∷ rs) longer before = (by r.origin before.0, before_longer one other rs longer before.1)
  where
    by : (o : Origin) → IsBefore one o → IsBefore other o
    by (Enclosing out) is = tt
    by (Earlier scope) is = omega (arith, longer, is)

-- routes into the packet's header and context
before_records : (o : Origin) → (o ≡ Earlier PacketHeader) ⊎ (o ≡ Earlier PacketContext) → IsBefore 2 o
before_records o (inl is) = subst (IsBefore 2) (sym is) (omega arith)
before_records o (inr is) = subst (IsBefore 2) (sym is) (omega arith)

pub before_given : (rs : List Route) → All IsInPacket rs → AreBefore 2 rs
before_given [] are = tt
before_given (r ∷ rs) are = (before_records r.origin (are 0 r (omega arith)), before_given rs (λ k d within. are (suc k) d (omega (arith, within))))

-- in the scopes after one, whose members were these
leads_later : (o : Origin) (scope : Scope) (steps : List ℕ) (n : Last) (earlier later : Scope → Option Val) (env : Env) (ws : List Val) → IsBefore (turn_of scope) o → SeesAfter scope (group (vals_of ws)) earlier later → LeadsSo o steps n earlier (ws ∷ env) → LeadsSo (of_scope scope o) steps n later env
leads_later (Enclosing zero) scope steps n earlier later env ws before sees leads =
    finds_so n (inside steps ws) (option_and_then (down steps) (later scope)) (λ x at. ap (option_and_then (down steps)) sees.0 ∙ found_group steps ws x at) leads
leads_later (Enclosing (suc out)) scope steps n earlier later env ws before sees leads = leads
leads_later (Earlier other) scope steps n earlier later env ws before sees leads = subst (λ o. Finds n (option_and_then (down steps) o)) (sym (sees.1 other before)) leads

pub knows_later : (rs : List Route) (scope : Scope) (ns : List Last) (earlier later : Scope → Option Val) (env : Env) (ws : List Val) → AreBefore (turn_of scope) rs → SeesAfter scope (group (vals_of ws)) earlier later → Knows rs ns earlier (ws ∷ env) → Knows (from_later scope rs) ns later env
knows_later [] scope ns earlier later env ws before sees knows = tt
knows_later (r ∷ rs) scope [] earlier later env ws before sees knows = tt
knows_later (r ∷ rs) scope (n ∷ ns) earlier later env ws before sees knows = (leads_later r.origin scope r.steps n earlier later env ws before.0 sees knows.0, knows_later rs scope ns earlier later env ws before.1 sees knows.1)

-- and after one that was not gone into
leads_past : (o : Origin) (scope : Scope) (steps : List ℕ) (n : Last) (v : Val) (earlier later : Scope → Option Val) (env : Env) → IsBefore (turn_of scope) o → SeesAfter scope v earlier later → LeadsSo o steps n earlier env → LeadsSo (of_scope scope (further_out o)) steps n later env
leads_past (Enclosing out) scope steps n v earlier later env before sees leads = leads
leads_past (Earlier other) scope steps n v earlier later env before sees leads = subst (λ o. Finds n (option_and_then (down steps) o)) (sym (sees.1 other before)) leads

pub knows_past : (rs : List Route) (scope : Scope) (ns : List Last) (v : Val) (earlier later : Scope → Option Val) (env : Env) → AreBefore (turn_of scope) rs → SeesAfter scope v earlier later → Knows rs ns earlier env → Knows (from_later scope (from_inside rs)) ns later env
knows_past [] scope ns v earlier later env before sees knows = tt
knows_past (r ∷ rs) scope [] v earlier later env before sees knows = tt
knows_past (r ∷ rs) scope (n ∷ ns) v earlier later env before sees knows = (leads_past r.origin scope r.steps n v earlier later env before.0 sees knows.0, knows_past rs scope ns v earlier later env before.1 sees knows.1)

-- where there is no structure around, none leads into one
leads_bare : (o : Origin) (steps : List ℕ) (n : Last) (earlier : Scope → Option Val) → LeadsSo o steps n earlier [] → LeadsSo o steps n earlier ([] ∷ [])
leads_bare (Enclosing zero) steps n earlier leads = finds_so n None (inside steps []) (λ x at. absurd (cc)) leads
leads_bare (Enclosing (suc zero)) steps n earlier leads = leads
leads_bare (Enclosing (suc (suc out))) steps n earlier leads = leads
leads_bare (Earlier scope) steps n earlier leads = leads

pub knows_bare : (rs : List Route) (ns : List Last) (earlier : Scope → Option Val) → Knows rs ns earlier [] → Knows rs ns earlier ([] ∷ [])
knows_bare [] ns earlier knows = tt
knows_bare (r ∷ rs) [] earlier knows = tt
knows_bare (r ∷ rs) (n ∷ ns) earlier knows = (leads_bare r.origin r.steps n earlier knows.0, knows_bare rs ns earlier knows.1)

-- one number more
-- the first of some numbers
pub knows_first : (rs : List Route) (ns : List Last) (earlier : Scope → Option Val) (env : Env) → Knows rs ns earlier env → Knows rs (take (length rs) ns) earlier env
knows_first [] ns earlier env knows = tt
knows_first (r ∷ rs) [] earlier env knows = tt
knows_first (r ∷ rs) (n ∷ ns) earlier env knows = (knows.0, knows_first rs ns earlier env knows.1)

pub knows_and : (rs : List Route) (ns : List Last) (r : Route) (n : Last) (earlier : Scope → Option Val) (env : Env) → length rs ≡ length ns → Knows rs ns earlier env → LeadsSo r.origin r.steps n earlier env → Knows (rs ++ r ∷ []) (ns ++ n ∷ []) earlier env
knows_and [] [] r n earlier env same knows leads = (leads, tt)
knows_and [] (m ∷ ns) r n earlier env same knows leads = absurd (omega (arith, same))
knows_and (q ∷ rs) [] r n earlier env same knows leads = absurd (omega (arith, same))
knows_and (q ∷ rs) (m ∷ ns) r n earlier env same knows leads = (knows.0, knows_and rs ns r n earlier env (omega (arith, same)) knows.1 leads)

finds_itself : (n : Last) (v : Val) → ValueIs n v → Finds n (Some v)
finds_itself lasts.Unknown v is = tt
finds_itself (lasts.Unsigned n) v is = ap Some is
finds_itself (lasts.Label z) v is = ap Some is

-- a value whose number is kept, or is not
pub kept_lengths : (kept : Bool) (i : ℕ) (known : List Route) (k : Form) (packet : List ℕ) (content place : ℕ) (ns ms : List Last) → length known ≡ length ns → KeepsIf kept k packet content place ns ms → length (with_kept kept i known) ≡ length ms
kept_lengths false i known k packet content place ns ms same keeps = same ∙ ap length (sym keeps)
kept_lengths true i known k packet content place ns ms same keeps =
    let longer = length-append ns (keeps.0 ∷ []) in
    let led = length-append known ((record { origin = Enclosing 0; steps = i ∷ [] }) ∷ []) in
    let all = ap length keeps.2 in
    omega (arith, same, longer, led, all)

pub kept_knows : (kept : Bool) (i : ℕ) (known : List Route) (k : Form) (packet : List ℕ) (content place end total spent : ℕ) (ns ms : List Last) (earlier : Scope → Option Val) (env : Env) (vs : List Val) (v : Val) → length known ≡ length ns → KeepsIf kept k packet content place ns ms → spent < MOST_VALUES → length vs ≡ i → Knows known ns earlier (vs ∷ env)
    → walk k (among packet content earlier) (vs ∷ env) place spent ≡ Ok (v, end, total) → Knows (with_kept kept i known) ms earlier ((vs ++ v ∷ []) ∷ env)
kept_knows false i known k packet content place end total spent ns ms earlier env vs v same keeps few counted knows walked =
    subst (λ xs. Knows known xs earlier ((vs ++ v ∷ []) ∷ env)) (sym keeps) (knows_more known ns earlier env vs v knows)
kept_knows true i known k packet content place end total spent ns ms earlier env vs v same keeps few counted knows walked =
    let n = keeps.0 in
    let r : Route = record { origin = Enclosing 0; steps = i ∷ [] } in
    let is : ValueIs n v = stands_is n k packet content place end spent total earlier (vs ∷ env) v few walked keeps.1 in
    let here : Finds n (found_from (Enclosing 0) (i ∷ []) earlier ((vs ++ v ∷ []) ∷ env)) = subst (λ o. Finds n (option_and_then (down []) o)) (sym (last_of vs v i counted)) (finds_itself n v is) in
    subst (λ xs. Knows (known ++ r ∷ []) xs earlier ((vs ++ v ∷ []) ∷ env)) (sym keeps.2) (knows_and known ns r n earlier ((vs ++ v ∷ []) ∷ env) same (knows_more known ns earlier env vs v knows) here)

-- the kept number of a place
found_of : (r : Route) (n : Last) (earlier : Scope → Option Val) (env : Env) → Finds n (found_from r.origin r.steps earlier env) → Finds n (found r earlier env)
unfolding found
found_of r n earlier env finds = finds

pub knows_at : (rs : List Route) (ns : List Last) (place : ℕ) (r : Route) (earlier : Scope → Option Val) (env : Env) → LeadsTo rs r place → Knows rs ns earlier env → Finds (get_or ns place lasts.Unknown) (found r earlier env)
knows_at [] ns zero r earlier env at knows = absurd (cc)
knows_at [] ns (suc place) r earlier env at knows = absurd (cc)
knows_at (q ∷ rs) [] zero r earlier env at knows = tt
knows_at (q ∷ rs) [] (suc place) r earlier env at knows = tt
knows_at (q ∷ rs) (n ∷ ns) zero r earlier env at knows =
    let same : q ≡ r = ap (λ (o : Option Route). or_else q o) at in
    found_of r n earlier env (subst (λ (x : Route). LeadsSo x.origin x.steps n earlier env) same knows.0)
  where
    or_else : Route → Option Route → Route
    or_else x None = x
    or_else x (Some y) = y
knows_at (q ∷ rs) (n ∷ ns) (suc place) r earlier env at knows = knows_at rs ns place r earlier env at knows.1

-- the first numbers, where others were kept after them
pub first_kept : (ns more ms : List Last) (count : ℕ) → count ≡ length ns → ms ≡ ns ++ more → take count ms ≡ ns
first_kept ns more ms count counted is = (λ j. take (counted j) (is j)) ∙ first ns
  where
    first : (xs : List Last) → take (length xs) (xs ++ more) ≡ xs
    first [] = refl
    first (x ∷ xs) = ap (λ ys. x ∷ ys) (first xs)
