-- Headers that are read where they are, one member more at a time.
use Rattle.std.proofs.Common.{◌≡◌, ℕ, ℤ, Bool, true, false, cond, pos, ◌+◌, ◌<◌, ◌≤◌, List, [], ◌∷◌, ◌++◌, map, length, get_or, Option, Some, None, Ok, Err, refl, sym, ap, ◌∙◌, arith, append_assoc, append-nil}
use Rattle.std.specs.Prelude.{option_and_then, codes}
use Rattle.std.specs.Int.{next_multiple_of}
use Rattle.std.specs.List.{last_or}
use Rattle.std.specs.Str.{bytes_eq}
use Rattle.std.proofs.lemmas.Bool.{le-ltb}
use Rattle.ctf_bits.specs.Number.{number, signed_number}
use Rattle.ctf_class.specs.declared.class.Class.{Class}
use Rattle.ctf_class.specs.declared.class.Kind as kind
use Rattle.ctf_class.specs.declared.class.Member.{Member}
use Rattle.ctf_class.specs.declared.integer.Integer.{Integer}
use Rattle.ctf_class.specs.declared.route.Origin.TheVariants.{Enclosing}
use Rattle.ctf_class.specs.declared.route.Route.{Route}
use Rattle.ctf_class.specs.declared.route.Scope.{Scope}
use Rattle.ctf_class.specs.declared.span.Choice.{Choice}
use Rattle.ctf_class.specs.declared.span.Label.{Label}
use Rattle.ctf_class.specs.Integers.{bits_of}
use Rattle.ctf_clock.specs.Clock.{Line}
use Rattle.ctf_clock.specs.declared.moment.Moment.{Moment}
use Rattle.ctf_decode.specs.Breaks.{past}
use Rattle.ctf_decode.specs.Fields.{named_id, ids, member_ids, option_ids}
use Rattle.ctf_decode.specs.Forms.{Form, integer, enumeration, structure, variant, part, no_parts, parts_of}
use Rattle.ctf_decode.specs.Input.{Input, Env, integer_at}
use Rattle.ctf_decode.specs.Routes.{chosen, option_at}
use Rattle.ctf_decode.specs.Values.{Val, label, group, choice, signed, unsigned, vals_of}
use Rattle.ctf_decode.specs.Views.{form, member_part, shape}
use Rattle.ctf_decode.specs.Walk.{walk, walk_members, walk_option, and_then, begin, open_at, leaf, with_option, as_group, as_choice}
use Rattle.ctf_decode.specs.declared.scopes.TheConstants.{MOST_VALUES}
use Rattle.ctf_decode.proofs.Numbered as numbered
use Rattle.ctf_decode.proofs.Numbered.{last_or-append}
use Rattle.ctf_decode.proofs.Only.{begin_in, open_in}
use Rattle.ctf_decode.proofs.Steps.{choice_ok}
use Rattle.ctf_decode.proofs.Views.{form-is, part-is, shape-Integer, shape-Enumeration, shape-Variant, shape-Structure}
use Rattle.ctf_record_text.proofs.Chosen.{option_first}
use Rattle.ctf_record_text.specs.Headers.{set_by}
use Rattle.ctf_packet.specs.Moved.{moved, member_moved, option_moved, moved_in}
use Rattle.ctf_packet.proofs.Moving as moving
use Rattle.ctf_packet.proofs.Moving.{advanced_by-append}
use Rattle.ctf_format.specs.Standing.{among}

-- how far a header was read: its last number named `id`, the clock, the place, and how many values were begun
pub record Telling : Type 0 where
  pub id : Option ℤ
  pub clock : Moment
  pub place : ℕ
  pub spent : ℕ

module _ (line : Option Line) (packet : List ℕ) (content : ℕ) where
  -- a value is there, whatever was decoded before
  abbrev pub TellsValue : Form → Telling → Telling → Type 0
  TellsValue k from to =
      (earlier : Scope → Option Val) (env : Env)
      → (v : Val)
      × (walk k (among packet content earlier) env from.place from.spent ≡ Ok (v, to.place, to.spent))
      × (set_by line from.clock (moved k v) ≡ Some to.clock) × (last_or from.id (ids k v) ≡ to.id)

  -- a member of a structure is there
  abbrev pub TellsMember : Member → Telling → Telling → Type 0
  TellsMember m from to =
      (earlier : Scope → Option Val) (env : Env)
      → (v : Val)
      × (walk (form m.class) (among packet content earlier) env from.place from.spent ≡ Ok (v, to.place, to.spent))
      × (set_by line from.clock (moved (form m.class) v) ≡ Some to.clock)
      × (last_or from.id (named_id m.name (form m.class) v ++ ids (form m.class) v) ≡ to.id)

  -- the members of a structure are there
  abbrev pub TellsAll : List Member → Telling → Telling → Type 0
  TellsAll ms from to =
      (earlier : Scope → Option Val) (env : Env)
      → (vs : List Val)
      × (walk_members (parts_of (map member_part ms)) (among packet content earlier) env [] from.place from.spent ≡ Ok (vs, to.place, to.spent))
      × (set_by line from.clock (member_moved (parts_of (map member_part ms)) (vals_of vs)) ≡ Some to.clock)
      × (last_or from.id (member_ids (parts_of (map member_part ms)) (vals_of vs)) ≡ to.id)

  -- members are there after others of their structure
  abbrev pub TellsMembers : List Member → Telling → Telling → Type 0
  TellsMembers ms from to =
      (earlier : Scope → Option Val) (env : Env) (vs : List Val)
      → (new : List Val)
      × (walk_members (parts_of (map member_part ms)) (among packet content earlier) env vs from.place from.spent ≡ Ok (vs ++ new, to.place, to.spent))
      × (set_by line from.clock (member_moved (parts_of (map member_part ms)) (vals_of new)) ≡ Some to.clock)
      × (last_or from.id (member_ids (parts_of (map member_part ms)) (vals_of new)) ≡ to.id)

leaf_in : (c : Input) (e s : ℕ) (v : Val) → s < c.limit → e ≤ c.content → begin c s (leaf c e s v) ≡ Ok (v, e, s + 1)
leaf_in c e s v few within = sym (begin_in c s (leaf c e s v) few) ∙ ap (λ b. cond b (Err (past e)) (Ok (v, e, s + 1))) (le-ltb c.content e within)

-- the clock after integers, and after others that follow them
set_by-append : (line : Option Line) (from : Moment) (xs ys : List (ℕ × ℕ)) → set_by line from (xs ++ ys) ≡ option_and_then (λ d. set_by line d ys) (set_by line from xs)
set_by-append None from xs ys = refl
set_by-append (Some line) from xs ys = advanced_by-append line from xs ys

pub set_by-none : (line : Option Line) (from : Moment) → set_by line from [] ≡ Some from
set_by-none None from = refl
set_by-none (Some line) from = refl

-- the value of an integer at a place
abbrev pub value_at : List ℕ → Integer → ℕ → Val
value_at packet i b = cond i.is_signed (signed (signed_number i.order packet b (bits_of i))) (unsigned (number i.order packet b (bits_of i)))

-- one integer
pub tells_integer : (line : Option Line) (m : Member) (i : Integer) (packet : List ℕ) (content b : ℕ) (from to : Telling)
    → m.class.kind ≡ kind.Integer i → from.spent < MOST_VALUES → b ≡ next_multiple_of from.place m.class.align → b + bits_of i ≤ content
    → set_by line from.clock (moved_in i (value_at packet i b)) ≡ Some to.clock → last_or from.id (named_id m.name (integer m.class.align i) (value_at packet i b)) ≡ to.id
    → to.place ≡ b + bits_of i → to.spent ≡ from.spent + 1 → TellsMember line packet content m from to
tells_integer line m i packet content b from to is few begins within clock id place spent = λ earlier env.
    let c = among packet content earlier in
    let v = value_at packet i b in
    let class : form m.class ≡ integer m.class.align i = form-is m.class ∙ ap (λ k. shape k m.class.align) is ∙ shape-Integer i m.class.align in
    let walked : walk (form m.class) c env from.place from.spent ≡ Ok (v, to.place, to.spent) =
    ap (λ k. walk k c env from.place from.spent) class ∙ ap (λ x. begin c from.spent (leaf c (x + bits_of i) from.spent (integer_at c i x))) (sym begins)
    ∙ leaf_in c (b + bits_of i) from.spent v few within ∙ (λ j. Ok (v, sym place j, sym spent j))
    in (
      v,
      walked,
      ap (λ k. set_by line from.clock (moved k v)) class ∙ clock,
      ap (λ k. last_or from.id (named_id m.name k v ++ ids k v)) class ∙ ap (last_or from.id) (append-nil (named_id m.name (integer m.class.align i) v)) ∙ id,
    )

module _ (line : Option Line) (packet : List ℕ) (content : ℕ) where
  pub no_members : (at : Telling) → TellsMembers line packet content [] at at
  no_members at = λ earlier env vs. ([], ap (λ xs. Ok (xs, at.place, at.spent)) (sym (append-nil vs)), set_by-none line at.clock, refl)

  pub more_members : (m : Member) (ms : List Member) (from mid to : Telling) → TellsMember line packet content m from mid → TellsMembers line packet content ms mid to → TellsMembers line packet content (m ∷ ms) from to
  more_members m ms from mid to first others = λ earlier env vs.
      let c = among packet content earlier in
      let ps = parts_of (map member_part ms) in
      let t = first earlier (vs ∷ env) in
      let v = t.0 in
      let g = others earlier env (vs ++ v ∷ []) in
      let new = g.0 in
      let rest = λ (w : Val) (q s : ℕ). walk_members ps c env (vs ++ w ∷ []) q s in
      let opened : walk_members (parts_of (map member_part (m ∷ ms))) c env vs from.place from.spent ≡ and_then (walk (form m.class) c (vs ∷ env) from.place from.spent) rest =
      ap (λ p. and_then (walk p.1 c (vs ∷ env) from.place from.spent) rest) (part-is m)
      in
      let walked = opened ∙ ap (λ r. and_then r rest) t.1 ∙ g.1 ∙ ap (λ xs. Ok (xs, to.place, to.spent)) (append_assoc vs (v ∷ []) new) in
      let moves = member_moved ps (vals_of new) in
      let numbers = member_ids ps (vals_of new) in
      let clock =
      ap (λ p. set_by line from.clock (moved p.1 v ++ moves)) (part-is m) ∙ set_by-append line from.clock (moved (form m.class) v) moves ∙ ap (option_and_then (λ d. set_by line d moves)) t.2 ∙ g.2
      in
      let id =
      ap (λ p. last_or from.id ((named_id p.0 p.1 v ++ ids p.1 v) ++ numbers)) (part-is m) ∙ last_or-append from.id (named_id m.name (form m.class) v ++ ids (form m.class) v) numbers ∙ ap (λ o. last_or o numbers) t.3 ∙ g.3
      in
      (v ∷ new, walked, clock, id)

-- the members of a structure
pub tells_structure : (line : Option Line) (k : Class) (ms : List Member) (packet : List ℕ) (content : ℕ) (from at to : Telling)
    → k.kind ≡ kind.Structure ms → at.place ≡ next_multiple_of from.place k.align → at.spent ≡ from.spent + 1 → at.clock ≡ from.clock → at.id ≡ from.id → at.place ≤ content → at.spent ≤ MOST_VALUES
    → TellsAll line packet content ms at to → TellsValue line packet content (form k) from to
tells_structure line k ms packet content from at to is begins more clock id within few tells = λ earlier env.
    let c = among packet content earlier in
    let parts = parts_of (map member_part ms) in
    let class : form k ≡ structure k.align parts = form-is k ∙ ap (λ x. shape x k.align) is ∙ shape-Structure ms k.align in
    let t = tells earlier env in
    let v = group (vals_of t.0) in
    let inner = λ (p s : ℕ). and_then (walk_members parts c env [] p s) as_group in
    let walked : walk (form k) c env from.place from.spent ≡ Ok (v, to.place, to.spent) =
    ap (λ f. walk f c env from.place from.spent) class ∙ (λ j. begin c from.spent (open_at c (sym begins j) (inner (sym begins j) (sym more j))))
    ∙ sym (begin_in c from.spent (open_at c at.place (inner at.place at.spent)) (omega (arith, few, more))) ∙ sym (open_in c at.place (inner at.place at.spent) within) ∙ ap (λ r. and_then r as_group) t.1
    in
    (v, walked, ap (λ f. set_by line from.clock (moved f v)) class ∙ ap (λ (x : Moment). set_by line x (member_moved parts (vals_of t.0))) (sym clock) ∙ t.2, ap (λ f. last_or from.id (ids f v)) class ∙ ap (λ o. last_or o (member_ids parts (vals_of t.0))) (sym id) ∙ t.3)

-- a tag of this number, whatever was decoded before
abbrev pub IsTag : List ℕ → ℕ → ℕ → Integer → ℕ → ℤ → ℕ → Type 0
IsTag packet content align i place number after =
    (earlier : Scope → Option Val) (env : Env) (spent : ℕ) → spent < MOST_VALUES
    → walk (enumeration align i) (among packet content earlier) env place spent ≡ Ok (label number, after, spent + 1)

pub tag_there : (align : ℕ) (i : Integer) (packet : List ℕ) (content place z after : ℕ) → i.is_signed ≡ false → next_multiple_of place align ≡ place → after ≡ place + bits_of i → after ≤ content → z ≡ number i.order packet place (bits_of i) → IsTag packet content align i place (pos z) after
tag_there align i packet content place z after unsigned_is begins ends within is earlier env spent few =
    let c = among packet content earlier in
    let read : cond i.is_signed (signed_number i.order packet place (bits_of i)) (pos (number i.order packet place (bits_of i))) ≡ pos z =
    ap (λ b. cond b (signed_number i.order packet place (bits_of i)) (pos (number i.order packet place (bits_of i)))) unsigned_is ∙ ap pos (sym is)
    in
    ap (λ b. begin c spent (leaf c (b + bits_of i) spent (label (cond i.is_signed (signed_number i.order packet b (bits_of i)) (pos (number i.order packet b (bits_of i))))))) begins
    ∙ (λ j. begin c spent (leaf c (sym ends j) spent (label (read j)))) ∙ leaf_in c after spent (label (pos z)) few within

abbrev nothing : List ℤ
nothing = []

no_more : (b : Bool) → cond b nothing nothing ≡ nothing
no_more true = refl
no_more false = refl

-- a tag and what it chooses
pub tells_pair : (line : Option Line) (tag other : Member) (i : Integer) (ls : List Label) (route : Route) (choices : List Choice) (options : List Member) (packet : List ℕ) (content : ℕ) (from at to : Telling) (told : ℤ) (place_after n : ℕ) (m : Member)
    → tag.class.kind ≡ kind.Enumeration i ls → other.class.kind ≡ kind.Variant route choices options → route.origin ≡ Enclosing 0 → route.steps ≡ 0 ∷ [] → from.spent + 1 < MOST_VALUES → n < length options → m ≡ get_or options n m → IsTag packet content tag.class.align i from.place told place_after
    → chosen choices told ≡ Some n → at.id ≡ last_or from.id (named_id tag.name (form tag.class) (label told)) → at.clock ≡ from.clock → at.place ≡ place_after → at.spent ≡ from.spent + 2
    → TellsValue line packet content (form m.class) at to → TellsAll line packet content (tag ∷ other ∷ []) from to
tells_pair line tag other i ls route choices options packet content from at to told place_after n m is_tag is_variant origin steps few within here_is stands chooses id clock place spent tells = λ earlier env.
    let c = among packet content earlier in
    let ps = parts_of (map member_part options) in
    let first = enumeration tag.class.align i in
    let second = variant other.class.align route choices ps in
    let z = label told in
    let inner = (z ∷ []) ∷ env in
    let t = tells earlier inner in
    let w = t.0 in
    let v = choice n w in
    let class_tag : form tag.class ≡ first = form-is tag.class ∙ ap (λ x. shape x tag.class.align) is_tag ∙ shape-Enumeration i ls tag.class.align in
    let class_other : form other.class ≡ second = form-is other.class ∙ ap (λ x. shape x other.class.align) is_variant ∙ shape-Variant route choices options other.class.align in
    let parts : parts_of (map member_part (tag ∷ other ∷ [])) ≡ part tag.name first (part other.name second no_parts) =
    (λ j. parts_of (part-is tag j ∷ part-is other j ∷ [])) ∙ (λ j. part tag.name (class_tag j) (part other.name (class_other j) no_parts))
    in
    let two : from.spent + 1 + 1 ≡ from.spent + 2 = omega arith in
    let chosen : and_then (walk_option ps n c inner place_after (from.spent + 1 + 1)) (as_choice n) ≡ Ok (v, to.place, to.spent) =
    choice_ok c inner options n m within here_is place_after (from.spent + 1 + 1) w to.place to.spent ((λ j. walk (form m.class) c inner (sym place j) ((two ∙ sym spent) j)) ∙ t.1)
    in
    let of_variant : walk second c inner place_after (from.spent + 1) ≡ Ok (v, to.place, to.spent) =
    sym (begin_in c (from.spent + 1) (with_option (option_at route choices earlier inner) (λ k. and_then (walk_option ps k c inner place_after (from.spent + 1 + 1)) (as_choice k))) few)
    ∙ ap (λ o. with_option o (λ k. and_then (walk_option ps k c inner place_after (from.spent + 1 + 1)) (as_choice k))) (option_first route choices earlier env told origin steps ∙ chooses) ∙ chosen
    in
    let after_tag = λ (x : Val) (q s : ℕ). walk_members (part other.name second no_parts) c env (x ∷ []) q s in
    let after_variant = λ (x : Val) (q s : ℕ). walk_members no_parts c env (z ∷ x ∷ []) q s in
    let walked : walk_members (parts_of (map member_part (tag ∷ other ∷ []))) c env [] from.place from.spent ≡ Ok (z ∷ v ∷ [], to.place, to.spent) =
    ap (λ p. walk_members p c env [] from.place from.spent) parts ∙ ap (λ r. and_then r after_tag) (stands earlier ([] ∷ env) from.spent (omega (arith, few))) ∙ ap (λ r. and_then r after_variant) of_variant
    in
    let all = vals_of (z ∷ v ∷ []) in
    let moves : member_moved (parts_of (map member_part (tag ∷ other ∷ []))) all ≡ moved (form m.class) w =
    ap (λ p. member_moved p all) parts ∙ append-nil (option_moved ps n w) ∙ sym (moving.option_here options n m w within here_is)
    in
    let named = named_id tag.name first z in
    let of_option = option_ids ps n w in
    let no_name : named_id other.name second v ≡ [] = no_more (bytes_eq other.name (codes "id")) in
    let numbers : member_ids (parts_of (map member_part (tag ∷ other ∷ []))) all ≡ named ++ ids (form m.class) w =
    ap (λ p. member_ids p all) parts ∙ ap (λ xs. (xs ++ ((named_id other.name second v ++ of_option) ++ []))) (append-nil named) ∙ ap (λ xs. named ++ ((xs ++ of_option) ++ [])) no_name ∙ ap (λ xs. named ++ xs) (append-nil of_option ∙ sym (numbered.option_here options n m w within here_is))
    in
    let id_is : last_or from.id named ≡ at.id = ap (λ k. last_or from.id (named_id tag.name k z)) (sym class_tag) ∙ sym id in (
      z ∷ v ∷ [],
      walked,
      ap (set_by line from.clock) moves ∙ ap (λ (x : Moment). set_by line x (moved (form m.class) w)) (sym clock) ∙ t.2,
      ap (last_or from.id) numbers ∙ last_or-append from.id named (ids (form m.class) w) ∙ ap (λ o. last_or o (ids (form m.class) w)) id_is ∙ t.3,
    )
