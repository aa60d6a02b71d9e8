-- What is known of headers beforehand.
use Rattle.std.proofs.Common.{◌≡◌, ℕ, pos, ◌≤◌, ◌<◌, Bool, true, false, cond, List, [], ◌∷◌, length, get_or, Option, Some, None, IfSome, ap, ◌∙◌, rules, arith}
use Rattle.std.specs.List.{slice_get}
use Rattle.ctf_class.specs.declared.class.Class.{Class}
use Rattle.ctf_class.specs.declared.class.Member.{Member}
use Rattle.ctf_class.specs.declared.header_plan.HeaderNumber.{HeaderNumber}
use Rattle.ctf_class.specs.declared.header_plan.HeaderIntegers.{HeaderIntegers}
use Rattle.ctf_class.specs.declared.header_plan.HeaderPlan.{HeaderPlan}
use Rattle.ctf_class.specs.Choices.{chosen}
use Rattle.ctf_class.specs.Labels.{covers}
use Rattle.ctf_class.specs.Integers.{bits_of}
use Rattle.ctf_class.specs.declared.span.Choice.{Choice}
use Rattle.ctf_class.specs.HeaderPlans.{IsHeaderPlan, IsHeaderPlanOf, EndsIn, IsRead}

-- the only number, where there is one
pub only_number : (ns : List ℕ) (n : ℕ) → 1 ≤ length ns → length ns < 2 → get_or ns 0 n ≡ n → ns ≡ n ∷ []
only_number [] n some few first = absurd (omega (arith, some))
only_number (m ∷ []) n some few first = ap (λ k. k ∷ []) first
only_number (l ∷ m ∷ ns) n some few first = absurd (omega (arith, few))

-- what the first two members are, where there are no more
pub two_members : (ms : List Member) (m n : Member) → 2 ≤ length ms → length ms < 3 → m ≡ get_or ms 0 m → n ≡ get_or ms 1 n → m ∷ n ∷ [] ≡ ms
two_members [] m n some few first second = absurd (omega (arith, some))
two_members (x ∷ []) m n some few first second = absurd (omega (arith, some))
two_members (x ∷ y ∷ []) m n some few first second = λ j. first j ∷ second j ∷ []
two_members (x ∷ y ∷ z ∷ ms) m n some few first second = absurd (omega (arith, few))

-- what is known of headers of this class
pub plan_is : {header : Option Class} (class : Class) (r : Option HeaderPlan) → header ≡ Some class → IfSome r (λ plan. IsHeaderPlan plan class) → IsHeaderPlanOf header r
plan_is class None is plan = tt
plan_is class (Some p) is plan = (class, is, plan)

-- what ends within some bits ends within more
farther : (n : HeaderNumber) (old new : ℕ) → old ≤ new → EndsIn old n → EndsIn new n
farther n old new more ends = record { within = omega (arith, more, ends.within); read = ends.read }

pub all_farther : (r : Option HeaderNumber) (old new : ℕ) → old ≤ new → IfSome r (EndsIn old) → IfSome r (EndsIn new)
all_farther None old new more ends = tt
all_farther (Some n) old new more ends = farther n old new more ends

-- the last one of some numbers ends within what all of them take
pub last_ends : (b : Bool) (n : HeaderNumber) (before : Option HeaderNumber) (old new : ℕ) → old ≤ new → EndsIn new n → IfSome before (EndsIn old) → IfSome (cond b (Some n) before) (EndsIn new)
last_ends true n before old new more ends before_ends = ends
last_ends false n before old new more ends before_ends = all_farther before old new more before_ends

first_covers : (choices : List Choice) (choice : Choice) (first last n : ℕ) → choice.span.first ≡ pos first → choice.span.last ≡ pos last → first ≤ n → n ≤ last → chosen (choice ∷ choices) (pos n) ≡ Some choice.option
first_covers choices choice first last n from to above below =
    let low = ap (λ z. cond (covers (record { first = z; last = choice.span.last }) (pos n)) true false) from in
    let covered : covers choice.span (pos n) ≡ true = search rules in
    search rules

-- the first choice is made by the numbers that it covers
pub chosen_first : (choices : List Choice) (choice : Choice) (first last n : ℕ) → Some choice ≡ slice_get choices 0 → choice.span.first ≡ pos first → choice.span.last ≡ pos last → first ≤ n → n ≤ last → chosen choices (pos n) ≡ Some choice.option
chosen_first [] choice first last n is from to above below = absurd (cc)
chosen_first (c ∷ choices) choice first last n is from to above below =
    let same : c ≡ choice = cc in
    ap (λ (x : Choice). chosen (x ∷ choices) (pos n)) same ∙ first_covers choices choice first last n from to above below

-- a tag at a header's begin ends before what is after it
pub tag_ends : (n : HeaderNumber) (r : Option HeaderIntegers) → n.distance ≡ 0 → IsRead n → IfSome r (λ are. bits_of n.integer ≤ are.skipped) → IfSome r (λ are. EndsIn are.skipped n)
tag_ends n None begins read after = tt
tag_ends n (Some are) begins read after = record { within = omega (arith, begins, after); read = read }
