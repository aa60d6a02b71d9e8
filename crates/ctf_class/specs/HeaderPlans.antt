-- Event headers, as far as they are known before they are read (all own).
use Rattle.std.specs.Prelude.{◌≡◌, ℕ, ℤ, pos, ◌<◌, ◌≤◌, ◌+◌, ◌%◌, ◌^◌, true, false, if◌then◌else◌, List, [], ◌∷◌, length, get_or, Option, Some, None, IfSome, ⊤, codes}
use Rattle.std.specs.Int.{next_multiple_of}
use Rattle.std.specs.Str.{bytes_eq}
use Rattle.ctf_bits.specs.declared.number.Order.TheVariants.{Le, Be}
use Rattle.ctf_class.specs.declared.class.Class.{Class}
use Rattle.ctf_class.specs.declared.class.Kind as kind
use Rattle.ctf_class.specs.declared.class.Member.{Member}
use Rattle.ctf_class.specs.declared.header_plan.HeaderIntegers.{HeaderIntegers}
use Rattle.ctf_class.specs.declared.header_plan.HeaderNumber.{HeaderNumber}
use Rattle.ctf_class.specs.declared.header_plan.HeaderPlan.{HeaderPlan}
use Rattle.ctf_class.specs.declared.header_plan.HeaderReading.{HeaderReading}
use Rattle.ctf_class.specs.declared.header_plan.HeaderReading.TheVariants as readings
use Rattle.ctf_class.specs.declared.header_plan.HeaderTag.{HeaderTag}
use Rattle.ctf_class.specs.declared.integer.Integer.{Integer}
use Rattle.ctf_class.specs.declared.route.Origin.TheVariants.{Enclosing}
use Rattle.ctf_class.specs.declared.route.Route.{Route}
use Rattle.ctf_class.specs.declared.span.Choice.{Choice}
use Rattle.ctf_class.specs.declared.span.Label.{Label}
use Rattle.ctf_class.specs.Choices.{chosen}
use Rattle.ctf_class.specs.Integers.{bits_of}

-- an integer that is read at once is read by its own size, and in its own order
abbrev pub IsReading : Integer → HeaderReading → Type 0
IsReading i (readings.Little size) = (size ≡ bits_of i) × (i.order ≡ Le)
IsReading i (readings.Big size) = (size ≡ bits_of i) × (i.order ≡ Be)
IsReading i readings.Long = ⊤

abbrev pub IsRead : HeaderNumber → Type 0
IsRead n = IsReading n.integer n.reading

-- A member is this integer, and at this distance wherever its structure begins. None with a sign is named `id` or sets
-- the clock, and none before it sets the clock too.
pub record IsLaid (m : Member) (n : HeaderNumber) (before : HeaderIntegers) : Type 0 where
  pub is : m.class.kind ≡ kind.Integer n.integer
  pub divides : before.align % m.class.align ≡ 0
  pub distance : n.distance ≡ next_multiple_of before.span m.class.align
  pub id : bytes_eq m.name (codes "id") ≡ true → n.integer.is_signed ≡ false
  pub stamp : n.integer.is_moving ≡ true → n.integer.is_signed ≡ false
  pub alone : n.integer.is_moving ≡ true → before.stamp ≡ None

-- what is known with one integer more
abbrev pub with_member : Member → HeaderNumber → HeaderIntegers → HeaderIntegers
with_member m n before = record {
  align = before.align;
  skipped = before.skipped;
  id = if bytes_eq m.name (codes "id") then Some n else before.id;
  stamp = if n.integer.is_moving then Some n else before.stamp;
  span = n.distance + bits_of n.integer;
  values = before.values + 1;
}

-- a member follows integers, and with it this is known
abbrev pub Follows : Member → HeaderIntegers → HeaderIntegers → Type 0
Follows m from to = (n : HeaderNumber) × IsLaid m n from × (to ≡ with_member m n from)

-- members are integers, and with them this is known
abbrev pub AreLaid : List Member → HeaderIntegers → HeaderIntegers → Type 0
AreLaid [] from to = from ≡ to
AreLaid (m ∷ ms) from to =
    (n : HeaderNumber) × IsLaid m n from × AreLaid ms (with_member m n from) to

-- a structure of this alignment begins after so many bits of its header, as the last of so many values
abbrev pub no_integers : ℕ → ℕ → ℕ → HeaderIntegers
no_integers align skipped values = record {
  align = align;
  skipped = skipped;
  id = None;
  stamp = None;
  span = 0;
  values = values;
}

-- an integer ends within so many bits, and is read as it is
pub record EndsIn (span : ℕ) (n : HeaderNumber) : Type 0 where
  pub within : n.distance + bits_of n.integer ≤ span
  pub read : IsRead n

-- integers are near the begin of their header, however far that is rounded up, and few
pub record AreNear (are : HeaderIntegers) : Type 0 where
  pub skipped : are.skipped ≤ 64
  pub id : IfSome are.id (EndsIn are.span)
  pub stamp : IfSome are.stamp (EndsIn are.span)
  pub near : are.span ≤ 2 ^ 40
  pub few : are.values ≤ 2 ^ 17

-- a class is a structure of integers of which this is known
pub record AreIntegers (k : Class) (skipped values : ℕ) (are : HeaderIntegers) : Type 0 where
  pub members : List Member
  pub is : k.kind ≡ kind.Structure members
  pub laid : AreLaid members (no_integers k.align skipped values) are

-- after a tag of so many bits, an option of a header's variant is a structure of integers: the values before them are
-- the header, the tag, the variant and the option
pub record IsOption (tag : ℕ) (options : List Member) (i : ℕ) (are : HeaderIntegers)
    : Type 0 where
  pub option : Member
  pub within : i < length options
  pub is : option ≡ get_or options i option
  pub integers : AreIntegers option.class tag 4 are

-- a number of a tag chooses such an option
pub record Chooses (tag : ℕ) (choices : List Choice) (options : List Member) (z : ℤ)
    (are : HeaderIntegers) : Type 0 where
  pub i : ℕ
  pub chooses : chosen choices z ≡ Some i
  pub option : IsOption tag options i are

-- a header is an unsigned enumeration named `id` and a variant on it, whose options for these numbers are such
pub record IsTagged (k : Class) (tag : HeaderTag) (plan : HeaderPlan) : Type 0 where
  pub member : Member
  pub variant : Member
  pub labels : List Label
  pub route : Route
  pub choices : List Choice
  pub options : List Member
  pub is : k.kind ≡ kind.Structure (member ∷ variant ∷ [])
  pub of_tag : member.class.kind ≡ kind.Enumeration tag.number.integer labels
  pub named : bytes_eq member.name (codes "id") ≡ true
  pub unsigned : tag.number.integer.is_signed ≡ false
  pub divides : k.align % member.class.align ≡ 0
  pub of_variant : variant.class.kind ≡ kind.Variant route choices options
  pub origin : route.origin ≡ Enclosing 0
  pub steps : route.steps ≡ 0 ∷ []
  pub usual : (n : ℕ) → tag.first ≤ n → n ≤ tag.last
      → Chooses (bits_of tag.number.integer) choices options (pos n) plan.usual
  pub other : IfSome plan.other
      (Chooses (bits_of tag.number.integer) choices options (pos (tag.last + 1)))

-- what a plan says of headers of a class, by its tag
abbrev pub IsChosenBy : Class → HeaderPlan → Option HeaderTag → Type 0
IsChosenBy k plan None = AreIntegers k 0 1 plan.usual × (plan.other ≡ None)
IsChosenBy k plan (Some tag) = IsTagged k tag plan

-- a tag is where its header begins, and before other integers
pub record IsTagNear (plan : HeaderPlan) (tag : HeaderTag) : Type 0 where
  pub begin : tag.number.distance ≡ 0
  pub usual : EndsIn plan.usual.skipped tag.number
  pub other : IfSome plan.other (λ are. EndsIn are.skipped tag.number)

-- what a plan names is near the begin of a header
pub record IsNear (plan : HeaderPlan) : Type 0 where
  pub tag : IfSome plan.tag (IsTagNear plan)
  pub usual : AreNear plan.usual
  pub other : IfSome plan.other AreNear

-- a plan is that of headers of a class
pub record IsHeaderPlan (plan : HeaderPlan) (k : Class) : Type 0 where
  pub align : plan.align ≡ k.align
  pub chosen : IsChosenBy k plan plan.tag
  pub near : IsNear plan

-- what is known of event headers of a class, if there is one and anything is
abbrev pub IsHeaderPlanOf : Option Class → Option HeaderPlan → Type 0
IsHeaderPlanOf header None = Unit {0}
IsHeaderPlanOf header (Some plan) =
    (class : Class) × (header ≡ Some class) × IsHeaderPlan plan class
