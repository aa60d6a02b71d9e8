-- How a path finds its field. (CTF 1.8.3, sections 4.2.2, 4.2.4 and 7.3.2: static scopes, then dynamic ones;
-- the order of the scopes is that of the list in 7.3.2.)
use Rattle.std.specs.Prelude.{ℕ, nat_eq, Bool, true, false, not, if◌then◌else◌, List, [], ◌∷◌, ◌++◌, map, Option, Some, None, option_map, is_some, codes, find, filter_map}
use Rattle.std.specs.List.{enumerate_from}
use Rattle.std.specs.Option.{option_map_or}
use Rattle.ctf_class.specs.declared.route.Scope.{Scope}
use Rattle.ctf_class.specs.declared.route.Scope.TheVariants.{PacketHeader, PacketContext, EventHeader, StreamEventContext, EventContext, EventFields}
use Rattle.ctf_class.specs.declared.route.Origin.{Origin}
use Rattle.ctf_class.specs.declared.route.Origin.TheVariants.{Enclosing, Earlier}
use Rattle.ctf_class.specs.declared.route.Route.{Route}
use Rattle.ctf_class.specs.declared.span.Label.{Label}
use Rattle.ctf_meaning.specs.Name.{Word, Words, same_word}
use Rattle.ctf_meaning.specs.There.{◌>>=◌, first}
use Rattle.ctf_meaning.specs.Shapes.{Shape, Field, integer, enum, struct, fields_in}

-- the scopes in order
abbrev pub scopes : List Scope
scopes =
    PacketHeader ∷ PacketContext ∷ EventHeader ∷ StreamEventContext ∷ EventContext ∷ EventFields
    ∷ []

abbrev pub rank : Scope → ℕ
rank PacketHeader = 0
rank PacketContext = 1
rank EventHeader = 2
rank StreamEventContext = 3
rank EventContext = 4
rank EventFields = 5

abbrev pub words_of : Scope → Words
words_of PacketHeader = codes "trace" ∷ codes "packet" ∷ codes "header" ∷ []
words_of PacketContext = codes "stream" ∷ codes "packet" ∷ codes "context" ∷ []
words_of EventHeader = codes "stream" ∷ codes "event" ∷ codes "header" ∷ []
words_of StreamEventContext = codes "stream" ∷ codes "event" ∷ codes "context" ∷ []
words_of EventContext = codes "event" ∷ codes "context" ∷ []
words_of EventFields = codes "event" ∷ codes "fields" ∷ []

-- A structure in which a path may begin: its scope; its name from that scope down, where structures alone lead to it;
-- and those of its members that are before the path.
pub record Frame : Type 0 where
  pub scope : Scope
  pub name : Option Words
  pub fields : List Field

-- Where a class is: in which scope; in which structures, inner to outer; after which scopes, the nearest first; as
-- the member of which name; whether as a member of the scope's own structure; and its name from the scope down, where
-- structures alone lead to it.
pub record Spot : Type 0 where
  pub scope : Scope
  pub around : List Frame
  pub before : List Frame
  pub member : Option Word
  pub is_top : Bool
  pub name : Option Words

abbrev pub is_outermost : List Frame → Bool
is_outermost [] = true
is_outermost (frame ∷ more) = false

-- The spot of a member of the structure at a spot, which sees the members before it.
abbrev pub at_member : Spot → List Field → Word → Spot
at_member spot earlier word = record spot {
  around = record { scope = spot.scope; name = spot.name; fields = earlier } ∷ spot.around;
  member = Some word;
  is_top = is_outermost spot.around;
  name = option_map (λ words. words ++ word ∷ []) spot.name;
}

-- The spot of an option or an element, which is no member and which no path from a scope down reaches.
abbrev pub below : Spot → Spot
below spot = record spot { member = None; is_top = false; name = None }

-- the structures in which a path may begin, the nearest first
abbrev pub frames : Spot → List (Origin × Frame)
frames spot =
    map (λ p. (Enclosing p.0, p.1)) (enumerate_from 0 spot.around)
    ++ map (λ f. (Earlier f.scope, f)) spot.before

-- the members of a structure
abbrev pub members_of : Shape → List Field
members_of (struct align members) = fields_in members
members_of _ = []

-- the member of this name, with its number
abbrev pub member_named : Word → List Field → Option (ℕ × Field)
member_named word fields = find (λ p. same_word p.1.name word) (enumerate_from 0 fields)

-- A field that a path finds: the numbers of the members on the way, and its class.
abbrev pub Found : Type 0
Found = List ℕ × Shape

-- Further words go down through structures only.
abbrev pub field_at : List Field → Words → Option Found
field_at fields [] = None
field_at fields (word ∷ []) = do
  p ← member_named word fields
  Some (p.0 ∷ [], p.1.shape)
field_at fields (word ∷ next ∷ words) = do
  p ← member_named word fields
  found ← field_at (members_of p.1.shape) (next ∷ words)
  Some (p.0 ∷ found.0, found.1)

abbrev pub route_from : Origin → Found → Route × Shape
route_from origin found = (record { origin = origin; steps = found.0 }, found.1)

-- the words after a beginning
abbrev pub after_words : Words → Words → Option Words
after_words [] words = Some words
after_words (a ∷ more) [] = None
after_words (a ∷ more) (b ∷ words) = if same_word a b then after_words more words else None

-- the scope whose name a path begins with, and the words after it
abbrev pub scope_named : Words → Option (Scope × Words)
scope_named path =
    first (filter_map
    (λ scope. option_map (λ words. (scope, words)) (after_words (words_of scope) path)) scopes)

-- A path that begins with a scope's name names a field of an earlier scope, or an earlier one of its own. It may lead
-- into a structure in which it is itself, to a member before it.
abbrev pub found_below : Scope → Words → Origin × Frame → Option (Route × Shape)
found_below scope words (origin, frame) = if nat_eq (rank frame.scope) (rank scope)
    then (do
      name ← frame.name
      rest ← after_words name words
      found ← field_at frame.fields rest
      Some (route_from origin found))
    else None

-- Of any other path the first word is looked up among the earlier members of the structures around, inner to outer,
-- then in the scopes before, nearest first (own). The first hit counts, whether or not it fits.
abbrev pub has_member : Words → Frame → Bool
has_member [] frame = false
has_member (word ∷ words) frame = is_some (member_named word frame.fields)

abbrev pub found_near : Spot → Words → Option (Route × Shape)
found_near spot path = do
  p ← find (λ p. has_member path p.1) (frames spot)
  found ← field_at p.1.fields path
  Some (route_from p.0 found)

-- what a path finds from where it is
abbrev pub found_at : Spot → Words → Option (Route × Shape)
found_at spot path =
    option_map_or (λ p. first (filter_map (found_below p.0 p.1) (frames spot))) (scope_named path)
    (found_near spot path)

-- A length is an unsigned integer. (4.2.4.)
abbrev pub is_length : Shape → Bool
is_length (integer i) = not i.is_signed
is_length _ = false

abbrev pub length_at : Spot → Words → Option Route
length_at spot path = do
  found ← found_at spot path
  if is_length found.1 then Some found.0 else None

-- A tag is an enumeration, with its labels. A variant where none is written has none. (4.2.2.)
abbrev pub labels_in : Shape → Option (List Label)
labels_in (enum i labels) = Some labels
labels_in _ = None

abbrev pub tag_at : Spot → Option Words → Option (Route × List Label)
tag_at spot tag = do
  path ← tag
  found ← found_at spot path
  labels ← labels_in found.1
  Some (found.0, labels)
