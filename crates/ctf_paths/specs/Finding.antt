-- Members that are found, and the ways to them.
use Rattle.std.specs.Prelude.{ℕ, List, [], ◌∷◌, ◌++◌, map, Option, Some, None, if◌then◌else◌, option_map, option_and_then}
use Rattle.std.specs.List.{enumerate_from}
use Rattle.ctf_class.specs.declared.route.Origin.{Origin}
use Rattle.ctf_class.specs.declared.route.Origin.TheVariants.{Enclosing, Earlier as EarlierScope}
use Rattle.ctf_class.specs.declared.route.Route.{Route}
use Rattle.ctf_class.specs.declared.span.Label.{Label}
use Rattle.ctf_meaning.specs.Name.{Word, Words}
use Rattle.ctf_meaning.specs.There.{◌>>=◌}
use Rattle.ctf_meaning.specs.Shapes as plain
use Rattle.ctf_meaning.specs.Paths as paths
use Rattle.ctf_meaning.specs.Paths.{members_of, member_named}
use Rattle.ctf_declared_class.specs.Views.{shape, place_and_class}
use Rattle.ctf_paths.specs.declared.find.Found.{Found}
use Rattle.ctf_paths.specs.declared.find.Start.{Start}
use Rattle.ctf_paths.specs.declared.reach.Tag.{Tag}
use Rattle.ctf_paths.specs.Spots.{frame_by}

-- the class of the member of this name, with its number
abbrev pub class_named : Word → List plain.Field → Option (ℕ × plain.Shape)
class_named word fields = option_map place_and_class (member_named word fields)

-- a way that goes on
abbrev pub further : List ℕ → paths.Found → paths.Found
further steps found = (steps ++ found.0, found.1)

-- what the words lead to from a class, down through structures only
abbrev pub down : plain.Shape → Words → Option paths.Found
down shape [] = Some ([], shape)
down shape (word ∷ words) = do
  p ← class_named word (members_of shape)
  found ← down p.1 words
  Some (p.0 ∷ found.0, found.1)

-- structures around a class, from this one on
abbrev pub enclosing : ℕ → List paths.Frame → List (Origin × paths.Frame)
enclosing out fs = map (λ p. (Enclosing p.0, p.1)) (enumerate_from out fs)

-- structures of earlier scopes
abbrev pub of_scopes : List paths.Frame → List (Origin × paths.Frame)
of_scopes fs = map (λ f. (EarlierScope f.scope, f)) fs

-- what a path found
abbrev pub found_by : Found → Route × plain.Shape
found_by f = (f.route, shape f.shape.now)

-- where a path begins
abbrev pub start_by : Start → Origin × paths.Frame
start_by s = (s.origin, frame_by s.frame)

-- the route to a length
abbrev pub length_of : Route × plain.Shape → Option Route
length_of found = if paths.is_length found.1 then Some found.0 else None

-- the route to a tag, with its labels
abbrev pub tag_of : Route × plain.Shape → Option (Route × List Label)
tag_of found = option_and_then (λ labels. Some (found.0, labels)) (paths.labels_in found.1)

-- what a tag is
abbrev pub tag_by : Tag → Route × List Label
tag_by t = (t.route, t.labels.now)
