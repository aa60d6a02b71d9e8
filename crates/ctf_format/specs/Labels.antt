-- How an enumeration's number is shown.
use Rattle.std.specs.Prelude.{ℕ, ℤ, Bool, not, ◌&&◌, if◌then◌else◌, List, [], ◌∷◌, ◌++◌, map, codes}
use Rattle.std.specs.List.{list_any}
use Rattle.std.specs.Str.{bytes_eq}
use Rattle.ctf_class.specs.declared.integer.Integer.{Integer}
use Rattle.ctf_class.specs.declared.span.Label.{Label}
use Rattle.ctf_class.specs.Names.{label_text}
use Rattle.ctf_decode.specs.Routes.{covers}
use Rattle.ctf_format.specs.Numbers.{number_text}
use Rattle.ctf_format.specs.Rows.{enclosed}

-- whether one of some labels covers a number and has a name
abbrev pub is_named : List Label → ℤ → List ℕ → Bool
is_named labels z name =
    list_any (λ (label : Label). covers label.span z && bytes_eq label.name name) labels

-- whether a label shows a number after labels that are before it: it covers the number, and none of those
-- that cover it has the same name
abbrev pub shows : List Label → Label → ℤ → Bool
shows before label z = covers label.span z && not (is_named before z label.name)

-- the names of the labels that show a number, after labels that are before them
abbrev pub names_after : List Label → List Label → ℤ → List (List ℕ)
names_after before [] z = []
names_after before (label ∷ labels) z =
    if shows before label z then label.name ∷ names_after (before ++ label ∷ []) labels z
    else names_after (before ++ label ∷ []) labels z

-- the names of the labels that cover a number, in their order, each once (CTF 1.8.3, section 4.1.8)
abbrev pub names_of : List Label → ℤ → List (List ℕ)
names_of labels z = names_after [] labels z

-- one name, several, or none (own)
abbrev pub names_text : List (List ℕ) → List ℕ
names_text [] = codes "<unknown>"
names_text (name ∷ []) = label_text name
names_text (first ∷ second ∷ rest) = enclosed 123 125 (map label_text (first ∷ second ∷ rest))

-- the names, and the container's number (own)
abbrev pub labelled_text : Integer → List Label → ℤ → List ℕ
labelled_text container labels z =
    codes "( "
    ++ (names_text (names_of labels z)
    ++ (codes " : container = " ++ (number_text container z ++ codes " )")))
