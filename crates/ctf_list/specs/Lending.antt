-- What a list is after its slice was lent.
use Rattle.std.specs.Prelude.{List, ◌++◌, length, take, drop}

-- the elements that were left in the slice, as many as the list had: a slice keeps its length
abbrev pub with_items : {T : Type 0} → List T → List T → List T
with_items old left = take (length old) (left ++ drop (length left) old)
