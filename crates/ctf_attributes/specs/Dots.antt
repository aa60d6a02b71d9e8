-- Words with a dot before each.
use Rattle.std.specs.Prelude.{[], ◌∷◌, ◌++◌}
use Rattle.ctf_meaning.specs.Name.{Word, Words}

abbrev pub dotted : Words → Word
dotted [] = []
dotted (word ∷ words) = 46 ∷ (word ++ dotted words)
