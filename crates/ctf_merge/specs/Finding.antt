-- What a search for the first of several streams finds.
use Rattle.std.specs.Prelude.{◌≡◌}
use Rattle.ctf_merge.specs.Merged as merged
use Rattle.ctf_merge.specs.Merged.{item, broken, nothing}
use Rattle.ctf_merge.specs.declared.merge.First.{First}
use Rattle.ctf_merge.specs.declared.merge.First.TheVariants as firsts

abbrev pub Finds : merged.First → First → Type 0
Finds (item i x) (firsts.Item n) = n ≡ i
Finds (item i x) (firsts.Fault n f) = ⊥
Finds (item i x) firsts.Nothing = ⊥
Finds (broken i f) (firsts.Item n) = ⊥
Finds (broken i f) (firsts.Fault n g) = (n ≡ i) × (g ≡ f)
Finds (broken i f) firsts.Nothing = ⊥
Finds nothing (firsts.Item n) = ⊥
Finds nothing (firsts.Fault n g) = ⊥
Finds nothing firsts.Nothing = Unit {0}
