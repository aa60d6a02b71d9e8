-- Entries `hostname` of an environment.
use Rattle.std.specs.Prelude.{List, reverse, Option, codes, find}
use Rattle.tsdl_tree.specs.declared.tree.Setting.{Setting}
use Rattle.ctf_meaning.specs.Name.{same_words}
use Rattle.ctf_meaning.specs.Settings.{one}

-- the last of them
abbrev pub last_host : List Setting → Option Setting
last_host settings = find (λ s. same_words s.name (one (codes "hostname"))) (reverse settings)
