use Rattle.std.proofs.Common.{◌≡◌, drop}
use Rattle.std.specs.List.{list_any}
use Rattle.ctf_meaning.specs.Settings.{has_no_number}
use Rattle.ctf_attributes.proofs.numbered.numbers.Given as goal

-- the settings that are left decide
abbrev pub invariant-loop-setting : goal.invariant-loop-setting
invariant-loop-setting l = list_any (λ s. has_no_number s.value) l.settings ≡ list_any (λ s. has_no_number s.value) (drop l.setting-index l.settings)
