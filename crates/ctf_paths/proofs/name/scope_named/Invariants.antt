use Rattle.std.proofs.Common.{◌≡◌, drop, option_map}
use Rattle.std.specs.Prelude.{filter_map}
use Rattle.ctf_meaning.specs.There.{first}
use Rattle.ctf_meaning.specs.Paths.{scopes, scope_named, after_words, words_of}
use Rattle.ctf_paths.proofs.name.scope_named.Given as goal

abbrev pub invariant-loop-scope : goal.invariant-loop-scope
invariant-loop-scope l = first (filter_map (λ scope. option_map (λ words. (scope, words)) (after_words (words_of scope) l.path)) (drop l.scope-index scopes)) ≡ scope_named l.path
