use Rattle.std.proofs.Common.{◌∙◌, ap, option_map}
use Rattle.ctf_class.specs.declared.route.Scope.{Scope}
use Rattle.ctf_class.specs.declared.route.Scope.TheVariants.{PacketHeader}
use Rattle.ctf_meaning.specs.Name.{Words}
use Rattle.ctf_meaning.specs.Paths.{scopes, after_words, words_of}
use Rattle.ctf_paths.proofs.Lists.{first_past}
use Rattle.ctf_paths.proofs.name.scope_named.Goals as goal

pub loop-scope-preserved : goal.loop-scope-preserved
loop-scope-preserved c =
    let at = λ (scope : Scope). option_map {T = Words} (λ words. (scope, words)) (after_words (words_of scope) c.args.path.now) in
    first_past at scopes c.loop-scope.scope-index PacketHeader c.loop-scope-test.true (ap (option_map (λ words. (_, words))) c.in_default.ensures) ∙ c.loop-scope.invariant
