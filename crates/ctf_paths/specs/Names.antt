-- Names of scopes and of classes, as the code keeps them.
use Rattle.std.specs.Prelude.{[], ◌∷◌, ◌++◌, Option, Some, None, option_map}
use Rattle.ctf_class.specs.declared.route.Scope.{Scope}
use Rattle.ctf_meaning.specs.Name.{Words}
use Rattle.ctf_paths.specs.declared.name.Absolute.{Absolute}
use Rattle.ctf_paths.specs.declared.trail.Trail.{Trail, fold-Trail}
use Rattle.ctf_paths.specs.declared.trail.Trail.TheOpen.{Trail-F}

-- a scope, and the words after its name
abbrev pub absolute : Absolute → Scope × Words
absolute a = (a.scope, a.words.now)

abbrev pub trail_step : Trail-F (Option Words) → Option Words
trail_step Trail-F.Broken = None
trail_step Trail-F.Scope = Some []
trail_step (Trail-F.Member word outer) = option_map (λ words. words ++ word.now ∷ []) outer.now

-- the name of a class
abbrev pub name_of : Trail → Option Words
name_of = fold-Trail (Option Words) trail_step
