use Rattle.std.proofs.Common.{◌≡◌, [], map, drop}
use Rattle.ctf_meaning.specs.Written.{items_from}
use Rattle.ctf_meaning_steps.specs.Seen.{nothing_seen}
use Rattle.ctf_meaning_steps.specs.Items.{body_told}
use Rattle.ctf_declared_class.specs.Knowns.{field}
use Rattle.ctf_declarations.specs.Given.{item_form}
use Rattle.ctf_declarations.specs.Views.{names_in, visible}
use Rattle.ctf_declarations.proofs.classes.+classes.Given as goal

abbrev pub invariant-body-loop-item : goal.invariant-body-loop-item
invariant-body-loop-item l = body_told (visible l.outer) (names_in l.own) (map field l.fields.items) (items_from (map item_form (drop l.item-index l.items))) ≡ body_told (visible l.outer) nothing_seen [] (items_from (map item_form l.items))
