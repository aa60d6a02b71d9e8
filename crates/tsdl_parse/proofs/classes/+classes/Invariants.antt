use Rattle.std.proofs.Common.{◌+◌, ◌*◌, [], length}
use Rattle.tsdl_grammar.specs.Steps.{before_close}
use Rattle.tsdl_grammar.specs.Reading.{item_at, body_at}
use Rattle.tsdl_parse.proofs.Loops.{Going}
use Rattle.tsdl_parse.proofs.classes.+classes.Given as goal

abbrev pub decreases-body : goal.decreases-body
decreases-body l = 8 * l.depth + 0

abbrev pub decreases-structure : goal.decreases-structure
decreases-structure l = 8 * l.depth + 1

abbrev pub decreases-variant : goal.decreases-variant
decreases-variant l = 8 * l.depth + 1

abbrev pub decreases-compound : goal.decreases-compound
decreases-compound l = 8 * l.depth + 2

abbrev pub decreases-class : goal.decreases-class
decreases-class l = 8 * l.depth + 3

abbrev pub decreases-alias : goal.decreases-alias
decreases-alias l = 8 * l.depth + 4

abbrev pub decreases-definition : goal.decreases-definition
decreases-definition l = 8 * l.depth + 4

abbrev pub decreases-item : goal.decreases-item
decreases-item l = 8 * l.depth + 5

abbrev pub decreases-items : goal.decreases-items
decreases-items l = 8 * l.depth + 6

abbrev pub decreases-items-turns : goal.decreases-items-turns
decreases-items-turns l = length l.rest

abbrev pub invariant-items-turns : goal.invariant-items-turns
invariant-items-turns l = Going before_close (item_at (body_at l.depth) l.depth) [] l.fn.tokens l.found.items l.rest
