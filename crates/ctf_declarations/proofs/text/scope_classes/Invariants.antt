use Rattle.std.proofs.Common.{◌≡◌, map, take, drop}
use Rattle.ctf_meaning.specs.Reading.{declaration_of}
use Rattle.ctf_meaning_steps.specs.Blocks.{declarations_told, text_told}
use Rattle.ctf_declarations.specs.DeclaredSoFar.{walked, Remembers}
use Rattle.ctf_declarations.proofs.text.scope_classes.Given as goal

abbrev pub invariant-loop-item : goal.invariant-loop-item
invariant-loop-item l = record {
  told : declarations_told (map declaration_of (take l.item-index l.item-items)) (walked l.so_far) (map declaration_of (drop l.item-index l.item-items)) ≡ text_told (map declaration_of l.item-items);
  kept : Remembers l.earlier (map declaration_of (take l.item-index l.item-items));
}
