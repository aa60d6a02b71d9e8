-- The classes of a block, one entry after another.
use Rattle.std.proofs.Common.{◌≡◌, ℕ, ◌+◌, ◌<◌, List, map, drop, length, get_or, Ok, Err, refl, ap, sym, ◌∙◌}
use Rattle.tsdl_tree.specs.declared.tree.BlockEntry.{BlockEntry}
use Rattle.ctf_meaning.specs.declared.fault.ResolveFault.{ResolveFault}
use Rattle.ctf_meaning.specs.Reading.{entry_of}
use Rattle.ctf_meaning_steps.specs.Told.{Told, ◌>>=◌}
use Rattle.ctf_meaning_steps.specs.Seen.{Seen}
use Rattle.ctf_meaning_steps.specs.Blocks.{Held, NamedClass, entry_told}
use Rattle.ctf_declarations.specs.DeclaredSoFar.{from_held}
use Rattle.ctf_declarations.proofs.Steps.{Tell, tell_same, bind_fault, drop_next}

-- of what follows a value its classes are kept
classes_after : (t : Told Held) (f : Held → Told Held) → ((t >>= f) >>= λ after. Ok after.classes) ≡ (t >>= λ next. f next >>= λ after. Ok after.classes)
classes_after (Ok next) f = refl
classes_after (Err fault) f = refl

module _ (outer : Seen) (es : List BlockEntry) (i : ℕ) (e : BlockEntry) (is : e ≡ get_or es i e) (h : i < length es) (before : Held) where
  abbrev rest : Held → Told (List NamedClass)
  rest next = from_held outer next (map entry_of (drop (i + 1) es))

  split : from_held outer before (map entry_of (drop i es)) ≡ (entry_told outer before (entry_of e) >>= rest)
  split =
      ap (λ l. from_held outer before (map entry_of l)) (drop_next es i e is h)
      ∙ classes_after (entry_told outer before (entry_of e)) _

  pub entry_next : (after : Held) → entry_told outer before (entry_of e) ≡ Ok after → rest after ≡ from_held outer before (map entry_of (drop i es))
  entry_next after made = sym (split ∙ ap (λ t. t >>= rest) made)

  pub entry_fault : (f : ResolveFault) → Tell (entry_told outer before (entry_of e)) f → Tell (from_held outer before (map entry_of (drop i es))) f
  entry_fault f told = tell_same _ _ f (sym split) (bind_fault (entry_told outer before (entry_of e)) rest f told)
