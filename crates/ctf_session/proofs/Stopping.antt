-- What was written where a run stopped.
use Rattle.std.proofs.Common.{◌≡◌, ◌⊎◌, inl, inr, ℕ, ℤ, List, [], ◌∷◌, ◌++◌, Option, Some, None, refl, sym, ap, ◌∙◌, subst}
use Rattle.std.proofs.lemmas.List.{append-nil}
use Rattle.std.specs.List.{AllByRecursion}
use Rattle.ctf_merge.specs.Merged.{Placed}
use Rattle.ctf_merge.specs.declared.fault.MergeFault.{MergeFault}
use Rattle.ctf_merge.specs.declared.fault.MergeFault.TheVariants as merges
use Rattle.ctf_packet.specs.Classes.{Classes}
use Rattle.ctf_packet.specs.Items.{Item, event, discarded, lost}
use Rattle.ctf_session.specs.Answers.{Setting, answer, trimmed, by_kind, last_after, fault_pieces, pieces_of}
use Rattle.ctf_session.specs.Laws.{FirstParts, OneSinkEach, WholeInOne}
use Rattle.ctf_session.specs.Writing.{Texts, joined, first_of, after_texts, Written, WritesPart, WritesParts}
use Rattle.ctf_session.proofs.Pieces.{WritesPart-after, WritesPart-longer}
use Rattle.ctf_session.proofs.Runs.{joined-append}

-- ---- first parts

first_joined : (w : Written) (after : List Texts) → WritesParts w (first_of after) → WritesParts w (joined after)
first_joined w [] parts = parts
first_joined w (t ∷ ts) parts = record {
  output = WritesPart-longer w.old_output w.new_output t.output (joined ts).output parts.output;
  messages = WritesPart-longer w.old_messages w.new_messages t.messages (joined ts).messages parts.messages;
}

pub first_parts : FirstParts
first_parts pieces w s =
    let parts = first_joined (after_texts (joined s.before) w) s.after s.wrote in
    rw (s.splits, joined-append s.before s.after) (record {
      output = WritesPart-after w.old_output _ w.new_output (joined s.before).output (joined s.after).output refl parts.output;
      messages = WritesPart-after w.old_messages _ w.new_messages (joined s.before).messages (joined s.after).messages refl parts.messages;
    })

-- ---- one sink for each piece

abbrev IsForOne : Texts → Type 0
IsForOne t = (t.output ≡ []) ⊎ (t.messages ≡ [])

abbrev EachForOne : List Texts → Type 0
EachForOne pieces = AllByRecursion (λ t. (t.output ≡ []) ⊎ (t.messages ≡ [])) pieces

one_kind : (x : Item Classes) (text : List ℕ) → IsForOne (by_kind x text)
one_kind (event e) text = inr refl
one_kind (discarded g) text = inl refl
one_kind (lost g) text = inl refl

each_fault : (setting : Setting) (fault : Option MergeFault) → EachForOne (fault_pieces setting fault)
each_fault setting None = tt
each_fault setting (Some (merges.Stream number f)) = (inl refl, tt)
each_fault setting (Some merges.NoMemory) = (inl refl, tt)

each_piece : (setting : Setting) (last : Option ℤ) (xs : List Placed) (fault : Option MergeFault) → EachForOne (pieces_of setting last xs fault)
each_piece setting last [] fault = each_fault setting fault
each_piece setting last (x ∷ xs) fault = (one_kind x.item _, each_piece setting (last_after last x.item) xs fault)

pub one_sink_each : OneSinkEach
unfolding answer
one_sink_each setting last m = each_piece setting last (trimmed setting m).items (trimmed setting m).fault

nothing_first : (piece rest : List ℕ) → [] ≡ piece ++ rest → piece ≡ []
nothing_first [] rest e = refl
nothing_first (x ∷ piece) rest e = absurd cc

as_it_was : (old new text : List ℕ) → WritesPart old new text → text ≡ [] → new ≡ old
as_it_was old new text part none =
    part.wrote ∙ ap (λ piece. old ++ piece) (nothing_first part.piece part.rest (sym none ∙ part.splits)) ∙ append-nil old

first_for_one : (before after : List Texts) → EachForOne (before ++ after) → IsForOne (first_of after)
first_for_one [] [] each = inl refl
first_for_one [] (t ∷ ts) each = each.0
first_for_one (t ∷ before) after each = first_for_one before after each.1

pub whole_in_one : WholeInOne
whole_in_one setting last m w s = by_sink (first_for_one s.before s.after (subst EachForOne s.splits (one_sink_each setting last m)))
  where
    by_sink : IsForOne (first_of s.after) → (w.new_output ≡ w.old_output ++ (joined s.before).output) ⊎ (w.new_messages ≡ w.old_messages ++ (joined s.before).messages)
    by_sink (inl none) = inl (as_it_was _ _ _ s.wrote.output none)
    by_sink (inr none) = inr (as_it_was _ _ _ s.wrote.messages none)
