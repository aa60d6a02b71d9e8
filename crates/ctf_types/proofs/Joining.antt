-- Streams joined with their events, where one of both lists has come to its end.
use Rattle.std.proofs.Common.{◌≡◌, List, [], ◌∷◌, ◌++◌, refl, sym, ap, ◌∙◌, append-nil, inl, inr, ◌⊎◌}
use Rattle.ctf_class.specs.declared.trace.EventClass.{EventClass}
use Rattle.ctf_class.specs.Streams.{StreamClass}
use Rattle.ctf_types.specs.declared.linked.StreamHead.{StreamHead}
use Rattle.ctf_types.specs.Gathered.{joined_all}

no_heads : (hs : List StreamHead) (ess : List (List EventClass)) → hs ≡ [] → joined_all hs ess ≡ []
no_heads hs ess e = ap (λ xs. joined_all xs ess) e

no_events : (hs : List StreamHead) (ess : List (List EventClass)) → ess ≡ [] → joined_all hs ess ≡ []
no_events [] ess e = refl
no_events (h ∷ hs) ess e = ap (λ xs. joined_all (h ∷ hs) xs) e

pub all_joined : (streams all : List StreamClass) (hs : List StreamHead) (ess : List (List EventClass)) → (hs ≡ []) ⊎ (ess ≡ []) → streams ++ joined_all hs ess ≡ all → streams ≡ all
all_joined streams all hs ess (inl e) h = sym (append-nil streams) ∙ ap (λ xs. streams ++ xs) (sym (no_heads hs ess e)) ∙ h
all_joined streams all hs ess (inr e) h = sym (append-nil streams) ∙ ap (λ xs. streams ++ xs) (sym (no_events hs ess e)) ∙ h
