-- The clocks that a stream block's scopes move, one after another.
use Rattle.std.proofs.Common.{◌≡◌, ℕ, List, [], ◌++◌, Option, Some, None, sym, ap, ◌∙◌, subst, append_assoc, append-nil}
use Rattle.std.specs.Prelude.{option_copied}
use Rattle.ctf_class.specs.declared.route.Scope.TheVariants.{PacketContext, EventHeader, StreamEventContext}
use Rattle.ctf_class.specs.declared.trace.Clock.{Clock}
use Rattle.ctf_paths.specs.declared.moved.Moved.{Moved}
use Rattle.ctf_paths.specs.MovedClocks.{Tells}
use Rattle.ctf_meaning.specs.Written.{Declaration}
use Rattle.ctf_meaning.specs.Streams.{home_of_stream, trace_of}
use Rattle.ctf_meaning.specs.Faults.{clocks_moved}
use Rattle.ctf_types.specs.Links.{IsMoved}
use Rattle.ctf_types.specs.Texts.{scope_moves}

pub all_moved : (text : List Declaration) (k : ℕ) (trace : Option ℕ) (moved : Moved) (clock : Option Clock) → trace ≡ trace_of text →
    Tells moved ((([] ++ scope_moves text (record { trace = trace; stream = Some k; event = None }) PacketContext)
    ++ scope_moves text (record { trace = trace; stream = Some k; event = None }) EventHeader)
    ++ scope_moves text (record { trace = trace; stream = Some k; event = None }) StreamEventContext) →
    clock ≡ option_copied moved.first → IsMoved text k (record { clock = clock; has_several = moved.has_other })
all_moved text k trace moved clock traced told copied =
    let a = scope_moves text (home_of_stream text (Some k)) PacketContext in
    let b = scope_moves text (home_of_stream text (Some k)) EventHeader in
    let c = scope_moves text (home_of_stream text (Some k)) StreamEventContext in
    let at : Tells moved ((a ++ b) ++ c) =
    subst (λ t. Tells moved ((scope_moves text (record { trace = t; stream = Some k; event = None }) PacketContext
    ++ scope_moves text (record { trace = t; stream = Some k; event = None }) EventHeader)
    ++ scope_moves text (record { trace = t; stream = Some k; event = None }) StreamEventContext)) traced told in
    let joined : (a ++ b) ++ c ≡ clocks_moved text (Some k) = append_assoc a b c ∙ ap (λ xs. a ++ (b ++ xs)) (sym (append-nil c)) in
    let all : Tells moved (clocks_moved text (Some k)) = subst (Tells moved) joined at in
    record { clock = copied ∙ sym all.first; several = sym all.other }
