use Rattle.std.proofs.Common.{◌≡◌, [], sym, ◌∙◌, inl, inr, ◌⊎◌}
use Rattle.std.proofs.lemmas.List.{nil_from_length}
use Rattle.ctf_types.specs.Gathered.{joined_all}
use Rattle.ctf_types.proofs.Joining.{all_joined}
use Rattle.ctf_types.proofs.resolving.join_events.Goals as goal

pub returns : goal.returns
returns c =
    let heads = c.loop-head.head-iterator.a.rest in
    let events = c.loop-head.head-iterator.b.rest in
    all_joined c.loop-head.streams (joined_all c.args.heads c.args.events) heads.items events.items
    (elim c.in-None.ensures.steps as (λ _. (heads.items ≡ []) ⊎ (events.items ≡ [])) [
      | inl e ↦ inl (nil_from_length heads.items (sym heads.ok.0 ∙ e.1.0))
      | inr e ↦ inr (nil_from_length events.items (sym events.ok.0 ∙ e.1.0))
    ])
    c.loop-head.invariant
