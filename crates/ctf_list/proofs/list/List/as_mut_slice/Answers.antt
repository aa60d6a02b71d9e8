use Rattle.std.proofs.Common.{◌++◌, length, take, drop, refl, sym, ap, ◌∙◌}
use Rattle.ctf_list.proofs.list.List.as_mut_slice.Goals as goal

pub returns : goal.returns
returns g c =
    let items = c.self.inside.items.items in (
      (refl, λ w. rw (sym c.self.view_is) (ap (λ n. take n (w ++ drop (length w) items)) c.self.inside.items.ok.0)),
      record { writes_back = tt; value = c.as_mut_slice.ensures.value ∙ c.self.view_is },
    )
