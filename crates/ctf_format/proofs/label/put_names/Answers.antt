use Rattle.std.proofs.Common.{ℕ, ◌∷◌, List, IfOk, sym, subst}
use Rattle.std.proofs.Math.Facts.{to_z-of_z}
use Rattle.ctf_format.specs.Put.{IsPut}
use Rattle.ctf_format.proofs.NamesLemmas.{text_none, text_one}
use Rattle.ctf_format.proofs.label.put_names.Goals as goal

pub returns-in_default-clause-put : goal.returns-in_default-clause-put
returns-in_default-clause-put c =
    let none = rw (to_z-of_z c.ranges.number) at c.in_default.ensures.next in
    subst (λ (names : List ℕ). IfOk c.put_unknown.result (IsPut c.args.buffer.now c.args.at (40 ∷ 32 ∷ names) c.put_unknown.new.buffer)) (sym (text_none c.args.labels.now c.args.number none)) c.put_unknown.ensures.put

pub returns-then-are_apart-clause-put : goal.returns-then-are_apart-clause-put
returns-then-are_apart-clause-put c =
    let first = rw (to_z-of_z c.ranges.number) at c.in-Some.ensures.next in
    let none = c.are_apart.ensures c.if-are_apart.true c.args.number c.in-Some.first first.shows in
    subst (λ (names : List ℕ). IfOk c.put_name.result (IsPut c.args.buffer.now c.args.at (40 ∷ 32 ∷ names) c.put_name.new.buffer)) (sym (text_one c.args.labels.now c.args.number c.in-Some.first first none)) c.put_name.ensures.put
