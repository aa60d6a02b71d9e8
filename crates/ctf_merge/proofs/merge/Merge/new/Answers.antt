use Rattle.std.proofs.Common.{◌≡◌, ℕ, List, map, take, drop, length, ◌++◌, sym, subst}
use Rattle.ctf_stream.specs.Reader.{Reader, coming}
use Rattle.ctf_merge.specs.Merged.{Merged, merged}
use Rattle.ctf_merge.specs.Merges.{EachIsFetched, MergedOrRefused}
use Rattle.ctf_merge.specs.Stages.{Stands}
use Rattle.ctf_merge.proofs.Lining.{open_coming}
use Rattle.ctf_merge.proofs.Going.{written, length-fetched, told_at_first, each_fetched, tells_at_first, names_at_first, traces_at_first, writes_at_first, given_at_first, on_line_at_first, all_taken_at_first, comes_at_first}
use Rattle.ctf_merge.proofs.Rising.{rises_at_first}
use Rattle.ctf_merge.proofs.merge.Merge.new.Goals as goal

-- the readers of the merge are those that were fetched
readers_are : (old given new : List Reader) (n : ℕ) → given ≡ old → n ≡ length old → EachIsFetched given new
    → EachIsFetched old (take n (new ++ drop (length new) old))
readers_are old given new n same len each =
    let here : EachIsFetched old new = subst (λ (t : List Reader). EachIsFetched t new) same each in
    subst (λ (t : List Reader). EachIsFetched old t) (sym (written old new n len (length-fetched old new here))) here

pub invariant_of-result : goal.invariant_of-result
invariant_of-result g c = record {
  fetched = each_fetched _ _ (readers_are c.args.readers.items c.deref_mut.result.now c.fetch_each.new.readers c.args.readers.len c.deref_mut.ensures.value c.args.readers.ok.0 c.fetch_each.ensures);
  stands = subst (λ (rs : List Reader). Stands c.in_ok-turns.stage (map (λ r. r.ahead) rs) c.in_ok-turns.turns) c.deref.ensures.value c.in_ok-turns.ensures.stands;
}

pub returns-clause-told : goal.returns-clause-told
returns-clause-told g c = λ tells.
    subst (λ (m : Merged). MergedOrRefused (merged (map coming c.args.readers.items)) m) (sym (open_coming _ c.in_ok-turns.stage c.in_ok-turns.ensures.open))
    (told_at_first _ _ tells (readers_are c.args.readers.items c.deref_mut.result.now c.fetch_each.new.readers c.args.readers.len c.deref_mut.ensures.value c.args.readers.ok.0 c.fetch_each.ensures))

pub returns-clause-each : goal.returns-clause-each
returns-clause-each g c =
    comes_at_first _ _ (readers_are c.args.readers.items c.deref_mut.result.now c.fetch_each.new.readers c.args.readers.len c.deref_mut.ensures.value c.args.readers.ok.0 c.fetch_each.ensures)

pub returns-clause-fetched : goal.returns-clause-fetched
returns-clause-fetched g c =
    each_fetched _ _ (readers_are c.args.readers.items c.deref_mut.result.now c.fetch_each.new.readers c.args.readers.len c.deref_mut.ensures.value c.args.readers.ok.0 c.fetch_each.ensures)

pub returns-clause-rises : goal.returns-clause-rises
returns-clause-rises g c = λ tells each. rises_at_first _ _ (returns-clause-told g c tells) each

pub returns-clause-names : goal.returns-clause-names
returns-clause-names g c =
    names_at_first _ _ (readers_are c.args.readers.items c.deref_mut.result.now c.fetch_each.new.readers c.args.readers.len c.deref_mut.ensures.value c.args.readers.ok.0 c.fetch_each.ensures)

pub returns-clause-traces : goal.returns-clause-traces
returns-clause-traces g c =
    traces_at_first _ _ (readers_are c.args.readers.items c.deref_mut.result.now c.fetch_each.new.readers c.args.readers.len c.deref_mut.ensures.value c.args.readers.ok.0 c.fetch_each.ensures)

pub returns-clause-writes : goal.returns-clause-writes
returns-clause-writes g c =
    writes_at_first _ _ (readers_are c.args.readers.items c.deref_mut.result.now c.fetch_each.new.readers c.args.readers.len c.deref_mut.ensures.value c.args.readers.ok.0 c.fetch_each.ensures)

pub returns-clause-tells : goal.returns-clause-tells
returns-clause-tells g c =
    tells_at_first _ _ (readers_are c.args.readers.items c.deref_mut.result.now c.fetch_each.new.readers c.args.readers.len c.deref_mut.ensures.value c.args.readers.ok.0 c.fetch_each.ensures)

pub returns-clause-counted : goal.returns-clause-counted
returns-clause-counted g c =
    given_at_first _ _ (readers_are c.args.readers.items c.deref_mut.result.now c.fetch_each.new.readers c.args.readers.len c.deref_mut.ensures.value c.args.readers.ok.0 c.fetch_each.ensures)

pub returns-clause-on_line : goal.returns-clause-on_line
returns-clause-on_line g c =
    on_line_at_first _ _ (readers_are c.args.readers.items c.deref_mut.result.now c.fetch_each.new.readers c.args.readers.len c.deref_mut.ensures.value c.args.readers.ok.0 c.fetch_each.ensures)

pub returns-clause-all_taken : goal.returns-clause-all_taken
returns-clause-all_taken g c =
    all_taken_at_first _ _ (readers_are c.args.readers.items c.deref_mut.result.now c.fetch_each.new.readers c.args.readers.len c.deref_mut.ensures.value c.args.readers.ok.0 c.fetch_each.ensures)
