use Rattle.std.proofs.Common.{refl, sym, ◌∙◌, subst}
use Rattle.ctf_merge.specs.Merged.{merged}
use Rattle.ctf_merge.specs.Merges.{MergedOrRefused, coming_of}
use Rattle.ctf_session.specs.Opening.{AreAsked}
use Rattle.ctf_session.specs.Passing.{EachMeans}
use Rattle.ctf_session.proofs.Opened.{each_asked, runs_of, names_are, each_tells, given_is, each_on_line, each_all_taken, each_rises, each_means}
use Rattle.ctf_session.proofs.session.Session.new.Goals as goal

pub returns-clause-told : goal.returns-clause-told
returns-clause-told g c = λ tells.
    let opened = c.in_ok-readers.ensures.opened in
    subst (λ runs. MergedOrRefused (merged runs) (coming_of c.in_ok-merge.merge)) (runs_of c.args.options.now _ c.in_ok-readers.readers.items opened tells)
    (c.in_ok-merge.ensures.told (each_tells c.args.options.now _ c.in_ok-readers.readers.items opened tells))

pub returns-clause-setting : goal.returns-clause-setting
returns-clause-setting g c =
    rw (c.new-2.ensures.style, c.in_ok-readers.ensures.numbers, c.in_ok-merge.ensures.names, names_are c.args.options.now _ c.in_ok-readers.readers.items c.in_ok-readers.ensures.opened) refl

pub returns-clause-tells : goal.returns-clause-tells
returns-clause-tells g c = λ tells.
    let opened = c.in_ok-readers.ensures.opened in
    let each = each_tells c.args.options.now _ c.in_ok-readers.readers.items opened tells in
    record {
      sources = c.in_ok-merge.ensures.tells each;
      rises = c.in_ok-merge.ensures.rises each (each_rises c.args.options.now _ c.in_ok-readers.readers.items opened tells);
    }

pub returns-clause-counted : goal.returns-clause-counted
returns-clause-counted g c = λ tells.
    let opened = c.in_ok-readers.ensures.opened in
    c.in_ok-merge.ensures.counted (each_tells c.args.options.now _ c.in_ok-readers.readers.items opened tells) ∙ given_is c.args.options.now _ c.in_ok-readers.readers.items opened

pub returns-clause-on_line : goal.returns-clause-on_line
returns-clause-on_line g c = c.in_ok-merge.ensures.on_line (each_on_line c.args.options.now _ c.in_ok-readers.readers.items c.in_ok-readers.ensures.opened)

pub returns-clause-all_taken : goal.returns-clause-all_taken
returns-clause-all_taken g c = λ tells.
    let opened = c.in_ok-readers.ensures.opened in
    c.in_ok-merge.ensures.all_taken (each_tells c.args.options.now _ c.in_ok-readers.readers.items opened tells) (each_all_taken c.args.options.now _ c.in_ok-readers.readers.items opened)

pub returns-clause-streams : goal.returns-clause-streams
returns-clause-streams g c = λ tells.
    let opened = c.in_ok-readers.ensures.opened in
    subst (λ runs. EachMeans runs c.in_ok-merge.merge.readers) (runs_of c.args.options.now _ c.in_ok-readers.readers.items opened tells)
    (each_means _ _ (each_tells c.args.options.now _ c.in_ok-readers.readers.items opened tells) c.in_ok-merge.ensures.each)

pub invariant_of-result : goal.invariant_of-result
invariant_of-result g c = subst (AreAsked c.args.options.now.trim.begin) (sym c.in_ok-merge.ensures.writes) (each_asked c.args.options.now _ c.in_ok-readers.readers.items c.in_ok-readers.ensures.opened)
