use Rattle.ctf_session.proofs.Fronts.{front_is, none_passed, text_is, name_at}
use Rattle.ctf_session.proofs.next_item.print_front.Goals as goal

pub returns-in-None-clause-prints : goal.returns-in-None-clause-prints
returns-in-None-clause-prints g c = λ out err next first.
    let r = c.in-Some.reader.now in
    let shows = rw (c.in-Item.is) at c.in-Some-told.ensures.tells in
    let is = front_is c.args.at.now.merge.now c.args.at.now.number c.requires.next r c.in-Item.item next c.in-Some.ensures shows first in
    rw (is.1.1, name_at c.args.at.now.merge.now.readers c.args.at.now.number r c.in-Some.ensures) (c.in-None.ensures.prints out err r.trace r.name is.0 is.1.0 shows.1)

pub returns-in-Some-print-clause-prints : goal.returns-in-Some-print-clause-prints
returns-in-Some-print-clause-prints g c = λ out err next first.
    let r = c.in-Some.reader.now in
    let shows = rw (c.in-Item.is) at c.in-Some-told.ensures.tells in
    let is = front_is c.args.at.now.merge.now c.args.at.now.number c.requires.next r c.in-Item.item next c.in-Some.ensures shows first in
    rw (is.1.1, name_at c.args.at.now.merge.now.readers c.args.at.now.number r c.in-Some.ensures) (c.in-Some-print.ensures.prints out err r.trace r.name is.0 is.1.0 shows.1)

pub returns-in-None-print_text-clause-counts : goal.returns-in-None-print_text-clause-counts
returns-in-None-print_text-clause-counts g c = c.in-None-print_text.ensures.counts (g.E.Sink.failures c.args.err.now) (g.E.Sink.refusals c.args.err.now)

pub returns-in-Some-print_text-clause-prints : goal.returns-in-Some-print_text-clause-prints
returns-in-Some-print_text-clause-prints g c = λ out err next first.
    let shows = rw (c.in-Text.is) at c.in-Some-told.ensures.tells in
    let is = text_is c.args.at.now.merge.now c.args.at.now.number c.requires.next c.in-Some.reader.now c.in-Text.event next c.in-Some.ensures shows first in
    rw (is.1) (c.in-Some-print_text.ensures.prints out is.0 is.2 is.3 _)

pub unreachable-requires-in-Passed : goal.unreachable-requires-in-Passed
unreachable-requires-in-Passed g c =
    let wanted = c.requires.wanted in
    let shows = rw (c.in-Passed.is) at c.in-Some-told.ensures.tells in
    let early = rw (c.in-Passed.is) at c.in-Some-told.ensures.asked in
    none_passed c.args.at.now.merge.now c.args.at.now.number c.requires.next c.in-Some.reader.now c.in-Passed.field-0 wanted.trim c.in-Some.ensures shows early wanted.asked wanted.within
