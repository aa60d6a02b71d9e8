use Rattle.std.proofs.Common.{[], length, ◌*◌, ◌≤◌, arith}
use Rattle.ctf_decode.specs.Views.{form, input_in, earlier}
use Rattle.ctf_decode.specs.declared.scopes.TheConstants.{MOST_VALUES}
use Rattle.ctf_decode.proofs.Needs.{needs}
use Rattle.ctf_decode.proofs.Beyond.{beyond}
use Rattle.ctf_decode.proofs.front.decode_front.Goals as goal

pub returns-in-Err-ContentEnds-clause-beyond : goal.returns-in-Err-ContentEnds-clause-beyond
returns-in-Err-ContentEnds-clause-beyond c =
    let b = rw c.in-Err-ContentEnds.field-0-is at c.in-Err-ContentEnds.ensures.fault in
    let all : 8 * length c.args.front.now ≤ 8 * length c.args.front.now = omega arith in
    beyond (input_in c.args.front.now (8 * length c.args.front.now) c.args.scopes.now) all (form c.args.class.now) [] c.args.start c.args.scopes.now.spent c.in-Err-ContentEnds.bits b

pub returns-in-Err-ContentEnds-clause-needed : goal.returns-in-Err-ContentEnds-clause-needed
returns-in-Err-ContentEnds-clause-needed c =
    let b = rw c.in-Err-ContentEnds.field-0-is at c.in-Err-ContentEnds.ensures.fault in
    let all : 8 * length c.args.front.now ≤ 8 * length c.args.front.now = omega arith in
    λ more whole v q longer h. needs c.args.front.now more (8 * length c.args.front.now) whole MOST_VALUES (earlier c.args.scopes.now) longer all (form c.args.class.now) [] c.args.start c.args.scopes.now.spent c.in-Err-ContentEnds.bits v q b h
