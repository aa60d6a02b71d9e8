use Rattle.std.proofs.Common.{rules, ◌≡◌, ◌+◌, ◌*◌, ◌≤◌, ◌++◌, length, IfErr, Err, subst, sym}
use Rattle.ctf_fetch.specs.Demand.{text_at, Failed}
use Rattle.ctf_fetch.specs.Fetching.{OrNoMemory}
use Rattle.ctf_fetch.proofs.Parts.{text_near, text_short}
use Rattle.ctf_fetch.proofs.needed.text_byte.Goals as goal

pub returns-in_err-fill_front-clause-faulty : goal.returns-in_err-fill_front-clause-faulty
returns-in_err-fill_front-clause-faulty g c = λ tells.
    let place = c.args.place.now in
    let fault = c.in_err-fill_front.field-0.0 in
    let ending = g.S.Source.ending c.args.intake.now.source.now in
    let later = c.fill_front.new.intake.buffer.now in
    let left = g.S.Source.left c.fill_front.new.intake.source.now in
    let all_there : length c.args.intake.now.buffer.now ≤ c.args.next = search rules in
    let told = text_short place c.requires.begun ending c.args.intake.now.buffer.now later left (8 * (c.args.next + 1)) fault (c.requires.asks all_there) c.fill_front.ensures.keeps.bytes.first (c.in_err-fill_front.ensures.takes tells) in
    let e : c.from_residual.result ≡ Err fault = search rules in
    subst (λ r. IfErr r (OrNoMemory (Failed ending (text_at place (later ++ left))))) (sym e) told

pub returns-clause-near : goal.returns-clause-near
returns-clause-near g c = λ before near.
    let all_there : length c.args.intake.now.buffer.now ≤ c.args.next = search rules in
    text_near c.args.place.now c.requires.begun before c.args.intake.now.buffer.now c.fill_front.new.intake.buffer.now (8 * (c.args.next + 1)) (c.requires.asks all_there) c.fill_front.ensures.keeps.bytes.first c.in_ok-fill_front.ensures.bits
