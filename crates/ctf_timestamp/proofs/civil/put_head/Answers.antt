use Rattle.std.proofs.Common.{◌≡◌, ◌+◌, ◌≤◌, FitsSigned, w64, ap, ◌∙◌, arith}
use Rattle.std.proofs.lemmas.Int.{to_z-of_z}
use Rattle.jiff_core.specs.DateTime.{civil_nanos}
use Rattle.ctf_timestamp.proofs.Putting.{put_both, put_as}
use Rattle.ctf_timestamp.proofs.Shown.{head_dated, head_undated}
use Rattle.ctf_timestamp.proofs.Steady.{steady_head}
use Rattle.ctf_timestamp.specs.Zones.{civil_at}
use Rattle.ctf_timestamp.proofs.civil.put_head.Goals as goal

pub returns-in-Date-clause-put : goal.returns-in-Date-clause-put
returns-in-Date-clause-put c =
    let fits : FitsSigned w64 c.args.time = c.ranges.time in
    let same : civil_nanos c.civil.result ≡ civil_at c.args.style.now.zone c.args.time = simp to_z-of_z at c.civil.ensures.civil in
    put_as (put_both (put_both c.put_date-at.ensures.put c.put_byte-at.ensures) c.put_clock.ensures.put)
    (head_dated c.args.style.now.clock c.to_plain-civil.result (civil_at c.args.style.now.zone c.args.time) c.in-Date.is (ap civil_nanos c.to_plain-civil.ensures ∙ same))

pub returns-in-Date-clause-steady : goal.returns-in-Date-clause-steady
returns-in-Date-clause-steady c = steady_head c.args.style.now c.args.time c.civil.ensures.kind

pub returns-in-Time : goal.returns-in-Time
returns-in-Time c =
    let fits : FitsSigned w64 c.args.time = c.ranges.time in
    let same : civil_nanos c.civil.result ≡ civil_at c.args.style.now.zone c.args.time = simp to_z-of_z at c.civil.ensures.civil in
    let short : c.put_clock-in-Time.result ≤ c.args.at + 19 = omega (arith, c.put_clock-in-Time.ensures.end) in
    record {
      put = put_as c.put_clock-in-Time.ensures.put (head_undated c.args.style.now.clock c.to_plain-civil.result (civil_at c.args.style.now.zone c.args.time) c.in-Time.is (ap civil_nanos c.to_plain-civil.ensures ∙ same));
      short = short;
      steady = steady_head c.args.style.now c.args.time c.civil.ensures.kind;
    }
