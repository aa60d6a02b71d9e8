use Rattle.std.proofs.Common.{[]}
use Rattle.ctf_decode.specs.Stands.{Stands}
use Rattle.ctf_decode.specs.Breaks.{Breaks}
use Rattle.ctf_decode.specs.Walk.{walk}
use Rattle.ctf_decode.specs.Views.{form, val, input}
use Rattle.ctf_decode.proofs.Sound.{walk_is}
use Rattle.ctf_decode.proofs.Views.{env-Top}
use Rattle.ctf_decode.proofs.Told.{told_value, told_count, told_fault}
use Rattle.ctf_decode.proofs.decoding.decode_into.Goals as goal

pub returns-in-Ok : goal.returns-in-Ok
returns-in-Ok c =
    let k = form c.args.class.now in
    let d = input c.args.packet.now in
    let s = c.args.packet.now.scopes.now.spent in
    let p = c.args.start in
    let at = c.scope_into.new.at in
    let g = rw (env-Top, c.spent.ensures.value) at c.in-Ok.ensures.gives in
    record {
      value = told_value d (Stands k d [] p) (Breaks k d [] p s) s (walk k d [] p s) (walk_is k d [] p s) (val c.scope_into.new.value) at.end at.spent g;
      counted = told_count d (Stands k d [] p) (Breaks k d [] p s) s (walk k d [] p s) (walk_is k d [] p s) (val c.scope_into.new.value) at.end at.spent g;
      few = c.in-Ok.ensures.within.1;
      within = c.in-Ok.ensures.within.0;
      fault = tt;
    }

pub returns-in-Err-clause-fault : goal.returns-in-Err-clause-fault
returns-in-Err-clause-fault c =
    let k = form c.args.class.now in
    let d = input c.args.packet.now in
    let s = c.args.packet.now.scopes.now.spent in
    let p = c.args.start in
    let g = rw (env-Top, c.spent.ensures.value) at c.in-Err.ensures.gives in
    told_fault d (Stands k d [] p) (Breaks k d [] p s) s (walk k d [] p s) (walk_is k d [] p s) c.scope_into.new.at.fault g
