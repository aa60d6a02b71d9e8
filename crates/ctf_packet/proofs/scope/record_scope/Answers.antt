use Rattle.std.proofs.Common.{ap, refl}
use Rattle.ctf_decode.specs.Views.{form}
use Rattle.ctf_packet.specs.Scopes as values
use Rattle.ctf_packet.specs.Views.{values_of}
use Rattle.ctf_packet.proofs.Standing.{form_of, at_none, at_ok, at_err}
use Rattle.ctf_packet.proofs.scope.record_scope.Goals as goal

pub returns-in-None-clause-puts : goal.returns-in-None-clause-puts
returns-in-None-clause-puts c =
    let before = values_of c.args.scopes.now in
    at_none values.fault_in_record (form_of c.args.class) (values.input_of c.args.at.now.bytes.now c.args.at.now.content before) c.args.at.now.scope c.args.scopes.now c.leave.new.self c.args.at.now.place (ap form_of c.in-None.is) c.leave.ensures

pub returns-in-Ok-clause-puts : goal.returns-in-Ok-clause-puts
returns-in-Ok-clause-puts c =
    let before = values_of c.args.scopes.now in
    at_ok values.fault_in_record (form_of c.args.class) (form c.in-Some.class.now) (values.input_of c.args.at.now.bytes.now c.args.at.now.content before) (values.input_of c.args.at.now.bytes.now c.args.at.now.content before) c.args.at.now.scope before c.args.at.now.place c.args.scopes.now.spent c.in-Ok.end c.scope_into.new.scopes
    (ap form_of c.in-Some.is) refl c.in-Ok.ensures.puts

pub returns-in-Err-clause-puts : goal.returns-in-Err-clause-puts
returns-in-Err-clause-puts c =
    let before = values_of c.args.scopes.now in
    at_err values.fault_in_record (form_of c.args.class) (form c.in-Some.class.now) (values.input_of c.args.at.now.bytes.now c.args.at.now.content before) (values.input_of c.args.at.now.bytes.now c.args.at.now.content before) c.args.at.now.scope before c.args.at.now.place c.args.scopes.now.spent c.in-Err.fault c.fault_in_record.result c.scope_into.new.scopes
    (ap form_of c.in-Some.is) refl c.in-Err.ensures.puts c.fault_in_record.ensures
