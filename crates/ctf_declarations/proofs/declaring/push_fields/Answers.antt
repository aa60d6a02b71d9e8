use Rattle.std.proofs.Common.{◌+◌, take, Some}
use Rattle.ctf_meaning.specs.Shapes.{declared, arrays}
use Rattle.ctf_declared_class.specs.Knowns.{known, field}
use Rattle.ctf_declarations.proofs.Bodies.{declared_next, pushed}
use Rattle.ctf_declarations.proofs.declaring.push_fields.Goals as goal

pub loop-declarator-preserved : goal.loop-declarator-preserved
loop-declarator-preserved c =
    let k = known c.args.class.now in
    let ds = c.args.declarators.now in
    let i = c.loop-declarator.declarator-index in
    let d = c.declarator-item.result in
    pushed field c.args.fields.now.items c.loop-declarator.fields.items c.push.new.self.items c.in_ok-field.field (declared (Some k) (take i ds)) (declared (Some k) (take (i + 1) ds)) (record { name = d.name; shape = arrays d.lengths k })
    c.in_ok-push.ensures.items c.in_ok-field.ensures c.loop-declarator.invariant (declared_next k ds i d c.declarator-item.is c.loop-declarator-test.true)
