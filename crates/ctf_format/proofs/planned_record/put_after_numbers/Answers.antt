use Rattle.std.proofs.Common.{ℕ, ◌-◌, ◌/◌, Option, subst, take}
use Rattle.ctf_class.specs.Records.{IsShown}
use Rattle.ctf_decode.specs.Views.{form}
use Rattle.ctf_format.specs.Records.{PutsOther}
use Rattle.ctf_format.specs.Texts.{value_text}
use Rattle.ctf_format.proofs.RecordsLemmas.{after_no_number}
use Rattle.ctf_format.proofs.planned_record.put_after_numbers.Goals as goal

pub returns-in-Integers-clause-puts : goal.returns-in-Integers-clause-puts
returns-in-Integers-clause-puts c = λ index class is. c.put_many.ensures.puts index class (subst (IsShown index class) c.in-Integers.is is)

pub returns-in-Structures-clause-puts : goal.returns-in-Structures-clause-puts
returns-in-Structures-clause-puts c = λ index class is. c.put_many_structures.ensures.puts index class (subst (IsShown index class) c.in-Structures.is is)

pub returns-in-Integer-clause-puts : goal.returns-in-Integer-clause-puts
returns-in-Integer-clause-puts c = λ index class is.
    let lone = subst (IsShown index class) c.in-Integer.is is in
    let placed = c.args.placed in
    let bytes = placed.packet.now.bytes.now in
    let puts = λ (last : Option ℕ) (text : ℕ). PutsOther index last (form class) (value_text class) bytes placed.packet.now.end c.args.reach.now (take c.args.at c.args.buffer.now.items) c.put_lone.new.reach (take text c.put_lone.new.buffer.items) in
    after_no_number placed.run.now.numbers bytes ((placed.end - placed.run.now.span) / 8) puts c.put_lone.result (c.put_lone.ensures.puts index class lone)

pub returns-in-Empty-clause-puts : goal.returns-in-Empty-clause-puts
returns-in-Empty-clause-puts c = λ index class is.
    let bare = subst (IsShown index class) c.in-Empty.is is in
    let placed = c.args.placed in
    let bytes = placed.packet.now.bytes.now in
    let puts = λ (last : Option ℕ) (text : ℕ). PutsOther index last (form class) (value_text class) bytes placed.packet.now.end c.args.reach.now (take c.args.at c.args.buffer.now.items) c.put_empty.new.reach (take text c.put_empty.new.buffer.items) in
    after_no_number placed.run.now.numbers bytes ((placed.end - placed.run.now.span) / 8) puts c.put_empty.result (c.put_empty.ensures.puts index class bare.0 bare.1)
