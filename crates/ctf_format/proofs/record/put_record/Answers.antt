use Rattle.std.proofs.Common.{take, append_assoc, refl, sym, ◌∙◌, option_map, option_copied}
use Rattle.std.specs.List.{flat_map}
use Rattle.ctf_class.specs.HostAndName.{heading_text}
use Rattle.ctf_decode.specs.Views.{val}
use Rattle.ctf_format.specs.Texts.{value_text}
use Rattle.ctf_format.specs.Lines.{if_shown, scope_texts}
use Rattle.ctf_format.proofs.Chains.{put_after}
use Rattle.ctf_format.proofs.LinesLemmas.{followed, record_chain}
use Rattle.ctf_format.proofs.record.put_record.Goals as goal

pub returns : goal.returns
returns c =
    let stream = c.args.stream.now in
    let event = c.args.event.now in
    let old = take c.args.at c.args.buffer.now.items in
    let heading = heading_text event.heading in
    let front = c.in_ok-end.ensures.text ∙ sym (append_assoc old heading (flat_map followed (if_shown c.args.scopes.now.packet.now))) in
    let stream_context = rw c.event_context.ensures at c.in_ok-end-2.ensures.text in
    let event_context = rw c.context.ensures at c.in_ok-end-3.ensures.text in
    let fields = rw c.fields.ensures at c.put_value.ensures in
    put_after c.args.buffer.now c.put_scope-2.new.buffer c.put_value.new.buffer c.args.at c.in_ok-end-3.end _ _ c.put_value.result (record_chain old heading (value_text event.fields (val c.args.scopes.now.fields.now)) _ _ _ _ (if_shown c.args.scopes.now.packet.now) (scope_texts stream.event_context (option_map val (option_copied c.args.scopes.now.stream_context))) (scope_texts event.context (option_map val (option_copied c.args.scopes.now.event_context))) refl front stream_context event_context) fields
