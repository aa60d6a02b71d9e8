use Rattle.std.proofs.Common.{map, sym, ap, ◌∙◌, subst}
use Rattle.std.proofs.lemmas.Result.{err_from_is_err_and}
use Rattle.ctf_meaning.specs.Blocks.{clocks_of}
use Rattle.ctf_meaning.specs.Denotes.{host_of}
use Rattle.ctf_meaning.specs.Reading.{declaration_of}
use Rattle.ctf_meaning.specs.Streams.{streams, trace_of}
use Rattle.ctf_declarations.specs.DeclaredSoFar.{placed_seen}
use Rattle.ctf_types.specs.Whole.{AreSettled, ArePlaced, IsTraceOf, stream_at}
use Rattle.ctf_types.proofs.Distinct.{settled}
use Rattle.ctf_types.proofs.Firsts.{link_told}
use Rattle.ctf_types.proofs.Heads.{widened}
use Rattle.ctf_types.proofs.Starting as starting
use Rattle.ctf_types.proofs.resolving.resolve_walked.Goals as goal

pub streams-requires : goal.streams-requires
streams-requires g c =
    subst AreSettled c.requires.0 (settled g.text (starting.own g.text (map (map placed_seen) c.args.rows.now) c.requires.1))

pub clocks-requires : goal.clocks-requires
clocks-requires g c =
    subst AreSettled c.requires.0 (settled g.text (starting.own g.text (map (map placed_seen) c.args.rows.now) c.requires.1))

pub trace-requires : goal.trace-requires
trace-requires g c =
    subst AreSettled c.requires.0 (settled g.text (starting.own g.text (map (map placed_seen) c.args.rows.now) c.requires.1))

pub link-requires : goal.link-requires
link-requires g c =
    let rows = map (map placed_seen) c.args.rows.now in
    let own = starting.own g.text rows c.requires.1 in (
      c.requires.0,
      record {
        own = own;
        scopes = starting.scopes g.text rows c.requires.1;
        clocks = c.in_ok-clocks-2.ensures ∙ c.as_slice.ensures ∙ c.in_ok-clocks.ensures ∙ ap clocks_of (sym c.requires.0);
        streams = ap (map stream_at) c.in_ok-streams-2.ensures ∙ c.in_ok-streams.ensures.0 ∙ ap streams (sym c.requires.0);
        places = subst ArePlaced (sym c.in_ok-streams-2.ensures) c.in_ok-streams.ensures.1;
        solid = starting.solid g.text rows c.requires.1;
        trace = c.number_of.ensures ∙ starting.traced (map declaration_of c.args.declarations.now) c.in_ok-trace.trace c.in_ok-trace.ensures ∙ ap trace_of (sym c.requires.0);
        host = c.as_ref-host.ensures.value ∙ c.in_ok-owned.ensures ∙ ap host_of (sym c.requires.0);
        settled = settled g.text own;
        fields = starting.fields g.text rows c.requires.1;
      },
    )

pub trace_class_of-requires : goal.trace_class_of-requires
trace_class_of-requires g c = record {
  own = starting.own g.text (map (map placed_seen) c.args.rows.now) c.requires.1;
  traced = subst (λ t. IsTraceOf t c.in_ok-trace.trace) (sym c.requires.0) c.in_ok-trace.ensures;
  hosted = c.in_ok-owned.ensures ∙ ap host_of (sym c.requires.0);
  order = c.order_of.result;
  ordered = c.order_of.ensures;
  given = c.in_ok-parts.ensures;
}

pub returns-in_err-parts : goal.returns-in_err-parts
returns-in_err-parts g c =
    let p = err_from_is_err_and c.from_residual-in_err-parts.result c.from_residual-in_err-parts.ensures.1 in rw (p.1, p.2)
    (widened c.in_err-parts.field-0.0
    (link_told g.text (starting.own g.text (map (map placed_seen) c.args.rows.now) c.requires.1) c.in_err-parts.field-0.0)
    c.in_err-parts.ensures)
