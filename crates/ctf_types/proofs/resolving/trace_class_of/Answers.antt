use Rattle.std.proofs.Common.{Some, sym, ap, ◌∙◌, subst, inr}
use Rattle.std.specs.List.{list_any}
use Rattle.ctf_types.specs.Gathered.{joined_all}
use Rattle.ctf_types.specs.Whole.{IsTraceOf}
use Rattle.ctf_types.proofs.Finish.{no_trace, several_clocks, no_faults, class_made}
use Rattle.ctf_types.proofs.resolving.trace_class_of.Goals as goal

pub returns-in_default : goal.returns-in_default
returns-in_default g c =
    inr (no_trace g.text c.args.trace c.args.host c.args.parts c.requires (subst (IsTraceOf g.text) c.in_default.is c.requires.traced))

pub returns-then-has_several : goal.returns-then-has_several
returns-then-has_several g c =
    inr (several_clocks g.text c.args.trace c.args.host c.args.parts c.requires
    (ap (list_any (λ h. h.has_several)) (sym (c.as_slice.ensures ∙ c.in_ok-heads.ensures)) ∙ sym c.has_several.ensures ∙ c.if-has_several.true))

pub returns : goal.returns
returns g c = (
  no_faults g.text c.args.trace c.args.host c.args.parts c.requires c.in-Some.trace.number (subst (IsTraceOf g.text) c.in-Some.is c.requires.traced).1
      (ap (list_any (λ h. h.has_several)) (sym (c.as_slice.ensures ∙ c.in_ok-heads.ensures)) ∙ sym c.has_several.ensures ∙ c.if-has_several.false),
  class_made g.text c.args.trace c.args.host c.args.parts c.requires c.in-Some.trace c.in-Some.is
      ∙ (λ j. Some (record {
        uuid = c.in-Some.trace.settings.uuid;
        host = c.args.host;
        packet_header = sym (c.in_ok-front_class_of.ensures ∙ c.header_of.ensures) j;
        streams = sym (c.in_ok-new.ensures ∙ c.in_ok-streams.ensures ∙ ap (λ hs. joined_all hs c.args.parts.events) c.in_ok-heads.ensures) j;
      })),
)
