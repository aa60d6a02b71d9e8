use Rattle.ctf_types.proofs.resolving.resolve_walked.Given as goal

abbrev pub ghost-link : goal.ghost-link
ghost-link g a = g.text

abbrev pub ghost-trace_class_of : goal.ghost-trace_class_of
ghost-trace_class_of g a = g.text
