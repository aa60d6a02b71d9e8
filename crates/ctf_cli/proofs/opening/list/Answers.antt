use Rattle.std.proofs.Common.{map, string_bytes, sym}
use Rattle.ctf_cli.proofs.Names.{are_stream_names}
use Rattle.ctf_cli.proofs.opening.list.Goals as goal

pub returns-in_ok-stream_names-in-Ok : goal.returns-in_ok-stream_names-in-Ok
returns-in_ok-stream_names-in-Ok g c = λ tells. (
  map string_bytes c.in-Ok.names.items,
  rw (sym c.is_empty.ensures, c.if-is_empty.false) (c.in-Ok.ensures tells),
  are_stream_names c.in-Ok.names.items c.in_ok-stream_names-in-Ok.field-0.items c.in_ok-stream_names-in-Ok.ensures.kept c.in_ok-stream_names-in-Ok.ensures.order,
)
