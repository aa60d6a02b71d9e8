use Rattle.std.proofs.Common.{◌∙◌, ap}
use Rattle.ctf_log.specs.Lines as lines
use Rattle.ctf_stream.specs.Shown.{item_of}
use Rattle.ctf_log.proofs.printer.line.Goals as goal

pub returns : goal.returns
returns c = λ trace name end length is.
    c.in_ok-text.ensures.items ∙ c.text.ensures ∙ c.in_ok-print.ensures.line trace name end length is
    ∙ ap (λ s. lines.line_of s c.args.last name (item_of c.args.item.now end length)) c.new-printer.ensures.style
