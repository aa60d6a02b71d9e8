use Rattle.std.proofs.Common.{◌++◌, take, get_or, ap, ◌∙◌}
use Rattle.ctf_class.proofs.WordsLemmas.{put-bytes}
use Rattle.ctf_format.proofs.TextLemmas.{eight_items}
use Rattle.ctf_format.proofs.mark.put_eight.Goals as goal

pub returns-clause-text : goal.returns-clause-text
returns-clause-text c =
    let bytes = c.args.bytes.now in
    let line = c.args.line.now in
    put-bytes line c.args.at (get_or bytes 0 0) (get_or bytes 1 0) (get_or bytes 2 0) (get_or bytes 3 0) (get_or bytes 4 0) (get_or bytes 5 0) (get_or bytes 6 0) (get_or bytes 7 0) c.requires.room
    ∙ ap (λ xs. take c.args.at line ++ xs) (eight_items bytes c.requires.eight)
