use Rattle.std.proofs.Common.{◌∙◌, get_or}
use Rattle.ctf_class.proofs.WordsLemmas.{put-bytes}
use Rattle.ctf_class.proofs.prepared_text.put_word.Goals as goal

pub returns : goal.returns
returns c =
    let bytes = c.to_le_bytes-bytes.result in
    let line = c.args.line.now in
    put-bytes line c.args.at (get_or bytes 0 0) (get_or bytes 1 0) (get_or bytes 2 0) (get_or bytes 3 0) (get_or bytes 4 0) (get_or bytes 5 0) (get_or bytes 6 0) (get_or bytes 7 0) c.requires ∙ rw c.to_le_bytes-bytes.ensures
