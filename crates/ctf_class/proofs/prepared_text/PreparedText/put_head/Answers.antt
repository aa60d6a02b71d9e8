use Rattle.std.proofs.Common.{◌++◌, ◌∷◌, take, ap, ◌∙◌, arith}
use Rattle.std.proofs.lemmas.List.{length-take-le}
use Rattle.ctf_class.proofs.WordsLemmas.{head-part, length-text, line-part, three-words}
use Rattle.ctf_class.proofs.prepared_text.PreparedText.put_head.Goals as goal

pub returns-clause-text : goal.returns-clause-text
returns-clause-text c n short within =
    let inside = c.self.inside in
    let line = c.args.line.now in
    let at = c.args.at in
    let text = c.args.self.now in
    let front = take at line in
    let size = length-text (inside.first ∷ inside.second ∷ inside.third ∷ inside.rest) text inside.length (omega (arith, c.self.invariant)) c.self.view_is in
    let wrote = three-words c.put_word.new.line c.put_word-2.new.line c.put_word-3.new.line front inside.first inside.second inside.third at c.put_word.ensures c.put_word-2.ensures c.put_word-3.ensures in
    line-part c.put_word-3.new.line front _ at n 24 short (length-take-le at line (omega (arith, c.requires))) wrote
    ∙ ap (λ l. front ++ l) (head-part inside.first inside.second inside.third inside.rest inside.length n short (omega (arith, size)) ∙ ap (take n) c.self.view_is)
