use Rattle.std.proofs.Common.{◌≡◌, ◌++◌, ◌∷◌, [], take, subst, rules}
use Rattle.ctf_decode.specs.Forms as forms
use Rattle.ctf_format.specs.Records.{after_last}
use Rattle.ctf_format.specs.Standing.{PutsNext}
use Rattle.ctf_format.specs.Texts.{enumeration_text}
use Rattle.ctf_format.specs.declared.standing.Last.TheVariants as lasts
use Rattle.ctf_format.proofs.BranchesLemmas.{label_there}
use Rattle.ctf_format.proofs.branches.put_label_kept.Goals as goal

pub returns-clause-puts : goal.returns-clause-puts
returns-clause-puts c = λ s kept is.
    let labelled = c.args.labelled.now in
    let packet = c.args.from.packet.now in
    let place = c.args.from.place in
    let n = c.in_ok-next.next in
    let ns = c.args.kept.now.numbers in
    let line = take c.args.from.text c.args.buffer.now.items in
    let after = take n.text c.put_enumeration.new.buffer.items in
    let k = forms.enumeration labelled.align labelled.container in
    let before = after_last 0 lasts.Unknown in
    let puts = subst (λ ls. PutsNext before k (enumeration_text labelled.container ls) packet.bytes.now packet.end place line n after) c.get-labels.ensures (c.in_ok-next.ensures.puts before) in
    let keeps : c.push.new.self.numbers ≡ ns ++ n.last ∷ [] = search rules in
    label_there s labelled packet place n line after ns c.push.new.self.numbers is kept c.requires.within.content c.in_ok-next.ensures.few keeps puts
