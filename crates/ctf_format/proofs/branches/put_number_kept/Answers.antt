use Rattle.std.proofs.Common.{◌≡◌, ◌++◌, ◌∷◌, [], take, subst, rules}
use Rattle.ctf_decode.specs.Forms as forms
use Rattle.ctf_format.specs.Records.{after_last}
use Rattle.ctf_format.specs.Standing.{PutsNext}
use Rattle.ctf_format.specs.Texts.{integer_text}
use Rattle.ctf_format.specs.declared.standing.Last.TheVariants as lasts
use Rattle.ctf_format.proofs.BranchesLemmas.{number_there}
use Rattle.ctf_format.proofs.branches.put_number_kept.Goals as goal

pub returns-clause-puts : goal.returns-clause-puts
returns-clause-puts c = λ s kept is.
    let lone = c.args.lone.now in
    let packet = c.args.from.packet.now in
    let place = c.args.from.place in
    let n = c.in_ok-next.next in
    let ns = c.args.kept.now.numbers in
    let line = take c.args.from.text c.args.buffer.now.items in
    let after = take n.text c.put_one.new.buffer.items in
    let k = forms.integer lone.align lone.integer in
    let before = after_last 0 lasts.Unknown in
    let same : take c.args.from.text c.with_room.new.buffer.items ≡ line = search rules in
    let puts = subst (λ xs. PutsNext before k (integer_text lone.integer) packet.bytes.now packet.end place xs n after) same (c.in_ok-next.ensures.puts before) in
    let keeps : c.push.new.self.numbers ≡ ns ++ n.last ∷ [] = search rules in
    number_there s lone packet place n line after ns c.push.new.self.numbers is kept c.requires.within.content c.in_ok-next.ensures.few keeps puts
