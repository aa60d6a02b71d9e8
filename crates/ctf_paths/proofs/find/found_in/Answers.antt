use Rattle.std.proofs.Common.{◌≡◌, ◌-◌, option_map, drop, take, length, ap, subst, ◌∙◌, arith, length-drop}
use Rattle.std.specs.Prelude.{IfOk}
use Rattle.std.proofs.lemmas.List.{take_all}
use Rattle.ctf_meaning.specs.Name.{Words}
use Rattle.ctf_meaning.specs.Shapes.{fields_in}
use Rattle.ctf_meaning.specs.Paths.{route_from}
use Rattle.ctf_declared_class.specs.Views as views
use Rattle.ctf_paths.specs.Finding.{further, down, found_by}
use Rattle.ctf_paths.proofs.Finding.{routed_there}
use Rattle.ctf_paths.proofs.find.found_in.Goals as goal

pub returns-in_ok-first_step-in-Some : goal.returns-in_ok-first_step-in-Some
returns-in_ok-first_step-in-Some c =
    let words = c.args.words.now in
    let fields = take c.args.frame.now.count (fields_in (views.members c.args.frame.now.members.now)) in
    let shape = views.shape c.in-Some.member.now in
    let named = rw c.as_slice.ensures at c.in-Some.ensures in
    let tail = take_all (length words - 1) (drop 1 words) (omega (arith, length-drop 1 words)) in
    let more = ap (λ (ws : Words). option_map (λ f. route_from c.args.origin (further c.in_ok-first_step-in-Some.field-0 f)) (down shape ws)) tail in
    let way = ap (λ way. option_map (λ f. route_from c.args.origin (further way f)) (down shape (drop 1 words))) c.in_ok-first_step-in-Some.ensures in
    let there = routed_there c.args.origin fields words c.word-item.result c.in-Some.place shape c.in-len1-up.len_at_least c.word-item.is named in
    subst (λ found. IfOk c.found_after.result (λ r. option_map found_by r ≡ found)) (more ∙ way ∙ there) c.found_after.ensures
