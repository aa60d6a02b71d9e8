use Rattle.std.proofs.Common.{ℕ, ◌≡◌, ◌++◌, ◌∷◌, ◌∙◌, [], None, Some, drop, sym, ap, refl}
use Rattle.std.proofs.lemmas.List.{take_rest, drop-drop, drop_all}
use Rattle.std.proofs.lemmas.Slice.{pushed}
use Rattle.tsdl_text.specs.Strings.{character_at, string_value}
use Rattle.tsdl_text.proofs.StringLemmas.{all_values, string_value-rest, written_more, written_all, character_at-none_end}
use Rattle.tsdl_text.proofs.string.string_value.Goals as goal

pub loop-start-init : goal.loop-start-init
loop-start-init c = rw c.new-value.ensures.items (string_value-rest c.args.slice.now)

pub returns-in_default : goal.returns-in_default
returns-in_default c =
    let s = c.args.slice.now in
    let none : character_at (drop c.loop-start.start s) ≡ None = ap character_at (sym (take_rest s c.loop-start.start)) ∙ sym c.in_default.ensures.value in
    written_all c.loop-start.value.items (string_value s) (drop c.loop-start.start s) none c.loop-start.invariant

pub loop-start-preserved : goal.loop-start-preserved
loop-start-preserved c =
    let s = c.args.slice.now in
    let i = c.loop-start.start in
    let x : ℕ × ℕ = (c.in-Some.byte, c.in-Some.len) in
    let some : character_at (drop i s) ≡ Some x = ap character_at (sym (take_rest s i)) ∙ sym c.in-Some.ensures.value in
    let out : c.push.new.self.items ≡ c.loop-start.value.items ++ c.in-Some.byte ∷ [] = pushed (c.in-Some.byte ∷ []) refl c.in_ok-push.was c.push.ensures.items in
    let more = written_more c.loop-start.value.items c.push.new.self.items (string_value s) (drop i s) x some out c.loop-start.invariant in
    ap (λ t. c.push.new.self.items ++ all_values t) (sym (drop-drop c.in-Some.len i s)) ∙ more

pub returns : goal.returns
returns c =
    let s = c.args.slice.now in
    let i = c.loop-start.start in
    written_all c.loop-start.value.items (string_value s) (drop i s) (character_at-none_end (drop i s) (drop_all i s c.loop-start-test.false)) c.loop-start.invariant
