use Rattle.std.proofs.Common.{ℕ, ◌≡◌, ◌∙◌, ◌+◌, ◌++◌, List, Some, None, map, take, drop, sym, refl, ap, arith}
use Rattle.std.proofs.lemmas.List.{take_rest}
use Rattle.tsdl_text.specs.Tokens.{lexeme, newlines}
use Rattle.tsdl_text.specs.Scanning.{piece_at}
use Rattle.tsdl_text.proofs.Lexing.{cut_more, cut_stuck, piece_some, piece_token, token_pushed, no_token_pushed}
use Rattle.tsdl_text.proofs.lexer.tokens.Goals as goal
use Rattle.tsdl_text.proofs.lexer.tokens.Goals.{in-Some-kind+in_ok-extend_from_slice, in_default-kind, After-newlines-line}

pub returns-in_default : goal.returns-in_default
returns-in_default c =
    let text = c.args.text.now in
    let start = c.loop-start.start in
    let none : piece_at (drop start text) ≡ None = ap piece_at (sym (take_rest text start)) ∙ sym c.in_default.ensures.value in
    rw c.new.ensures (cut_stuck text start c.loop-start.line c.loop-start.found.items c.loop-start-test.true none c.loop-start.invariant)

found_piece : (c : After-newlines-line) → piece_at (drop c.loop-start.start c.args.text.now) ≡ Some c.in-Some.extent
found_piece c = ap piece_at (sym (take_rest c.args.text.now c.loop-start.start)) ∙ sym c.in-Some.ensures.value

pub loop-start-smaller : goal.loop-start-smaller
loop-start-smaller c =
    let more = piece_some (drop c.loop-start.start c.args.text.now) c.in-Some.extent (found_piece c) in
    omega arith

pub loop-start-preserved : goal.loop-start-preserved
loop-start-preserved c =
    let text = c.args.text.now in
    let start = c.loop-start.start in
    let found = c.loop-start.found.items in
    let x = c.in-Some.extent in
    let bytes : List ℕ = take x.len (drop start text) in
    let found_is : map lexeme c.match-extent.found.items ≡ map lexeme found ++ piece_token x.kind bytes start c.loop-start.line =
    elim c.match-extent.branch [
      | in-Some-kind+in_ok-extend_from_slice w ↦
          token_pushed found c.match-extent.found.items _ x.kind w.in-Some-kind.kind bytes start c.loop-start.line (ap (λ v. v.items) w.found-is ∙ w.in_ok-extend_from_slice.ensures.items) w.in-Some-kind.is refl (ap (take x.len) (take_rest text start)) refl w.new-in-Some-kind.ensures
      | in_default-kind w ↦
          no_token_pushed found c.match-extent.found.items x.kind bytes start c.loop-start.line (ap (λ v. v.items) w.found-is) w.in_default-kind.is
    ] in
    let line_is : c.loop-start.line + c.newlines-line.result ≡ c.loop-start.line + newlines bytes =
    ap (λ n. c.loop-start.line + n) (c.newlines-line.ensures.count ∙ ap (λ rest. newlines (take x.len rest)) (take_rest text start)) in
    cut_more text start c.loop-start.line _ found c.match-extent.found.items x (found_piece c) found_is line_is c.loop-start.invariant
