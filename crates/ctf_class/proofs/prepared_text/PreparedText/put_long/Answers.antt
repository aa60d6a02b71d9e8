use Rattle.std.proofs.Common.{◌≡◌, ℕ, ◌+◌, ◌*◌, ◌++◌, ◌∷◌, take, length, ◌≤◌, List, sym, ap, subst, ◌∙◌, append_assoc, arith}
use Rattle.std.specs.Int.{w64, to_le_bytes}
use Rattle.std.specs.List.{flat_map}
use Rattle.std.proofs.lemmas.List.{length-take-le}
use Rattle.ctf_class.proofs.WordsLemmas.{length-text, length-word_bytes, line-part, long-text}
use Rattle.ctf_class.proofs.prepared_text.PreparedText.put_long.Goals as goal

pub put_each-requires : goal.put_each-requires
put_each-requires c =
    let inside = c.self.inside in
    let size = length-text (inside.first ∷ inside.second ∷ inside.third ∷ inside.rest) c.args.self.now inside.length (omega (arith, c.self.invariant)) c.self.view_is in
    let same = ap length c.as_slice.ensures in
    omega (arith, c.self.invariant, same, size, c.requires.room, c.put_head.ensures.length)

pub returns-clause-end : goal.returns-clause-end
returns-clause-end c =
    let inside = c.self.inside in
    ap (λ n. c.args.at + n) (sym (length-text (inside.first ∷ inside.second ∷ inside.third ∷ inside.rest) c.args.self.now inside.length (omega (arith, c.self.invariant)) c.self.view_is))

-- a text that was written in two parts
written : (line0 line1 line2 after text : List ℕ) (at count : ℕ) → 24 ≤ count → count ≤ 24 + length after → at ≤ length line0 → take (at + 24) line1 ≡ take at line0 ++ take 24 text
    → take (at + 24 + length after) line2 ≡ take (at + 24) line1 ++ after → take count (take 24 text ++ after) ≡ text → take (at + count) line2 ≡ take at line0 ++ text
written line0 line1 line2 after text at count long within inside e1 e2 whole =
    let front = take at line0 in
    let place : at + (24 + length after) ≡ at + 24 + length after = omega arith in
    let wrote : take (at + (24 + length after)) line2 ≡ front ++ (take 24 text ++ after) =
    ap (λ k. take k line2) place ∙ e2 ∙ ap (λ l. l ++ after) e1 ∙ append_assoc front (take 24 text) after in
    line-part line2 front (take 24 text ++ after) at count (24 + length after) within (length-take-le at line0 inside) wrote ∙ ap (λ l. front ++ l) whole

pub returns-clause-text : goal.returns-clause-text
returns-clause-text c =
    let inside = c.self.inside in
    let text = c.args.self.now in
    let at = c.args.at in
    let after = flat_map (to_le_bytes w64) inside.rest in
    let size = length-text (inside.first ∷ inside.second ∷ inside.third ∷ inside.rest) text inside.length (omega (arith, c.self.invariant)) c.self.view_is in
    let same = c.as_slice.ensures in
    let e1 = c.put_head.ensures.text 24 (omega arith) c.requires.long in
    let e2 = subst (λ (w : List ℕ). take (at + 24 + 8 * length w) c.put_each.new.line ≡ take (at + 24) c.put_head.new.line ++ flat_map (to_le_bytes w64) w) same c.put_each.ensures in
    let counted = length-word_bytes inside.rest in
    let e3 = subst (λ (k : ℕ). take (at + 24 + k) c.put_each.new.line ≡ take (at + 24) c.put_head.new.line ++ after) (sym counted) e2 in
    written c.args.line.now c.put_head.new.line c.put_each.new.line after text at inside.length (omega (arith, size, c.requires.long)) (omega (arith, counted, c.self.invariant)) (omega (arith, c.requires.room)) e1 e3
    (long-text inside.first inside.second inside.third inside.rest text inside.length (omega (arith, size, c.requires.long)) c.self.view_is)
