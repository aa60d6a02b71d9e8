use Rattle.std.proofs.Common.{◌≡◌, ◌<◌, ◌-◌, ◌/◌, ◌∙◌, ℕ, List, Option, Some, None, IfSome, length, pos, sym, subst, arith}
use Rattle.std.specs.List.{All}
use Rattle.std.proofs.lemmas.List.Elements.{All-get_or}
use Rattle.ctf_bits.specs.Placed.{number_after}
use Rattle.ctf_bits.specs.declared.number.Order.{Order}
use Rattle.ctf_bits.specs.declared.number.Order.TheVariants.{Le}
use Rattle.ctf_class.specs.declared.planned_number.PlannedNumber.{PlannedNumber}
use Rattle.ctf_format.specs.RunNumbers.{IsPlaced, number_at, place_in}
use Rattle.ctf_format.specs.Records.{IsLastNumber}
use Rattle.ctf_format.proofs.RunNumbersLemmas.{usual_number, window_number}
use Rattle.ctf_format.proofs.RecordsLemmas.{no_number, last_number}
use Rattle.ctf_format.proofs.planned_record.last_number.Goals as goal

pub returns-then-last : goal.returns-then-last
returns-then-last c = no_number c.args.placed.run.now.numbers c.args.placed.packet.now.bytes.now ((c.args.placed.end - c.args.placed.run.now.span) / 8)

-- of a number that was read by its window
some_so : (order : Order) (n : PlannedNumber) (bytes : List ℕ) (first : ℕ) → number_after order n.window bytes first ≡ number_at n.integer bytes (place_in first n) → (r : Option ℕ) → IfSome r (λ v. number_after order n.window bytes first ≡ pos v) → IfSome r (λ v. number_at n.integer bytes (place_in first n) ≡ pos v)
some_so order n bytes first reads None read = tt
some_so order n bytes first reads (Some v) read = sym reads ∙ read

pub returns-then-last-2 : goal.returns-then-last-2
returns-then-last-2 c =
    let numbers = c.as_slice-numbers.result.now in
    let n = c.index-numbers-count.result in
    let bytes = c.args.placed.packet.now.bytes.now in
    let first = (c.args.placed.end - c.args.placed.run.now.span) / 8 in
    let r = c.special_number.result in
    let some : 0 < length numbers = omega (arith, c.if-count-eq0.false) in
    let last : length numbers - 1 < length numbers = omega (arith, some) in
    let placed : IsPlaced n = subst IsPlaced (sym c.index-numbers-count.is) (All-get_or IsPlaced numbers (length numbers - 1) n last (subst (λ ns. All IsPlaced ns) (sym c.as_slice-numbers.ensures) c.args.placed.placed)) in
    let read = some_so n.integer.order n bytes first (window_number n placed bytes first) r c.special_number.ensures in
    subst (λ ns. IsLastNumber r ns bytes first) c.as_slice-numbers.ensures (last_number numbers n r bytes first some c.index-numbers-count.is c.if-last.false read)

pub returns : goal.returns
returns c =
    let numbers = c.as_slice-numbers.result.now in
    let n = c.index-numbers-count.result in
    let bytes = c.args.placed.packet.now.bytes.now in
    let first = (c.args.placed.end - c.args.placed.run.now.span) / 8 in
    let some : 0 < length numbers = omega (arith, c.if-count-eq0.false) in
    let last : length numbers - 1 < length numbers = omega (arith, some) in
    let placed : IsPlaced n = subst IsPlaced (sym c.index-numbers-count.is) (All-get_or IsPlaced numbers (length numbers - 1) n last (subst (λ ns. All IsPlaced ns) (sym c.as_slice-numbers.ensures) c.args.placed.placed)) in
    let read = some_so Le n bytes first (usual_number n placed c.if-last-2.false bytes first) c.number.result c.number.ensures.value in
    subst (λ ns. IsLastNumber c.number.result ns bytes first) c.as_slice-numbers.ensures (last_number numbers n c.number.result bytes first some c.index-numbers-count.is c.if-last.false read)
