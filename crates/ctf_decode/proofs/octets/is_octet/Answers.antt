use Rattle.std.proofs.Common.{◌≤◌, sym, ◌∙◌, subst, arith}
use Rattle.std.proofs.lemmas.Bool.{leb-true, le-leb, eqb-true, not-true}
use Rattle.ctf_class.specs.Alignment.{IsAlignment}
use Rattle.ctf_decode.proofs.ByteRows.{octet_is, octet_small}
use Rattle.ctf_decode.proofs.octets.is_octet.Goals as goal
use Rattle.ctf_decode.proofs.octets.is_octet.Goals.{then-bits-eq8, else-bits-eq8}

pub returns-then-not-integer : goal.returns-then-not-integer
returns-then-not-integer c =
    let a = c.bits-then-not-integer.ensures in (
      λ t. elim c.if-bits-eq8.branch [
        | then-bits-eq8 w ↦
            let low : c.bits-then-not-integer.result ≤ 8 = leb-true c.bits-then-not-integer.result 8 t in
            octet_is c.args.class.now c.in-Integer.integer c.in-Integer.is (subst IsAlignment a.value a.power) (omega (arith, low, a.value)) (sym c.bits.ensures.value ∙ w.if-bits-eq8.true) (not-true c.in-Integer.integer.is_signed (sym w.value-is ∙ c.if-not-integer.true))
        | else-bits-eq8 w ↦ absurd (w.if-bits-eq8.false (eqb-true c.bits.result 8 (sym w.value-is ∙ c.if-not-integer.true)))
      ],
      λ octet.
          let low = octet_small c.args.class.now c.in-Integer.integer c.in-Integer.is octet in
          le-leb c.bits-then-not-integer.result 8 (omega (arith, low, a.value)),
    )
