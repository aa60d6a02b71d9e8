-- What a packet asks for whose sizes are decoded, or are not.
use Rattle.std.proofs.Common.{◌≡◌, ℕ, if◌then◌else◌, Option, Some, None, Ok, Err, refl, sym, ap, ◌∙◌}
use Rattle.ctf_packet.specs.Packets.{sizes_of}
use Rattle.ctf_packet.specs.Gives.{SizesTold}
use Rattle.ctf_packet.specs.declared.sizes.Sizes.{Sizes}
use Rattle.ctf_packet.specs.declared.fault.StreamFault.{StreamFault}
use Rattle.ctf_packet.specs.declared.fault.StreamFault.TheVariants as faults
use Rattle.ctf_packet_demand.specs.Wants.{Begun, whole, rest, faulty, if_possible, sized}

is_judged : {C : Type 0} (begun : Begun C) (p q : Option ℕ) → (((p ≡ None) × (q ≡ None)) → ⊥) → sized begun p q ≡ if_possible begun (sizes_of p q 0)
is_judged begun None None h = absurd (h (refl, refl))
is_judged begun (Some p) q h = refl
is_judged begun None (Some q) h = refl

module _ {C : Type 0} (begun : Begun C) (p q : Option ℕ) where
  pub none_told : SizesTold p q 0 begun.first (Ok None) → sized begun p q ≡ rest begun
  none_told h = λ i. sized begun (h.0 i) (h.1 i)

  pub some_told : (sizes : Sizes) → SizesTold p q 0 begun.first (Ok (Some sizes)) → sized begun p q ≡ whole begun sizes
  some_told sizes h =
      is_judged begun p q h.2
      ∙ (ap (if_possible begun) h.0
      ∙ ap (λ b. if b then whole begun sizes else faulty faults.ImpossibleSizes) h.1)

  pub none_possible : (fault : StreamFault) → SizesTold p q 0 begun.first (Err fault) → sized begun p q ≡ faulty fault
  none_possible fault h =
      is_judged begun p q h.2
      ∙ (ap (λ b. if b then whole begun (sizes_of p q 0) else faulty faults.ImpossibleSizes) h.1
      ∙ ap faulty (sym h.0))
