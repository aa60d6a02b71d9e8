-- The fault of metadata that is no text is neither want of memory nor one of tokens.
use Rattle.std.proofs.Common.{◌≡◌, ℕ, Bool, true, false, List, Option, Some, None, inl, inr, refl, sym, subst}
use Rattle.std.specs.Prelude.{if◌then◌else◌}
use Rattle.ctf_faults.specs.Table.{is_meta_refusal}
use Rattle.tsdl_text.specs.Packets.{MetaBroken, MetaRefused, first_fault, header_fault, or_else}
use Rattle.tsdl_text.specs.declared.fault.MetaFault.{MetaFault}
use Rattle.tsdl_text.specs.declared.fault.MetaFault.TheVariants as faults

-- a fault of packets, if any
abbrev OfPackets : Option MetaFault → Type 0
OfPackets (Some faults.NoMemory) = ⊥
OfPackets (Some (faults.NoToken line)) = ⊥
OfPackets _ = Unit {0}

either : (test : Bool) (a b : Option MetaFault) → OfPackets a → OfPackets b → OfPackets (if test then a else b)
either true a b h k = h
either false a b h k = k

first_of : (a b : Option MetaFault) → OfPackets a → OfPackets b → OfPackets (or_else a b)
first_of (Some fault) b h k = h
first_of None b h k = k

header_of_packets : (order : _) (id rest : List ℕ) → OfPackets (header_fault order id rest)
unfolding header_fault
header_of_packets order id rest = search (either) depth 9

first_of_packets : (order : _) (id rest : List ℕ) → OfPackets (first_fault order id rest)
unfolding first_fault
first_of_packets order id rest = search (either, first_of, header_of_packets) depth 9

none_is : (bytes : List ℕ) (fault : MetaFault) → MetaBroken bytes fault → OfPackets (Some fault)
none_is bytes fault (inl long) = subst (λ f. OfPackets (Some f)) (sym long.1) tt
none_is bytes fault (inr after) = subst OfPackets after.1.2.fails (first_of_packets _ _ after.1.2.rest)

pub broken_is_told : (bytes : List ℕ) (fault : MetaFault) → MetaBroken bytes fault → MetaRefused bytes fault × (is_meta_refusal fault ≡ false)
broken_is_told bytes faults.CutShort h = (h, refl)
broken_is_told bytes faults.WrongMagic h = (h, refl)
broken_is_told bytes faults.SchemeUnsupported h = (h, refl)
broken_is_told bytes faults.WrongVersion h = (h, refl)
broken_is_told bytes faults.UuidDiffers h = (h, refl)
broken_is_told bytes faults.TooLong h = (h, refl)
broken_is_told bytes faults.NoMemory h = absurd (none_is bytes faults.NoMemory h)
broken_is_told bytes (faults.NoToken line) h = absurd (none_is bytes (faults.NoToken line) h)
