-- What a declaration gives, by what it is.
use Rattle.std.proofs.Common.{◌≡◌, ℕ, ◌+◌, List, Option, Some, refl, sym, ◌∙◌, subst, arith, ◌⊎◌}
use Rattle.std.specs.Prelude.{Contains, slice_get}
use Rattle.tsdl_tree.specs.declared.tree.BlockKind.TheVariants.{Trace, Stream as StreamKind, Event}
use Rattle.ctf_bits.specs.declared.number.Order.{Order}
use Rattle.ctf_class.specs.declared.class.Class.{Class}
use Rattle.ctf_meaning.specs.declared.fault.ResolveFault.{ResolveFault}
use Rattle.ctf_meaning.specs.declared.fault.ResolveFault.TheVariants.{NoMemory}
use Rattle.ctf_meaning.specs.Written.{BlockEntry, Declaration, Block}
use Rattle.ctf_meaning.specs.Faults.{link_faults}
use Rattle.ctf_types.specs.declared.ids.Ids.{Ids}
use Rattle.ctf_types.specs.declared.linked.Linked.TheVariants as linked
use Rattle.ctf_types.specs.Events.{IsRow}
use Rattle.ctf_types.specs.Ids.{AreIds}
use Rattle.ctf_types.specs.Links.{IsHeader}
use Rattle.ctf_types.proofs.Eventing.{same_ids}

pub row_trace : (text : List Declaration) (order : Order) (k : ℕ) (d : Declaration) (es : List BlockEntry) (header : Option Class) → d ≡ Block Trace es → IsHeader text order k header →
    IsRow text order (k, d) (linked.Trace header)
row_trace text order k d es header e h =
    subst (λ x. IsRow text order (k, x) (linked.Trace header)) (sym e)
    (record { linked = record { gives = (es, refl, h.made); clean = h.clean }; below = tt })

pub told_of : (text : List Declaration) (k : ℕ) (d x : Declaration) (f : ResolveFault) → d ≡ x → (f ≡ NoMemory) ⊎ Contains (link_faults text (k, x)) f → (f ≡ NoMemory) ⊎ Contains (link_faults text (k, d)) f
told_of text k d x f e h = subst (λ y. (f ≡ NoMemory) ⊎ Contains (link_faults text (k, y)) f) (sym e) h

pub ids_trace : (text : List Declaration) (k : ℕ) (d : Declaration) (es : List BlockEntry) (ids : Ids) → d ≡ Block Trace es → slice_get text k ≡ Some d → AreIds text k ids → AreIds text (k + 1) ids
ids_trace text k d es ids e at before = same_ids text k d ids at (λ fs h. grind (arith, sym e ∙ h)) before

pub ids_stream : (text : List Declaration) (k : ℕ) (d : Declaration) (es : List BlockEntry) (ids : Ids) → d ≡ Block StreamKind es → slice_get text k ≡ Some d → AreIds text k ids → AreIds text (k + 1) ids
ids_stream text k d es ids e at before = same_ids text k d ids at (λ fs h. grind (arith, sym e ∙ h)) before

pub ids_other : (text : List Declaration) (k : ℕ) (d : Declaration) (ids : Ids) → ((es : List BlockEntry) → d ≡ Block Event es → ⊥) → slice_get text k ≡ Some d → AreIds text k ids → AreIds text (k + 1) ids
ids_other text k d ids other at before = same_ids text k d ids at other before
