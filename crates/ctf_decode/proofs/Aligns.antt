-- The alignment that a class keeps is that of what it says.
use Rattle.std.proofs.Common.{◌≡◌, ℕ, refl, ap, sym, ◌∙◌}
use Rattle.ctf_class.specs.declared.class.Class.{Class}
use Rattle.ctf_class.specs.declared.class.Kind.{Kind}
use Rattle.ctf_class.specs.declared.class.Kind.TheOpen.{Kind-F}
use Rattle.ctf_class.specs.declared.class.Kind.TheViews.{out-Kind, roll-Kind, roll-out-Kind, rolls-Integer, rolls-Enumeration, rolls-String, rolls-Structure, rolls-Variant, rolls-Array, rolls-Text}
use Rattle.ctf_class.specs.declared.class.Member.{Member}
use Rattle.ctf_decode.specs.Forms.{align_of}
use Rattle.ctf_decode.specs.Views.{form, shape}
use Rattle.ctf_decode.proofs.Views.{form-is, shape-Integer, shape-Enumeration, shape-String, shape-Structure, shape-Variant, shape-Array, shape-Text}

same : (k : Kind) (o : Kind-F Kind Class Member) → out-Kind k ≡ o → k ≡ roll-Kind o
same k o e = sym (roll-out-Kind k) ∙ ap roll-Kind e

align-shape : (k : Kind) (a : ℕ) (o : Kind-F Kind Class Member) → out-Kind k ≡ o → align_of (shape k a) ≡ a
align-shape k a (Kind-F.Integer i) e = ap (λ x. align_of (shape x a)) (same k (Kind-F.Integer i) e ∙ rolls-Integer i) ∙ ap align_of (shape-Integer i a)
align-shape k a (Kind-F.Enumeration i ls) e = ap (λ x. align_of (shape x a)) (same k (Kind-F.Enumeration i ls) e ∙ rolls-Enumeration i ls) ∙ ap align_of (shape-Enumeration i ls a)
align-shape k a Kind-F.String e = ap (λ x. align_of (shape x a)) (same k Kind-F.String e ∙ rolls-String) ∙ ap align_of (shape-String a)
align-shape k a (Kind-F.Structure ms) e = ap (λ x. align_of (shape x a)) (same k (Kind-F.Structure ms) e ∙ rolls-Structure ms) ∙ ap align_of (shape-Structure ms a)
align-shape k a (Kind-F.Variant tag choices ms) e = ap (λ x. align_of (shape x a)) (same k (Kind-F.Variant tag choices ms) e ∙ rolls-Variant tag choices ms) ∙ ap align_of (shape-Variant tag choices ms a)
align-shape k a (Kind-F.Array many c) e = ap (λ x. align_of (shape x a)) (same k (Kind-F.Array many c) e ∙ rolls-Array many c) ∙ ap align_of (shape-Array many c a)
align-shape k a (Kind-F.Text many) e = ap (λ x. align_of (shape x a)) (same k (Kind-F.Text many) e ∙ rolls-Text many) ∙ ap align_of (shape-Text many a)

pub align-is : (c : Class) → align_of (form c) ≡ c.align
align-is c = ap align_of (form-is c) ∙ align-shape c.kind c.align (out-Kind c.kind) refl
