-- The members of a class, of which one that is no structure has none.
use Rattle.std.proofs.Common.{◌≡◌, ℕ, List, map, refl, ap, ◌∙◌}
use Rattle.ctf_class.specs.Fronts.{members_of, members_of_kind}
use Rattle.ctf_class.specs.declared.class.Class.{Class}
use Rattle.ctf_class.specs.declared.class.Kind.{Kind}
use Rattle.ctf_class.specs.declared.class.Kind.TheFolds.{fold_out-Kind, map-Kind}
use Rattle.ctf_class.specs.declared.class.Kind.TheOpen.{Kind-F}
use Rattle.ctf_class.specs.declared.class.Kind.TheViews.{out-Kind}
use Rattle.ctf_class.specs.declared.class.Member.{Member}
use Rattle.ctf_decode.specs.Fields.{members_in}
use Rattle.ctf_decode.specs.Forms.{Form, Part, parts_of}
use Rattle.ctf_decode.specs.Values.{Val}
use Rattle.ctf_decode.specs.Views.{form, shape, member_part, kind_step, class_step, member_step}
use Rattle.ctf_decode.proofs.Views.{form-is}
use Rattle.ctf_packet.specs.Roles.{member_named, member_of}

of_kind : (name : List ℕ) (a : ℕ) (v : Val) (o : Kind-F Kind Class Member) → member_of name (kind_step (map-Kind Kind Class Member (ℕ → Form) Form Part shape form member_part o) a) v ≡ member_named name (parts_of (map member_part (members_of_kind o))) (members_in v)
of_kind name a v (Kind-F.Integer i) = refl
of_kind name a v (Kind-F.Enumeration i labels) = refl
of_kind name a v Kind-F.String = refl
of_kind name a v (Kind-F.Structure ms) = refl
of_kind name a v (Kind-F.Variant tag choices ms) = refl
of_kind name a v (Kind-F.Array many k) = refl
of_kind name a v (Kind-F.Text many) = refl

-- a member of a class is one of its members
pub of_class : (name : List ℕ) (k : Class) (v : Val) → member_of name (form k) v ≡ member_named name (parts_of (map member_part (members_of k))) (members_in v)
of_class name k v =
    ap (λ f. member_of name f v) (form-is k)
    ∙ (ap (λ (s : ℕ → Form). member_of name (s k.align) v) (fold_out-Kind (ℕ → Form) Form Part kind_step class_step member_step k.kind)
    ∙ of_kind name k.align v (out-Kind k.kind))
