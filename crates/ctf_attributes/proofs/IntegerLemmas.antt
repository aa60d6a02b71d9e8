-- The first fault of an integer, by its attributes.
use Rattle.std.proofs.Common.{◌≡◌, List, [], ◌++◌, Some, codes, flat_map, is_none}
use Rattle.tsdl_tree.specs.declared.tree.Setting.{Setting}
use Rattle.ctf_meaning.specs.declared.fault.ResolveFault.{ResolveFault}
use Rattle.ctf_meaning.specs.declared.fault.ResolveFault.TheVariants.{Attribute}
use Rattle.ctf_meaning.specs.There.{first}
use Rattle.ctf_meaning.specs.Settings.{when, wrong, repeated, number_of, is_text_of}
use Rattle.ctf_meaning.specs.Integers.{integer_words, integer_faults, outside, is_size, is_alignment_number, sign_of, base_of, order_of, clock_of}
use Rattle.ctf_attributes.specs.Attributes.{value_of, size_faults, align_faults}
use Rattle.ctf_attributes.proofs.FirstLemmas.{still, after, both, two, three, first-of-two}

-- what is wrong up to the size, up to the alignment, and further
abbrev repeats : List Setting → List ResolveFault
repeats s = flat_map (repeated s) integer_words

abbrev to_size : List Setting → List ResolveFault
to_size s =
    repeats s
    ++ when (is_none (value_of s (codes "size"))) Attribute
    ++ wrong number_of (value_of s (codes "size"))
    ++ outside is_size (value_of s (codes "size"))

abbrev to_align : List Setting → List ResolveFault
to_align s =
    to_size s
    ++ wrong number_of (value_of s (codes "align"))
    ++ outside is_alignment_number (value_of s (codes "align"))

abbrev sign_faults : List Setting → List ResolveFault
sign_faults s = wrong sign_of (value_of s (codes "signed"))

abbrev base_faults : List Setting → List ResolveFault
base_faults s = wrong base_of (value_of s (codes "base"))

abbrev order_faults : List Setting → List ResolveFault
order_faults s = wrong order_of (value_of s (codes "byte_order"))

abbrev text_faults : List Setting → List ResolveFault
text_faults s = wrong is_text_of (value_of s (codes "encoding"))

abbrev clock_faults : List Setting → List ResolveFault
clock_faults s = wrong clock_of (value_of s (codes "map"))

sized : (s : List Setting) → repeats s ≡ [] → size_faults s ≡ [] → to_size s ≡ []
sized s repeated-clean size-clean = three (repeats s) (when (is_none (value_of s (codes "size"))) Attribute) (wrong number_of (value_of s (codes "size"))) (outside is_size (value_of s (codes "size"))) repeated-clean size-clean

aligned : (s : List Setting) → repeats s ≡ [] → size_faults s ≡ [] → align_faults s ≡ [] → to_align s ≡ []
aligned s a b c = two (to_size s) (wrong number_of (value_of s (codes "align"))) (outside is_alignment_number (value_of s (codes "align"))) (sized s a b) c

pub align-first : (s : List Setting) (f : ResolveFault) → repeats s ≡ [] → size_faults s ≡ [] → first (align_faults s) ≡ Some f → first (integer_faults s) ≡ Some f
align-first s f a b h =
    still _ (clock_faults s) f (still _ (text_faults s) f (still _ (order_faults s) f (still _ (base_faults s) f (still _ (sign_faults s) f
    (first-of-two (to_size s) (wrong number_of (value_of s (codes "align"))) (outside is_alignment_number (value_of s (codes "align"))) f (sized s a b) h)))))

pub base-first : (s : List Setting) (f : ResolveFault) → repeats s ≡ [] → size_faults s ≡ [] → align_faults s ≡ [] → sign_faults s ≡ [] → first (base_faults s) ≡ Some f → first (integer_faults s) ≡ Some f
base-first s f a b c d h =
    still _ (clock_faults s) f (still _ (text_faults s) f (still _ (order_faults s) f
    (after (to_align s ++ sign_faults s) (base_faults s) f (both _ (sign_faults s) (aligned s a b c) d) h)))

pub order-first : (s : List Setting) (f : ResolveFault) → repeats s ≡ [] → size_faults s ≡ [] → align_faults s ≡ [] → sign_faults s ≡ [] → base_faults s ≡ [] → first (order_faults s) ≡ Some f → first (integer_faults s) ≡ Some f
order-first s f a b c d e h =
    still _ (clock_faults s) f (still _ (text_faults s) f
    (after (to_align s ++ sign_faults s ++ base_faults s) (order_faults s) f (both _ (base_faults s) (both _ (sign_faults s) (aligned s a b c) d) e) h))

pub text-first : (s : List Setting) (f : ResolveFault) → repeats s ≡ [] → size_faults s ≡ [] → align_faults s ≡ [] → sign_faults s ≡ [] → base_faults s ≡ [] → order_faults s ≡ [] → first (text_faults s) ≡ Some f → first (integer_faults s) ≡ Some f
text-first s f a b c d e g h =
    still _ (clock_faults s) f
    (after (to_align s ++ sign_faults s ++ base_faults s ++ order_faults s) (text_faults s) f (both _ (order_faults s) (both _ (base_faults s) (both _ (sign_faults s) (aligned s a b c) d) e) g) h)
