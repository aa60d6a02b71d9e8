-- What is kept with a class that is made of others.
use Rattle.std.proofs.Common.{◌≡◌, ℕ, ◌+◌, ◌<◌, ◌≤◌, max, min, nat_lt, Bool, true, false, ◌||◌, List, [], ◌∷◌, ◌++◌, length, map, Option, Ok, Err, refl, ap, sym, ◌∙◌, ⊎_elim, arith}
use Rattle.std.proofs.lemmas.Bool.{cases_lt}
use Rattle.std.proofs.lemmas.Bool.Decides.{nat_tests}
use Rattle.tsdl_tree.specs.declared.tree.Length.{Length}
use Rattle.tsdl_tree.specs.declared.tree.Length.TheVariants.{Constant, Path}
use Rattle.ctf_meaning.specs.declared.fault.ResolveFault.TheVariants.{DeclaredTwice}
use Rattle.ctf_meaning.specs.Name.{Word, Words, same_word}
use Rattle.ctf_meaning.specs.Own.{has_twins}
use Rattle.ctf_meaning.specs.Settings.{when}
use Rattle.ctf_meaning.specs.Shapes.{Shape, Members, Field, struct, variant, array, sequence, member, members_from, largest, align_of, depth_of, depth_of_members, nodes_of, nodes_of_members, has_float, has_float_member, arrays}
use Rattle.ctf_meaning_steps.specs.Told.{unless}
use Rattle.ctf_declared_class.specs.declared.known.KnownMember as given
use Rattle.ctf_declared_class.specs.declared.facts.Facts.{Facts}
use Rattle.ctf_declared_class.specs.Stopped.{stopped}
use Rattle.ctf_declared_class.specs.Kept.{Keeps, KeepsAll}
use Rattle.ctf_declared_class.specs.Views.{shape, joined}
use Rattle.ctf_declared_class.specs.Knowns.{field}
use Rattle.ctf_declared_class.specs.Distinct.{members_told}

-- each length is a level
pub depth-arrays : (lengths : List Length) (shape : Shape) → depth_of (arrays lengths shape) ≡ length lengths + depth_of shape
depth-arrays [] shape = omega arith
depth-arrays (Constant count ∷ lengths) shape = omega (arith, depth-arrays lengths shape)
depth-arrays (Path path ∷ lengths) shape = omega (arith, depth-arrays lengths shape)

-- a sum that stops is above a small number where the sum is
pub above-stopped : (most n d kept sum : ℕ) → most ≤ 64 → kept ≡ min d 4294967295 → sum ≡ min (n + kept) 18446744073709551615 → nat_lt most sum ≡ nat_lt most (n + d)
above-stopped most n d kept sum small keeps adds =
    ⊎_elim
    (λ above. let there : most < sum = omega arith in grind (arith, nat_tests))
    (λ below. let there : sum ≤ most = omega arith in grind (arith, nat_tests))
    (cases_lt most (n + d))

-- one member more
largest-push : (least : ℕ) (fs : List Field) (f : Field) → largest least (fs ++ f ∷ []) ≡ max (align_of f.shape) (largest least fs)
largest-push least [] f = omega arith
largest-push least (g ∷ fs) f = omega (arith, largest-push least fs f)

depth-push : (fs : List Field) (f : Field) → depth_of_members (members_from (fs ++ f ∷ [])) ≡ max (depth_of_members (members_from fs)) (depth_of f.shape)
depth-push [] f = omega arith
depth-push (g ∷ fs) f = omega (arith, depth-push fs f)

nodes-push : (fs : List Field) (f : Field) → nodes_of_members (members_from (fs ++ f ∷ [])) ≡ nodes_of_members (members_from fs) + nodes_of f.shape
nodes-push [] f = omega arith
nodes-push (g ∷ fs) f = omega (arith, nodes-push fs f)

or_assoc : (a b c : Bool) → (a || (b || c)) ≡ ((a || b) || c)
or_assoc true b c = refl
or_assoc false b c = refl

or_false : (a : Bool) → (a || false) ≡ a
or_false true = refl
or_false false = refl

float-push : (fs : List Field) (f : Field) → has_float_member (members_from (fs ++ f ∷ [])) ≡ (has_float_member (members_from fs) || has_float f.shape)
float-push [] f = or_false (has_float f.shape)
float-push (g ∷ fs) f = ap (λ b. has_float g.shape || b) (float-push fs f) ∙ or_assoc (has_float g.shape) (has_float_member (members_from fs)) (has_float f.shape)

pub KeepsAll-push : (least : ℕ) (fs : List Field) (f : Field) (before part after : Facts) → KeepsAll least fs before → Keeps f.shape part → after.align ≡ max part.align before.align → after.depth ≡ max before.depth part.depth → after.nodes ≡ stopped (before.nodes + part.nodes) → after.has_float ≡ (before.has_float || part.has_float) → KeepsAll least (fs ++ f ∷ []) after
KeepsAll-push least fs f before part after all one align depth nodes float = record {
  aligned = omega (arith, largest-push least fs f, all.aligned, one.aligned, align);
  deep = omega (arith, depth-push fs f, all.deep, one.deep, depth);
  many = omega (arith, nodes-push fs f, all.many, one.many, nodes);
  floats = float ∙ (ap (λ b. b || part.has_float) all.floats ∙ (ap (λ b. has_float_member (members_from fs) || b) one.floats ∙ sym (float-push fs f)));
}

-- a class around members
pub Keeps-struct : (least : ℕ) (fs : List Field) (ms : Members) (all facts : Facts) → members_from fs ≡ ms → KeepsAll least fs all → facts.align ≡ all.align → facts.depth ≡ stopped (1 + all.depth) → facts.nodes ≡ stopped (1 + all.nodes) → facts.has_float ≡ all.has_float → Keeps (struct all.align ms) facts
Keeps-struct least fs ms all facts same keeps align depth nodes float = record {
  aligned = align;
  deep = omega (arith, ap depth_of_members same, keeps.deep, depth);
  many = omega (arith, ap nodes_of_members same, keeps.many, nodes);
  floats = float ∙ (keeps.floats ∙ ap has_float_member same);
}

pub Keeps-variant : (tag : Option Words) (least : ℕ) (fs : List Field) (ms : Members) (all facts : Facts) → members_from fs ≡ ms → KeepsAll least fs all → facts.align ≡ 1 → facts.depth ≡ stopped (1 + all.depth) → facts.nodes ≡ stopped (1 + all.nodes) → facts.has_float ≡ all.has_float → Keeps (variant tag ms) facts
Keeps-variant tag least fs ms all facts same keeps align depth nodes float = record {
  aligned = align;
  deep = omega (arith, ap depth_of_members same, keeps.deep, depth);
  many = omega (arith, ap nodes_of_members same, keeps.many, nodes);
  floats = float ∙ (keeps.floats ∙ ap has_float_member same);
}

-- one length more inside
pub arrays-append : (xs ys : List Length) (s : Shape) → arrays (xs ++ ys) s ≡ arrays xs (arrays ys s)
arrays-append [] ys s = refl
arrays-append (Constant count ∷ xs) ys s = ap (array count) (arrays-append xs ys s)
arrays-append (Path path ∷ xs) ys s = ap (sequence path) (arrays-append xs ys s)

-- members of different names
pub told-is : (fs : List Field) (ms : Members) → members_told fs ≡ Ok ms → members_from fs ≡ ms
told-is fs ms told =
    elim (has_twins same_word (map (λ f. f.name) fs)) as (λ b. unless (when b DeclaredTwice) (Ok (members_from fs)) ≡ Ok ms → members_from fs ≡ ms) [
      | true ↦ λ e. absurd (cc)
      | false ↦ λ e. cc
    ] told

names-of : (fs : List given.KnownMember) → map (λ f. f.name) (map field fs) ≡ map (λ f. f.name) fs
names-of [] = refl
names-of (f ∷ fs) = ap (λ ws. f.name ∷ ws) (names-of fs)

-- members as they were made
pub joined-from : (fs : List given.KnownMember) → joined (map (λ f. f.name) fs) (map shape (map (λ f. f.known.shape) fs)) ≡ members_from (map field fs)
joined-from [] = refl
joined-from (f ∷ fs) = ap (member f.name (shape f.known.shape)) (joined-from fs)

pub told-twins : (fs : List given.KnownMember) (names : List Word) → names ≡ map (λ f. f.name) fs → has_twins same_word names ≡ true → members_told (map field fs) ≡ Err DeclaredTwice
told-twins fs names same twins =
    let words : map (λ f. f.name) (map field fs) ≡ names = names-of fs ∙ sym same in
    ap (λ ws. unless (when (has_twins same_word ws) DeclaredTwice) (Ok (members_from (map field fs)))) words ∙ ap (λ b. unless (when b DeclaredTwice) (Ok (members_from (map field fs)))) twins

pub told-single : (fs : List given.KnownMember) (names : List Word) → names ≡ map (λ f. f.name) fs → has_twins same_word names ≡ false → members_told (map field fs) ≡ Ok (members_from (map field fs))
told-single fs names same twins =
    let words : map (λ f. f.name) (map field fs) ≡ names = names-of fs ∙ sym same in
    ap (λ ws. unless (when (has_twins same_word ws) DeclaredTwice) (Ok (members_from (map field fs)))) words ∙ ap (λ b. unless (when b DeclaredTwice) (Ok (members_from (map field fs)))) twins
