-- A run of steps reads no stream on from an item after the end.
use Rattle.std.proofs.Common.{◌≡◌, false, List, refl, sym, ap, ◌∙◌, subst}
use Rattle.ctf_merge.specs.Merged.{Merged, Placed, then}
use Rattle.ctf_merge.specs.Merges.{EachTells}
use Rattle.ctf_stream.specs.Reader.{Reader}
use Rattle.ctf_session.specs.Answers.{Setting, verdict, is_after}
use Rattle.ctf_session.specs.Passing.{PassesWithin, passed}
use Rattle.ctf_session.specs.Steps.{Session, Goes, LeavesFirst}
use Rattle.ctf_session.specs.Writing.{Written}

same_first : (x y : Placed) (m n : Merged) → then x m ≡ then y n → x ≡ y
same_first x y m n e = let items = ap (λ (k : Merged). k.items) e in cc

pub goes_within : (setting : Setting) (first : List Reader) (old new : Session) (w : Written) → old.setting ≡ setting → PassesWithin setting first old.readers
    → LeavesFirst old.coming old.readers new.readers → EachTells old.readers → Goes old new w → PassesWithin setting first new.readers
goes_within setting first old new w same so_far leaves tells goes =
    let left : Placed = record { number = leaves.number; item = leaves.leaves.left } in
    let first_is = leaves.first tells in
    let is : goes.item ≡ left = same_first goes.item left goes.rest first_is.0 (sym goes.takes ∙ first_is.1) in
    let not_after : is_after (verdict setting left) ≡ false =
    subst (λ (s : Setting). is_after (verdict s left) ≡ false) same (subst (λ (x : Placed). is_after (verdict old.setting x) ≡ false) is goes.not_after) in
    passed old.readers new.readers left so_far leaves.leaves refl not_after

pub ends_within : (setting : Setting) (first now new : List Reader) → PassesWithin setting first now → new ≡ now → PassesWithin setting first new
ends_within setting first now new so_far same = subst (λ (rs : List Reader). PassesWithin setting first rs) (sym same) so_far
