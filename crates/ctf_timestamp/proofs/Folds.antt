-- In a fold the offset before the change is the greater one.
use Rattle.std.proofs.Common.{◌≡◌, ℤ, pos, ◌<ℤ◌, int_lt, Bool, true, false, if◌then◌else◌, Option, Some, None, refl, subst}
use Rattle.jiff_core.specs.DateTime.{civil_nanos}
use Rattle.jiff_core.specs.declared.Offset.{Offset}
use Rattle.jiff_core.specs.declared.civil.datetime.DateTime.{DateTime}
use Rattle.jiff_core.proofs.SignedLemmas.{signed_arith}
use Rattle.std.proofs.Common.{arith}
use Rattle.jiff_tz.specs.PosixRule as Rule
use Rattle.jiff_tz.specs.Ambiguous.{instant_of}
use Rattle.jiff_tz.specs.Zone.{ambiguous_at}
use Rattle.jiff_tz.specs.declared.ambiguous.AmbiguousOffset.{AmbiguousOffset}
use Rattle.jiff_tz.specs.declared.ambiguous.AmbiguousOffset.TheVariants.{Unambiguous, Gap, Fold}
use Rattle.jiff_tz.specs.declared.posix.Dst.{Dst}
use Rattle.jiff_tz.specs.declared.timezone.TimeZone.{TimeZone}
use Rattle.jiff_tz.specs.declared.timezone.TimeZone.TheVariants as Kind
use Rattle.ctf_timestamp.specs.Zones.{IsUtcOrRule}

-- these offsets, where they are a fold's, go back
abbrev GoesBack : Offset → Offset → AmbiguousOffset → Type 0
GoesBack b a o = o ≡ Fold b a → a.seconds <ℤ b.seconds

one : (b a o : Offset) → GoesBack b a (Unambiguous o)
one b a o = λ e. absurd cc

gap : (b a o p : Offset) → GoesBack b a (Gap o p)
gap b a o p = λ e. absurd cc

fold : (b a o p : Offset) → p.seconds <ℤ o.seconds → GoesBack b a (Fold o p)
fold b a o p h = λ e.
    let f : o ≡ b = cc in
    let g : p ≡ a = cc in
    subst (λ (x : Offset). x.seconds <ℤ b.seconds) g (subst (λ (x : Offset). p.seconds <ℤ x.seconds) f h)

by_if : (b a : Offset) (t : Bool) (o p : AmbiguousOffset) → (t ≡ true → GoesBack b a o) → GoesBack b a p → GoesBack b a (if t then o else p)
by_if b a true o p h g = h refl
by_if b a false o p h g = g

after : (b a std dst : Offset) (w : ℤ × ℤ) (n : ℤ) → dst.seconds <ℤ std.seconds → GoesBack b a (Rule.ambiguous_behind std dst w n)
after b a std dst w n h =
    by_if b a _ _ _ (λ _. one b a dst) (by_if b a _ _ _ (λ _. fold b a std dst h) (by_if b a _ _ _ (λ _. gap b a dst std) (one b a std)))

ahead : (b a std dst : Offset) (w : ℤ × ℤ) (n : ℤ) → std.seconds <ℤ dst.seconds → GoesBack b a (Rule.ambiguous_ahead std dst w n)
ahead b a std dst w n h =
    by_if b a _ _ _ (λ _. one b a std) (by_if b a _ _ _ (λ _. gap b a std dst) (by_if b a _ _ _ (λ _. fold b a dst std h) (one b a dst)))

below : (x y : ℤ) → int_lt x y ≡ true → x <ℤ y
below x y e = omega (arith, signed_arith)

by_rule : (b a std dst : Offset) (w : ℤ × ℤ) (n : ℤ) → GoesBack b a (Rule.ambiguous_by std dst w n)
by_rule b a std dst w n =
    by_if b a _ _ _ (λ t. after b a std dst w n (below _ _ t)) (by_if b a _ _ _ (λ t. ahead b a std dst w n (below _ _ t)) (one b a std))

by_dst : (b a std : Offset) (d : Option Dst) (dt : DateTime) → GoesBack b a (Rule.ambiguous_at_by std d dt)
by_dst b a std None dt = one b a std
by_dst b a std (Some d) dt =
    by_rule b a std d.offset (Rule.rule_nanos dt.date.year d.rule.start (pos 0), Rule.rule_nanos dt.date.year d.rule.end (pos 0)) (civil_nanos dt)

pub folds : (zone : TimeZone) → IsUtcOrRule zone → (dt : DateTime) (b a : Offset) → ambiguous_at zone dt ≡ Fold b a → a.seconds <ℤ b.seconds
unfolding ambiguous_at
folds Kind.UTC z dt b a = one b a _
folds Kind.Unknown z dt b a = absurd z
folds (Kind.Fixed offset) z dt b a = absurd z
folds (Kind.Posix rule) z dt b a = by_dst b a rule.std_offset rule.dst dt
folds (Kind.Tzif table) z dt b a = absurd z

pub later_back : (dt : DateTime) (b a : Offset) → a.seconds <ℤ b.seconds → instant_of dt b <ℤ instant_of dt a
later_back dt b a h = omega (arith, signed_arith)
