-- No byte is lost by one call after another.
use Rattle.std.proofs.Common.{◌≡◌, ℕ, ◌≤◌, List, length, take, sym, ap, ◌∙◌, arith, take-take}
use Rattle.ctf_bits.specs.declared.source.Source.{Ghosts}
use Rattle.ctf_fetch.specs.Keeping.{KeepsBytes, Keeps}
use Rattle.ctf_fetch.specs.declared.intake.Intake.{Intake}

-- the first bytes stay the first ones
took : (before between after : List ℕ) → length before ≤ length between → take (length before) between ≡ before → take (length between) after ≡ between
    → take (length before) after ≡ before
took before between after less first second =
    sym (take-take (length before) (length between) after less) ∙ ap (take (length before)) second ∙ first

module _ {S : Type 0} {g : Ghosts S} where
  bytes_on : {a b c : S} {xs ys zs : List ℕ} → KeepsBytes g a b xs ys → KeepsBytes g b c ys zs → KeepsBytes g a c xs zs
  bytes_on {a} {b} {c} {xs} {ys} {zs} first then = record {
    tells = λ h. then.tells (first.tells h);
    same_end = λ h. then.same_end (first.tells h) ∙ first.same_end h;
    kept = λ h. then.kept (first.tells h) ∙ first.kept h;
    first = took xs ys zs first.grown first.first then.first;
    grown = (let one = first.grown in let two = then.grown in omega (arith, one, two));
  }

  pub keeps_on : {a b c : Intake S} → Keeps g a b → Keeps g b c → Keeps g a c
  keeps_on first then = record {
    same_source = then.same_source ∙ first.same_source;
    same_buffer = then.same_buffer ∙ first.same_buffer;
    bytes = bytes_on first.bytes then.bytes;
  }
