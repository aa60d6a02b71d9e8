use Rattle.std.proofs.Common.{◌≡◌, ℕ, inl, inr, List, [], ◌∷◌, ◌++◌, length, sym, ap, subst, ⊎_elim, arith}
use Rattle.ctf_class.specs.Ranks.{Holds}
use Rattle.ctf_class.proofs.LayersLemmas.{holds-sorted, holds-none, layers-more, in-kept, in-last}
use Rattle.ctf_class.proofs.layers.layers_of.Goals as goal

pub loop-alloc-init : goal.loop-alloc-init
loop-alloc-init c =
    let none : length c.new-layers.result ≡ 0 = ap length c.new-layers.ensures in
    record {
      apart = λ i within. absurd (omega (arith, none, within));
      all = λ place within. inr (holds-sorted (length c.args.labels.now) c.args.order place c.requires within);
    }

pub loop-alloc-preserved : goal.loop-alloc-preserved
loop-alloc-preserved c =
    let labels = c.args.labels.now in
    let layers = c.loop-alloc.layers in
    let split = c.in_ok-split.split in
    let more = c.push.new.self in
    let splits = c.in_ok-split.ensures in
    let pushed : more ≡ layers ++ split.layer ∷ [] = c.in_ok-push.ensures.ok in
    record {
      apart = layers-more labels layers more split.layer pushed splits.apart c.loop-alloc.invariant.apart;
      all = λ place within.
          ⊎_elim
          (λ there. inl (in-kept layers more split.layer place pushed there))
          (λ held.
          ⊎_elim
          (λ taken. inl (in-last layers more split.layer place pushed taken))
          (λ still. inr still)
          (splits.all place (subst (λ (ps : List ℕ). Holds ps place) (sym c.as_slice.ensures) held)))
          (c.loop-alloc.invariant.all place within);
    }

pub returns : goal.returns
returns c =
    record {
      apart = c.loop-alloc.invariant.apart;
      all = λ place within.
          ⊎_elim
          (λ there. there)
          (λ held. absurd (holds-none c.loop-alloc.left place (ap length (c.is_empty.ensures.0 c.loop-alloc-test.false)) held))
          (c.loop-alloc.invariant.all place within);
    }
