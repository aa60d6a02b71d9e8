-- The class of a scope at its place.
use Rattle.std.proofs.Common.{◌≡◌, false, List, [], Option, Some, None, Ok, Err, sym, ap, ◌∙◌, subst}
use Rattle.std.specs.Prelude.{option_map, Contains}
use Rattle.std.specs.Option.{option_map_or}
use Rattle.ctf_bits.specs.declared.number.Order.{Order}
use Rattle.ctf_class.specs.declared.class.Class.{Class}
use Rattle.ctf_class.specs.declared.route.Scope.{Scope}
use Rattle.ctf_class.specs.declared.trace.Clock.{Clock}
use Rattle.ctf_meaning.specs.declared.fault.ResolveFault.{ResolveFault}
use Rattle.ctf_meaning.specs.Written.{Declaration}
use Rattle.ctf_meaning.specs.There.{if_there}
use Rattle.ctf_meaning.specs.Shapes.{Shape, has_float}
use Rattle.ctf_meaning.specs.Links.{link_faults_at, class_at}
use Rattle.ctf_meaning.specs.Blocks.{clocks_of}
use Rattle.ctf_meaning.specs.Paths.{Frame}
use Rattle.ctf_meaning.specs.Scopes.{Home, scope_of, spot_of, frames_before}
use Rattle.ctf_meaning_steps.specs.Told.{Told}
use Rattle.ctf_meaning_steps.specs.Linking.{class_told}
use Rattle.ctf_meaning_steps.proofs.Linked.{linking_gives_class, linking_tells_fault}
use Rattle.ctf_types.specs.Texts.{IsScopeLinked, scope_fails}

-- what was made is there
never_none : (made : Option Class) → option_map (λ (c : Class). Some c) made ≡ Some None → ⊥
never_none None e = absurd cc
never_none (Some c) e = absurd cc

module _ (text : List Declaration) (order : Order) (home : Home) (scope : Scope) where
  pub not_declared : scope_of text home scope ≡ None → IsScopeLinked text order home scope None
  not_declared e = record {
    clean = ap (λ o. option_map_or (link_faults_at (clocks_of text) (spot_of text home scope)) o []) e;
    made = ap (if_there (class_at order (clocks_of text) (spot_of text home scope))) e;
  }

  pub declared : (s : Shape) (c : Class) → scope_of text home scope ≡ Some s → class_told order (clocks_of text) (spot_of text home scope) s ≡ Ok c → IsScopeLinked text order home scope (Some c)
  declared s c e told =
      let both = linking_gives_class order (clocks_of text) (spot_of text home scope) s c told in
      record {
        clean = ap (λ o. option_map_or (link_faults_at (clocks_of text) (spot_of text home scope)) o []) e ∙ both.0;
        made = ap (if_there (class_at order (clocks_of text) (spot_of text home scope))) e ∙ ap (option_map (λ d. Some d)) both.1;
      }

  pub fails : (s : Shape) (fault : ResolveFault) → scope_of text home scope ≡ Some s → has_float s ≡ false → class_told order (clocks_of text) (spot_of text home scope) s ≡ Err fault →
      Contains (scope_fails text home scope) fault
  fails s fault e solid told =
      subst (λ o. Contains (option_map_or (link_faults_at (clocks_of text) (spot_of text home scope)) o []) fault) (sym e)
      (linking_tells_fault order (clocks_of text) (spot_of text home scope) s fault solid told)

  -- what is reported by the parts that the code has
  pub told_at : (clocks : List Clock) (before : List Frame) (s here : Shape) (told : Told Class) → clocks ≡ clocks_of text → before ≡ frames_before text home scope → here ≡ s →
      class_told order clocks (record { scope = scope; around = []; before = before; member = None; is_top = false; name = Some [] }) here ≡ told →
      class_told order (clocks_of text) (spot_of text home scope) s ≡ told
  told_at clocks before s here told c b q h =
      (λ j. class_told order (sym c j) (record { scope = scope; around = []; before = sym b j; member = None; is_top = false; name = Some [] }) (sym q j)) ∙ h

  -- a scope that is declared has a class
  pub always_made : (s : Shape) → scope_of text home scope ≡ Some s → IsScopeLinked text order home scope None → ⊥
  always_made s e linked =
      let make = class_at order (clocks_of text) (spot_of text home scope) in
      never_none (make s) (sym (ap (if_there make) e) ∙ linked.made)
