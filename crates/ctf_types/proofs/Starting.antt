-- What is known of a text that was gone through to its end.
use Rattle.std.proofs.Common.{◌≡◌, ℕ, zero, suc, false, true, Bool, cond, nat_eq, List, [], ◌∷◌, Option, Some, None, sym, ap, ◌∙◌, subst, arith}
use Rattle.std.specs.Prelude.{not, slice_get, find, option_map, option_and_then}
use Rattle.tsdl_tree.specs.declared.tree.BlockKind.TheVariants.{Event}
use Rattle.ctf_class.specs.declared.route.Scope.{Scope}
use Rattle.ctf_class.specs.declared.route.Scope.TheVariants.{EventFields}
use Rattle.ctf_meaning.specs.declared.fault.ResolveFault.TheVariants.{Attribute, FloatingPoint}
use Rattle.ctf_meaning.specs.Written.{BlockEntry, Declaration, Block}
use Rattle.ctf_meaning.specs.Settings.{when}
use Rattle.ctf_meaning.specs.Shapes.{Shape, has_float}
use Rattle.ctf_meaning.specs.Paths.{rank}
use Rattle.ctf_meaning.specs.Blocks.{block_of}
use Rattle.ctf_meaning.specs.Scopes.{Home, in_home, is_structure, scope_faults, scope_at, scope_of}
use Rattle.ctf_meaning.specs.Streams.{trace_of}
use Rattle.ctf_meaning.specs.Laws.{HasNoOwnFault}
use Rattle.ctf_meaning.proofs.Lists.{Each, append_right, some_same}
use Rattle.ctf_meaning.proofs.Shaped.{when_not}
use Rattle.ctf_meaning_steps.specs.Blocks.{Placed}
use Rattle.ctf_meaning_steps.specs.Laws.{class_among, class_in_row}
use Rattle.ctf_meaning_steps.proofs.Text.{walk_finds_scopes}
use Rattle.ctf_types.specs.declared.trace.TraceAt.{TraceAt}
use Rattle.ctf_types.specs.Resolved.{IsWalked}
use Rattle.ctf_types.specs.Whole.{IsTraceOf}
use Rattle.ctf_types.proofs.Fields.{fields_there}
use Rattle.ctf_types.proofs.Sound.{IsSound, AreSound, text_sound}

float_free : (s : Shape) → scope_faults s ≡ [] → has_float s ≡ false
float_free s h = when_not (has_float s) FloatingPoint (append_right (when (not (is_structure s)) Attribute) (when (has_float s) FloatingPoint) h)

solid_among : (row : List Placed) (scope : Scope) (s : Shape) → Each IsSound row → class_among scope row ≡ Some s → has_float s ≡ false
solid_among [] scope s h e = absurd (grind (arith, e))
solid_among (p ∷ row) scope s h e = by_test (nat_eq (rank p.0) (rank scope)) e (solid_among row scope s h.1)
  where
    by_test : (b : Bool) → option_map (λ q. q.1) (cond b (Some p) (find (λ q. nat_eq (rank q.0) (rank scope)) row)) ≡ Some s →
        (class_among scope row ≡ Some s → has_float s ≡ false) → has_float s ≡ false
    by_test true f later = subst (λ t. has_float t ≡ false) (some_same p.1 s f) (float_free p.1 h.0)
    by_test false f later = later f

solid_in : (rows : List (List Placed)) (k : ℕ) (scope : Scope) (s : Shape) → AreSound rows → class_in_row rows k scope ≡ Some s → has_float s ≡ false
solid_in [] k scope s h e = absurd (grind (arith, e))
solid_in (row ∷ rows) zero scope s h e = solid_among row scope s h.0 e
solid_in (row ∷ rows) (suc k) scope s h e = solid_in rows k scope s h.1 e

module _ (text : List Declaration) (rows : List (List Placed)) (w : IsWalked text rows) where
  pub own : HasNoOwnFault text
  own = (walk_finds_scopes text w.walked w.told).0

  pub scopes : (k : ℕ) (scope : Scope) → scope_at text k scope ≡ class_in_row rows k scope
  scopes k scope = (walk_finds_scopes text w.walked w.told).1 k scope ∙ ap (λ rs. class_in_row rs k scope) (sym w.same)

  pub solid : (home : Home) (scope : Scope) (s : Shape) → scope_of text home scope ≡ Some s → has_float s ≡ false
  solid home scope s e = by_block (in_home home (block_of scope)) e
    where
      by_block : (o : Option ℕ) → option_and_then (λ k. scope_at text k scope) o ≡ Some s → has_float s ≡ false
      by_block None f = absurd (grind (arith, f))
      by_block (Some k) f = solid_in w.walked.rows k scope s (text_sound text w.walked w.told) (sym ((walk_finds_scopes text w.walked w.told).1 k scope) ∙ f)

  pub fields : (k : ℕ) (entries : List BlockEntry) → slice_get text k ≡ Some (Block Event entries) → (s : Shape) × (scope_at text k EventFields ≡ Some s)
  fields k entries e = let there = fields_there text w.walked k entries w.told e in (there.0, (walk_finds_scopes text w.walked w.told).1 k EventFields ∙ there.1)

pub traced : (text : List Declaration) (t : Option TraceAt) → IsTraceOf text t → option_map (λ t. t.number) t ≡ trace_of text
traced text None h = sym h
traced text (Some t) h = sym h.1
