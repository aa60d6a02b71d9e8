-- What is kept of the declarations before, with one more.
use Rattle.std.proofs.Common.{◌≡◌, ℕ, List, [], ◌∷◌, ◌++◌, Option, Some, None, refl, ap, sym, ◌∙◌}
use Rattle.std.specs.Prelude.{Bool, true, false, not, cond, ◌||◌, nat_eq, filter_map}
use Rattle.std.specs.List.{list_any}
use Rattle.std.specs.Option.{option_map_or}
use Rattle.std.specs.Ordering.{nat_cmp, is_eq}
use Rattle.std.specs.Cmp.{unsigned_ties, nat_eq_equiv}
use Rattle.std.specs.Cmp.Lexicographic.{slice_cmp}
use Rattle.std.specs.BTreeSet.{contains, contains_by}
use Rattle.std.proofs.lemmas.List.Folds.{list_any-append}
use Rattle.std.proofs.lemmas.List.Elements.{filter_map-append}
use Rattle.ctf_meaning.specs.declared.fault.ResolveFault.{ResolveFault}
use Rattle.ctf_meaning.specs.declared.fault.ResolveFault.TheVariants.{Twice}
use Rattle.ctf_meaning.specs.Name.{Word, same_word}
use Rattle.ctf_meaning.specs.There.{first}
use Rattle.ctf_meaning.specs.Settings.{when}
use Rattle.ctf_meaning.specs.Written.{Declaration, Table}
use Rattle.ctf_meaning.specs.Blocks.{is_trace, stream_id_of, clock_of, clocks_of, twice_faults}
use Rattle.ctf_meaning.specs.Clocks.{clock_by}
use Rattle.ctf_class.specs.declared.trace.Clock.{Clock}
use Rattle.tsdl_tree.specs.declared.tree.Setting.{Setting}
use Rattle.tsdl_tree.specs.declared.tree.TableKind.TheVariants as table
use Rattle.ctf_declarations.specs.DeclaredSoFar.{Remembers}
use Rattle.ctf_declarations.specs.declared.declared_once.DeclaredOnce.{DeclaredOnce}

pub or_false : (b : Bool) → b ≡ (b || false)
or_false true = refl
or_false false = refl

pub or_true : (b : Bool) → true ≡ (b || true)
or_true true = refl
or_true false = refl

pub cond_or : (b x : Bool) → cond b true x ≡ (x || b)
cond_or true x = or_true x
cond_or false x = or_false x

one_any : {X : Type 0} (p : X → Bool) (o : Option X) (h : Declaration → Option X) (d : Declaration) → h d ≡ o → list_any p (filter_map h (d ∷ [])) ≡ option_map_or p (h d) false
one_any p None h d e = rw e refl
one_any p (Some x) h d e = rw e (sym (or_false (p x)))

mapped_more : {X : Type 0} (p : X → Bool) (h : Declaration → Option X) (before : List Declaration) (d : Declaration) →
    list_any p (filter_map h (before ++ d ∷ [])) ≡ (list_any p (filter_map h before) || option_map_or p (h d) false)
mapped_more p h before d =
    ap (list_any p) (filter_map-append h before (d ∷ []))
    ∙ list_any-append p (filter_map h before) (filter_map h (d ∷ []))
    ∙ ap (λ b. list_any p (filter_map h before) || b) (one_any p (h d) h d refl)

module _ (e : DeclaredOnce) (before : List Declaration) (d : Declaration) (r : Remembers e before) where
  -- with what a declaration adds
  pub remembered : (after : DeclaredOnce) →
      after.has_trace ≡ (e.has_trace || is_trace d) →
      ((id : ℕ) → contains nat_cmp after.streams id ≡ (contains nat_cmp e.streams id || option_map_or (nat_eq id) (stream_id_of d) false)) →
      ((name : Word) → contains_by (λ k. slice_cmp nat_cmp name k.items) after.clocks ≡ (contains_by (λ k. slice_cmp nat_cmp name k.items) e.clocks || option_map_or (λ c. same_word c.name name) (clock_of d) false)) →
      Remembers after (before ++ d ∷ [])
  remembered after traces streams clocks = record {
    traces = traces ∙ ap (λ b. b || is_trace d) r.traces ∙ ap (λ b. list_any is_trace before || b) (or_false (is_trace d)) ∙ sym (list_any-append is_trace before (d ∷ []));
    streams = λ id. streams id ∙ ap (λ b. b || option_map_or (nat_eq id) (stream_id_of d) false) (r.streams id) ∙ sym (mapped_more (nat_eq id) stream_id_of before d);
    clocks = λ name. clocks name ∙ ap (λ b. b || option_map_or (λ c. same_word c.name name) (clock_of d) false) (r.clocks name) ∙ sym (mapped_more (λ c. same_word c.name name) clock_of before d);
  }

  -- of a declaration that is no trace, stream or clock nothing is kept
  pub nothing_kept : is_trace d ≡ false → stream_id_of d ≡ None → clock_of d ≡ None → Remembers e (before ++ d ∷ [])
  nothing_kept t s c = remembered e
      (or_false e.has_trace ∙ ap (λ b. e.has_trace || b) (sym t))
      (λ id. or_false (contains nat_cmp e.streams id) ∙ ap (λ o. contains nat_cmp e.streams id || option_map_or (nat_eq id) o false) (sym s))
      (λ name. or_false (contains_by (λ k. slice_cmp nat_cmp name k.items) e.clocks) ∙ ap (λ o. contains_by (λ k. slice_cmp nat_cmp name k.items) e.clocks || option_map_or (λ c. same_word c.name name) o false) (sym c))

pub same_id : (id other : ℕ) → is_eq (nat_cmp id other) ≡ nat_eq other id
same_id id other = sym (unsigned_ties id other) ∙ nat_eq_equiv.symm id other

pub not_true : (b : Bool) → not b ≡ false → b ≡ true
not_true true h = refl
not_true false h = cc

pub not_false : (b : Bool) → not b ≡ true → b ≡ false
not_false true h = cc
not_false false h = refl

pub when_true : (b : Bool) (f : ResolveFault) → b ≡ true → first (when b f) ≡ Some f
when_true b f h = rw h refl

pub when_false : (b : Bool) (f : ResolveFault) → b ≡ false → when b f ≡ []
when_false b f h = rw h refl

pub clock_twice : (settings : List Setting) (before : List Declaration) (clock : Clock) (name : Word) → clock_by settings ≡ Some clock → name ≡ clock.name →
    when (list_any (λ c. same_word c.name name) (clocks_of before)) Twice ≡ twice_faults before (Table table.Clock settings)
clock_twice settings before clock name is same =
    ap (λ n. when (list_any (λ c. same_word c.name n) (clocks_of before)) Twice) same
    ∙ ap (λ o. option_map_or (λ c. when (list_any (λ b. same_word b.name c.name) (clocks_of before)) Twice) o []) (sym is)
