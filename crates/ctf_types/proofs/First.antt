-- The first trace block after declarations that are none.
use Rattle.std.proofs.Common.{◌≡◌, ℕ, ◌+◌, ◌<◌, ◌≤◌, true, false, List, length, get_or, map, Option, Some, None, refl, ap, ◌∙◌, arith}
use Rattle.std.specs.Prelude.{filter_map, find, option_map, if◌then◌else◌}
use Rattle.std.specs.List.{cons_option}
use Rattle.tsdl_tree.specs.declared.tree.Declaration.{Declaration as TreeDeclaration}
use Rattle.tsdl_tree.specs.declared.tree.BlockKind.TheVariants.{Trace, Stream, Event}
use Rattle.ctf_meaning.specs.Written.{BlockEntry, Declaration, Block, Table, Names}
use Rattle.ctf_meaning.specs.There.{first}
use Rattle.ctf_meaning.specs.Blocks.{is_trace}
use Rattle.ctf_meaning.specs.Reading.{declaration_of}
use Rattle.ctf_meaning.specs.Streams.{trace_of}
use Rattle.ctf_meaning.specs.Denotes.{trace_entries}
use Rattle.ctf_types.proofs.Numbers.{from, from_next, from_end, rest, rest_next}

-- the number of the first trace block from a number on
abbrev pub number_from : List TreeDeclaration → ℕ → Option ℕ
number_from ds i = option_map (λ p. p.0) (find (λ p. is_trace p.1) (from ds i))

abbrev pub entries_from : List TreeDeclaration → ℕ → Option (List BlockEntry)
entries_from ds i = first (filter_map trace_entries (rest ds i))

is_none : (d : Declaration) → trace_entries d ≡ None → is_trace d ≡ false
is_none (Block Trace es) h = absurd (grind (arith, h))
is_none (Block Stream es) h = refl
is_none (Block Event es) h = refl
is_none (Table kind settings) h = refl
is_none (Names item) h = refl

is_one : (d : Declaration) (es : List BlockEntry) → trace_entries d ≡ Some es → is_trace d ≡ true
is_one (Block Trace fs) es h = refl
is_one (Block Stream fs) es h = absurd (grind (arith, h))
is_one (Block Event fs) es h = absurd (grind (arith, h))
is_one (Table kind settings) es h = absurd (grind (arith, h))
is_one (Names item) es h = absurd (grind (arith, h))

-- all that is before is passed over
pub record Passed (ds : List TreeDeclaration) (i : ℕ) : Type 0 where
  pub number : trace_of (map declaration_of ds) ≡ number_from ds i
  pub entries : first (filter_map trace_entries (map declaration_of ds)) ≡ entries_from ds i

pub passed_one : (ds : List TreeDeclaration) (i : ℕ) (d : TreeDeclaration) → i < length ds → d ≡ get_or ds i d → trace_entries (declaration_of d) ≡ None → Passed ds i → Passed ds (i + 1)
passed_one ds i d l e none p = record {
  number = p.number ∙ ap (λ ps. option_map (λ q. q.0) (find (λ q. is_trace q.1) ps)) (from_next ds i d l e)
      ∙ ap (λ b. option_map (λ q. q.0) (if b then Some (i, declaration_of d) else find (λ q. is_trace q.1) (from ds (i + 1)))) (is_none (declaration_of d) none);
  entries = p.entries ∙ ap (λ ps. first (filter_map trace_entries ps)) (rest_next ds i d l e)
      ∙ ap (λ o. first (cons_option o (filter_map trace_entries (rest ds (i + 1))))) none;
}

pub number_here : (ds : List TreeDeclaration) (i : ℕ) (d : TreeDeclaration) (es : List BlockEntry) → i < length ds → d ≡ get_or ds i d → trace_entries (declaration_of d) ≡ Some es → Passed ds i →
    trace_of (map declaration_of ds) ≡ Some i
number_here ds i d es l e some p =
    p.number ∙ ap (λ ps. option_map (λ q. q.0) (find (λ q. is_trace q.1) ps)) (from_next ds i d l e)
    ∙ ap (λ b. option_map (λ q. q.0) (if b then Some (i, declaration_of d) else find (λ q. is_trace q.1) (from ds (i + 1)))) (is_one (declaration_of d) es some)

pub entries_here : (ds : List TreeDeclaration) (i : ℕ) (d : TreeDeclaration) (es : List BlockEntry) → i < length ds → d ≡ get_or ds i d → trace_entries (declaration_of d) ≡ Some es → Passed ds i →
    first (filter_map trace_entries (map declaration_of ds)) ≡ Some es
entries_here ds i d es l e some p =
    p.entries ∙ ap (λ ps. first (filter_map trace_entries ps)) (rest_next ds i d l e)
    ∙ ap (λ o. first (cons_option o (filter_map trace_entries (rest ds (i + 1))))) some

pub none_here : (ds : List TreeDeclaration) (i : ℕ) → length ds ≤ i → Passed ds i → trace_of (map declaration_of ds) ≡ None
none_here ds i h p = p.number ∙ ap (λ ps. option_map (λ q. q.0) (find (λ q. is_trace q.1) ps)) (from_end ds i h)
