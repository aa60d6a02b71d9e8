-- Declarations, one after another.
use Rattle.std.proofs.Common.{◌≡◌, ℕ, ◌+◌, ◌<◌, List, [], ◌∷◌, ◌++◌, map, take, drop, length, get_or, Result, Ok, ap, sym, ◌∙◌, subst}
use Rattle.std.proofs.lemmas.List.{map-append, take_more}
use Rattle.tsdl_tree.specs.declared.tree.BlockKind.{BlockKind}
use Rattle.tsdl_tree.specs.declared.tree.Declaration.{Declaration as TreeDeclaration}
use Rattle.ctf_meaning.specs.declared.fault.ResolveFault.{ResolveFault}
use Rattle.ctf_meaning.specs.Reading.{declaration_of}
use Rattle.ctf_meaning.specs.Written.{BlockEntry, Declaration, Block}
use Rattle.ctf_meaning.specs.Blocks.{block_faults, twice_faults}
use Rattle.ctf_meaning_steps.specs.Told.{Told, ◌>>=◌, unless, Follows}
use Rattle.ctf_meaning_steps.specs.Seen.{nothing_seen}
use Rattle.ctf_meaning_steps.specs.Blocks.{Walked, Placed, entries_told, placed, scopes_told, declaration_told, declarations_told}
use Rattle.ctf_declarations.specs.DeclaredSoFar.{classes_told, row_told}
use Rattle.ctf_declarations.proofs.Steps.{Tell, tell_same, bind_fault, bind_map, follows_same, follows_bind, follows_unless, drop_next}
use Rattle.ctf_declarations.proofs.Settled.{FirstOf, unless_more, unless_fault}

module _ (before : List Declaration) (w : Walked) (kind : BlockKind) (es : List BlockEntry) where
  abbrev wrong : List ResolveFault
  wrong = block_faults (Block kind es) ++ twice_faults before (Block kind es)

  abbrev rows : Told Walked
  rows = row_told w.own kind es >>= λ row. scopes_told w row

  block_split : unless wrong rows ≡ declaration_told before w (Block kind es)
  block_split =
      ap (unless wrong) (sym
      (bind_map (entries_told w.own (record { own = nothing_seen; classes = [] }) es) (λ held. held.classes) (λ cs. scopes_told w (placed kind cs))
      ∙ bind_map (classes_told w.own es) (placed kind) (scopes_told w)))
      ∙ unless_more (block_faults (Block kind es)) (twice_faults before (Block kind es))
      (entries_told w.own (record { own = nothing_seen; classes = [] }) es >>= λ held. scopes_told w (placed kind held.classes))

  pub block_follows : {V : Type 0} (view : V → Walked) (r : Result V ResolveFault) (row : List Placed) → wrong ≡ [] → row_told w.own kind es ≡ Ok row →
      Follows (scopes_told w row) view r → Follows (declaration_told before w (Block kind es)) view r
  block_follows view r row none e h = follows_same view r (unless wrong rows) _ block_split (follows_unless view r wrong rows none (follows_bind view r (row_told w.own kind es) (scopes_told w) row e h))

  pub block_wrong : (f : ResolveFault) → FirstOf wrong f → Tell (declaration_told before w (Block kind es)) f
  block_wrong f h = tell_same (unless wrong rows) _ f block_split (unless_fault wrong rows f h)

  pub row_wrong : (f : ResolveFault) → wrong ≡ [] → Tell (row_told w.own kind es) f → Tell (declaration_told before w (Block kind es)) f
  row_wrong f none h = tell_same (unless wrong rows) _ f block_split (subst (λ fs. Tell (unless fs rows) f) (sym none) (bind_fault (row_told w.own kind es) (scopes_told w) f h))

module _ (ds : List TreeDeclaration) (i : ℕ) (d : TreeDeclaration) (is : d ≡ get_or ds i d) (h : i < length ds) where
  pub one_after : map declaration_of (take i ds) ++ declaration_of d ∷ [] ≡ map declaration_of (take (i + 1) ds)
  one_after = sym (ap (map declaration_of) (take_more ds i d h ∙ ap (λ x. take i ds ++ x ∷ []) (sym is)) ∙ map-append declaration_of (take i ds) (d ∷ []))

  abbrev later : Walked → Told Walked
  later next = declarations_told (map declaration_of (take (i + 1) ds)) next (map declaration_of (drop (i + 1) ds))

  module _ (w : Walked) where
    split : declarations_told (map declaration_of (take i ds)) w (map declaration_of (drop i ds)) ≡ (declaration_told (map declaration_of (take i ds)) w (declaration_of d) >>= later)
    split =
        ap (λ l. declarations_told (map declaration_of (take i ds)) w (map declaration_of l)) (drop_next ds i d is h)
        ∙ ap (λ l. declaration_told (map declaration_of (take i ds)) w (declaration_of d) >>= λ next. declarations_told l next (map declaration_of (drop (i + 1) ds))) one_after

    pub text_next : (next : Walked) → declaration_told (map declaration_of (take i ds)) w (declaration_of d) ≡ Ok next →
        later next ≡ declarations_told (map declaration_of (take i ds)) w (map declaration_of (drop i ds))
    text_next next e = sym (split ∙ ap (λ t. t >>= later) e)

    pub text_fault : (f : ResolveFault) → Tell (declaration_told (map declaration_of (take i ds)) w (declaration_of d)) f →
        Tell (declarations_told (map declaration_of (take i ds)) w (map declaration_of (drop i ds))) f
    text_fault f e = tell_same (declaration_told (map declaration_of (take i ds)) w (declaration_of d) >>= later) _ f (sym split) (bind_fault (declaration_told (map declaration_of (take i ds)) w (declaration_of d)) later f e)
