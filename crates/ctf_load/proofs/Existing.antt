-- Metadata denotes a trace class, or has a fault.
use Rattle.std.proofs.Common.{◌≡◌, ◌⊎◌, ⊎_elim, ℕ, ◌≤◌, false, List, [], ◌∷◌, ◌++◌, map, length, Option, Some, None, inl, inr, refl, sym, ap, subst, arith}
use Rattle.std.specs.List.{AllByRecursion}
use Rattle.std.specs.Prelude.{option_to_list, option_map}
use Rattle.ctf_class.specs.declared.trace.TraceClass.{TraceClass}
use Rattle.ctf_meaning.proofs.Classes.{class_or_fault}
use Rattle.ctf_meaning.proofs.Named.{faults_are_named}
use Rattle.ctf_meaning.specs.Denotes.{Faulty}
use Rattle.ctf_meaning.specs.declared.fault.ResolveFault.{ResolveFault}
use Rattle.ctf_meaning.specs.declared.fault.ResolveFault.TheVariants as resolve
use Rattle.ctf_faults.specs.Table.{is_refusal, is_resolve_refusal}
use Rattle.ctf_faults.specs.declared.load.LoadFault.{LoadFault}
use Rattle.ctf_faults.specs.declared.load.LoadFault.TheVariants as load
use Rattle.tsdl_grammar.proofs.LawsComplete.{tree_or_not}
use Rattle.tsdl_grammar.specs.Nesting.{NestsDeeper}
use Rattle.tsdl_grammar.specs.Spelling.{Spells, last_line}
use Rattle.tsdl_parse.specs.declared.fault.SyntaxFault.TheVariants as syntax
use Rattle.tsdl_parse.specs.declared.metadata.TheConstants.{BRACE_LIMIT}
use Rattle.tsdl_text.proofs.PacketLaws.{text_or_broken}
use Rattle.tsdl_text.proofs.TextLaws.{lexes_or_not}
use Rattle.tsdl_text.specs.Packets.{MetaText}
use Rattle.tsdl_text.specs.Tokens.{Piece, Lexeme, lexeme, lexemes, Lexes, line_after}
use Rattle.tsdl_text.specs.declared.fault.MetaFault.TheVariants as meta
use Rattle.tsdl_text.specs.declared.token.TokenKind.{TokenKind}
use Rattle.tsdl_text.specs.declared.token.Token.{Token}
use Rattle.tsdl_tree.specs.declared.tree.Tree.{Tree}
use Rattle.ctf_load.specs.Laws.{ClassOrFault}
use Rattle.ctf_load.specs.Loading.{HasTokens, Describes, IsBroken}
use Rattle.ctf_load.proofs.Breaks.{broken_is_told}

-- ---- tokens of these slices

abbrev token_of : Lexeme → Token
token_of l = record { kind = l.kind; text = record { ref_ptr = (0, 0); now = l.bytes }; start = l.start; line = l.line }

same_lexemes : (ls : List Lexeme) → map lexeme (map token_of ls) ≡ ls
same_lexemes [] = refl
same_lexemes (l ∷ ls) = ap (λ more. l ∷ more) (same_lexemes ls)

-- ---- their lines are from 1 on

abbrev FromOne : List Lexeme → Type 0
FromOne ls = AllByRecursion (λ l. 1 ≤ l.line) ls

with_piece : (front bytes : List ℕ) (kind : Option TokenKind) (more : List Lexeme) → FromOne more
    → FromOne (option_to_list (option_map (λ k. record { kind = k; bytes = bytes; start = length front; line = line_after front }) kind) ++ more)
with_piece front bytes None more h = h
with_piece front bytes (Some kind) more h = (omega arith, h)

from_one : (front : List ℕ) (pieces : List Piece) → FromOne (lexemes front pieces)
from_one front [] = tt
from_one front (piece ∷ pieces) = with_piece front piece.bytes piece.kind (lexemes (front ++ piece.bytes) pieces) (from_one (front ++ piece.bytes) pieces)

last_from_one : (ls : List Lexeme) → FromOne ls → 1 ≤ last_line (map token_of ls)
last_from_one [] h = omega arith
last_from_one (l ∷ []) h = h.0
last_from_one (l ∷ (m ∷ ls)) h = last_from_one (m ∷ ls) h.1

-- ---- from the text on

abbrev Answered : List ℕ → Type 0
Answered bytes = ((trace : TraceClass) × Describes bytes trace) ⊎ ((fault : LoadFault) × IsBroken bytes fault × (is_refusal fault ≡ false))

told_by_rule : (tree : Tree) (fault : ResolveFault) → Faulty tree fault → is_resolve_refusal fault ≡ false
told_by_rule tree resolve.UnknownType told = refl
told_by_rule tree resolve.DeclaredTwice told = refl
told_by_rule tree resolve.Attribute told = refl
told_by_rule tree resolve.FloatingPoint told = refl
told_by_rule tree resolve.SizeOrAlignment told = refl
told_by_rule tree resolve.LengthOrTag told = refl
told_by_rule tree resolve.Clock told = refl
told_by_rule tree resolve.Twice told = refl
told_by_rule tree resolve.TooDeep told = refl
told_by_rule tree resolve.NoMemory told = absurd (faults_are_named tree told)

module _ (bytes text : List ℕ) (is_text : MetaText bytes text) where
  by_tree : (tokens : List Token) → HasTokens bytes text tokens → (tree : Tree) → Spells tree tokens → (NestsDeeper BRACE_LIMIT tokens → ⊥) → Answered bytes
  by_tree tokens has tree spelled shallow =
      ⊎_elim
      (λ c. inl (c.0, (text, (tokens, (tree, record { has_tokens = has; spelled = spelled; shallow = shallow }, c.1)))))
      (λ f. inr (load.Meaning f.0, (text, (tokens, (tree, record { has_tokens = has; spelled = spelled; shallow = shallow }, inr f.1))), told_by_rule tree f.0 f.1))
      (class_or_fault tree)

  by_tokens : (ls : List Lexeme) → Lexes text ls → Answered bytes
  by_tokens ls lexes =
      let tokens : List Token = map token_of ls in
      let has : HasTokens bytes text tokens = record { is_text = is_text; lexes = subst (Lexes text) (sym (same_lexemes ls)) lexes } in
      let from : FromOne ls = subst FromOne (sym lexes.tokens_are) (from_one [] lexes.pieces) in
      ⊎_elim
      (λ spelled. by_tree tokens has spelled.0 spelled.1 spelled.2)
      (λ refused. ⊎_elim
      (λ none. inr (load.Syntax (syntax.Syntax (last_line tokens)), (text, (tokens, has, (none, last_from_one ls from, omega arith))), refl))
      (λ deeper. inr (load.Syntax syntax.TooDeep, (text, (tokens, has, deeper)), refl))
      refused)
      (tree_or_not BRACE_LIMIT tokens)

  by_text : Answered bytes
  by_text = ⊎_elim (λ t. by_tokens t.0 t.1) (λ n. inr (load.Text (meta.NoToken n.0), (text, is_text, n.1), refl)) (lexes_or_not text)

pub class_or_fault_of : ClassOrFault
class_or_fault_of bytes =
    ⊎_elim (λ t. by_text bytes t.0 t.1) (λ f. let told = broken_is_told bytes f.0 f.1 in inr (load.Metadata f.0, told.0, told.1)) (text_or_broken bytes)
