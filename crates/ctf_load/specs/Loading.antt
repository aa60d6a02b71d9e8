-- What the bytes of metadata say.
use Rattle.std.specs.Prelude.{◌≡◌, ◌⊎◌, ℕ, List, map}
use Rattle.ctf_class.specs.declared.trace.TraceClass.{TraceClass}
use Rattle.ctf_meaning.specs.Denotes.{Denotes, Faulty}
use Rattle.ctf_meaning.specs.declared.fault.ResolveFault.TheVariants as resolve
use Rattle.tsdl_grammar.specs.Nesting.{NestsDeeper}
use Rattle.tsdl_grammar.specs.Spelling.{Spells}
use Rattle.tsdl_parse.specs.declared.metadata.TheConstants.{BRACE_LIMIT}
use Rattle.tsdl_parse.specs.Fault.{IsCause}
use Rattle.tsdl_text.specs.Packets.{MetaText, MetaRefused}
use Rattle.tsdl_text.specs.Tokens.{lexeme, Lexes, TokensRefused}
use Rattle.tsdl_text.specs.declared.token.Token.{Token}
use Rattle.tsdl_tree.specs.declared.tree.Tree.{Tree}
use Rattle.ctf_faults.specs.declared.load.LoadFault.{LoadFault}
use Rattle.ctf_faults.specs.declared.load.LoadFault.TheVariants as faults

-- the bytes are this text, plain or in packets (CTF 1.8.3, section 7.1), which has these tokens
pub record HasTokens (bytes text : List ℕ) (tokens : List Token) : Type 0 where
  pub is_text : MetaText bytes text
  pub lexes : Lexes text (map lexeme tokens)

-- they spell this tree, and their braces nest no deeper than the limit
pub record HasTree (bytes text : List ℕ) (tokens : List Token) (tree : Tree) : Type 0 where
  pub has_tokens : HasTokens bytes text tokens
  pub spelled : Spells tree tokens
  pub shallow : NestsDeeper BRACE_LIMIT tokens → ⊥

-- the syntax tree of metadata
abbrev pub Spelled : List ℕ → Tree → Type 0
Spelled bytes tree = (text : List ℕ) × ((tokens : List Token) × HasTree bytes text tokens tree)

-- the trace class that metadata denotes
abbrev pub Describes : List ℕ → TraceClass → Type 0
Describes bytes trace =
    (text : List ℕ)
    × ((tokens : List Token)
    × ((tree : Tree) × HasTree bytes text tokens tree × Denotes tree trace))

-- A fault of metadata: of its packets, or of its text, where that is known; of its tokens; or of what its tree means.
abbrev pub IsBroken : List ℕ → LoadFault → Type 0
IsBroken bytes (faults.Metadata fault) = MetaRefused bytes fault
IsBroken bytes (faults.Text fault) =
    (text : List ℕ) × MetaText bytes text × TokensRefused text fault
IsBroken bytes (faults.Syntax fault) =
    (text : List ℕ) × ((tokens : List Token) × HasTokens bytes text tokens × IsCause fault tokens)
IsBroken bytes (faults.Meaning fault) =
    (text : List ℕ)
    × ((tokens : List Token)
    × ((tree : Tree) × HasTree bytes text tokens tree
    × ((fault ≡ resolve.NoMemory) ⊎ Faulty tree fault)))
