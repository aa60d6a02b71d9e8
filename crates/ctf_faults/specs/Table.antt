-- The codes and texts of faults (own).
use Rattle.std.specs.Prelude.{ℕ, List, ◌++◌, codes, Bool, true, false}
use Rattle.std.specs.Fmt.{decimal}
use Rattle.ctf_meaning.specs.declared.fault.ResolveFault.{ResolveFault}
use Rattle.ctf_meaning.specs.declared.fault.ResolveFault.TheVariants as resolve
use Rattle.ctf_packet.specs.declared.fault.StreamFault.{StreamFault}
use Rattle.ctf_packet.specs.declared.fault.StreamFault.TheVariants as streams
use Rattle.tsdl_parse.specs.declared.fault.SyntaxFault.{SyntaxFault}
use Rattle.tsdl_parse.specs.declared.fault.SyntaxFault.TheVariants as syntax
use Rattle.tsdl_text.specs.declared.fault.MetaFault.{MetaFault}
use Rattle.tsdl_text.specs.declared.fault.MetaFault.TheVariants as meta
use Rattle.ctf_faults.specs.declared.load.LoadFault.{LoadFault}
use Rattle.ctf_faults.specs.declared.load.LoadFault.TheVariants.{Metadata, Text, Syntax, Meaning}

-- out of memory is no fault: it has a line of its own, printed by the program
abbrev pub no_memory : List ℕ
no_memory = codes "O2: no memory"

abbrev pub at_line : ℕ → List ℕ
at_line number = codes " at line " ++ decimal number

abbrev pub meta_text : MetaFault → List ℕ
meta_text meta.CutShort = codes "M1: metadata packet cut short or sizes wrong"
meta_text meta.WrongMagic = codes "M2: metadata magic is wrong"
meta_text meta.SchemeUnsupported = codes "M3: metadata scheme not supported"
meta_text meta.WrongVersion = codes "M4: metadata version is not 1.8"
meta_text meta.UuidDiffers = codes "M5: metadata uuid differs"
meta_text meta.TooLong = codes "M6: metadata too long"
meta_text (meta.NoToken line) = codes "S1: no token" ++ at_line line
meta_text meta.NoMemory = no_memory

abbrev pub syntax_text : SyntaxFault → List ℕ
syntax_text (syntax.Syntax line) = codes "S2: syntax error" ++ at_line line
syntax_text syntax.TooDeep = codes "R9: nested too deep or too many classes"
syntax_text syntax.NoMemory = no_memory

abbrev pub resolve_text : ResolveFault → List ℕ
resolve_text resolve.UnknownType = codes "R1: unknown type"
resolve_text resolve.DeclaredTwice = codes "R2: name declared twice"
resolve_text resolve.Attribute = codes "R3: attribute missing or impossible"
resolve_text resolve.FloatingPoint = codes "R4: floating-point class"
resolve_text resolve.SizeOrAlignment = codes "R5: size or alignment impossible"
resolve_text resolve.LengthOrTag = codes "R6: length or tag not found or not fitting"
resolve_text resolve.Clock = codes "R7: clock unknown or several clocks"
resolve_text resolve.Twice = codes "R8: id or block twice"
resolve_text resolve.TooDeep = codes "R9: nested too deep or too many classes"
resolve_text resolve.NoMemory = no_memory

abbrev pub load_text : LoadFault → List ℕ
load_text (Metadata fault) = meta_text fault
load_text (Text fault) = meta_text fault
load_text (Syntax fault) = syntax_text fault
load_text (Meaning fault) = resolve_text fault

abbrev pub stream_text : StreamFault → List ℕ
stream_text streams.CutShort = codes "F1: packet cut short"
stream_text streams.WrongMagic = codes "F2: packet magic is wrong"
stream_text streams.OtherTrace = codes "F3: packet uuid differs"
stream_text streams.UnknownStream = codes "F4: no such stream class"
stream_text streams.ImpossibleSizes = codes "F5: impossible packet sizes"
stream_text streams.ContentEnds = codes "F6: content ends inside a field"
stream_text streams.UnknownEvent = codes "F7: no such event class"
stream_text streams.NoOption = codes "F8: no option for the tag"
stream_text streams.ClockRefused = codes "F9: clock falls or leaves its range"
stream_text streams.EmptyEvent = codes "F10: event of zero bits"
stream_text streams.TooManyValues = codes "F11: too many values"
stream_text streams.ReadFailed = codes "F13: read failed"
stream_text streams.StreamTooLong = codes "F14: stream too long"
stream_text streams.NoMemory = no_memory

-- out of memory, in each part
abbrev pub is_meta_refusal : MetaFault → Bool
is_meta_refusal meta.CutShort = false
is_meta_refusal meta.WrongMagic = false
is_meta_refusal meta.SchemeUnsupported = false
is_meta_refusal meta.WrongVersion = false
is_meta_refusal meta.UuidDiffers = false
is_meta_refusal meta.TooLong = false
is_meta_refusal (meta.NoToken line) = false
is_meta_refusal meta.NoMemory = true

abbrev pub is_syntax_refusal : SyntaxFault → Bool
is_syntax_refusal (syntax.Syntax line) = false
is_syntax_refusal syntax.TooDeep = false
is_syntax_refusal syntax.NoMemory = true

abbrev pub is_resolve_refusal : ResolveFault → Bool
is_resolve_refusal resolve.UnknownType = false
is_resolve_refusal resolve.DeclaredTwice = false
is_resolve_refusal resolve.Attribute = false
is_resolve_refusal resolve.FloatingPoint = false
is_resolve_refusal resolve.SizeOrAlignment = false
is_resolve_refusal resolve.LengthOrTag = false
is_resolve_refusal resolve.Clock = false
is_resolve_refusal resolve.Twice = false
is_resolve_refusal resolve.TooDeep = false
is_resolve_refusal resolve.NoMemory = true

abbrev pub is_refusal : LoadFault → Bool
is_refusal (Metadata fault) = is_meta_refusal fault
is_refusal (Text fault) = is_meta_refusal fault
is_refusal (Syntax fault) = is_syntax_refusal fault
is_refusal (Meaning fault) = is_resolve_refusal fault
