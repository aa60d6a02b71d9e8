use Rattle.std.proofs.Common.{◌≡◌, drop}
use Rattle.std.specs.List.{list_any}
use Rattle.std.specs.String.{string_bytes}
use Rattle.ctf_options.specs.Command.{is_help}
use Rattle.ctf_options.proofs.command.any_asks.Given as goal

abbrev pub invariant-loop-word : goal.invariant-loop-word
invariant-loop-word l = list_any (λ word. is_help (string_bytes word)) (drop l.word-index l.words) ≡ list_any (λ word. is_help (string_bytes word)) l.words
