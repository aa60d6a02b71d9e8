use Rattle.std.proofs.Common.{map}
use Rattle.std.specs.String.{string_bytes}
use Rattle.clap.specs.Words.{found_of, rows_of}
use Rattle.ctf_options.proofs.Outcomes.{outcome}
use Rattle.ctf_options.proofs.arguments.options_of.Goals as goal

pub returns : goal.returns
returns c = outcome (map string_bytes c.args.words.now) (rows_of (found_of c.in_ok-matches.matches)) c.options_in.result c.in_ok-matches.ensures.0 c.in_ok-matches.ensures.1 c.options_in.ensures
