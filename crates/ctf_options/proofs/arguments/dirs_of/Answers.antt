use Rattle.std.proofs.Common.{inr, refl}
use Rattle.clap.specs.Words.{found_of, rows_of}
use Rattle.ctf_options.proofs.Folders.{no_dirs, many_dirs, few_dirs}
use Rattle.ctf_options.proofs.arguments.dirs_of.Goals as goal

pub returns-in_default : goal.returns-in_default
returns-in_default c = inr (refl, no_dirs (rows_of (found_of c.args.matches.now)) c.in_default.ensures)

pub returns-then-dirs-gt-MOST_DIRS : goal.returns-then-dirs-gt-MOST_DIRS
returns-then-dirs-gt-MOST_DIRS c = inr (refl, many_dirs (rows_of (found_of c.args.matches.now)) c.in-Some.dirs.now c.in-Some.ensures c.if-dirs-gt-MOST_DIRS.true)

pub returns : goal.returns
returns c = few_dirs (rows_of (found_of c.args.matches.now)) c.in-Some.dirs.now c.in_ok-copies.field-0 c.in-Some.ensures c.in_ok-copies.ensures c.if-dirs-gt-MOST_DIRS.false
