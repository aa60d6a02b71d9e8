use Rattle.std.proofs.Common.{refl}
use Rattle.clap.specs.Words.{found_of, rows_of}
use Rattle.ctf_options.proofs.Parts.{some_of, no_trim}
use Rattle.ctf_options.proofs.arguments.options_in.Goals as goal

pub returns-in_err-trim : goal.returns-in_err-trim
returns-in_err-trim c =
    let rows = rows_of (found_of c.args.matches.now) in
    no_trim rows c.in_ok-zone.zone c.from_residual-in_err-trim.result c.in_err-trim.field-0.0 c.from_residual-in_err-trim.ensures
    (rw (← c.flag-gmt.ensures, ← c.value.ensures) c.in_ok-zone.ensures)
    (rw (← c.value-begin.ensures, ← c.value-end.ensures, ← c.value-both.ensures) c.in_err-trim.ensures)

pub returns : goal.returns
returns c = record {
  dirs = c.in_ok-dirs.ensures;
  zone = rw (← c.flag-gmt.ensures, ← c.value.ensures) c.in_ok-zone.ensures;
  clock = rw (← c.flag-cycles.ensures, ← c.flag-date.ensures, ← c.flag-seconds.ensures) (some_of _ _ c.in_ok-clock.clock c.in_ok-clock.ensures);
  delta = rw (← c.flag-delta.ensures) refl;
  trim = rw (← c.value-begin.ensures, ← c.value-end.ensures, ← c.value-both.ensures) c.in_ok-trim.ensures;
  shift = rw (← c.value-shift_seconds.ensures, ← c.value-shift_nanos.ensures) (some_of _ _ c.in_ok-shift.shift c.in_ok-shift.ensures);
}
