use Rattle.std.proofs.Common.{refl, sym}
use Rattle.jiff_core.specs.DateTime.{civil_nanos}
use Rattle.ctf_timestamp.proofs.Shown.{time_shown, date_shown, nanos_shown}
use Rattle.ctf_timestamp.proofs.laws.civil_times_are_shown.Goals as goal

pub returns : goal.returns
returns c = λ dt. record {
  time = sym (time_shown dt (civil_nanos dt) refl);
  date = sym (date_shown dt (civil_nanos dt) refl);
  nanos = nanos_shown dt (civil_nanos dt) refl;
}
