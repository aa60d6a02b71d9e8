-- What all declarations of a text give.
use Rattle.std.specs.Prelude.{◌≡◌, List, length}
use Rattle.ctf_bits.specs.declared.number.Order.{Order}
use Rattle.ctf_meaning.specs.Written.{Declaration}
use Rattle.ctf_meaning.specs.Streams.{numbered, streams}
use Rattle.ctf_types.specs.declared.gather.TraceParts.{TraceParts}
use Rattle.ctf_types.specs.declared.linked.Linked.{Linked}
use Rattle.ctf_types.specs.Gathered.{AreLinked}
use Rattle.ctf_types.specs.Parted.{IsParted}

-- the parts hold what each declaration gives
pub record AllGiven (text : List Declaration) (order : Order) (parts : TraceParts) : Type 0 where
  pub rows : List Linked
  pub linked : AreLinked text order (numbered text) rows
  pub parted : IsParted rows parts
  pub lists : length parts.events ≡ length (streams text)
