-- What a decoded value is, by the function on lists.
use Rattle.std.specs.Prelude.{◌≡◌, Result, Ok, Err}
use Rattle.ctf_decode.specs.Values.{Val}
use Rattle.ctf_decode.specs.Views.{val}
use Rattle.ctf_decode.specs.Walk.{Step}
use Rattle.ctf_decode.specs.Gives.{Fails}
use Rattle.ctf_decode.specs.declared.decoding.Decoded.{Decoded}
use Rattle.ctf_decode.specs.declared.fault.DecodeFault.{DecodeFault}

-- the value that is there, or its fault, unless memory runs out
abbrev pub Decodes : Result Decoded DecodeFault → Step Val → Type 0
Decodes (Ok d) step = step ≡ Ok (val d.value, d.end, d.spent)
Decodes (Err fault) step = Fails fault step
