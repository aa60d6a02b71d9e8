-- What is known of the values that lengths and tags are found at (all own).
use Rattle.std.specs.Prelude.{◌≡◌, Option, Some, ⊤}
use Rattle.ctf_class.specs.declared.route.Scope.{Scope}
use Rattle.ctf_class.specs.declared.route.Scope.TheVariants.{PacketHeader, PacketContext}
use Rattle.ctf_decode.specs.Known.{Known}
use Rattle.ctf_decode.specs.Values.{Val, unsigned, label}
use Rattle.ctf_decode.specs.Views as views
use Rattle.ctf_format.specs.declared.standing.Last.{Last}
use Rattle.ctf_format.specs.declared.standing.Last.TheVariants as lasts

-- what a route finds is this number, as far as it is known
abbrev pub Finds : Last → Option Val → Type 0
Finds lasts.Unknown found = ⊤
Finds (lasts.Unsigned n) found = found ≡ Some (unsigned n)
Finds (lasts.Label z) found = found ≡ Some (label z)

-- the values of the packet's header and context are those that are known
abbrev pub SharesPacket : Known → (Scope → Option Val) → Type 0
SharesPacket known earlier =
    (earlier PacketHeader ≡ views.earlier known PacketHeader)
    × (earlier PacketContext ≡ views.earlier known PacketContext)
