-- What the code's known classes and fields say.
use Rattle.ctf_meaning.specs.Shapes as plain
use Rattle.ctf_declared_class.specs.declared.known.Known.{Known}
use Rattle.ctf_declared_class.specs.declared.known.KnownMember.{KnownMember}
use Rattle.ctf_declared_class.specs.Views.{shape}

-- a class
abbrev pub known : Known → plain.Shape
known k = shape k.shape

-- a member or an option
abbrev pub field : KnownMember → plain.Field
field f = record { name = f.name; shape = known f.known }
