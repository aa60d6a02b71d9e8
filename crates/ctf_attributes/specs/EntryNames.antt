-- Names with a meaning in the blocks of a trace, a stream and an event, by their words.
use Rattle.std.specs.Prelude.{codes}
use Rattle.ctf_meaning.specs.Name.{Words}
use Rattle.ctf_meaning.specs.Settings.{one}
use Rattle.ctf_meaning.specs.Blocks.{two}
use Rattle.ctf_attributes.specs.declared.entry_name.EntryName.{EntryName}
use Rattle.ctf_attributes.specs.declared.entry_name.EntryName.TheVariants.{Major, Minor, ByteOrder, Uuid, PacketHeader, Id, PacketContext, EventHeader, EventContext, Name, StreamId, Context, Fields}

-- (CTF 1.8.3, section 7.4 and appendix C.2.)
abbrev pub words_of : EntryName → Words
words_of Major = one (codes "major")
words_of Minor = one (codes "minor")
words_of ByteOrder = one (codes "byte_order")
words_of Uuid = one (codes "uuid")
words_of PacketHeader = two (codes "packet") (codes "header")
words_of Id = one (codes "id")
words_of PacketContext = two (codes "packet") (codes "context")
words_of EventHeader = two (codes "event") (codes "header")
words_of EventContext = two (codes "event") (codes "context")
words_of Name = one (codes "name")
words_of StreamId = one (codes "stream_id")
words_of Context = one (codes "context")
words_of Fields = one (codes "fields")
