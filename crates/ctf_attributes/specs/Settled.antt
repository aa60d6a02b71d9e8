-- What the settings of a trace and of an event say.
use Rattle.std.specs.Prelude.{◌≡◌, List, Some, option_and_then, codes}
use Rattle.ctf_meaning.specs.Written.{BlockEntry}
use Rattle.ctf_meaning.specs.There.{◌>>=◌}
use Rattle.ctf_meaning.specs.Settings.{text_of, count_of, trace_order_of}
use Rattle.ctf_meaning.specs.Blocks.{value_at, uuid_of, id_of}
use Rattle.ctf_attributes.specs.declared.trace.TraceSettings.{TraceSettings}
use Rattle.ctf_attributes.specs.declared.event.EventSettings.{EventSettings}

-- (CTF 1.8.3, section 7.4 and appendix C.2.)
pub record IsTrace (entries : List BlockEntry) (trace : TraceSettings) : Type 0 where
  pub order : (value_at entries (codes "byte_order") >>= trace_order_of) ≡ Some trace.order
  pub uuid : trace.uuid ≡ option_and_then uuid_of (value_at entries (codes "uuid"))

-- (CTF 1.8.3, section 7.4 and appendix C.2.)
pub record IsEvent (entries : List BlockEntry) (event : EventSettings) : Type 0 where
  pub id : id_of entries ≡ Some event.id
  pub name : (value_at entries (codes "name") >>= text_of) ≡ Some event.name
  pub stream_id : event.stream_id ≡ option_and_then count_of (value_at entries (codes "stream_id"))
