-- What the code's classes, values and packets say.
use Rattle.std.specs.Prelude.{ℕ, List, [], ◌∷◌, map, option_map, Option}
use Rattle.ctf_class.specs.declared.route.Scope.{Scope}
use Rattle.ctf_class.specs.declared.class.Class.{Class, fold-Class}
use Rattle.ctf_class.specs.declared.class.Kind.TheOpen.{Class-F, Kind-F, Member-F}
use Rattle.ctf_class.specs.declared.class.Kind.{Kind, fold-Kind}
use Rattle.ctf_class.specs.declared.class.Member.{Member, fold-Member}
use Rattle.ctf_decode.specs.Values.{Val, unsigned, signed, label, text, group, list, choice, vals_of}
use Rattle.ctf_decode.specs.Forms as forms
use Rattle.ctf_decode.specs.Forms.{Form, Part, parts_of}
use Rattle.ctf_decode.specs.Input.{Input, Env}
use Rattle.ctf_decode.specs.Known.{Known, value_at}
use Rattle.ctf_decode.specs.declared.value.Value.{Value, fold-Value}
use Rattle.ctf_decode.specs.declared.value.Value.TheOpen.{Value-F}
use Rattle.ctf_decode.specs.declared.place.Packet.{Packet}
use Rattle.ctf_decode.specs.declared.place.Frame.{Frame, fold-Frame}
use Rattle.ctf_decode.specs.declared.place.Frame.TheOpen.{Frame-F}
use Rattle.ctf_decode.specs.declared.scopes.TheConstants.{MOST_VALUES}

abbrev pub class_step : Class-F (ℕ → Form) Form Part → Form
class_step c = c.kind c.align

abbrev pub kind_step : Kind-F (ℕ → Form) Form Part → ℕ → Form
kind_step (Kind-F.Integer i) a = forms.integer a i
kind_step (Kind-F.Enumeration i labels) a = forms.enumeration a i
kind_step Kind-F.String a = forms.string a
kind_step (Kind-F.Structure ms) a = forms.structure a (parts_of ms)
kind_step (Kind-F.Variant tag choices ms) a = forms.variant a tag choices (parts_of ms)
kind_step (Kind-F.Array many k) a = forms.array a many k
kind_step (Kind-F.Text many) a = forms.text a many

abbrev pub member_step : Member-F (ℕ → Form) Form Part → Part
member_step m = (m.name, m.class)

-- a class
abbrev pub form : Class → Form
form = fold-Class (ℕ → Form) Form Part kind_step class_step member_step

-- what a class of an alignment is
abbrev pub shape : Kind → ℕ → Form
shape = fold-Kind (ℕ → Form) Form Part kind_step class_step member_step

-- a named class
abbrev pub member_part : Member → Part
member_part = fold-Member (ℕ → Form) Form Part kind_step class_step member_step

abbrev pub val_step : Value-F Val → Val
val_step (Value-F.Unsigned n) = unsigned n
val_step (Value-F.Signed z) = signed z
val_step (Value-F.Label z) = label z
val_step (Value-F.Text bytes) = text bytes
val_step (Value-F.Group vs) = group (vals_of vs)
val_step (Value-F.List vs) = list (vals_of vs)
val_step (Value-F.Choice i v) = choice i v

-- a value
abbrev pub val : Value → Val
val = fold-Value Val val_step

-- the values of the scopes
abbrev pub earlier : Known → Scope → Option Val
earlier known scope = option_map val (value_at known scope)

abbrev pub env_step : Frame-F Env → Env
env_step Frame-F.Top = []
env_step (Frame-F.Within vs outer) = map val vs.now ∷ outer.now

-- the earlier members of the structures around a value
abbrev pub env : Frame → Env
env = fold-Frame Env env_step

-- a packet's bytes and the values of scopes, as what is decoded from
abbrev pub input_in : List ℕ → ℕ → Known → Input
input_in packet content known =
    record { packet = packet; content = content; earlier = earlier known; limit = MOST_VALUES }

abbrev pub input : Packet → Input
input p = input_in p.bytes.now p.content p.scopes.now
