-- Where a class is, as the code keeps it.
use Rattle.std.specs.Prelude.{List, [], ◌∷◌, map, take, Some, None, option_copied, false}
use Rattle.ctf_class.specs.declared.route.Scope.{Scope}
use Rattle.ctf_meaning.specs.Shapes.{Field, fields_in}
use Rattle.ctf_meaning.specs.Paths as paths
use Rattle.ctf_declared_class.specs.Views.{members}
use Rattle.ctf_paths.specs.Names.{name_of}
use Rattle.ctf_paths.specs.declared.spot.EarlierStructure.{EarlierStructure}
use Rattle.ctf_paths.specs.declared.spot.PathStructure.{PathStructure}
use Rattle.ctf_paths.specs.declared.spot.OuterStructures.{OuterStructures, fold-OuterStructures}
use Rattle.ctf_paths.specs.declared.spot.OuterStructures.TheOpen.{OuterStructures-F}
use Rattle.ctf_paths.specs.declared.spot.Spot.{Spot}

-- the structure of a scope before, which has no scope's name in its own
abbrev pub earlier_by : EarlierStructure → paths.Frame
earlier_by e = record {
  scope = e.scope;
  name = Some [];
  fields = fields_in (members e.members.now);
}

-- a structure with those of its members that are before a path
abbrev pub frame_by : PathStructure → paths.Frame
frame_by f = record {
  scope = f.scope;
  name = name_of f.name;
  fields = take f.count (fields_in (members f.members.now));
}

abbrev pub around_step : OuterStructures-F (List paths.Frame) → List paths.Frame
around_step OuterStructures-F.Outside = []
around_step (OuterStructures-F.Inside frame outer) = frame_by frame ∷ outer.now

-- the structures around a class
abbrev pub frames_around : OuterStructures → List paths.Frame
frames_around = fold-OuterStructures (List paths.Frame) around_step

abbrev pub spot_by : Spot → paths.Spot
spot_by s = record {
  scope = s.scope;
  around = frames_around s.around.now;
  before = map earlier_by s.before.now;
  member = option_copied s.member;
  is_top = s.is_top;
  name = name_of s.name;
}

-- the structure at a spot, with some of its members
abbrev pub frame_in : paths.Spot → List Field → paths.Frame
frame_in spot earlier = record { scope = spot.scope; name = spot.name; fields = earlier }

-- the spot of a scope's own class, after the structures of the scopes before
abbrev pub scope_spot : Scope → List paths.Frame → paths.Spot
scope_spot scope before = record {
  scope = scope;
  around = [];
  before = before;
  member = None;
  is_top = false;
  name = Some [];
}
