-- Which files of a trace are streams (own).
use Rattle.std.specs.Prelude.{◌==◌, ◌&&◌, ℕ, Bool, not, List, codes, slice_index}
use Rattle.std.specs.Str.{bytes_eq}

-- neither `metadata` nor a name that begins with a dot
abbrev pub is_stream : List ℕ → Bool
is_stream name = not (bytes_eq name (codes "metadata")) && not (slice_index name 0 == 46)
