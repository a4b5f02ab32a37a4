-- A way is a list of literals; a record holds one in the first of its places.
use Rattle.std.specs.Prelude.{min, List, take}
use Rattle.rack.specs.declared.part.Literal.{Literal}
use Rattle.rack.specs.declared.way.WayRecord.{WayRecord}

abbrev pub Way : Type 0
Way = List Literal

abbrev pub way_of : WayRecord → Way
way_of r = take (min r.count 24) r.places
