-- What a reading of a line answers, by contents: a frame by its place and its digits, a way by its literals.
use Rattle.std.specs.Prelude.{ℕ, List, Ok, Err, Result}
use Rattle.rack.specs.declared.refusal.Refusal.{Refusal}
use Rattle.rack.specs.declared.way.WayRecord.{WayRecord}
use Rattle.rack.specs.Way.{Way, way_of}
use Rattle.text.specs.declared.frame.Frame.{Frame}
use Rattle.text.specs.declared.frame.Frame.TheVariants as frame
use Rattle.text.specs.Frames.{Seen, Seen.start, Seen.way, Seen.end}

-- the digits after the kind, as they stand in the line
abbrev pub digits_of : Frame → List ℕ
digits_of (frame.Start p ds) = ds.now
digits_of (frame.Way p ds) = ds.now
digits_of (frame.End p ds) = ds.now

abbrev pub seen_frame : Frame → Seen
seen_frame (frame.Start p ds) = start p ds.now
seen_frame (frame.Way p ds) = way p ds.now
seen_frame (frame.End p ds) = end p ds.now

abbrev pub seen : Result Frame Refusal → Result Seen Refusal
seen (Ok f) = Ok (seen_frame f)
seen (Err e) = Err e

-- places beyond a way's own are open
abbrev pub way_read : Result WayRecord Refusal → Result Way Refusal
way_read (Ok r) = Ok (way_of r)
way_read (Err e) = Err e
