-- The three calls and the close, one after another, as `decomposing` has them.
use Rattle.std.proofs.Common.{◌≡◌, ℕ, ◌+◌, ◌≤◌, List, length, Ok, Continue, Result, sym, ap, ◌∙◌, arith}
use Rattle.std.proofs.lemmas.List.{length-map}
use Rattle.rack.specs.declared.part.Literal.{Literal}
use Rattle.rack.specs.declared.part.Part.{Part}
use Rattle.rack.specs.Way.{Way}
use Rattle.table.specs.Kept.{literals}
use Rattle.definitions.specs.declared.operand.Operand.{Operand}
use Rattle.definitions.specs.declared.draft.Draft.{Draft}
use Rattle.definitions.specs.declared.draft.LimitReached.{LimitReached}
use Rattle.definitions.specs.Combine.{Writing, and_then}
use Rattle.definitions.specs.Writing.{Wrote}
use Rattle.definitions.proofs.Written.{chain, like}
use Rattle.working.specs.declared.record.WorkingRecord.{WorkingRecord}
use Rattle.working.specs.Records.{way_in, ways_in, size}
use Rattle.decomposition.specs.Decomposition.{working_of, out_of, under, beside, start_of, closing, by_part, decomposing}
use Rattle.decomposition.proofs.Parted.{under_small}
use Rattle.decomposition.proofs.Fuel.{decomposed_by_part}

-- what is left of the room serves the ways that hold h, which were moved to its front
pub spare_serves : (h : Literal) (ws : List Way) (front spare : List WorkingRecord) {n big : ℕ} → ways_in front ≡ under h ws → length front ≡ n → length spare + n ≡ big → literals ws ≤ big → literals (ways_in front) ≤ length spare
spare_serves h ws front spare e l s le = omega (arith, under_small h ws, ap size e, length-map front way_in)

-- what is written next is told by the limit of the draft that it finds, which is the one before
pub next : {was mid after : Draft} {F : Writing} {x : Operand} {q : Result Operand LimitReached} (G : ℕ → Operand → Writing) → Wrote was mid (Ok x) F → Wrote mid after q (G mid.limit x) → Wrote was after q (and_then F (G was.limit))
next {was} {x = x} G a b = chain (G was.limit) a (like (ap (λ l. G l x) (sym a.grown.limit)) b)

-- the same ways under another name
pub told : {was after : Draft} {q : Result Operand LimitReached} {us vs : List Way} → us ≡ vs → Wrote was after q (decomposing was.limit us) → Wrote was after q (decomposing was.limit vs)
told {was} e w = like (ap (decomposing was.limit) (sym e)) w

-- what is left to write: after the first three; after those that hold v working and out; after those that hold it working
abbrev pub last : Part → Operand → Operand → ℕ → Operand → Writing
last v a b limit c = closing limit v a b c

abbrev pub third : Part → List Way → Operand → ℕ → Operand → Writing
third v others a limit b = and_then (decomposing limit (beside (out_of v) others)) (last v a b limit)

abbrev pub second : Part → List Way → ℕ → Operand → Writing
second v others limit a = and_then (decomposing limit (under (out_of v) others)) (third v others a limit)

-- v is the part that comes first in ws, and what is written of the three kinds is what is written of ws
pub whole : (v : Part) (ws : List Way) {others : List Way} {was after : Draft} {q : Result Operand LimitReached} → Continue v ≡ start_of ws → others ≡ beside (working_of v) ws → Wrote was after q (by_part was.limit (decomposing was.limit) v ws others) → Wrote was after q (decomposing was.limit ws)
whole v ws {was = was} e o w = like (decomposed_by_part was.limit v ws e ∙ ap (by_part was.limit (decomposing was.limit) v ws) (sym o)) w
