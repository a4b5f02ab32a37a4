-- The same rule over the records of a trie: the record at place i leads to node i + 1, and node 0 is the root.
-- A branch says that a way goes on from a node by a literal, and an end that a way ends at a node.
use Rattle.std.specs.Prelude.{ℕ, zero, suc, ◌+◌, Bool, true, false, ◌&&◌, List, [], ◌∷◌, ◌++◌, length, Some, None, Option, ◌==◌}
use Rattle.std.specs.List.{list_any, position}
use Rattle.rack.specs.declared.part.Literal.{Literal}
use Rattle.rack.specs.Way.{Way}
use Rattle.table.specs.Kept.{same_literal}
use Rattle.definitions.specs.declared.operand.Operator.TheVariants.{Meet, Join}
use Rattle.definitions.specs.declared.operand.Operand.{Operand}
use Rattle.definitions.specs.declared.operand.Operand.TheVariants.{Never, Always}
use Rattle.definitions.specs.Combine.{Writing, give, and_then, choose, combining}
use Rattle.working.specs.declared.record.WorkingRecord.{WorkingRecord}
use Rattle.working.specs.declared.record.WorkingRecord.TheVariants as record_of
use Rattle.working.specs.Records.{operand_of}

-- a branch or an end, and no way
abbrev pub is_mark : WorkingRecord → Bool
is_mark (record_of.Way left) = false
is_mark _ = true

-- two branches of one node by one literal, or two ends at one node
abbrev pub same_mark : WorkingRecord → WorkingRecord → Bool
same_mark (record_of.Branch p l) (record_of.Branch q k) = p.0 == q.0 && same_literal l k
same_mark (record_of.End p) (record_of.End q) = p.0 == q.0
same_mark _ _ = false

-- a branch of node n
abbrev pub branch_at : ℕ → Literal → WorkingRecord
branch_at n l = record_of.Branch (record { 0 = n }) l

-- the end at node n
abbrev pub end_at : ℕ → WorkingRecord
end_at n = record_of.End (record { 0 = n })

-- a node, and the records then
pub record Reached : Type 0 where
  pub node : ℕ
  pub records : List WorkingRecord

-- node n and the records rs, as one
abbrev pub reached : ℕ → List WorkingRecord → Reached
reached n rs = record { node = n; records = rs }

-- the node behind the place that was found, or the mark behind the records and the node that it then leads to
abbrev pub or_put : Option ℕ → WorkingRecord → List WorkingRecord → Reached
or_put (Some i) r rs = reached (i + 1) rs
or_put None r rs = reached (length rs + 1) (rs ++ r ∷ [])

-- the node that a mark leads to; the mark comes behind the records where it is not there
abbrev pub reaching : WorkingRecord → List WorkingRecord → Reached
reaching r rs = or_put (position (λ q. same_mark q r) rs) r rs

-- the records once a way from node n on is among them
abbrev pub entering : Way → ℕ → List WorkingRecord → List WorkingRecord
entering [] n rs = (reaching (end_at n) rs).records
entering (l ∷ w) n rs = entering w (reaching (branch_at n l) rs).node (reaching (branch_at n l) rs).records

-- one way after another
abbrev pub entering_all : List Way → List WorkingRecord → List WorkingRecord
entering_all [] rs = rs
entering_all (w ∷ ws) rs = entering_all ws (entering w 0 rs)

-- whether a way ends at node n
abbrev pub ended : List WorkingRecord → ℕ → Bool
ended rs n = list_any (λ q. same_mark q (end_at n)) rs

-- the literal, where the record is a branch of node n
abbrev pub branch_of : ℕ → WorkingRecord → Option Literal
branch_of n (record_of.Branch p l) = choose (p.0 == n) (Some l) None
branch_of n _ = None

-- one record: of a branch by l what is below it, then the meet, then the join with what came before; any other is passed over
abbrev pub turn_by : ℕ → Writing → Operand → (Operand → Writing) → Option Literal → Writing
turn_by limit below sofar next None = next sofar
turn_by limit below sofar next (Some l) =
    and_then below (λ b. and_then (combining limit Meet (operand_of l) b) (λ m. and_then (combining limit Join sofar m) next))

-- the records from `place` on, each branch of node n by `sub` of the node that it leads to
abbrev pub join_at : ℕ → (ℕ → Writing) → ℕ → ℕ → Operand → List WorkingRecord → Writing
join_at limit sub n place sofar [] = give sofar
join_at limit sub n place sofar (r ∷ rs) = turn_by limit (sub (place + 1)) sofar (λ j. join_at limit sub n (place + 1) j rs) (branch_of n r)

-- what is below node n, so many literals deep
abbrev pub merge_at : ℕ → ℕ → List WorkingRecord → ℕ → Writing
merge_at limit zero rs n = choose (ended rs n) (give Always) (give Never)
merge_at limit (suc h) rs n = choose (ended rs n) (give Always) (join_at limit (merge_at limit h rs) n 0 Never rs)
