-- One turn of the loop over the records of a node: what is still to be written from here gives what was to be written from the start.
use Rattle.std.proofs.Common.{◌≡◌, ℕ, ◌+◌, ◌<◌, true, List, length, get_or, drop, is_err, Some, None, Ok, Err, Option, Result, sym, ap, ◌∙◌, arith}
use Rattle.std.proofs.lemmas.List.{at_drop_more}
use Rattle.rack.specs.declared.part.Literal.{Literal}
use Rattle.definitions.specs.declared.operand.Operator.TheVariants.{Meet, Join}
use Rattle.definitions.specs.declared.operand.Operand.{Operand}
use Rattle.definitions.specs.declared.draft.Draft.{Draft}
use Rattle.definitions.specs.declared.draft.LimitReached.{LimitReached}
use Rattle.definitions.specs.Combine.{Writing, and_then, combining}
use Rattle.definitions.specs.Writing.{Grown, Wrote}
use Rattle.definitions.proofs.Written.{Underway, like, goes_on, breaks, renamed}
use Rattle.working.specs.declared.record.WorkingRecord.{WorkingRecord}
use Rattle.working.specs.Records.{operand_of}
use Rattle.merging.specs.Trie.{branch_of, turn_by, join_at, merge_at}

-- a call finds the limit from the start
called : {was now next : Draft} {r : Result Operand LimitReached} (F : ℕ → Writing) → Grown was now → Wrote now next r (F now.limit) → Wrote now next r (F was.limit)
called F g w = like (ap F (sym g.limit)) w

-- the branches of a node from record i on, of which a call of the loop comes to the next
module _ {was now : Draft} {whole : Writing} (h node : ℕ) (rs : List WorkingRecord) (i : ℕ) (sofar : Operand) (a : Underway was now (join_at was.limit (merge_at was.limit h rs) node i sofar (drop i rs)) whole) where
  abbrev sub : ℕ → Writing
  sub = merge_at was.limit h rs

  abbrev next : Operand → Writing
  next j = join_at was.limit sub node (i + 1) j (drop (i + 1) rs)

  -- the records are read as ss; r stands for what a read gives past the end
  module _ {ss : List WorkingRecord} (same : ss ≡ rs) (lt : i < length ss) (r : WorkingRecord) where
    turn : (o : Option Literal) → o ≡ branch_of node (get_or ss i r) → Underway was now (turn_by was.limit (sub (i + 1)) sofar next o) whole
    turn o e =
        let lt' : i < length rs = omega (arith, lt, ap length same) in
        renamed (ap (turn_by was.limit (sub (i + 1)) sofar next) (e ∙ ap (λ us. branch_of node (get_or us i r)) same) ∙ sym (at_drop_more (join_at was.limit sub node i sofar) rs i r lt')) a

    pub passes : None ≡ branch_of node (get_or ss i r) → Underway was now (next sofar) whole
    passes e = turn None e

    -- the record is a branch by l, which has the operand x
    module _ {l : Literal} {x : Operand} (mine : Some l ≡ branch_of node (get_or ss i r)) (named : x ≡ operand_of l) where
      abbrev joining : Operand → Writing
      joining y = and_then (combining was.limit Join sofar y) next

      abbrev meeting : Operand → Writing
      meeting b = and_then (combining was.limit Meet x b) joining

      due : Underway was now (and_then (sub (i + 1)) meeting) whole
      due = renamed (ap (λ z. and_then (sub (i + 1)) (λ b. and_then (combining was.limit Meet z b) joining)) named) (turn (Some l) mine)

      abbrev below : ℕ → Writing
      below k = merge_at k h rs (i + 1)

      pub below_breaks : {mid : Draft} {e : LimitReached} (q : Result Operand LimitReached) → is_err q ≡ true → Wrote now mid (Err e) (below now.limit) → Wrote was mid q whole
      below_breaks q f w = breaks q meeting f due (called below due.grown w)

      module _ {mid : Draft} {b : Operand} (went : Wrote now mid (Ok b) (below now.limit)) where
        due_met : Underway was mid (and_then (combining was.limit Meet x b) joining) whole
        due_met = goes_on meeting due (called below due.grown went)

        pub met_breaks : {next' : Draft} {e : LimitReached} (q : Result Operand LimitReached) → is_err q ≡ true → Wrote mid next' (Err e) (combining mid.limit Meet x b) → Wrote was next' q whole
        met_breaks q f w = breaks q joining f due_met (called (λ k. combining k Meet x b) due_met.grown w)

        module _ {mid' : Draft} {y : Operand} (met : Wrote mid mid' (Ok y) (combining mid.limit Meet x b)) where
          due_join : Underway was mid' (and_then (combining was.limit Join sofar y) next) whole
          due_join = goes_on joining due_met (called (λ k. combining k Meet x b) due_met.grown met)

          pub join_breaks : {after : Draft} {e : LimitReached} (q : Result Operand LimitReached) → is_err q ≡ true → Wrote mid' after (Err e) (combining mid'.limit Join sofar y) → Wrote was after q whole
          join_breaks q f w = breaks q next f due_join (called (λ k. combining k Join sofar y) due_join.grown w)

          pub joins : {after : Draft} {j : Operand} → Wrote mid' after (Ok j) (combining mid'.limit Join sofar y) → Underway was after (next j) whole
          joins w = goes_on next due_join (called (λ k. combining k Join sofar y) due_join.grown w)
