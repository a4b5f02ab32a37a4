-- From what a method wrote of the kept ways to what its translation answers, whichever method it is.
use Rattle.std.proofs.Common.{◌≡◌, ℕ, ◌+◌, ◌-◌, ◌≤◌, List, ◌++◌, length, take, Ok, Err, IsErrAnd, Result, sym, refl, ap, ◌∙◌, arith}
use Rattle.std.proofs.lemmas.List.{length-take, take_at}
use Rattle.std.proofs.lemmas.Bool.{le-leb, lt-leb}
use Rattle.rack.specs.declared.refusal.Refusal.{Refusal}
use Rattle.rack.specs.declared.refusal.Refusal.TheVariants as refusal
use Rattle.rack.specs.Way.{Way}
use Rattle.table.specs.Kept.{kept}
use Rattle.definitions.specs.declared.operand.Operand.{Operand}
use Rattle.definitions.specs.declared.operand.Definition.{Definition}
use Rattle.definitions.specs.declared.draft.Draft.{Draft}
use Rattle.definitions.specs.declared.draft.LimitReached.{LimitReached}
use Rattle.definitions.specs.Combine.{choose}
use Rattle.definitions.specs.Writing.{written_in, Wrote}
use Rattle.definitions.proofs.Written.{same_draft}
use Rattle.working.specs.declared.record.WorkingRecord.{WorkingRecord}
use Rattle.working.specs.Records.{ways_in, size}
use Rattle.working.specs.Gather.{needed, Held, Short}
use Rattle.working.specs.Translation.{Rule, Outcome.written, Outcome.refused, limited, outcome, Translated}

module _ (rule : Rule) (ws : List Way) (lent left : List WorkingRecord) (was : Draft) where
  pub told_short : Short ws lent left → Translated rule ws lent left was was (Err refusal.MemoryShort)
  told_short h =
      let ds = written_in was in
      record {
        answer = sym (ap (λ t. choose t (limited ds (rule was.limit (kept ws) ds)) (refused refusal.MemoryShort)) (lt-leb (needed (kept ws)) (length lent) h.few));
        grown = same_draft;
        untouched = λ _. (h.same, refl);
      }

  -- the records serve, and what they hold at the end is open
  module _ (serves : needed (kept ws) ≤ length lent) where
    served : (ds : List Definition) → limited ds (rule was.limit (kept ws) ds) ≡ outcome rule was.limit ws (length lent) ds
    served ds = sym (ap (λ b. choose b (limited ds (rule was.limit (kept ws) ds)) (refused refusal.MemoryShort)) (le-leb (needed (kept ws)) (length lent) serves))

    -- the number added is the count after less the count before
    pub told_written : {after : Draft} {x : Operand} → Wrote was after (Ok x) (rule was.limit (kept ws)) → Translated rule ws lent left was after (Ok (x, after.count - was.count))
    told_written {after} {x} w =
        let more : length (written_in after) - length (written_in was) ≡ after.count - was.count = omega (arith, length-take after.count after.slots.now, length-take was.count was.slots.now, was.room, after.room, w.grown.grown, w.grown.within) in
        record {
          answer = ap (λ a. written x a (written_in after)) (sym more) ∙ ap (limited (written_in was)) w.answer ∙ served (written_in was);
          grown = w.grown;
          untouched = λ few. absurd (omega (arith, serves));
        }

    pub told_limit : {after : Draft} {e : LimitReached} (q : Result (Operand × ℕ) Refusal) → IsErrAnd q (λ r. r ≡ refusal.LimitReached) → Wrote was after (Err e) (rule was.limit (kept ws)) → Translated rule ws lent left was after q
    told_limit (Ok p) f w = absurd f
    told_limit {after} (Err r) f w =
        record {
          answer = ap (λ (t : Refusal). refused t) f ∙ ap (limited (written_in was)) w.answer ∙ served (written_in was);
          grown = w.grown;
          untouched = λ few. absurd (omega (arith, serves));
        }

-- the kept ways stand in front, and what is behind them is room for their marks and branches
module _ {ws : List Way} {lent held : List WorkingRecord} {n : ℕ} (h : Held ws lent held n) (front back : List WorkingRecord) (cut : held ≡ front ++ back) (many : length front ≡ n) where
  pub in_front : ways_in front ≡ kept ws
  in_front = ap ways_in (sym (ap (take n) cut ∙ take_at front back n many)) ∙ h.front

  pub room_behind : length held ≡ length lent → length back + n ≡ length held → size (ways_in front) ≤ length back
  room_behind long rest = omega (arith, h.serves, h.many, ap size in_front)
