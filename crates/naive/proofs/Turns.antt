-- One turn of each loop: one more literal of a way, one more way.
use Rattle.std.proofs.Common.{◌≡◌, ℕ, ◌+◌, ◌<◌, ◌≤◌, true, List, [], ◌∷◌, length, get_or, drop, is_err, Some, None, Ok, Err, Option, Result, sym, ap, ◌∙◌}
use Rattle.std.proofs.lemmas.List.{at_drop_more, at_drop_all}
use Rattle.rack.specs.declared.part.Literal.{Literal}
use Rattle.rack.specs.Way.{Way}
use Rattle.definitions.specs.declared.operand.Operator.TheVariants.{Meet, Join}
use Rattle.definitions.specs.declared.operand.Operand.{Operand}
use Rattle.definitions.specs.declared.operand.Operand.TheVariants.{Always}
use Rattle.definitions.specs.declared.draft.Draft.{Draft}
use Rattle.definitions.specs.declared.draft.LimitReached.{LimitReached}
use Rattle.definitions.specs.Writing.{Wrote}
use Rattle.definitions.proofs.Written.{at_first_limit, like, Underway, renamed, goes_on, breaks}
use Rattle.definitions.specs.Combine.{Writing, give, and_then, combining}
use Rattle.working.specs.declared.record.WorkingRecord.{WorkingRecord}
use Rattle.working.specs.declared.record.WorkingRecord.TheVariants as record_of
use Rattle.working.specs.Records.{left_in, way_in, ways_in, operand_of}
use Rattle.naive.specs.Naive.{meeting, joining}

module _ (limit : ℕ) (sofar : Operand) (ps : List (Option Literal)) (i : ℕ) where
  abbrev met_from : Operand → ℕ → Writing
  met_from x k = meeting limit x (left_in (drop k ps))

  pub at_literal : (d : Option Literal) (l : Literal) (x : Operand) → i < length ps → get_or ps i d ≡ Some l → x ≡ operand_of l → met_from sofar i ≡ and_then (combining limit Meet sofar x) (λ m. met_from m (i + 1))
  at_literal d l x lt e f =
      at_drop_more (λ s. meeting limit sofar (left_in s)) ps i d lt
      ∙ ap (λ o. meeting limit sofar (left_in (o ∷ drop (i + 1) ps))) e
      ∙ ap (λ y. and_then (combining limit Meet sofar y) (λ m. met_from m (i + 1))) (sym f)

  pub at_none : (d : Option Literal) → i < length ps → get_or ps i d ≡ None → met_from sofar i ≡ met_from sofar (i + 1)
  at_none d lt e = at_drop_more (λ s. meeting limit sofar (left_in s)) ps i d lt ∙ ap (λ o. meeting limit sofar (left_in (o ∷ drop (i + 1) ps))) e

  pub at_end : length ps ≤ i → met_from sofar i ≡ give sofar
  at_end h = at_drop_all (λ s. meeting limit sofar (left_in s)) ps i h

-- the way of record i
abbrev way_at : List WorkingRecord → ℕ → Way
way_at rs i = way_in (get_or rs i (record_of.Way []))

abbrev joined_from : ℕ → Operand → List WorkingRecord → ℕ → Writing
joined_from limit sofar rs i = joining limit sofar (ways_in (drop i rs))

-- once a way is met, it is joined, and then the ways behind it
abbrev then_joined : ℕ → Operand → List WorkingRecord → ℕ → Operand → Writing
then_joined limit sofar rs i m = and_then (combining limit Join sofar m) (λ j. joined_from limit j rs (i + 1))

at_way : (limit : ℕ) (sofar : Operand) (rs : List WorkingRecord) (i : ℕ) → i < length rs → joined_from limit sofar rs i ≡ and_then (meeting limit Always (way_at rs i)) (then_joined limit sofar rs i)
at_way limit sofar rs i lt = at_drop_more (λ s. joining limit sofar (ways_in s)) rs i (record_of.Way []) lt

pub past_ways : (limit : ℕ) (sofar : Operand) (rs : List WorkingRecord) (i : ℕ) → length rs ≤ i → joined_from limit sofar rs i ≡ give sofar
past_ways limit sofar rs i h = at_drop_all (λ s. joining limit sofar (ways_in s)) rs i h

module _ {was now : Draft} {whole : Writing} (sofar : Operand) (rs : List WorkingRecord) (i : ℕ) (so : Underway was now (joined_from was.limit sofar rs i) whole) (lt : i < length rs) where
  turn : Underway was now (and_then (meeting was.limit Always (way_at rs i)) (then_joined was.limit sofar rs i)) whole
  turn = renamed (sym (at_way was.limit sofar rs i lt)) so

  -- v are the literals in its places
  module _ {v : Way} (e : v ≡ way_at rs i) where
    pub met : {mid : Draft} {x : Operand} → Wrote now mid (Ok x) (meeting now.limit Always v) → Underway was mid (then_joined was.limit sofar rs i x) whole
    met w = goes_on (then_joined was.limit sofar rs i) turn (at_first_limit (λ k. meeting k Always (way_at rs i)) so.grown (like (ap (meeting now.limit Always) (sym e)) w))

    pub not_met : {mid : Draft} {f : LimitReached} (q : Result Operand LimitReached) → is_err q ≡ true → Wrote now mid (Err f) (meeting now.limit Always v) → Wrote was mid q whole
    not_met q f w = breaks q (then_joined was.limit sofar rs i) f turn (at_first_limit (λ k. meeting k Always (way_at rs i)) so.grown (like (ap (meeting now.limit Always) (sym e)) w))

module _ {was mid : Draft} {whole : Writing} (sofar : Operand) (rs : List WorkingRecord) (i : ℕ) (x : Operand) (so : Underway was mid (then_joined was.limit sofar rs i x) whole) where
  pub joined : {next : Draft} {j : Operand} → Wrote mid next (Ok j) (combining mid.limit Join sofar x) → Underway was next (joined_from was.limit j rs (i + 1)) whole
  joined w = goes_on (λ j. joined_from was.limit j rs (i + 1)) so (at_first_limit (λ k. combining k Join sofar x) so.grown w)

  pub not_joined : {next : Draft} {e : LimitReached} (q : Result Operand LimitReached) → is_err q ≡ true → Wrote mid next (Err e) (combining mid.limit Join sofar x) → Wrote was next q whole
  not_joined q f w = breaks q (λ j. joined_from was.limit j rs (i + 1)) f so (at_first_limit (λ k. combining k Join sofar x) so.grown w)
