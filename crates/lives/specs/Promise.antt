-- What is promised of every life of a script, over an algebra and at all settings of the parts.
-- ds are the definitions of the moment that is looked at: what was answered earlier holds by them too.
use Rattle.std.specs.Prelude.{◌≡◌, ℕ, ◌-◌, ◌≤◌, List, [], ◌++◌, length, Some, slice_index_or}
use Rattle.std.specs.List.{AllByRecursion}
use Rattle.rack.specs.Way.{Way}
use Rattle.table.specs.Kept.{kept, literals}
use Rattle.definitions.specs.declared.operand.Operand.{Operand}
use Rattle.definitions.specs.declared.operand.Definition.{Definition}
use Rattle.definitions.specs.Operands.{reach}
use Rattle.definitions.specs.Combine.{counted}
use Rattle.definitions.specs.Sound.{Sound}
use Rattle.algebra.specs.Algebra.{Algebra}
use Rattle.algebra.specs.Worth.{Settings, applied, worth, ways_worth}
use Rattle.evaluate.specs.Evaluation.{settings_of}
use Rattle.delivery.specs.ReadBack.{definitions_read, end_read}
use Rattle.lives.specs.Moments.{Event, Event.translated, Event.combined, Event.evaluated, Event.evaluated_elsewhere, Event.begun, Event.gone_on, Event.closed, Event.struck, Event.turned_down, Moment}
use Rattle.lives.specs.Life.{Life}

-- translate: the operand is worth the join of all ways entered, also those that are not kept; the script grew by as many definitions
-- as were answered, all at its end, and fewer than the kept ways have literals, or none where they have none
pub record TranslatedRight (A : Algebra) (s : Settings A) (ds : List Definition) (ws : List Way) (x : Operand) (added : ℕ) (before after : List Definition) : Type 0 where
  pub value : worth A s ds x ≡ ways_worth A s ws
  pub new : List Definition
  pub grew : after ≡ before ++ new
  pub by_answer : length new ≡ added
  pub few : added ≤ literals (kept ws) - 1

-- evaluate: the value of the operand at the settings handed, and one operation for each definition that it needs
pub record EvaluatedRight (A : Algebra) (ds : List Definition) (x : Operand) (settings : List A.Value) (answer : A.Value) (operations : ℕ) : Type 0 where
  pub value : answer ≡ worth A (settings_of A settings) ds x
  pub one_each : operations ≡ reach x

-- a delivery that was closed, by its bytes alone: the last line reads as the operand it was begun with, and by the definitions that the
-- lines read as the operand is worth what it is by the script's
pub record DeliveredRight (A : Algebra) (s : Settings A) (ds : List Definition) (x : Operand) (lines : List (List ℕ)) : Type 0 where
  pub end_reads : end_read (slice_index_or lines (length lines - 1) []) ≡ Some x
  pub value : worth A s (definitions_read lines) x ≡ worth A s ds x

-- of one event
abbrev pub EventRight : (A : Algebra) → Settings A → List Definition → Event A.Value → Type 0
EventRight A s ds (translated ws x added before after) = TranslatedRight A s ds ws x added before after
EventRight A s ds (combined o a b x) = worth A s ds x ≡ applied A o (worth A s ds a) (worth A s ds b)
EventRight A s ds (evaluated x settings answer operations) = EvaluatedRight A ds x settings answer operations
EventRight A s ds (evaluated_elsewhere x operations) = operations ≡ reach x
EventRight A s ds (begun x line) = Unit {0}
EventRight A s ds (gone_on x line) = Unit {0}
EventRight A s ds (closed x lines) = DeliveredRight A s ds x lines
EventRight A s ds (struck x lines) = Unit {0}
EventRight A s ds (turned_down c e before after) = after ≡ before

-- of a moment: the definitions are sound and within the limit as it counts, and all that has happened is right
pub record Promise (A : Algebra) (s : Settings A) (limit : ℕ) (m : Moment A.Value) : Type 0 where
  pub sound : Sound m.definitions
  pub within_limit : length m.definitions ≤ counted limit
  pub at_most_4096 : length m.definitions ≤ 4096
  pub events : AllByRecursion (EventRight A s m.definitions) m.history

-- every life of every script, whatever its limit, at all settings
abbrev pub EveryLife : Algebra → Type 0
EveryLife A = (limit : ℕ) (m : Moment A.Value) → Life A limit m → (s : Settings A) → Promise A s limit m
