-- The worked cases in one list, and the fact that covers it: each comes out as written down, by the definitions that translate's and
-- evaluate's contracts cite.
use Rattle.std.specs.Prelude.{◌≡◌, ℕ, ◌<◌, List, [], ◌∷◌, Ok, Err, Result, ◌==◌, slice_index_or}
use Rattle.std.specs.List.{AllByRecursion}
use Rattle.rack.specs.declared.refusal.Refusal.{Refusal}
use Rattle.rack.specs.declared.refusal.Refusal.TheVariants.{LimitReached, MemoryShort}
use Rattle.rack.specs.Way.{Way}
use Rattle.definitions.specs.declared.operand.Operator.TheVariants.{Join}
use Rattle.definitions.specs.declared.operand.Operand.{Operand}
use Rattle.definitions.specs.declared.operand.Operand.TheVariants.{Never, Always}
use Rattle.definitions.specs.declared.operand.Definition.{Definition}
use Rattle.definitions.specs.Operands.{numbered}
use Rattle.definitions.specs.Combine.{choose}
use Rattle.definitions.specs.Sound.{blank}
use Rattle.working.specs.Translation.{Outcome, Outcome.written, Outcome.refused, outcome}
use Rattle.methods.specs.declared.translate.Method.{Method}
use Rattle.methods.specs.declared.translate.Method.TheVariants.{Naive, Decomposition, NodeMerging}
use Rattle.methods.specs.Methods.{rule_of}
use Rattle.algebra.specs.Algebra.{Algebra}
use Rattle.algebra.specs.Worth.{Settings, worth}
use Rattle.algebra.specs.Models.{sampled, samples}
use Rattle.worked.specs.Tables.{works, defined, no_ways, empty_way, one_part, contradictory_way, covered, either, worked_table, merged_script}

-- a table is translated into a script that holds the definitions `before`; it gives the operand and how many definitions it added
pub record Case : Type 0 where
  pub ways : List Way
  pub method : Method
  pub limit : ℕ
  pub records : ℕ
  pub before : List Definition
  pub gives : Result (Operand × ℕ) Refusal

abbrev answered : Outcome → Result (Operand × ℕ) Refusal
answered (written x added all) = Ok (x, added)
answered (refused e) = Err e

abbrev translation : Case → Outcome
translation c = outcome (rule_of c.method) c.limit c.ways c.records c.before

abbrev pub ComesOut : Case → Type 0
ComesOut c = answered (translation c) ≡ c.gives

-- with room for 4,096 definitions, and with as many working records as the largest table needs
abbrev fresh : List Way → Method → Operand → ℕ → Case
fresh ws m x added = record { ways = ws; method = m; limit = 4096; records = 6657; before = []; gives = Ok (x, added) }

abbrev after_merged : Method → Case
after_merged m = record { ways = worked_table; method = m; limit = 4096; records = 6657; before = merged_script; gives = Ok (numbered 6, 0) }

abbrev limited_to : ℕ → ℕ → Result (Operand × ℕ) Refusal → Case
limited_to limit records r = record { ways = worked_table; method = NodeMerging; limit = limit; records = records; before = []; gives = r }

abbrev pub cases : List Case
cases =
    fresh no_ways Naive Never 0
    ∷ fresh no_ways Decomposition Never 0
    ∷ fresh no_ways NodeMerging Never 0
    ∷ fresh empty_way Naive Always 0
    ∷ fresh empty_way Decomposition Always 0
    ∷ fresh empty_way NodeMerging Always 0
    ∷ fresh one_part Naive (works 0x20) 0
    ∷ fresh one_part Decomposition (works 0x20) 0
    ∷ fresh one_part NodeMerging (works 0x20) 0
    ∷ fresh contradictory_way Naive Never 0
    ∷ fresh contradictory_way Decomposition Never 0
    ∷ fresh contradictory_way NodeMerging Never 0
    ∷ fresh covered Naive (numbered 2) 2
    ∷ fresh covered Decomposition (works 0x20) 0
    ∷ fresh covered NodeMerging (works 0x20) 0
    ∷ fresh either NodeMerging (numbered 1) 1
    ∷ fresh worked_table Naive (numbered 10) 10
    ∷ fresh worked_table Decomposition (numbered 6) 6
    ∷ fresh worked_table NodeMerging (numbered 6) 6
    ∷ after_merged NodeMerging
    ∷ after_merged Decomposition
    ∷ limited_to 5 21 (Err LimitReached)
    ∷ limited_to 6 21 (Ok (numbered 6, 6))
    ∷ limited_to 0 20 (Err MemoryShort)
    ∷ []

abbrev pub script_of : Outcome → List Definition
script_of (written x added all) = all
script_of (refused e) = []

abbrev translated : List Way → Method → List Definition
translated ws m = script_of (outcome (rule_of m) 4096 ws 6657 [])

-- parts 10, 20, 11, 12, 22 and 13 in four of the 64 states, and every other part in none
abbrev pub setting_of : ℕ → ℕ
setting_of part = choose (part == 0x10) 0x3 (choose (part == 0x20) 0x5 (choose (part == 0x11) 0xF (choose (part == 0x12) 0x1 (choose (part == 0x22) 0xE (choose (part == 0x13) 0x6 0)))))

abbrev pub worked_settings : Settings sampled
worked_settings part = samples (setting_of part)

pub record Worked (A : Algebra) : Type 0 where
  pub all_come_out : AllByRecursion ComesOut cases
  pub merged : translated worked_table NodeMerging ≡ merged_script
  -- the last join is the other way round than in the order of the definitions
  pub sixth : slice_index_or (translated worked_table Decomposition) 5 blank ≡ defined Join (numbered 5) (numbered 4)
  -- a part that works or is out is always there
  pub always : (s : Settings A) → worth A s (translated either NodeMerging) (numbered 1) ≡ A.top
  -- the first three states
  pub in_states : (i : ℕ) (h : i < 64) → worth sampled worked_settings merged_script (numbered 6) i h ≡ samples 7 i h
