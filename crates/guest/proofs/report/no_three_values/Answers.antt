-- Nothing is the complement of unknown: its meet with up and with unknown is unknown, and so is its join with out.
use Rattle.std.proofs.Common.{◌≡◌, ℕ, arith}
use Rattle.guest.specs.declared.report.Report.{Report}
use Rattle.guest.specs.declared.report.Report.TheVariants.{Up, Unknown, Out}
use Rattle.guest.specs.Guests.{lower, higher}
use Rattle.guest.proofs.report.no_three_values.Goals as goal

apart : (m : Report) → lower Unknown m ≡ Out → higher Unknown m ≡ Up → ⊥
apart Up p q = let z : ◌≡◌ {A = ℕ} 0 1 = cc in omega arith
apart Unknown p q = let z : ◌≡◌ {A = ℕ} 0 1 = cc in omega arith
apart Out p q = let z : ◌≡◌ {A = ℕ} 0 1 = cc in omega arith

pub returns : goal.returns
returns c = λ n laws. apart (n Unknown) (laws.meet_complement Unknown) (laws.join_complement Unknown)
