-- The values of the algebras that are declared here: two algebras side by side, and what is certain of a report.
-- And a lattice that is no Boolean algebra: the three reports, each with a value of its own.
use Rattle.std.specs.Prelude.{Bool, true, false}
use Rattle.algebra.specs.Algebra.{Algebra}
use Rattle.guest.specs.declared.report.Report.{Report}
use Rattle.guest.specs.declared.report.Report.TheVariants.{Up, Unknown, Out}

abbrev pub side_by_side : Algebra → Algebra → Algebra
side_by_side A B =
    record {
      Value = A.Value × B.Value;
      meet = λ p q. (A.meet p.0 q.0, B.meet p.1 q.1);
      join = λ p q. (A.join p.0 q.0, B.join p.1 q.1);
      bottom = (A.bottom, B.bottom);
      top = (A.top, B.top);
      complement = λ p. (A.complement p.0, B.complement p.1);
    }

abbrev pub certain : Report → Bool
certain Up = true
certain Unknown = false
certain Out = false

abbrev pub lower : Report → Report → Report
lower Up b = b
lower Unknown Up = Unknown
lower Unknown Unknown = Unknown
lower Unknown Out = Out
lower Out b = Out

abbrev pub higher : Report → Report → Report
higher Up b = Up
higher Unknown Up = Up
higher Unknown Unknown = Unknown
higher Unknown Out = Unknown
higher Out b = b

-- up and out in each other's place; unknown stays
abbrev pub swapped : Report → Report
swapped Up = Out
swapped Unknown = Unknown
swapped Out = Up

-- n is what is offered as the complement
abbrev pub three_valued : (Report → Report) → Algebra
three_valued n = record { Value = Report; meet = lower; join = higher; bottom = Out; top = Up; complement = n }
