-- An algebra read upside down is an algebra: each law is the other's law, but that join distributes over meet, which follows.
use Rattle.std.specs.Prelude.{◌≡◌}
use Rattle.std.proofs.Common.{sym, ap, ap₂, ◌∙◌}
use Rattle.algebra.specs.Algebra.{Algebra, Lattice, Complemented}
use Rattle.algebra.specs.Models.{upside_down}

join_distributes : (A : Algebra) → Lattice A → (a b c : A.Value) → A.join a (A.meet b c) ≡ A.meet (A.join a b) (A.join a c)
join_distributes A laws a b c =
    ap (λ x. A.join x (A.meet b c)) (sym (laws.join_absorbs a c))
    ∙ laws.join_assoc a (A.meet a c) (A.meet b c)
    ∙ ap (A.join a) (ap₂ A.join (laws.meet_comm a c) (laws.meet_comm b c) ∙ sym (laws.distributes c a b) ∙ laws.meet_comm c (A.join a b))
    ∙ ap (λ x. A.join x (A.meet (A.join a b) c)) (sym (laws.meet_absorbs a b) ∙ laws.meet_comm a (A.join a b))
    ∙ sym (laws.distributes (A.join a b) a c)

pub lattice : (A : Algebra) → Lattice A → Lattice (upside_down A)
lattice A laws =
    record {
      meet_comm = laws.join_comm;
      join_comm = laws.meet_comm;
      meet_assoc = laws.join_assoc;
      join_assoc = laws.meet_assoc;
      meet_absorbs = laws.join_absorbs;
      join_absorbs = laws.meet_absorbs;
      distributes = join_distributes A laws;
      meet_top = laws.join_bottom;
      join_bottom = laws.meet_top;
    }

pub complemented : (A : Algebra) → Complemented A → Complemented (upside_down A)
complemented A laws = record { meet_complement = laws.join_complement; join_complement = laws.meet_complement }
