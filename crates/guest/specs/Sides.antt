-- Two Boolean algebras side by side are one: each law holds on either side.
use Rattle.std.specs.Prelude.{◌≡◌}
use Rattle.algebra.specs.Algebra.{Algebra, Lattice, Complemented}
use Rattle.guest.specs.Guests.{side_by_side}

two : {X Y : Type 0} {a b : X} {c d : Y} → a ≡ b → c ≡ d → ◌≡◌ {A = X × Y} (a, c) (b, d)
two p q = λ i. (p i, q i)

pub lattice : (A B : Algebra) → Lattice A → Lattice B → Lattice (side_by_side A B)
lattice A B a b =
    record {
      meet_comm = λ x y. two (a.meet_comm x.0 y.0) (b.meet_comm x.1 y.1);
      join_comm = λ x y. two (a.join_comm x.0 y.0) (b.join_comm x.1 y.1);
      meet_assoc = λ x y z. two (a.meet_assoc x.0 y.0 z.0) (b.meet_assoc x.1 y.1 z.1);
      join_assoc = λ x y z. two (a.join_assoc x.0 y.0 z.0) (b.join_assoc x.1 y.1 z.1);
      meet_absorbs = λ x y. two (a.meet_absorbs x.0 y.0) (b.meet_absorbs x.1 y.1);
      join_absorbs = λ x y. two (a.join_absorbs x.0 y.0) (b.join_absorbs x.1 y.1);
      distributes = λ x y z. two (a.distributes x.0 y.0 z.0) (b.distributes x.1 y.1 z.1);
      meet_top = λ x. two (a.meet_top x.0) (b.meet_top x.1);
      join_bottom = λ x. two (a.join_bottom x.0) (b.join_bottom x.1);
    }

pub complemented : (A B : Algebra) → Complemented A → Complemented B → Complemented (side_by_side A B)
complemented A B a b =
    record {
      meet_complement = λ x. two (a.meet_complement x.0) (b.meet_complement x.1);
      join_complement = λ x. two (a.join_complement x.0) (b.join_complement x.1);
    }
