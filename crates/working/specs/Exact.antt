-- A working record is the same as another exactly where both are of one kind and their parts are the same.
use Rattle.std.specs.Prelude.{◌≡◌, ◌↔◌, Bool, false, ◌&&◌, IsTrue, List, Some, None, Option}
use Rattle.std.specs.Option.{option_eq}
use Rattle.std.specs.Cmp.Lexicographic.{pointwise}
use Rattle.std.proofs.Common.{sym, refl, ap, ◌∙◌}
use Rattle.std.proofs.lemmas.Bool.{false≢true, and_from, and_parts}
use Rattle.std.proofs.lemmas.Slice.Eq.{slice_eq-Decides}
use Rattle.rack.specs.declared.part.Literal.{Literal}
use Rattle.working.specs.declared.record.Node.{Node}
use Rattle.working.specs.declared.record.WorkingRecord.{WorkingRecord}
use Rattle.working.specs.declared.record.WorkingRecord.TheVariants.{Way, Branch, End}

-- q tells records by their parts: nodes by n and literals by l
pub record ByParts (q : WorkingRecord → WorkingRecord → Bool) (n : Node → Node → Bool) (l : Literal → Literal → Bool) : Type 0 where
  pub ways : (x y : List (Option Literal)) → q (Way x) (Way y) ≡ pointwise (option_eq l) x y
  pub branches : (p o : Node) (x y : Literal) → q (Branch p x) (Branch o y) ≡ (n p o && l x y)
  pub ends : (p o : Node) → q (End p) (End o) ≡ n p o
  pub way_branch : (x : List (Option Literal)) (o : Node) (y : Literal) → q (Way x) (Branch o y) ≡ false
  pub way_end : (x : List (Option Literal)) (o : Node) → q (Way x) (End o) ≡ false
  pub branch_way : (p : Node) (x : Literal) (y : List (Option Literal)) → q (Branch p x) (Way y) ≡ false
  pub branch_end : (p : Node) (x : Literal) (o : Node) → q (Branch p x) (End o) ≡ false
  pub end_way : (p : Node) (y : List (Option Literal)) → q (End p) (Way y) ≡ false
  pub end_branch : (p o : Node) (y : Literal) → q (End p) (Branch o y) ≡ false

module _ {q : WorkingRecord → WorkingRecord → Bool} {n : Node → Node → Bool} {l : Literal → Literal → Bool} (h : ByParts q n l) (nodes : (a b : Node) → IsTrue (n a b) ↔ (a ≡ b)) (literals : (a b : Literal) → IsTrue (l a b) ↔ (a ≡ b)) where
  places : (a b : Option Literal) → IsTrue (option_eq l a b) ↔ (a ≡ b)
  places None None = (λ _. refl, λ _. refl)
  places None (Some y) = (λ e. absurd (false≢true e), λ e. absurd (cc))
  places (Some x) None = (λ e. absurd (false≢true e), λ e. absurd (cc))
  places (Some x) (Some y) = (λ e. ap (λ z. Some z) ((literals x y).0 e), λ e. (literals x y).1 (cc))

  pub exact_by_parts : (a b : WorkingRecord) → IsTrue (q a b) ↔ (a ≡ b)
  exact_by_parts (Way x) (Way y) =
      let d = slice_eq-Decides places x y (q (Way x) (Way y)) (h.ways x y) in
      (λ e. ap (λ z. Way z) (d.0 e), λ e. d.1 (cc))
  exact_by_parts (Branch p x) (Branch o y) = (
    λ e. let d = and_parts (n p o) (l x y) (sym (h.branches p o x y) ∙ e) in λ i. Branch ((nodes p o).0 d.0 i) ((literals x y).0 d.1 i),
    λ e. h.branches p o x y ∙ and_from (n p o) (l x y) ((nodes p o).1 (cc)) ((literals x y).1 (cc)),
  )
  exact_by_parts (End p) (End o) = (λ e. ap (λ z. End z) ((nodes p o).0 (sym (h.ends p o) ∙ e)), λ e. h.ends p o ∙ (nodes p o).1 (cc))
  exact_by_parts (Way x) (Branch o y) = (λ e. absurd (false≢true (sym (h.way_branch x o y) ∙ e)), λ e. absurd (cc))
  exact_by_parts (Way x) (End o) = (λ e. absurd (false≢true (sym (h.way_end x o) ∙ e)), λ e. absurd (cc))
  exact_by_parts (Branch p x) (Way y) = (λ e. absurd (false≢true (sym (h.branch_way p x y) ∙ e)), λ e. absurd (cc))
  exact_by_parts (Branch p x) (End o) = (λ e. absurd (false≢true (sym (h.branch_end p x o) ∙ e)), λ e. absurd (cc))
  exact_by_parts (End p) (Way y) = (λ e. absurd (false≢true (sym (h.end_way p y) ∙ e)), λ e. absurd (cc))
  exact_by_parts (End p) (Branch o y) = (λ e. absurd (false≢true (sym (h.end_branch p o y) ∙ e)), λ e. absurd (cc))
