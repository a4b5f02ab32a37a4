-- A definition is the same as another exactly where operators, first operands and second operands are.
use Rattle.std.specs.Prelude.{◌≡◌, ◌↔◌, Bool, ◌&&◌, IsTrue}
use Rattle.std.proofs.Common.{ap}
use Rattle.std.proofs.lemmas.Bool.{and_from, and_parts}
use Rattle.definitions.specs.declared.operand.Operator.{Operator}
use Rattle.definitions.specs.declared.operand.Operand.{Operand}
use Rattle.definitions.specs.declared.operand.Definition.{Definition}

-- where o tells equal operators, and f equal operands
module _ (o : Operator → Operator → Bool) (f : Operand → Operand → Bool) (p : (a b : Operator) → IsTrue (o a b) ↔ (a ≡ b)) (q : (a b : Operand) → IsTrue (f a b) ↔ (a ≡ b)) where
  pub exact_by_parts : (a b : Definition) → IsTrue (o a.operator b.operator && (f a.first b.first && f a.second b.second)) ↔ (a ≡ b)
  exact_by_parts a b = (from_parts, to_parts)
    where
      from_parts : IsTrue (o a.operator b.operator && (f a.first b.first && f a.second b.second)) → a ≡ b
      from_parts h =
          let e = and_parts (o a.operator b.operator) _ h in
          let d = and_parts (f a.first b.first) _ e.1 in
          λ i. record { operator = (p a.operator b.operator).0 e.0 i; first = (q a.first b.first).0 d.0 i; second = (q a.second b.second).0 d.1 i }

      to_parts : a ≡ b → IsTrue (o a.operator b.operator && (f a.first b.first && f a.second b.second))
      to_parts e =
          and_from (o a.operator b.operator) _ ((p a.operator b.operator).1 (ap (λ d. d.operator) e))
          (and_from (f a.first b.first) _ ((q a.first b.first).1 (ap (λ d. d.first) e)) ((q a.second b.second).1 (ap (λ d. d.second) e)))
