-- Reading the lines of a delivery back from their bytes: definitions from `50` lines, and the operand from a `60` line.
-- None where a line has another length or beginning, a byte is no digit, a kind is above 04 or an operator above 01.
use Rattle.std.specs.Prelude.{ℕ, ◌+◌, ◌*◌, ◌&&◌, List, [], ◌∷◌, length, take, drop, Some, None, Option, ◌==◌, slice_index}
use Rattle.rack.specs.Hex.{digit_of}
use Rattle.definitions.specs.declared.operand.Operator.{Operator}
use Rattle.definitions.specs.declared.operand.Operator.TheVariants.{Meet, Join}
use Rattle.definitions.specs.declared.operand.Operand.{Operand}
use Rattle.definitions.specs.declared.operand.Operand.TheVariants.{Never, Always, Works, Out, Defined}
use Rattle.definitions.specs.declared.operand.Definition.{Definition}
use Rattle.definitions.specs.Combine.{choose}

-- one reading and then another; where the first reads nothing, nothing is read
abbrev pub then_read : {X Y : Type 0} → Option X → (X → Option Y) → Option Y
then_read None next = None
then_read (Some x) next = next x

-- two digits
abbrev pub byte_read : ℕ → ℕ → Option ℕ
byte_read a b = then_read (digit_of a) (λ x. then_read (digit_of b) (λ y. Some (16 * x + y)))

-- four digits
abbrev pub word_read : ℕ → ℕ → ℕ → ℕ → Option ℕ
word_read a b c d = then_read (byte_read a b) (λ x. then_read (byte_read c d) (λ y. Some (256 * x + y)))

-- the operator of a code
abbrev pub operator_of : ℕ → Option Operator
operator_of o = choose (o == 0) (Some Meet) (choose (o == 1) (Some Join) None)

-- the operand of a kind and a number
abbrev pub operand_by : ℕ → ℕ → Option Operand
operand_by k n =
    choose (k == 0) (Some Never) (choose (k == 1) (Some Always) (choose (k == 2) (Some (Works (record { 0 = n }))) (choose (k == 3) (Some (Out (record { 0 = n }))) (choose (k == 4) (Some (Defined (record { 0 = n }))) None))))

-- six digits: two of kind and four of number
abbrev pub operand_read : List ℕ → Option Operand
operand_read bs =
    choose (length bs == 6) (then_read (byte_read (slice_index bs 0) (slice_index bs 1)) (λ k. then_read (word_read (slice_index bs 2) (slice_index bs 3) (slice_index bs 4) (slice_index bs 5)) (operand_by k))) None

-- a `50` line: the operator and the two operands
abbrev pub definition_read : List ℕ → Option Definition
definition_read line =
    choose (length line == 17 && (slice_index line 0 == 53 && (slice_index line 1 == 48 && slice_index line 16 == 10)))
    (then_read (byte_read (slice_index line 2) (slice_index line 3)) (λ c. then_read (operator_of c) (λ o. then_read (operand_read (take 6 (drop 4 line))) (λ a. then_read (operand_read (take 6 (drop 10 line))) (λ b. Some (record { operator = o; first = a; second = b }))))))
    None

-- a `60` line: the operand
abbrev pub end_read : List ℕ → Option Operand
end_read line = choose (length line == 9 && (slice_index line 0 == 54 && (slice_index line 1 == 48 && slice_index line 8 == 10))) (operand_read (take 6 (drop 2 line))) None

abbrev pub in_front : Option Definition → List Definition → List Definition
in_front None ds = ds
in_front (Some d) ds = d ∷ ds

-- the definitions that the `50` lines give, in order, and so numbered from 1; other lines are passed over
abbrev pub definitions_read : List (List ℕ) → List Definition
definitions_read [] = []
definitions_read (l ∷ ls) = in_front (definition_read l) (definitions_read ls)
