-- Lines read back as what they were written of: each digit as the number it stands for, and so each operand and definition in range.
use Rattle.std.proofs.Common.{◌≡◌, ℕ, ◌+◌, ◌*◌, ◌/◌, ◌%◌, ◌<◌, cond, ltb, Some, None, refl, ap, ◌∙◌, arith}
use Rattle.std.proofs.lemmas.Bool.Decides.{nat_tests}
use Rattle.rack.specs.Hex.{digit_of, hex_digit}
use Rattle.definitions.specs.declared.operand.Operator.{Operator}
use Rattle.definitions.specs.declared.operand.Operator.TheVariants.{Meet, Join}
use Rattle.definitions.specs.declared.operand.Operand.{Operand}
use Rattle.definitions.specs.declared.operand.Operand.TheVariants.{Never, Always, Works, Out, Defined}
use Rattle.definitions.specs.declared.operand.Definition.{Definition}
use Rattle.definitions.specs.Operands.{number}
use Rattle.delivery.specs.Lines.{operand_digits, start_line, definition_line, end_line}
use Rattle.delivery.specs.ReadBack.{then_read, byte_read, word_read, operand_read, operand_by, definition_read, end_read}

-- the digit of a number below 16
digit : (r : ℕ) → r < 16 → digit_of (cond (ltb r 10) (r + 48) (r + 55)) ≡ Some r
digit r h = grind (arith, nat_tests)

digit_read : (n : ℕ) → digit_of (hex_digit n) ≡ Some (n % 16)
digit_read n = digit (n % 16) (omega arith)

byte_reads : (m n : ℕ) → byte_read (hex_digit m) (hex_digit n) ≡ Some (16 * (m % 16) + n % 16)
byte_reads m n = ap (λ o. then_read o (λ x. then_read (digit_of (hex_digit n)) (λ y. Some (16 * x + y)))) (digit_read m) ∙ ap (λ o. then_read o (λ y. Some (16 * (m % 16) + y))) (digit_read n)

word_reads : (n : ℕ) → n < 65536 → word_read (hex_digit (n / 256 / 16)) (hex_digit (n / 256)) (hex_digit (n % 256 / 16)) (hex_digit (n % 256)) ≡ Some n
word_reads n h =
    let all : 256 * (16 * (n / 256 / 16 % 16) + n / 256 % 16) + (16 * (n % 256 / 16 % 16) + n % 256 % 16) ≡ n = omega arith in
    ap (λ o. then_read o (λ x. then_read (byte_read (hex_digit (n % 256 / 16)) (hex_digit (n % 256))) (λ y. Some (256 * x + y)))) (byte_reads (n / 256 / 16) (n / 256))
    ∙ ap (λ o. then_read o (λ y. Some (256 * (16 * (n / 256 / 16 % 16) + n / 256 % 16) + y))) (byte_reads (n % 256 / 16) (n % 256))
    ∙ ap (λ (m : ℕ). Some m) all

pub operand_reads : (x : Operand) → number x < 65536 → operand_read (operand_digits x) ≡ Some x
operand_reads Never h = refl
operand_reads Always h = refl
operand_reads (Works p) h = ap (λ o. then_read o (operand_by 2)) (word_reads p.0 h)
operand_reads (Out p) h = ap (λ o. then_read o (operand_by 3)) (word_reads p.0 h)
operand_reads (Defined n) h = ap (λ o. then_read o (operand_by 4)) (word_reads n.0 h)

module _ (d : Definition) (h : number d.first < 65536) (k : number d.second < 65536) where
  -- behind the operator
  operands_read : (o : Operator) → then_read {Y = Definition} (operand_read (operand_digits d.first)) (λ a. then_read {Y = Definition} (operand_read (operand_digits d.second)) (λ b. Some (record { operator = o; first = a; second = b }))) ≡ Some (record { operator = o; first = d.first; second = d.second })
  operands_read o =
      ap (λ r. then_read {Y = Definition} r (λ a. then_read {Y = Definition} (operand_read (operand_digits d.second)) (λ b. Some (record { operator = o; first = a; second = b })))) (operand_reads d.first h)
      ∙ ap (λ r. then_read {Y = Definition} r (λ b. Some (record { operator = o; first = d.first; second = b }))) (operand_reads d.second k)

pub definition_reads : (d : Definition) → number d.first < 65536 → number d.second < 65536 → definition_read (definition_line d) ≡ Some d
definition_reads d h k = by d.operator
  where
    by : (o : Operator) → definition_read (definition_line (record { operator = o; first = d.first; second = d.second })) ≡ Some (record { operator = o; first = d.first; second = d.second })
    by Meet = operands_read d h k Meet
    by Join = operands_read d h k Join

pub end_line_reads : (x : Operand) → number x < 65536 → end_read (end_line x) ≡ Some x
end_line_reads x h = operand_reads x h

-- the other two lines read as no definition
pub start_no_definition : (m : ℕ) → definition_read (start_line m) ≡ None
start_no_definition m = refl

pub end_no_definition : (x : Operand) → definition_read (end_line x) ≡ None
end_no_definition x = refl
