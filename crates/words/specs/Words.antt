-- The words of a line, as the programs read them: numbers, operands and methods. A line is cut into words at each space.
use Rattle.std.specs.Prelude.{◌≡◌, ℕ, ◌+◌, ◌-◌, ◌*◌, min, cond, ◌&&◌, List, [], ◌∷◌, length, take, drop, Some, None, codes, Option, ◌==◌, ◌≢◌, nat_le, nat_lt}
use Rattle.rack.specs.Hex.{digit_of}
use Rattle.definitions.specs.declared.operand.Operand.{Operand}
use Rattle.definitions.specs.Operands.{operand_of_kind}
use Rattle.methods.specs.declared.translate.Method.{Method}
use Rattle.methods.specs.declared.translate.Method.TheVariants.{Naive, Decomposition, NodeMerging}

-- a space, as a byte
abbrev pub space : ℕ
space = 32

-- the number that digits of a base stand for behind n; none where a byte is no digit
abbrev pub number_behind : (ℕ → Option ℕ) → ℕ → ℕ → List ℕ → Option ℕ
number_behind digit base n [] = Some n
number_behind digit base n (b ∷ bs) = elim (digit b) [ Some d ↦ number_behind digit base (n * base + d) bs | None ↦ None ]

abbrev pub decimal_digit : ℕ → Option ℕ
decimal_digit b = cond (nat_le 48 b && nat_le b 57) (Some (b - 48)) None

-- the digit that a byte is in a base up to 16; none where it is none
abbrev pub digit_below : ℕ → ℕ → Option ℕ
digit_below base b = elim (digit_of b) [ Some d ↦ cond (nat_lt d base) (Some d) None | None ↦ None ]

-- the largest of a usize, where a number is larger
abbrev pub capped : Option ℕ → Option ℕ
capped None = None
capped (Some n) = Some (min n 18446744073709551615)

-- no digits are no number
abbrev pub decimal_of : List ℕ → Option ℕ
decimal_of word = cond (length word == 0) None (capped (number_behind decimal_digit 10 0 word))

-- of up to sixteen digits
abbrev pub hexadecimal_of : List ℕ → Option ℕ
hexadecimal_of word = cond (nat_lt 16 (length word)) None (number_behind digit_of 16 0 word)

-- a kind and a number, where both are read
abbrev pub with_number : ℕ → Option ℕ → Option Operand
with_number kind None = None
with_number kind (Some number) = operand_of_kind kind number

abbrev pub with_kind : Option ℕ → Option ℕ → Option Operand
with_kind None number = None
with_kind (Some kind) number = with_number kind number

-- six digits: two of kind and four of number
abbrev pub operand_of_word : List ℕ → Option Operand
operand_of_word word = cond (length word == 6) (with_kind (hexadecimal_of (take 2 word)) (hexadecimal_of (take 4 (drop 2 word)))) None

-- what the programs call a method
abbrev pub name_of : Method → List ℕ
name_of Naive = codes "plain"
name_of Decomposition = codes "decomposed"
name_of NodeMerging = codes "merged"

-- the method that a word names, where it names one
abbrev pub NamesMethod : List ℕ → Option Method → Type 0
NamesMethod word (Some m) = word ≡ name_of m
NamesMethod word None = (m : Method) → word ≢ name_of m
