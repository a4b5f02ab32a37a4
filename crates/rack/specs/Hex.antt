-- Digits: 0 to 9 and capital A to F, as bytes of a text.
use Rattle.std.specs.Prelude.{ℕ, ◌+◌, ◌-◌, ◌/◌, ◌%◌, cond, ◌&&◌, List, [], ◌∷◌, Some, None, Option, nat_le, nat_lt}

-- what a byte is worth as a digit
abbrev pub digit_of : ℕ → Option ℕ
digit_of b = cond (nat_le 48 b && nat_le b 57) (Some (b - 48)) (cond (nat_le 65 b && nat_le b 70) (Some (b - 55)) None)

-- the byte of a number's last digit
abbrev pub hex_digit : ℕ → ℕ
hex_digit n = cond (nat_lt (n % 16) 10) (n % 16 + 48) (n % 16 + 55)

abbrev pub hex_byte : ℕ → List ℕ
hex_byte n = hex_digit (n / 16) ∷ hex_digit n ∷ []

abbrev pub hex_word : ℕ → List ℕ
hex_word n = hex_digit (n / 256 / 16) ∷ hex_digit (n / 256) ∷ hex_digit (n % 256 / 16) ∷ hex_digit (n % 256) ∷ []
