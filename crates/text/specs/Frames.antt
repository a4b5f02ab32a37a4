-- Frames: what a line says, at its number in the text, or the first refusal in the order of the checks.
-- 1: the line's length; 2: its digits; 3: its kind; 4: whether that is due; 5: whether the digits fit; 6: the signs; 7: the weights.
use Rattle.std.specs.Prelude.{ℕ, ◌+◌, ◌*◌, ◌%◌, Bool, not, ◌&&◌, ◌||◌, if◌then◌else◌, List, [], ◌∷◌, length, drop, Some, None, Ok, Err, Option, Result, ◌==◌, nat_lt, slice_index}
use Rattle.std.specs.List.{position, zip}
use Rattle.std.specs.Option.{is_none}
use Rattle.rack.specs.declared.part.Literal.{Literal}
use Rattle.rack.specs.declared.part.Sign.{Sign}
use Rattle.rack.specs.declared.refusal.Position.{Position}
use Rattle.rack.specs.declared.refusal.Refusal.{Refusal}
use Rattle.rack.specs.declared.refusal.Refusal.TheVariants.{LineLength, NoDigit, UnknownKind, NotDue, Misfit, UnknownSign, NotRising}
use Rattle.rack.specs.Hex.{digit_of}
use Rattle.rack.specs.Rank.{rank_of, weight_of}
use Rattle.rack.specs.Sign.{sign_of}
use Rattle.rack.specs.Way.{Way}
use Rattle.text.specs.Digits.{byte_of, decoded}

-- an answer and then another; a refusal ends both
abbrev pub followed : {X Y : Type 0} → Result X Refusal → (X → Result Y Refusal) → Result Y Refusal
followed (Ok x) next = next x
followed (Err e) next = Err e

abbrev pub at : ℕ → ℕ → Position
at line column = record { line = record { 0 = line }; column = record { 0 = column } }

-- a line is even, and has 2 to 100 bytes
abbrev pub bad_length : ℕ → Bool
bad_length n = n == 0 || (not (n % 2 == 0) || nat_lt 100 n)

-- the place of the first byte that is no digit
abbrev pub no_digit : List ℕ → Option ℕ
no_digit bs = position (λ b. is_none (digit_of b)) bs

abbrev pub by_digits : ℕ → Option ℕ → Result Unit Refusal
by_digits line None = Ok tt
by_digits line (Some i) = Err (NoDigit (at line (i + 1)))

-- 1 and 2, which serve every kind of text
abbrev pub checked : ℕ → List ℕ → Result Unit Refusal
checked line bs = (if bad_length (length bs) then Err (LineLength (at line 1)) else by_digits line (no_digit bs))

-- a frame: where its digits after the kind begin, and those digits
pub data Seen : Type 0 where
  start : Position → List ℕ → Seen
  way : Position → List ℕ → Seen
  end : Position → List ℕ → Seen

-- by the bytes that the digits stand for, of which the first is the kind
abbrev pub by_kind : ℕ → List ℕ → List ℕ → Result Seen Refusal
by_kind line bs [] = Err (UnknownKind (at line 1))
by_kind line bs (kind ∷ rest) =
    (if kind == 16 then Ok (start (at line 3) (drop 2 bs))
    else (if kind == 32 then Ok (way (at line 3) (drop 2 bs))
    else (if kind == 48 then Ok (end (at line 3) (drop 2 bs)) else Err (UnknownKind (at line 1)))))

-- 1, 2 and 3
abbrev pub frame_at : ℕ → List ℕ → Result Seen Refusal
frame_at line bs = followed (checked line bs) (λ _. by_kind line bs (decoded bs))

abbrev pub not_due : {X : Type 0} → ℕ → Result X Refusal
not_due line = Err (NotDue (at line 1))

abbrev pub misfit : {X : Type 0} → ℕ → Result X Refusal
misfit line = Err (Misfit (at line 1))

-- four digits are a number
abbrev pub word_at : ℕ → List ℕ → Result ℕ Refusal
word_at line ds = (if length ds == 4 then Ok (byte_of (slice_index ds 0) (slice_index ds 1) * 256 + byte_of (slice_index ds 2) (slice_index ds 3)) else misfit line)

-- a start, where one is due: the table's number
abbrev pub start_of : ℕ → Seen → Result ℕ Refusal
start_of line (start p ds) = word_at line ds
start_of line (way p ds) = not_due line
start_of line (end p ds) = not_due line

abbrev pub start_at : ℕ → List ℕ → Result ℕ Refusal
start_at line bs = followed (frame_at line bs) (start_of line)

-- an end, where one is due: the count of ways
abbrev pub end_of : ℕ → Seen → Result ℕ Refusal
end_of line (start p ds) = not_due line
end_of line (way p ds) = not_due line
end_of line (end p ds) = word_at line ds

abbrev pub end_at : ℕ → List ℕ → Result ℕ Refusal
end_at line bs = followed (frame_at line bs) (end_of line)

-- literal k of a way stands in column 5 + 4k, its sign first
abbrev pub place : ℕ → ℕ → Position
place line k = at line (5 + 4 * k)

abbrev pub literal : ℕ → Sign → Literal
literal part s = record { part = record { 0 = part }; sign = s }

abbrev pub before : Literal → Result Way Refusal → Result Way Refusal
before l (Ok w) = Ok (l ∷ w)
before l (Err e) = Err e

-- the literals of pairs of bytes, a sign and a part, from literal k on, or the first sign above 01
abbrev pub literals_from : ℕ → ℕ → List ℕ → Result Way Refusal
literals_from line k [] = Ok []
literals_from line k (s ∷ []) = Ok []
literals_from line k (s ∷ p ∷ bs) = elim (sign_of s) [ Some g ↦ before (literal p g) (literals_from line (k + 1) bs) | None ↦ Err (UnknownSign (place line k)) ]

-- the count of literals, and a pair of bytes for each
abbrev pub fits : List ℕ → Bool
fits bytes = nat_lt 0 (length bytes) && length bytes == 1 + 2 * slice_index bytes 0

-- whether the weight of a literal is above that of the one before
abbrev pub rises : (ℕ → ℕ) → Literal → Literal → Bool
rises rank before l = nat_lt (weight_of rank before) (weight_of rank l)

-- the place of the first literal behind which one does not rise
abbrev pub not_rising : (ℕ → ℕ) → Way → Option ℕ
not_rising rank w = position (λ p. not (rises rank p.0 p.1)) (zip w (drop 1 w))

abbrev pub by_rise : ℕ → Way → Option ℕ → Result Way Refusal
by_rise line w None = Ok w
by_rise line w (Some k) = Err (NotRising (place line (k + 1)))

abbrev pub rising : ℕ → Way → Result Way Refusal
rising line w = by_rise line w (not_rising rank_of w)

abbrev pub literals_at : ℕ → List ℕ → Result Way Refusal
literals_at line bytes = (if fits bytes then literals_from line 0 (drop 1 bytes) else misfit line)

-- a way, where one is due: its literals
abbrev pub way_of_frame : ℕ → Seen → Result Way Refusal
way_of_frame line (start p ds) = not_due line
way_of_frame line (way p ds) = followed (literals_at line (decoded ds)) (rising line)
way_of_frame line (end p ds) = not_due line

abbrev pub way_at : ℕ → List ℕ → Result Way Refusal
way_at line bs = followed (frame_at line bs) (way_of_frame line)
