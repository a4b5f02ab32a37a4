-- The two signs: the code by which a frame writes each, and the other of the two.
use Rattle.std.specs.Prelude.{ℕ, if◌then◌else◌, ◌==◌, Some, None, Option}
use Rattle.rack.specs.declared.part.Sign.{Sign}
use Rattle.rack.specs.declared.part.Sign.TheVariants.{Works, Out}

abbrev pub sign_code : Sign → ℕ
sign_code Works = 0
sign_code Out = 1

-- the sign of a code, if it has one
abbrev pub sign_of : ℕ → Option Sign
sign_of code = (if code == 0 then Some Works else (if code == 1 then Some Out else None))

abbrev pub turned : Sign → Sign
turned Works = Out
turned Out = Works
