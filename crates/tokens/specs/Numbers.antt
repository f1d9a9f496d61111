-- Number literals: a digit, then digits and dots.
use Rattle.std.specs.Prelude.{Bool, false, ◌&&◌, ◌||◌, not, List, [], ◌∷◌, ℕ, ◌+◌, ◌-◌, ◌*◌, ◌/◌, ◌%◌, ◌^◌, ltb, eqb, pos, Float, Result, Ok, Err, ⊤, if◌then◌else◌}
use Rattle.std.specs.Float.{binary64}
use Rattle.std.specs.Float.Ieee.{of_int, div, neg, to_bits}
use Rattle.tokens.specs.Text.{count}
use Rattle.tokens.specs.Limits.{most_digits, most_decimals}
use Rattle.tokens.specs.Refusals.{number_of}
use Rattle.tokens.specs.declared.refusals.Ground.{Ground}
use Rattle.tokens.specs.declared.numbers.Bits.{Bits}

-- the number that the digits stand for, with the dots removed; n is that of the digits before
unfoldable pub digits : ℕ → List ℕ → ℕ
digits n [] = n
digits n (b ∷ bs) = digits (if eqb b 46 then n else n * 10 + (b - 48)) bs

-- how many digits stand after the dot; the Bool says whether one stands before
unfoldable pub decimals : Bool → List ℕ → ℕ
decimals seen [] = 0
decimals seen (b ∷ bs) = (if seen && not (eqb b 46) then 1 else 0) + decimals (seen || eqb b 46) bs

-- two dots are malformed (5), judged before length (6): 0 where the literal is taken
abbrev pub fault_of : ℕ → ℕ → ℕ → ℕ
fault_of dots n k =
    if ltb 1 dots
    then 5
    else (if ltb most_digits n || ltb most_decimals k then 6 else 0)

unfoldable pub number_fault : List ℕ → ℕ
number_fault bs = fault_of (count (eqb 46) bs) (digits 0 bs) (decimals false bs)

-- what the code answers of it
abbrev pub as_fault : Result ⊤ Ground → ℕ
as_fault (Ok u) = 0
as_fault (Err g) = number_of g

-- its value is one f64 division of the digits by the power of ten
abbrev pub quotient : ℕ → ℕ → Float
quotient n k = div binary64 (of_int binary64 (pos n)) (of_int binary64 (pos (10 ^ k)))

unfoldable pub value : List ℕ → Float
value bs = quotient (digits 0 bs) (decimals false bs)

-- the value of any bytes: that of the rule where they have at most one dot and are not too long, and else 0
unfoldable pub value_of : List ℕ → Float
value_of bs = if eqb (number_fault bs) 0 then value bs else of_int binary64 (pos 0)

-- a minus that stands before a number negates its value
abbrev pub signed : Bool → Float → Float
signed minus x = if minus then neg x else x

-- the two words of a value's bits
abbrev pub bits_of : Float → Bits
bits_of x = record { high = to_bits binary64 x / 2 ^ 32; low = to_bits binary64 x % 2 ^ 32 }
