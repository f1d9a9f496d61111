-- Literals at the limits, each computed by the definition.
use mathlib.Core.Path.{◌≡◌, refl}
use mathlib.Core.Bool.{Bool, true}
use mathlib.Core.List.{[], ◌∷◌}
use Prim.Native.Nat.{ℕ}
use Prim.Native.String.{String}
use lib.Dec.{eqb}
use lib.Ieee.{binary64, to_bits}
use Rattle.tokens.specs.Text.{bytes, every}
use Rattle.tokens.specs.Numbers.{number_fault, value, value_of, signed, bits_of}
use Rattle.tokens.specs.Computing.{computing}

-- the fault of a text
judged : String × ℕ → Bool
judged p = eqb (number_fault (bytes p.0)) p.1

faults : every judged
    (("9007199254740992", 0)
    ∷ ("9007199254740993", 6)
    ∷ ("0.123456789012345", 0)
    ∷ ("0.1234567890123456", 6)
    ∷ ("1.", 0)
    ∷ ("1.2.3", 5)
    ∷ ("1..", 5)
    ∷ ("99999999999999999999.9", 6)
    ∷ ("99999999999999999999.9.9", 5)
    ∷ ("00000000000000000000000000000000000000001", 0)
    ∷ ("0.0000000000000000", 6)
    ∷ []) ≡ true
unfolding computing judged
faults = refl

-- the bits of a text's value
weighed : String × ℕ → Bool
weighed p = eqb (to_bits binary64 (value (bytes p.0))) p.1

values : every weighed
    (("0", 0)
    ∷ ("1.", 0x3ff0_0000_0000_0000)
    ∷ ("0.1", 0x3fb9_9999_9999_999a)
    ∷ ("00000000000000000000000000000000000000001", 0x3ff0_0000_0000_0000)
    ∷ ("9007199254740992", 0x4340_0000_0000_0000)
    ∷ ("0.000000000000001", 0x3cd2_03af_9ee7_5616)
    ∷ []) ≡ true
unfolding computing weighed
values = refl

-- a minus before a zero, and before a tenth
minus_zero : bits_of (signed true (value_of (bytes "0"))) ≡ record { high = 0x8000_0000; low = 0 }
unfolding computing
minus_zero = refl

minus_tenth : bits_of (signed true (value_of (bytes "0.1"))) ≡ record { high = 0xbfb9_9999; low = 0x9999_999a }
unfolding computing
minus_tenth = refl

-- bytes that are not taken have no value but 0
refused : value_of (bytes "1.2.3") ≡ value_of (bytes "0")
unfolding computing
refused = refl
