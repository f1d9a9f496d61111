-- What spares the test for doubles its walks: a slot for each name, taken by those passed.
use Rattle.std.specs.Prelude.{Bool, ◌&&◌, List, [], ◌∷◌, ℕ, ◌+◌, ◌*◌, ◌%◌}
use Rattle.tokens.specs.Names.{member}

-- the slot of a name, h of the bytes before
unfoldable pub slot_from : ℕ → List ℕ → ℕ
slot_from h [] = h
slot_from h (b ∷ bs) = slot_from ((h * 37 + b) % 2048) bs

abbrev pub slot_of : List ℕ → ℕ
slot_of n = slot_from 0 n

-- a name whose slot is free is not looked for
abbrev pub double_by : Bool → List (List ℕ) → List ℕ → Bool
double_by taken ns n = taken && member ns n
