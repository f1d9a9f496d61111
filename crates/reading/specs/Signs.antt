-- Which signs a level of the grammar takes, by the numbers of their kinds.
use Rattle.std.specs.Prelude.{Bool, ◌&&◌, ◌||◌, not, ℕ, eqb}
use Rattle.tokens.specs.Text.{within}

-- Where a power is read alone, no sign of a level above it goes on

-- `and`, where it binds tighter than `or`: in the second edition
abbrev pub tighter_sign : Bool → Bool → ℕ → Bool
tighter_sign second alone k = not alone && (second && eqb 19 k)

-- `or`, and `and` where it is of one level with it
abbrev pub looser_sign : Bool → Bool → ℕ → Bool
looser_sign second alone k = not alone && ((not second && eqb 19 k) || eqb 20 k)

-- `==` `!=` `>` `<` `>=` `<=`
abbrev pub comparator : Bool → ℕ → Bool
comparator alone k = not alone && within 13 18 k

abbrev pub sum_sign : Bool → ℕ → Bool
sum_sign alone k = not alone && (eqb 8 k || eqb 9 k)

abbrev pub product_sign : Bool → ℕ → Bool
product_sign alone k = not alone && (eqb 10 k || eqb 11 k)

abbrev pub power_sign : ℕ → Bool
power_sign k = eqb 12 k

-- `**`, where a sign takes it in: in the second edition
abbrev pub taken_in : Bool → ℕ → Bool
taken_in second k = second && eqb 12 k

-- what begins with this may have a `**` behind it that is not its own: in the second edition, and no sign
abbrev pub raisable : Bool → ℕ → Bool
raisable second k = second && (not (eqb 8 k) && not (eqb 9 k))

-- `.`, `[`
abbrev pub postfix_sign : ℕ → Bool
postfix_sign k = eqb 47 k || eqb 44 k
