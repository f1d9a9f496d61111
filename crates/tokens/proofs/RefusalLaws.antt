-- The grounds' numbers: from 1 on, and a byte each.
use Prim.Native.Nat.{ℕ, ◌≤◌}
use mathlib.Core.Path.{◌≡◌, refl, sym, ap, ◌∙◌}
use lib.Dec.{eqb}
use Rattle.std.specs.Prelude.{if◌then◌else◌}
use native.Mathlib.Omega.{arith}
use Rattle.tokens.specs.Refusals.{number_of}
use Rattle.tokens.specs.declared.refusals.Ground.{Ground}
use Rattle.tokens.specs.declared.refusals.Ground.TheVariants as ground

pub number_in : (g : Ground) → (1 ≤ number_of g) × (number_of g ≤ 26)
number_in ground.TooLong = (omega arith, omega arith)
number_in ground.List = (omega arith, omega arith)
number_in ground.Character = (omega arith, omega arith)
number_in ground.OpenString = (omega arith, omega arith)
number_in ground.Number = (omega arith, omega arith)
number_in ground.LongNumber = (omega arith, omega arith)
number_in ground.ManyTokens = (omega arith, omega arith)
number_in ground.Token = (omega arith, omega arith)
number_in ground.Reserved = (omega arith, omega arith)
number_in ground.Arguments = (omega arith, omega arith)
number_in ground.Date = (omega arith, omega arith)
number_in ground.Currency = (omega arith, omega arith)
number_in ground.DayCounter = (omega arith, omega arith)
number_in ground.NoString = (omega arith, omega arith)
number_in ground.Depth = (omega arith, omega arith)
number_in ground.Room = (omega arith, omega arith)
number_in ground.Statement = (omega arith, omega arith)
number_in ground.Ending = (omega arith, omega arith)
number_in ground.ZeroByte = (omega arith, omega arith)
number_in ground.Directory = (omega arith, omega arith)
number_in ground.Edition = (omega arith, omega arith)

-- ---- no two grounds have one number

ground_at : ℕ → Ground
ground_at n =
    if eqb n 1 then ground.TooLong
    else if eqb n 2 then ground.List
    else if eqb n 3 then ground.Character
    else if eqb n 4 then ground.OpenString
    else if eqb n 5 then ground.Number
    else if eqb n 6 then ground.LongNumber
    else if eqb n 7 then ground.ManyTokens
    else if eqb n 8 then ground.Token
    else if eqb n 9 then ground.Reserved
    else if eqb n 10 then ground.Arguments
    else if eqb n 11 then ground.Date
    else if eqb n 12 then ground.Currency
    else if eqb n 13 then ground.DayCounter
    else if eqb n 14 then ground.NoString
    else if eqb n 15 then ground.Depth
    else if eqb n 16 then ground.Room
    else if eqb n 17 then ground.Statement
    else if eqb n 18 then ground.Ending
    else if eqb n 19 then ground.ZeroByte
    else if eqb n 20 then ground.Directory
    else ground.Edition

back : (g : Ground) → ground_at (number_of g) ≡ g
unfolding ground_at
back ground.TooLong = refl
back ground.List = refl
back ground.Character = refl
back ground.OpenString = refl
back ground.Number = refl
back ground.LongNumber = refl
back ground.ManyTokens = refl
back ground.Token = refl
back ground.Reserved = refl
back ground.Arguments = refl
back ground.Date = refl
back ground.Currency = refl
back ground.DayCounter = refl
back ground.NoString = refl
back ground.Depth = refl
back ground.Room = refl
back ground.Statement = refl
back ground.Ending = refl
back ground.ZeroByte = refl
back ground.Directory = refl
back ground.Edition = refl

pub number_once : {g h : Ground} → number_of g ≡ number_of h → g ≡ h
number_once {g} {h} e = sym (back g) ∙ (ap ground_at e ∙ back h)
