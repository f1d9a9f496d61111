-- The grounds on which calls refuse, by the numbers of the paper.
use Rattle.std.specs.Prelude.{ℕ}
use Rattle.tokens.specs.declared.refusals.Ground.{Ground}
use Rattle.tokens.specs.declared.refusals.Ground.TheVariants as ground

abbrev pub number_of : Ground → ℕ
number_of ground.TooLong = 1
number_of ground.List = 2
number_of ground.Character = 3
number_of ground.OpenString = 4
number_of ground.Number = 5
number_of ground.LongNumber = 6
number_of ground.ManyTokens = 7
number_of ground.Token = 8
number_of ground.Reserved = 9
number_of ground.Arguments = 10
number_of ground.Date = 11
number_of ground.Currency = 12
number_of ground.DayCounter = 13
number_of ground.NoString = 14
number_of ground.Depth = 15
number_of ground.Room = 16
number_of ground.Statement = 17
number_of ground.Ending = 18
number_of ground.ZeroByte = 19
number_of ground.Directory = 20
number_of ground.Edition = 26
