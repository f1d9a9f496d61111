-- The words or bytes in use at the front of lent memory, when a part of them gets another length or other elements.
use Rattle.std.specs.Prelude.{List, ◌++◌, ℕ, ◌+◌, ◌-◌, max, length, take, drop, replicate}

-- the elements of l from the index f up to, not including, the index t
abbrev pub part : {A : Type 0} → ℕ → ℕ → List A → List A
part f t l = drop f (take t l)

-- how many are in use when the part [from, to) of the first `used` is k long
abbrev pub used_after : ℕ → ℕ → ℕ → ℕ → ℕ
used_after used from to k = from + k + (used - to)

-- The part [from, to) of the first `used` elements gets k elements: the first from + k stay, then come those from `to` on, then as many times `clear` as
-- room is freed; past those in use, before or after, l is as it was.
unfoldable pub resized : {A : Type 0} → A → List A → ℕ → ℕ → ℕ → ℕ → List A
resized clear l used from to k =
    take (from + k) l
    ++ (part to used l ++ (replicate (used - used_after used from to k) clear ++ drop (max used (used_after used from to k)) l))

-- the same with `text` in the part's place, of numbers, and zeros for the room that is freed
unfoldable pub spliced : List ℕ → ℕ → ℕ → ℕ → List ℕ → List ℕ
spliced l used from to text =
    take from l
    ++ (text
    ++ (part to used l
    ++ (replicate (used - used_after used from to (length text)) 0 ++ drop (max used (used_after used from to (length text))) l)))

-- Memory of which `old` elements were in use, and now those of used' are: they stand at the front, freed room is zeroed, the rest is as it was.
abbrev pub leave : List ℕ → ℕ → List ℕ → List ℕ
leave used' old l = used' ++ (replicate (old - length used') 0 ++ drop (max old (length used')) l)
