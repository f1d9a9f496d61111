-- What reading an input leaves, and its listing.
use Rattle.std.specs.Prelude.{◌≡◌, List, ℕ, ◌<◌, ◌≤◌, length, take, Option, Result, IfOk}
use Rattle.std.specs.Io.KnownBytes.{Consumes, IsAtEnd}
use Rattle.listing.specs.Listing.{listing}
use Rattle.listing.specs.declared.Listed.{Listed}

-- a list has n elements at its start, so many as these are
abbrev pub IsPrefixLen : ℕ → List ℕ → Type 0
IsPrefixLen n xs = (n ≤ length xs) × (n ≡ length (take n xs))

-- the bytes that came stand in memory; of a failed read nothing is said
abbrev pub Within : {E : Type 0} → Result ℕ E → List ℕ → Type 0
Within r o = IfOk r (λ n. IsPrefixLen n o)

-- of bytes that are known the first n stand in o, and none is left where these do not fill it
abbrev pub Takes : Option (List ℕ) → Option (List ℕ) → ℕ → List ℕ → Type 0
Takes old new n o = Consumes old new (take n o) × (n < length o → IsAtEnd new)

-- n bytes came, which stand in s, and k bytes of t are to be written: the listing of every input that has these as its first
-- 16,385 bytes, or as all of its bytes if they are fewer
pub record Lists (n k : ℕ) (s t : List ℕ) : Type 0 where
  pub came : IsPrefixLen n s
  pub size : IsPrefixLen k t
  pub lines : (input : List ℕ) → take 16385 input ≡ take n s → take k t ≡ listing input

abbrev pub ListsInput : {E : Type 0} → Result Listed E → List ℕ → List ℕ → Type 0
ListsInput r s t = IfOk r (λ l. Lists l.came l.lines s t)
