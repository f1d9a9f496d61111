-- What spares the search for a name its walk: where its first byte, its last and a line feed nowhere stand as far apart as they would.
use Rattle.std.specs.Prelude.{◌≡◌, List, ℕ, ◌+◌, ◌-◌, ◌<◌, get_or}

-- r is 0 where they do, at one of the first places of a list
abbrev pub Sifts : List ℕ → ℕ → ℕ → ℕ → ℕ → ℕ → Type 0
Sifts s n first last places r =
    (j : ℕ) → j < places → get_or s j 0 ≡ first → get_or s (j + n - 1) 0 ≡ last → get_or s (j + n) 0 ≡ 10 → r ≡ 0
