-- Short words as numbers, by which contracts tell keywords and signs.
use Rattle.std.specs.Prelude.{true, false, List, [], ◌∷◌, ℕ, ◌+◌, ◌*◌, leb, eqb, length, get_or, Option, Some, None, if◌then◌else◌}
use Prim.Native.String.{String}
use Rattle.tokens.specs.Text.{bytes}
use Rattle.tokens.specs.Tokens.{pairs, lones, keywords}

-- the bytes of a word as one number: the first byte lowest, and a one above the last
unfoldable pub pack : List ℕ → ℕ
pack [] = 1
pack (b ∷ bs) = b + 256 * pack bs

-- the key of a word, 0 where it is longer than any that is looked for
unfoldable pub key_of : List ℕ → ℕ
key_of w = if leb (length w) 6 then pack w else 0

module _ {A : Type 0} where
  -- what a table has for a number; x where it has nothing
  unfoldable pub lookup : A → ℕ → List (ℕ × A) → A
  lookup x k [] = x
  lookup x k (e ∷ es) = elim (eqb k e.0) [ true ↦ e.1 | false ↦ lookup x k es ]

-- a table of words by a number for each
unfoldable pub keyed : (List ℕ → ℕ) → List (String × ℕ) → List (ℕ × ℕ)
keyed f [] = []
keyed f (e ∷ es) = (f (bytes e.0), e.1) ∷ keyed f es

-- the code of a keyword by its key; a name's where there is none
unfoldable pub keyword_by : ℕ → ℕ
keyword_by k = let c = lookup 99 k (keyed pack keywords) in if eqb c 99 then 1 else c

-- 99 stands for no code
abbrev pub known : ℕ → Option ℕ
known c = if eqb c 99 then None else Some c

-- the code of a sign of two bytes by its key, 99 where there is none
unfoldable pub pair_by : ℕ → ℕ
pair_by k = lookup 99 k (keyed pack pairs)

-- the code of a sign of one byte by that byte
abbrev pub first_byte : List ℕ → ℕ
first_byte w = get_or w 0 0

unfoldable pub lone_by : ℕ → ℕ
lone_by b = lookup 99 b (keyed first_byte lones)
