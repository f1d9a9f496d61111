-- Lent lists: reserved words, currencies, day counters.
use Rattle.std.specs.Prelude.{Bool, true, false, ◌&&◌, ◌||◌, not, Option, Some, None, List, [], ◌∷◌, ℕ, zero, suc, ◌-◌, leb, eqb, length, get_or}
use Rattle.tokens.specs.Text.{bytes, same, within, capital, every}
use Rattle.tokens.specs.Limits.{most_names, longest_name}

-- a byte before a name, or before nothing
unfoldable pub push : ℕ → List (List ℕ) → List (List ℕ)
push b [] = (b ∷ []) ∷ []
push b (n ∷ ns) = (b ∷ n) ∷ ns

-- the names of a list, in order: each ends in a line feed
unfoldable pub names : List ℕ → List (List ℕ)
names [] = []
names (b ∷ bs) = elim (eqb b 10) [ true ↦ [] ∷ names bs | false ↦ push b (names bs) ]

-- the last name ends in a line feed too
abbrev pub ended : List ℕ → Bool
ended l = eqb (length l) 0 || eqb (get_or l (length l - 1) 0) 10

-- a name's place in a list, from 0, plus 1; 0 where it is absent. Names match by equal bytes
unfoldable pub place : List (List ℕ) → List ℕ → ℕ
place [] n = 0
place (m ∷ ms) n = elim (same m n) [ true ↦ 1 | false ↦ elim (place ms n) [ zero ↦ 0 | suc k ↦ suc (suc k) ] ]

-- the same, where there is one, as the code has it
abbrev pub index_of : ℕ → Option ℕ
index_of zero = None
index_of (suc k) = Some k

abbrev pub member : List (List ℕ) → List ℕ → Bool
member ns n = leb 1 (place ns n)

-- no name twice
unfoldable pub distinct : List (List ℕ) → Bool
distinct [] = true
distinct (n ∷ ns) = not (member ns n) && distinct ns

-- a name has 1 to 32 bytes, a currency three
abbrev pub good_length : Bool → ℕ → Bool
good_length true k = eqb k 3
good_length false k = within 1 longest_name k

-- 0x20 to 0x7E, no quote; in a currency capital letters
abbrev pub good_byte : Bool → ℕ → Bool
good_byte true b = capital b
good_byte false b = within 32 126 b && not (eqb b 34)

abbrev pub good_name : Bool → List ℕ → Bool
good_name money n = good_length money (length n) && every (good_byte money) n

-- at most 256 names a list, each good, no name twice
unfoldable pub good_names : Bool → List (List ℕ) → Bool
good_names money ns = leb (length ns) most_names && (every (good_name money) ns && distinct ns)

-- of currencies USD is first
abbrev pub usd_first : Bool → List (List ℕ) → Bool
usd_first money ns = not money || eqb (place ns (bytes "USD")) 1

-- a list is well formed, as one of currencies or as another
unfoldable pub good_list : Bool → List ℕ → Bool
good_list money l = ended l && (good_names money (names l) && usd_first money (names l))

-- the three lists, as bytes
pub record Lists : Type 0 where
  pub reserved : List ℕ
  pub currencies : List ℕ
  pub counters : List ℕ

unfoldable pub good_lists : Lists → Bool
good_lists l = good_list false l.reserved && (good_list true l.currencies && good_list false l.counters)
