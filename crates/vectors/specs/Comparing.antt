-- When a call gave and left what is stored.
use Rattle.std.specs.Prelude.{Bool, true, false, ◌&&◌, List, [], ◌∷◌, ℕ, suc, eqb, leb, length, get_or, take, drop, min, Result, Ok, Err}
use Rattle.std.specs.Bool.{beq}
use Rattle.std.specs.Cmp.Lexicographic.{pointwise}
use Rattle.std.specs.Result.{result_eq}
use Rattle.tokens.specs.Text.{same}
use Rattle.reading.specs.declared.reading.Answer.{Answer}
use Rattle.vectors.specs.declared.trouble.Trouble.{Trouble}
use Rattle.vectors.specs.declared.trouble.Trouble.TheVariants.{Differs, NoRoom, Malformed}
use Rattle.vectors.specs.declared.memory.Memory.{Memory}
use Rattle.vectors.specs.declared.«case».Slices.{Slices}
use Rattle.reading.specs.declared.parts.Place.{Place}

-- ---- answers: the ten stored numbers are l

-- number, byte, line, column
unfoldable pub ground_stored : List ℕ → Answer → Bool
ground_stored l a =
    eqb a.number (get_or l 0 0) && (eqb a.byte (get_or l 1 0) && (eqb a.line (get_or l 2 0) && eqb a.column (get_or l 3 0)))

-- bytes, statements, records, tokens, latest
unfoldable pub counts_stored : List ℕ → Answer → Bool
counts_stored l a =
    eqb a.bytes (get_or l 4 0)
    && (eqb a.statements (get_or l 5 0) && (eqb a.records (get_or l 6 0) && (eqb a.tokens (get_or l 7 0) && eqb a.latest (get_or l 8 0))))

-- edition
abbrev pub edition_stored : List ℕ → Answer → Bool
edition_stored l a = eqb a.edition (get_or l 9 0)

abbrev pub answer_stored : List ℕ → Answer → Bool
answer_stored l a = ground_stored l a && (counts_stored l a && edition_stored l a)

-- ---- memory

-- what is lent of a memory: as much of its room as a line filled, or all where a line was not taken
abbrev pub size_of : Result ℕ Trouble → ℕ
size_of (Ok n) = min n 32768
size_of (Err t) = 32768

abbrev pub lent_of : {T : Type 0} → Memory T → List T
lent_of m = take (size_of m.size) m.room

-- each lent byte and word of two is the same
abbrev pub slices_same : Slices → Slices → Bool
slices_same a b =
    same (lent_of a.script) (lent_of b.script)
    && (same (lent_of a.records) (lent_of b.records) && same (lent_of a.directory) (lent_of b.directory))

-- why two lines were not taken is the same
abbrev pub trouble_same : Trouble → Trouble → Bool
trouble_same Differs Differs = true
trouble_same NoRoom NoRoom = true
trouble_same Malformed Malformed = true
trouble_same t u = false

-- two lines were taken with the same size, or not taken for the same reason
abbrev pub size_same : Result ℕ Trouble → Result ℕ Trouble → Bool
size_same = result_eq eqb trouble_same

-- what a comparison of memory answers: that all is well exactly where the sizes agree and each lent item is the same, and else that it differs
abbrev pub compared : {T : Type 0} → (T → T → Bool) → Memory T → Memory T → Result Unit Trouble
compared E a b = elim (size_same a.size b.size && pointwise E (lent_of a) (lent_of b)) [ true ↦ Ok tt | false ↦ Err Differs ]

-- how many elements at the start of two lists are equal: the place of the first that differ
unfoldable pub common : List ℕ → List ℕ → ℕ
common [] bs = 0
common (a ∷ xs) [] = 0
common (a ∷ xs) (b ∷ bs) = elim (eqb a b) [ true ↦ suc (common xs bs) | false ↦ 0 ]

-- ---- lookups

-- a place is the stored one: source (in the list or not), first byte, length
unfoldable pub place_stored : Place → Bool → ℕ → ℕ → Bool
place_stored p l from n = beq p.in_list l && (eqb p.from from && eqb p.size n)

-- bytes are those of the stored part: n bytes at the place p of the source s
unfoldable pub part_stored : List ℕ → List ℕ → ℕ → ℕ → Bool
part_stored g s p n = eqb (length g) n && (leb p (length s) && same g (take n (drop p s)))
