-- The entries of a directory in lent words: read as rows, tested one after the other, moved in place.
use Rattle.std.specs.Prelude.{Bool, ◌&&◌, List, [], ◌∷◌, ◌++◌, ℕ, zero, suc, ◌+◌, ◌-◌, ◌*◌, ◌^◌, leb, ltb, length, take, drop, get_or, if◌then◌else◌}
use Rattle.grammar.specs.Sizes.{entry_width}
use Rattle.grammar.specs.Words.{Row}
use Rattle.amending.specs.Amending.{Pick}
use Rattle.amending.specs.declared.rows.Row.{Row as Line}

-- ---- read

-- the entry whose five words stand at the index i
abbrev pub row_at : List ℕ → ℕ → Row
row_at d i =
    record { start = get_or d i 0; end = get_or d (i + 1) 0; records = get_or d (i + 2) 0; tokens = get_or d (i + 3) 0; latest = get_or d (i + 4) 0 }

-- the first k entries
unfoldable pub rows_from : ℕ → List ℕ → List Row
rows_from zero d = []
rows_from (suc k) d = row_at d 0 ∷ rows_from k (drop entry_width d)

-- the k-th of n entries, those before it and those behind it
abbrev pub pick_at : ℕ → ℕ → List ℕ → Pick Row
pick_at k n d =
    record { before = rows_from k d; one = row_at d (entry_width * k); behind = rows_from (n - 1 - k) (drop (entry_width * k + entry_width) d) }

-- ---- tested

-- an entry as the code has it
abbrev pub entry : Line → Row
entry r = record { start = r.start; end = r.end; records = r.records; tokens = r.tokens; latest = r.latest }

-- an entry from the byte i on, not empty, with a record and a token, and with no more of them than are left
abbrev pub row_fits : ℕ → ℕ → ℕ → Row → Bool
row_fits i records tokens r =
    leb i r.start
    && (ltb r.start r.end
    && (leb 1 r.records && (leb 1 r.tokens && (leb r.records records && leb r.tokens tokens))))

-- ---- moved

-- a place at or past `old`, as far past `new`; one before it, or that would be no word, as it was
abbrev pub moved_place : ℕ → ℕ → ℕ → ℕ
moved_place old new w = if leb old w && ltb (w - old + new) (2 ^ 32) then w - old + new else w

abbrev pub shifted_row : ℕ → ℕ → Row → Row
shifted_row old new r =
    record { start = moved_place old new r.start; end = moved_place old new r.end; records = r.records; tokens = r.tokens; latest = r.latest }

-- the words of the first k entries, their places moved; an entry that is not whole stays
unfoldable pub moved_words : ℕ → ℕ → ℕ → List ℕ → List ℕ
moved_words old new zero d = d
moved_words old new (suc k) [] = []
moved_words old new (suc k) (a ∷ []) = a ∷ []
moved_words old new (suc k) (a ∷ b ∷ []) = a ∷ b ∷ []
moved_words old new (suc k) (a ∷ b ∷ r ∷ []) = a ∷ b ∷ r ∷ []
moved_words old new (suc k) (a ∷ b ∷ r ∷ t ∷ []) = a ∷ b ∷ r ∷ t ∷ []
moved_words old new (suc k) (a ∷ b ∷ r ∷ t ∷ x ∷ d) = moved_place old new a ∷ moved_place old new b ∷ r ∷ t ∷ x ∷ moved_words old new k d

-- the words with the entries from number `from` up to, not including, number `to` moved
abbrev pub moved_from : List ℕ → ℕ → ℕ → ℕ → ℕ → List ℕ
moved_from d from to old new = take (entry_width * from) d ++ moved_words old new (to - from) (drop (entry_width * from) d)

-- so, where the directory has so many entries; else as they were
abbrev pub shifted : List ℕ → ℕ → ℕ → ℕ → ℕ → List ℕ
shifted d from to old new = if leb (entry_width * to) (length d) then moved_from d from to old new else d
