-- The call on lent words: bytes, directory and records alone, no trees.
use Rattle.std.specs.Prelude.{Bool, ◌&&◌, ◌||◌, not, List, [], ◌∷◌, ◌++◌, map, ℕ, ◌+◌, ◌-◌, ◌*◌, leb, ltb, eqb, length, take, drop, if◌then◌else◌}
use Rattle.std.proofs.Math.Option.{Option, none, some}
use Rattle.tokens.specs.Names.{Lists}
use Rattle.grammar.specs.Grammar.{Edition}
use Rattle.grammar.specs.Sizes.{record_width}
use Rattle.grammar.specs.Script.{Entry, Outcome, accepted, refused, tokens_of, no_zero, read_script}
use Rattle.grammar.specs.Words.{words_of, Row, row_of, latest_of}
use Rattle.amending.specs.Amend.{ends_well}
use Rattle.amending.specs.Amending.{State, Rooms, Pick, pick, Answer, done, refusal}

-- what is lent: the words that are used of it, the count of tokens, and the script's latest date
pub record Lent : Type 0 where
  pub script : List ℕ
  pub rows : List Row
  pub words : List ℕ
  pub tokens : ℕ
  pub latest : ℕ

-- ---- sums

abbrev pub sum_records : List Row → ℕ
sum_records [] = 0
sum_records (r ∷ rs) = r.records + sum_records rs

abbrev pub sum_tokens : List Row → ℕ
sum_tokens [] = 0
sum_tokens (r ∷ rs) = r.tokens + sum_tokens rs

-- totals of bytes, tokens, records or statements over capacity or lent room
unfoldable pub over_rows : Rooms → ℕ → List Row → Bool
over_rows R b rs =
    ltb R.bytes b || (ltb R.tokens (sum_tokens rs) || (ltb R.records (sum_records rs) || ltb R.statements (length rs)))

-- ---- 20

-- no entry is empty, they ascend without overlap from the byte i up to the byte j, each with a record and a token
unfoldable pub ascending : ℕ → ℕ → List Row → Bool
ascending i j [] = leb i j
ascending i j (r ∷ rs) =
    leb i r.start && (ltb r.start r.end && (leb 1 r.records && (leb 1 r.tokens && ascending r.end j rs)))

-- inside the script, sums equal to the counts, bytes and counts within capacity and the lent slices, and the script's latest date the greatest of the entries'
unfoldable pub in_order : Rooms → Lent → Bool
in_order R L =
    ascending 0 (length L.script) L.rows
    && (eqb (length L.words) (record_width * sum_records L.rows)
    && (eqb L.tokens (sum_tokens L.rows)
    && (eqb L.latest (latest_of L.rows) && not (over_rows R (length L.script) L.rows))))

-- ---- the words that an amendment leaves

-- an entry d bytes further on
abbrev pub moved_row : ℕ → Row → Row
moved_row d r = record { start = r.start + d; end = r.end + d; records = r.records; tokens = r.tokens; latest = r.latest }

-- an entry behind a text of a bytes that stands where one of b bytes stood
abbrev pub between_row : ℕ → ℕ → Row → Row
between_row a b r = record { start = r.start + a - b; end = r.end + a - b; records = r.records; tokens = r.tokens; latest = r.latest }

-- the entries behind are moved, and those of the new text of n bytes put between
abbrev pub swapped_rows : Pick Row → ℕ → List Row → List Row
swapped_rows p n ns =
    p.before ++ (map (moved_row p.one.start) ns ++ map (between_row n (p.one.end - p.one.start)) p.behind)

-- so the bytes and the records
unfoldable pub swapped : Lent → Pick Row → List ℕ → List Entry → Lent
swapped L p n ns = record {
  script = take p.one.start L.script ++ n ++ drop p.one.end L.script;
  rows = swapped_rows p (length n) (map row_of ns);
  words = take (record_width * sum_records p.before) L.words ++ (words_of ns ++ drop (record_width * (sum_records p.before + p.one.records)) L.words);
  tokens = sum_tokens (swapped_rows p (length n) (map row_of ns));
  latest = latest_of (swapped_rows p (length n) (map row_of ns));
}

-- ---- the call in an edition. Order: 20, 17, 19, then the new text read alone as a script (1 to 15), 18, 16 over the totals

-- lent words as they are left, or a refusal, which leaves them as they were
pub data Handed : Type 0 where
  handed : Lent → Handed
  unchanged : ℕ → ℕ → Handed

-- 16, at the new text's end p
unfoldable pub fitting_lent : Rooms → ℕ → Lent → Handed
fitting_lent R p L = if over_rows R (length L.script) L.rows then unchanged 16 p else handed L

module _ (E : Edition) (l : Lists) (R : Rooms) where
  -- what reading the new text n answers (1 to 15), 18, 16
  unfoldable pub put_lent : Lent → Pick Row → List ℕ → Outcome → Handed
  put_lent L p n (refused f at) = unchanged f at
  put_lent L p n (accepted ns) =
      if not (ends_well n) then unchanged 18 (length n) else fitting_lent R (length n) (swapped L p n ns)

  -- 17, 19
  unfoldable pub lent_at : Lent → List ℕ → Option (Pick Row) → Handed
  lent_at L n none = unchanged 17 0
  lent_at L n (some p) = if not (no_zero n) then unchanged 19 0 else put_lent L p n (read_script E l n)

  -- 20; the k-th statement's text is replaced by n
  unfoldable pub amend_lent : Lent → ℕ → List ℕ → Handed
  amend_lent L k n = if not (in_order R L) then unchanged 20 0 else lent_at L n (pick k L.rows)

-- ---- what is said of calls

-- a state in lent words
abbrev pub lent_of : State → Lent
lent_of st = record {
  script = st.script;
  rows = map row_of st.entries;
  words = words_of st.entries;
  tokens = tokens_of st.entries;
  latest = latest_of (map row_of st.entries);
}

-- what a call on a state answers, in lent words
abbrev pub given : Answer → Handed
given (done st) = handed (lent_of st)
given (refusal f p) = unchanged f p
