-- The call on a state, which is a script and its statements: what it answers, and any number of calls.
use Rattle.std.specs.Prelude.{◌≡◌, Bool, false, ◌||◌, not, List, [], ◌∷◌, ℕ, zero, suc, T, ltb, length, if◌then◌else◌}
use Rattle.std.proofs.Math.Option.{Option, none, some}
use Rattle.tokens.specs.Names.{Lists}
use Rattle.grammar.specs.Grammar.{Edition}
use Rattle.grammar.specs.Script.{Entry, Outcome, accepted, refused, nodes, tokens_of, no_zero, read_script}
use Rattle.amending.specs.Amend.{ends_well, replaced, amended_list}

-- a script and its statements
pub record State : Type 0 where
  pub script : List ℕ
  pub entries : List Entry

-- the most bytes, tokens, records and statements that there is room for: capacity or lent room
pub record Rooms : Type 0 where
  pub bytes : ℕ
  pub tokens : ℕ
  pub records : ℕ
  pub statements : ℕ

-- ---- 17: statements count from 0

-- the k-th of a list, those before it and those behind it
pub record Pick (A : Type 0) : Type 0 where
  pub before : List A
  pub one : A
  pub behind : List A

-- one more stands before it
abbrev pub onto : {A : Type 0} → A → Option (Pick A) → Option (Pick A)
onto e none = none
onto e (some p) = some (record { before = e ∷ p.before; one = p.one; behind = p.behind })

unfoldable pub pick : {A : Type 0} → ℕ → List A → Option (Pick A)
pick k [] = none
pick zero (e ∷ es) = some (record { before = []; one = e; behind = es })
pick (suc k) (e ∷ es) = onto e (pick k es)

-- ---- 16

-- totals of bytes, tokens, records or statements over capacity or lent room
unfoldable pub over : Rooms → List ℕ → List Entry → Bool
over R b es =
    ltb R.bytes (length b) || (ltb R.tokens (tokens_of es) || (ltb R.records (nodes es) || ltb R.statements (length es)))

-- the new state, or a refusal: its number, and its place in the new text
pub data Answer : Type 0 where
  done : State → Answer
  refusal : ℕ → ℕ → Answer

-- 16, at the new text's end p
unfoldable pub fitting : Rooms → ℕ → List ℕ → List Entry → Answer
fitting R p b es = if over R b es then refusal 16 p else done (record { script = b; entries = es })

-- ---- the call. Order: 17, 19, then the new text read alone as a script (1 to 15), 18, 16 over the totals; 20 is asked of lent words alone, and 26 of the number that is lent with them

module _ (E : Edition) (l : Lists) (R : Rooms) where
  -- what reading the new text n answers (1 to 15), 18, 16
  unfoldable pub put : State → Pick Entry → List ℕ → Outcome → Answer
  put st p n (refused f at) = refusal f at
  put st p n (accepted ns) =
      if not (ends_well n) then refusal 18 (length n)
      else fitting R (length n) (replaced st.script p.one n) (amended_list p.before p.one p.behind (length n) ns)

  -- 17, 19
  unfoldable pub amend_at : State → List ℕ → Option (Pick Entry) → Answer
  amend_at st n none = refusal 17 0
  amend_at st n (some p) = if not (no_zero n) then refusal 19 0 else put st p n (read_script E l n)

  -- the k-th statement's text is replaced by n
  unfoldable pub amend : State → ℕ → List ℕ → Answer
  amend st k n = amend_at st n (pick k st.entries)

-- ---- any number of calls

-- a refused call leaves the state
abbrev pub left : State → Answer → State
left st (done st') = st'
left st (refusal f p) = st

-- calls one after the other
abbrev pub after : Edition → Lists → Rooms → State → List (ℕ × List ℕ) → State
after E l R st [] = st
after E l R st (c ∷ cs) = after E l R (left st (amend E l R st c.0 c.1)) cs

-- ---- what is said of calls

-- the state that a reading leaves: the statements are those that the script reads as in this edition, and there is room for all
pub record Good (E : Edition) (l : Lists) (R : Rooms) (st : State) : Type 0 where
  pub clear : T (no_zero st.script)
  pub read : read_script E l st.script ≡ accepted st.entries
  pub room : over R st.script st.entries ≡ false

-- what reading the whole script b anew answers, within the rooms; any refusal is 16 at the new text's end p
abbrev pub anew : Rooms → ℕ → List ℕ → Outcome → Answer
anew R p b (accepted xs) = fitting R p b xs
anew R p b (refused f q) = refusal 16 p
