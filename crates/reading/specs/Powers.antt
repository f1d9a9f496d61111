-- A chain of `**` that groups right, in lent memory: while it is read, the root of each operand but the last holds where the operand's text begins.
use Rattle.std.specs.Prelude.{◌≡◌, Bool, true, false, Option, None, ◌⊎◌, List, [], ◌∷◌, ◌++◌, ℕ, ◌+◌, ◌-◌, ◌*◌, ◌%◌, ◌≤◌, ◌<◌, eqb, ltb, set, get_or, if◌then◌else◌}
use Rattle.grammar.specs.Sizes.{record_width}
use Rattle.grammar.specs.Trees.{Tree, Trees, node, nil, kind_of, snoc, size, sizes}
use Rattle.grammar.specs.Grammar.{onto}
use Rattle.reading.specs.Rows.{rows, rows_of, put_rows, room}
use Rattle.reading.specs.Joins.{Joins}
use Rattle.reading.specs.declared.records.Joined.{Joined}
use Rattle.reading.specs.declared.powers.Stepped.{Stepped}

-- more than any kind
abbrev pub kinds : ℕ
kinds = 64

-- a place packed into a node's kind
abbrev pub marked : ℕ → Tree → Tree
marked b (node k p s f ts) = node (k + kinds * b) p s f ts

-- the operands that wait for their right parts, in the order of their records
abbrev pub held : List (ℕ × Tree) → Trees
held [] = nil
held (l ∷ ls) = snoc (held ls) (marked l.0 l.1)

-- their kinds leave room for a place
pub data Small : List (ℕ × Tree) → Type 0 where
  none : Small []
  one : {l : ℕ × Tree} {ls : List (ℕ × Tree)} → kind_of l.1 < kinds → Small ls → Small (l ∷ ls)

-- the number of the next record; or both are past the room, and nothing is written
abbrev pub Next : List ℕ → ℕ → ℕ → Type 0
Next o j i = (j ≡ i) ⊎ ((room o ≤ j) × (room o ≤ i))

-- The records from n on: the operands ls up to e, then a tree. With the operands, from the right, it is the goal. The next record is j
pub record Raising (goal : Tree) (o : List ℕ) (n e j : ℕ) (q : List ℕ) : Type 0 where
  pub ls : List (ℕ × Tree)
  pub tree : Tree
  pub goal_is : onto tree ls ≡ goal
  pub small : Small ls
  pub is : q ≡ put_rows o n (rows_of (held ls) ++ rows tree)
  pub ends : e ≡ n + sizes (held ls)
  pub next : Next o j (e + size tree)

-- e is behind the last root that fits
pub data Fits (o : List ℕ) (n : ℕ) : List (ℕ × Tree) → ℕ → Type 0 where
  nothing : Fits o n [] n
  fit : {l : ℕ × Tree} {ls : List (ℕ × Tree)} {e : ℕ} → e ≡ n + sizes (held (l ∷ ls)) → e ≤ room o → Fits o n (l ∷ ls) e
  past : {l : ℕ × Tree} {ls : List (ℕ × Tree)} {e : ℕ} → room o < n + sizes (held (l ∷ ls)) → Fits o n ls e → Fits o n (l ∷ ls) e

-- ---- what the code does with it

-- the root before m is marked where it fits, and the records that such roots close end there
abbrev pub Marks : List ℕ → ℕ → ℕ → ℕ → ℕ → List ℕ → Type 0
Marks o e m b r o' =
    (ltb (m - 1) (room o) ≡ true → (r ≡ m) × (o' ≡ set o (record_width * (m - 1)) (get_or o (record_width * (m - 1)) 0 % kinds + kinds * b)))
    × (ltb (m - 1) (room o) ≡ false → (r ≡ e) × (o' ≡ o))

-- a chain that waits at the entry stands there whole at the exit
abbrev pub Raises : List ℕ → ℕ → ℕ → ℕ → List ℕ → Type 0
Raises q n e j q' = (goal : Tree) (o : List ℕ) → (n < e → e ≤ room o) → Raising goal o n e j q → q' ≡ put_rows o n (rows goal)

-- k operands wait before the last one, whose records end at m and whose string stands at p
abbrev pub Closes : List ℕ → ℕ → ℕ → ℕ → ℕ → Option ℕ → Joined → List ℕ → Type 0
Closes q k n e m p r q' =
    (k ≡ 0 → (r.records ≡ m) × (r.string ≡ p) × (q' ≡ q))
    × ((k ≡ 0 → ⊥) → (r.records ≡ m + k) × (r.string ≡ None) × Raises q n e m q')

-- the sign before an operand, k others before it: none before the first
abbrev pub sign_of : ℕ → ℕ
sign_of k = if eqb k 0 then 0 else 12

abbrev pub joined_by : Stepped → Joined
joined_by r = record { records = r.records; string = r.string }

-- an operand whose records end at m: joined to those before it, or, in the second edition, it waits where more follows, and else is the last
abbrev pub Steps : Bool → Bool → List ℕ → ℕ → ℕ → ℕ → ℕ → Option ℕ → ℕ → ℕ → Stepped → List ℕ → Type 0
Steps second more o k n e m p y b r o' =
    (second ≡ false → Joins o (sign_of k) n m p y (joined_by r) o')
    × (second ≡ true → more ≡ true → (r.records ≡ m) × Marks o e m b r.fits o')
    × (second ≡ true → more ≡ false → Closes o k n e m p (joined_by r) o')
