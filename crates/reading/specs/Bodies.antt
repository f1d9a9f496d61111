-- The readers of the code inside a statement: doubled variables, heads of loops, blocks.
use Rattle.std.specs.Prelude.{◌≡◌, Bool, ◌&&◌, not, Result, Ok, Err, List, ℕ, zero, suc, ◌+◌, if◌then◌else◌}
use Rattle.std.proofs.Math.Option.{Option, none, some}
use Rattle.tokens.specs.Tokens.{Token}
use Rattle.tokens.specs.declared.cursor.Cursor.{Cursor}
use Rattle.grammar.specs.Trees.{Tree, Trees, size, sizes, parts}
use Rattle.grammar.specs.Readers.{Out, ok, Reader, ◌>>=◌, ◌>>◌, give, the}
use Rattle.grammar.specs.Grammar.{Language, Inner, deeper, if_over, ended, named, for_over, paid, assign, compound, assign_paid, next_kind, name_first, primary, statement}
use Rattle.reading.specs.Rows.{rows, rows_of, put_rows}
use Rattle.reading.specs.Meets.{toks_at, token_at, Holds}
use Rattle.reading.specs.Turns.{inner}
use Rattle.reading.specs.Faults.{refused_by}
use Rattle.reading.specs.declared.answers.Fault.{Fault}
use Rattle.reading.specs.declared.answers.Read.{Read}
use Rattle.reading.specs.declared.answers.Block.{Block}

-- what can be read one deeper in an `if` or a `for`, with d left
unfoldable pub bodies : Language → ℕ → Option Inner
bodies W zero = none
bodies W (suc d) = some (record { statement = statement W d; primary = primary W d })

-- an `if`, a `for`, whose word is the token u
abbrev pub conditional_in : Language → ℕ → Token → Reader Tree
conditional_in W d u = deeper u (bodies W d) (if_over W)

abbrev pub repetition_in : Language → ℕ → Token → Reader Tree
repetition_in W d u = deeper u (bodies W d) (for_over W)

-- ---- the other statements, with d left

abbrev pub ended_at : Language → ℕ → Reader Tree
ended_at W d = ended W (primary W d)

abbrev pub paid_at : Language → ℕ → Reader Tree
paid_at W d = paid W (inner W d)

abbrev pub assign_at : Language → ℕ → Reader Tree
assign_at W d = assign W (primary W d)

abbrev pub compound_at : Language → ℕ → Reader Tree
compound_at W d = compound W (primary W d)

abbrev pub assign_paid_at : Language → ℕ → Reader Tree
assign_paid_at W d = assign_paid W (inner W d)

-- what a name begins
abbrev pub begun_at : Language → ℕ → Reader Tree
begun_at W d ts = name_first W (primary W d) (inner W d) (next_kind W ts) ts

-- the kind of what stands behind a name, where the cursor d holds the next token: a line break in the first edition
abbrev pub sign_behind : Bool → Cursor → ℕ
sign_behind second d = if not second && d.broken then 55 else d.code

-- ---- a variable that is written twice

pub record ReadsTwice (t : List ℕ) (R : Out Tree) (n : ℕ) (o : List ℕ) (c : Cursor) (m : ℕ) (o' : List ℕ) : Type 0 where
  pub tree : Tree
  pub is : R ≡ ok tree (toks_at t c.start)
  pub one : size tree ≡ 1
  pub counts : m ≡ n + 2
  pub writes : o' ≡ put_rows (put_rows o n (rows tree)) (n + 1) (rows tree)
  pub holds : Holds t c

abbrev pub MeetsTwice : List ℕ → Out Tree → ℕ → List ℕ → Result Read Fault → List ℕ → Type 0
MeetsTwice t R n o (Ok r) o' = ReadsTwice t R n o r.at r.records o'
MeetsTwice t R n o (Err e) o' = R ≡ refused_by e

-- ---- the head of a loop: its variable, which may not be reserved, and `in`

abbrev pub loop_head : Language → Reader Token
loop_head W = do v ← the "name"; named W v; the "in"; give v

abbrev pub MeetsHead : List ℕ → Out Token → Cursor → Result Cursor Fault → Type 0
MeetsHead t R c (Ok d) = Holds t d × (c.code ≡ 1) × (R ≡ ok (token_at t c) (toks_at t d.start))
MeetsHead t R c (Err e) = R ≡ refused_by e

-- ---- blocks

pub record ReadsBlock (t : List ℕ) (R : Out Trees) (n : ℕ) (o : List ℕ) (c : Cursor) (m k : ℕ) (o' : List ℕ) : Type 0 where
  pub items : Trees
  pub is : R ≡ ok items (toks_at t c.start)
  pub counts : m ≡ n + sizes items
  pub parts_are : k ≡ parts items
  pub writes : o' ≡ put_rows o n (rows_of items)
  pub holds : Holds t c

abbrev pub MeetsBlock : List ℕ → Out Trees → ℕ → List ℕ → Result Block Fault → List ℕ → Type 0
MeetsBlock t R n o (Ok r) o' = ReadsBlock t R n o r.at r.records r.count o'
MeetsBlock t R n o (Err e) o' = R ≡ refused_by e
