-- What is said of memory that a reading or amendments left, and of any number of calls on it.
use Rattle.std.specs.Prelude.{◌≡◌, List, [], ◌∷◌, ℕ, ◌*◌, take}
use Rattle.tokens.specs.Names.{Lists}
use Rattle.grammar.specs.Sizes.{record_width, entry_width}
use Rattle.grammar.specs.Grammar.{Edition}
use Rattle.grammar.specs.Script.{number_of}
use Rattle.reading.specs.declared.reading.Answer.{Answer}
use Rattle.amending.specs.Amending.{State, Good}
use Rattle.amending.specs.Lent.{lent_of}
use Rattle.amending.specs.Memory.{Memory, rooms_in, used_in, held_by, Amends}
use Rattle.amending.specs.declared.held.Held.{Held}

-- the counts of an answer, its latest date, and its edition
abbrev pub held_of : Answer → Held
held_of r = record { bytes = r.bytes; statements = r.statements; records = r.records; tokens = r.tokens; latest = r.latest; edition = r.edition }

-- memory whose used part is a state: a script that has no zero byte, that reads as these statements in this edition with these lists, and for which there is room;
-- the edition is the one that is lent with the counts
pub record Holds (E : Edition) (l : Lists) (M : Memory) (h : Held) (st : State) : Type 0 where
  pub good : Good E l (rooms_in M) st
  pub used : used_in M h ≡ lent_of st
  pub counts : h ≡ held_by (number_of E) (lent_of st)

-- N begins with the bytes and words that are used of M, of which h says how many: M lent in other slices, longer or shorter ones
pub record Begins (h : Held) (M N : Memory) : Type 0 where
  pub script : take h.bytes N.script ≡ take h.bytes M.script
  pub records : take (record_width * h.records) N.records ≡ take (record_width * h.records) M.records
  pub directory : take (entry_width * h.statements) N.directory ≡ take (entry_width * h.statements) M.directory

-- calls one after the other, each with the counts and the edition that the one before it answered; refused ones among them
pub data Calls (l : Lists) : Memory → Held → List (ℕ × List ℕ) → Memory → Held → Type 0 where
  none : {M : Memory} {h : Held} → Calls l M h [] M h
  call : {M M₁ M₂ : Memory} {h h₂ : Held} {k : ℕ} {n : List ℕ} {cs : List (ℕ × List ℕ)} {r : Answer}
      → Amends l M h k n r M₁ → Calls l M₁ (held_of r) cs M₂ h₂ → Calls l M h ((k, n) ∷ cs) M₂ h₂
