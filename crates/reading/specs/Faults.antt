-- Refusals inside a statement, as values of the code.
use Rattle.std.specs.Prelude.{ℕ, ◌+◌}
use Rattle.tokens.specs.Refusals.{number_of}
use Rattle.tokens.specs.declared.cursor.Cursor.{Cursor}
use Rattle.tokens.specs.declared.refusals.Ground.{Ground}
use Rattle.tokens.specs.declared.refusals.Refusal.{Refusal}
use Rattle.grammar.specs.Readers.{Out, refused}
use Rattle.reading.specs.declared.answers.Fault.{Fault}

-- at the token that the cursor c holds
abbrev pub fault_at : Cursor → Ground → Fault
fault_at c g = record { cause = g; byte = c.start }

-- in a script whose statement begins at the byte b
abbrev pub in_script : Fault → ℕ → Refusal
in_script e b = record { cause = e.cause; byte = b + e.byte }

-- as the definition has it
abbrev pub refused_by : {A : Type 0} → Fault → Out A
refused_by e = refused (number_of e.cause) e.byte
