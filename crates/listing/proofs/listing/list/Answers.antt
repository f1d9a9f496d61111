-- A reading with room for all that the capacities allow, listed from what it left in memory.
use mathlib.Core.Path.{◌≡◌}
use Prim.Native.Nat.{ℕ, ◌*◌}
use native.Mathlib.Omega.{arith}
use lib.ListN.{length, replicate, length-replicate}
use Rattle.grammar.specs.Sizes.{record_width, entry_width, most_records, most_statements}
use Rattle.listing.proofs.ListingLaws.{records_few, listed_accepted, listed_refused}
use Rattle.listing.proofs.listing.list.Goals as goal

records_lent : length (replicate {A = ℕ} (record_width * most_records) 0) ≡ record_width * most_records
records_lent = length-replicate {A = ℕ} (record_width * most_records) 0

directory_lent : length (replicate {A = ℕ} (entry_width * most_statements) 0) ≡ entry_width * most_statements
directory_lent = length-replicate {A = ℕ} (entry_width * most_statements) 0

pub list_acceptance-requires : goal.list_acceptance-requires
list_acceptance-requires c =
    let few = records_few _ _ _ _ _ _ records_lent directory_lent c.read-a.ensures in
    (omega (arith, few), omega (arith, few, c.read-a.auto))

pub returns-then-a-eq0 : goal.returns-then-a-eq0
returns-then-a-eq0 c = rw (← listed_accepted _ _ _ _ _ _ records_lent directory_lent c.read-a.ensures c.if-a-eq0.true) c.list_acceptance.ensures

pub returns-else-a-eq0 : goal.returns-else-a-eq0
returns-else-a-eq0 c = rw (← listed_refused _ _ _ _ _ _ records_lent directory_lent c.read-a.ensures c.if-a-eq0.false) c.list_refusal.ensures
