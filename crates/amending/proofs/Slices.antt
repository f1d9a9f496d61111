-- Memory goes on holding its state when it is lent in other slices that begin with the same words.
use Rattle.std.specs.Prelude.{if◌then◌else◌}
use mathlib.Core.Path.{◌≡◌, sym, ap, ◌∙◌}
use mathlib.Core.Bool.{Bool, true, false, ◌||◌}
use mathlib.Core.List.{List, [], append-nil}
use Prim.Native.Nat.{ℕ, ◌*◌, ◌/◌, ◌≤◌}
use native.Mathlib.Omega.{arith}
use lib.Dec.{ltb}
use lib.ListN.{length, take, length-take, length-map}
use borrow.Author.Tests.{le-ltb}
use Rattle.tokens.specs.Names.{Lists}
use Rattle.grammar.specs.Sizes.{record_width, entry_width, most_records, most_statements}
use Rattle.grammar.specs.Grammar.{Edition}
use Rattle.grammar.specs.Script.{Entry, nodes, tokens_of}
use Rattle.grammar.specs.Words.{rows_words, row_of}
use Rattle.amending.specs.Amending.{State, Rooms, over}
use Rattle.amending.specs.Entries.{rows_from}
use Rattle.amending.specs.Memory.{Memory, rooms_in}
use Rattle.amending.specs.States.{Holds, Begins}
use Rattle.amending.specs.declared.held.Held.{Held}
use Rattle.amending.proofs.EntryLaws.{rows_of_words, words_of_rows, rows_count}
use Rattle.amending.proofs.AmendingLaws.{Within as Inside}
use Rattle.amending.proofs.GroundLaws.{Within, bounded, records_fit, entries_fit}
use Rattle.amending.proofs.LentLaws.{sum_nodes}
use Rattle.amending.proofs.StateLaws.{held_within}

-- a part that has n elements in one list has them in any list that begins with it
as_many : {A : Type 0} (n : ℕ) (x y : List A) → n ≤ length y → take n x ≡ take n y → n ≤ length x
as_many n x y h e = omega (arith, length-take n x, length-take n y, ap length e)

-- the entries of a directory are those of any other with the same words
same_rows : (k : ℕ) (x y : List ℕ) → entry_width * k ≤ length x → entry_width * k ≤ length y → take (entry_width * k) x ≡ take (entry_width * k) y → rows_from k x ≡ rows_from k y
same_rows k x y a b e = back x ∙ ap (rows_from k) (words_of_rows k x a ∙ e ∙ sym (words_of_rows k y b)) ∙ sym (back y)
  where
    back : (d : List ℕ) → rows_from k d ≡ rows_from k (rows_words (rows_from k d))
    back d =
        sym (rows_of_words (rows_from k d) [])
        ∙ (λ i. rows_from (rows_count k d i) (append-nil (rows_words (rows_from k d)) i))

-- what is within the capacity and the lent words has room
room_least : (most n m : ℕ) → m ≤ most → m ≤ n → m ≤ (if ltb most n then most else n)
room_least most n m a b = go (ltb most n)
  where
    go : (t : Bool) → m ≤ (if t then most else n)
    go true = a
    go false = b

within_not : (R : Rooms) (b : List ℕ) (es : List Entry) → Inside R b es → over R b es ≡ false
unfolding over
within_not R b es w =
    λ i. le-ltb R.bytes (length b) w.bytes i
    || (le-ltb R.tokens (tokens_of es) w.tokens i || (le-ltb R.records (nodes es) w.records i || le-ltb R.statements (length es) w.statements i))

module _ {E : Edition} {l : Lists} {M N : Memory} {h : Held} {st : State} (H : Holds E l M h st) (B : Begins h M N) where
  w : Within (rooms_in M) h
  w = held_within E l M h st H

  pub begins_holds : Holds E l N h st
  begins_holds =
      let few = bounded M h w in
      let counts = H.counts in
      let bytes : h.bytes ≤ length N.script = as_many h.bytes N.script M.script (omega (arith, w.bytes)) B.script in
      let records : record_width * h.records ≤ length N.records = as_many (record_width * h.records) N.records M.records (records_fit M h w) B.records in
      let entries : entry_width * h.statements ≤ length N.directory = as_many (entry_width * h.statements) N.directory M.directory (entries_fit M h w) B.directory in
      record {
        good = record {
          clear = H.good.clear;
          read = H.good.read;
          room = within_not (rooms_in N) st.script st.entries (record {
            bytes = omega (arith, few.0, ap (λ (x : Held). x.bytes) counts);
            tokens = omega (arith, few.3, ap (λ (x : Held). x.tokens) counts);
            records = room_least most_records (length N.records / record_width) (nodes st.entries)
                (omega (arith, few.2, ap (λ (x : Held). x.records) counts, sum_nodes st.entries))
                (omega (arith, ap (λ (x : Held). x.records) counts, sum_nodes st.entries));
            statements = room_least most_statements (length N.directory / entry_width) (length st.entries)
                (omega (arith, few.1, ap (λ (x : Held). x.statements) counts, length-map st.entries row_of))
                (omega (arith, ap (λ (x : Held). x.statements) counts, length-map st.entries row_of));
          });
        };
        used =
            (λ i. record { script = B.script i; rows = same_rows h.statements N.directory M.directory entries (entries_fit M h w) B.directory i; words = B.records i; tokens = h.tokens; latest = h.latest })
            ∙ H.used;
        counts = counts;
      }
