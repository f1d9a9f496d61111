-- Reading and memory that holds a state: such memory is what reading its script anew leaves, and what a reading that is accepted leaves is such memory.
use mathlib.Core.Path.{◌≡◌, refl, sym, ap, ◌∙◌, subst}
use mathlib.Core.List.{List, map}
use Prim.Native.Nat.{ℕ, ◌*◌, ◌/◌}
use native.Mathlib.Omega.{arith}
use lib.ListN.{length, take, length-map}
use lib.Seq.{take_at}
use Rattle.tokens.specs.Text.{script}
use Rattle.tokens.specs.Names.{Lists}
use Rattle.grammar.specs.Sizes.{record_width, entry_width, most_records, most_statements, record_room, statement_room}
use Rattle.grammar.specs.Grammar.{Edition}
use Rattle.grammar.specs.Script.{Entry, accepted, fitting, read_script, reading, nodes, tokens_of, number_of}
use Rattle.grammar.specs.Words.{words_of, row_of, directory_of, rows_words, latest_of}
use Rattle.reading.specs.Reading.{answer_to, over, left_by, read_into, Leaves}
use Rattle.reading.specs.declared.reading.Answer.{Answer}
use Rattle.grammar.proofs.AmendBytes.{Accepted, read_accepted, script_no_zero, read_script_lem, script_all}
use Rattle.reading.proofs.JudgeLaws.{script_in, script_take}
use Rattle.grammar.proofs.WordLaws.{words_length, directory_length}
use Rattle.reading.proofs.ReadLaws.{room_in}
use Rattle.amending.specs.Amending.{State}
use Rattle.amending.specs.Lent.{Lent, sum_records, lent_of}
use Rattle.amending.specs.Memory.{Memory, memory, rooms_in, used_in, held_by}
use Rattle.amending.specs.Entries.{rows_from}
use Rattle.amending.specs.States.{held_of, Holds}
use Rattle.amending.specs.declared.held.Held.{Held}
use Rattle.amending.proofs.EntryLaws.{rows_of_words, words_of_rows}
use Rattle.amending.proofs.LentLaws.{sum_nodes}
use Rattle.amending.proofs.Directory.{good_reading, reading_good}
use Rattle.amending.proofs.Editions.{reading_in_lem}
use Rattle.amending.proofs.GroundLaws.{Within, entries_fit}
use Rattle.amending.proofs.StateLaws.{over_length, reading_is, fits_are, held_within}

module _ (E : Edition) (l : Lists) where
  pub reads_same : {M : Memory} {h : Held} {st : State} → Holds E l M h st → {o d o' d' : List ℕ} {r : Answer} → length o ≡ length M.records → length d ≡ length M.directory
      → Leaves (number_of E) l (take h.bytes M.script) o d r o' d'
      → (r.number ≡ 0) × (held_of r ≡ h) × (take (record_width * h.records) o' ≡ take (record_width * h.records) M.records)
      × (take (entry_width * h.statements) d' ≡ take (entry_width * h.statements) M.directory)
  reads_same {M} {h} {st} H {o} {d} {o'} {d'} {r} lo ld X =
      let es : List Entry = st.entries in
      let text : take h.bytes M.script ≡ st.script = ap (λ (x : Lent). x.script) H.used in
      let Y : Leaves (number_of E) l st.script o d r o' d' = subst (λ (bs : List ℕ). Leaves (number_of E) l bs o d r o' d') text X in
      let R : read_into (number_of E) l st.script o d ≡ accepted es =
      (λ i. reading (number_of E) l (record_room (lo i)) (statement_room (ld i)) st.script)
      ∙ reading_in_lem E refl l (rooms_in M).records (rooms_in M).statements st.script ∙ good_reading E l (rooms_in M) st H.good in
      let same : script st.script ≡ st.script = script_all st.script H.good.clear in
      let a : r ≡ answer_to (number_of E) st.script (accepted es) =
      Y.answer ∙ ap (answer_to (number_of E) st.script) R in
      let c : held_of r ≡ h =
      ap held_of a ∙ (λ i. record { bytes = length (same i); statements = sym (length-map es row_of) i; records = sym (sum_nodes es) i; tokens = tokens_of es; latest = latest_of (map row_of es); edition = number_of E }) ∙ sym H.counts in
      let n : h.records ≡ nodes es = ap (λ (x : Held). x.records) H.counts ∙ sum_nodes es in
      let m : h.statements ≡ length es = ap (λ (x : Held). x.statements) H.counts ∙ length-map es row_of in
      let words : take (record_width * h.records) o' ≡ words_of es =
      ap (take (record_width * h.records)) (Y.records ∙ ap (left_by words_of o) R) ∙ take_at (words_of es) _ (record_width * h.records) (omega (arith, words_length es, n)) in
      let rows : take (entry_width * h.statements) d' ≡ directory_of es =
      ap (take (entry_width * h.statements)) (Y.directory ∙ ap (left_by directory_of d) R) ∙ take_at (directory_of es) _ (entry_width * h.statements) (omega (arith, directory_length es, m)) in
      let w : Within (rooms_in M) h = held_within E l M h st H in (
        ap (λ (x : Answer). x.number) a,
        c,
        words ∙ sym (ap (λ (x : Lent). x.words) H.used),
        rows ∙ sym (ap (λ (x : Lent). rows_words x.rows) H.used) ∙ words_of_rows h.statements M.directory (entries_fit M h w),
      )

  pub leaves_holds : {bs o d o' d' : List ℕ} {r : Answer} {es : List Entry} → read_into (number_of E) l bs o d ≡ accepted es → Leaves (number_of E) l bs o d r o' d'
      → Holds E l (memory bs o' d') (held_of r) (record { script = script bs; entries = es })
  leaves_holds {bs} {o} {d} {o'} {d'} {r} {es} R X =
      let F = fits_are (length (script bs)) (record_room (length o)) (statement_room (length d)) (read_script E l bs) es (into ∙ R) in
      let A : Accepted E l (script bs) es = read_accepted E l (script bs) es (script_no_zero bs) (read_script_lem E l bs ∙ F.0) in
      let words : o' ≡ over (words_of es) o = X.records ∙ ap (left_by words_of o) R in
      let rows : d' ≡ over (directory_of es) d = X.directory ∙ ap (left_by directory_of d) R in
      let lo : length o' ≡ length o = ap length words ∙ over_length (words_of es) o (omega (arith, words_length es, F.1, room_in most_records (length o / record_width))) in
      let ld : length d' ≡ length d = ap length rows ∙ over_length (directory_of es) d (omega (arith, directory_length es, F.2, room_in most_statements (length d / entry_width))) in
      let a : r ≡ answer_to (number_of E) bs (accepted es) =
      X.answer ∙ ap (answer_to (number_of E) bs) R in
      let c : held_of r ≡ held_by (number_of E) (lent_of (record { script = script bs; entries = es })) =
      ap held_of a ∙ (λ i. record { bytes = length (script bs); statements = sym (length-map es row_of) i; records = sym (sum_nodes es) i; tokens = tokens_of es; latest = latest_of (map row_of es); edition = number_of E }) in
      let u : take (length (script bs)) bs ≡ script bs = script_take bs in
      let v : take (record_width * sum_records (map row_of es)) o' ≡ words_of es =
      ap (take (record_width * sum_records (map row_of es))) words ∙ take_at (words_of es) _ (record_width * sum_records (map row_of es)) (omega (arith, words_length es, sum_nodes es)) in
      let w : rows_from (length (map row_of es)) d' ≡ map row_of es = ap (rows_from (length (map row_of es))) rows ∙ rows_of_words (map row_of es) _ in
      record {
        good = reading_good E l (rooms_in (memory bs o' d')) bs es (sym (reading_in_lem E refl l (record_room (length o')) (statement_room (length d')) bs) ∙ (λ i. reading (number_of E) l (record_room (lo i)) (statement_room (ld i)) bs) ∙ R) (omega (arith, script_in bs, A.short)) A.few;
        used = ap (used_in (memory bs o' d')) c ∙ (λ i. record { script = u i; rows = w i; words = v i; tokens = tokens_of es; latest = latest_of (map row_of es) });
        counts = c;
      }
    where
      into : fitting (length (script bs)) (record_room (length o)) (statement_room (length d)) (read_script E l bs) ≡ read_into (number_of E) l bs o d
      into =
          reading_is E l (record_room (length o)) (statement_room (length d)) bs ∙ sym (reading_in_lem E refl l (record_room (length o)) (statement_room (length d)) bs)
