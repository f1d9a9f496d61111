-- Laws of the listing: what a reading leaves in memory is listed as what was read.
use Rattle.std.specs.Prelude.{if◌then◌else◌}
use mathlib.Core.Path.{◌≡◌, refl, ap, ◌∙◌}
use mathlib.Core.Bool.{Bool, true, false}
use mathlib.Core.List.{List, ◌++◌}
use Prim.Native.Nat.{ℕ, zero, suc, ◌*◌, ◌≤◌}
use native.Mathlib.Omega.{arith}
use lib.Dec.{ltb}
use lib.ListN.{length, take, drop, length-drop}
use lib.Seq.{take-append-le, drop-append-le}
use borrow.Author.Tests.{eq-eqb, ne_eqb, ltb-false}
use Rattle.tokens.specs.Text.{script}
use Rattle.grammar.specs.Sizes.{record_width, entry_width, record_room, statement_room, most_records, most_statements}
use Rattle.grammar.specs.Grammar.{one}
use Rattle.grammar.specs.Script.{Outcome, accepted, refused, fitting, read_script, reading_in, reading, nodes}
use Rattle.grammar.specs.Words.{words_of}
use Rattle.reading.specs.Reading.{answer_to, left_by, Leaves}
use Rattle.reading.specs.declared.reading.Answer.{Answer}
use Rattle.grammar.proofs.WordLaws.{words_length}
use Rattle.listing.specs.Lines.{line, record_lines}
use Rattle.listing.specs.Listing.{own_lists, accepted_lines, refused_line, answer_lines, words_read, reading_lines, listing}

-- the words past the records are not looked at
records_front : (n : ℕ) (ws rest : List ℕ) → record_width * n ≤ length ws → record_lines n (ws ++ rest) ≡ record_lines n ws
unfolding record_lines
records_front zero ws rest h = refl
records_front (suc n) ws rest h =
    let whole : record_width ≤ length ws = omega arith in
    ap (λ (u : List ℕ). line u ++ record_lines n (drop record_width (ws ++ rest))) (take-append-le record_width ws rest whole)
    ∙ ap (λ (u : List ℕ). line (take record_width ws) ++ record_lines n u) (drop-append-le record_width ws rest whole)
    ∙ ap (λ (u : List ℕ). line (take record_width ws) ++ u) (records_front n (drop record_width ws) rest (omega (arith, length-drop record_width ws)))

module _ (bs : List ℕ) where
  records_left : (o : List ℕ) (R : Outcome) → record_lines (answer_to 1 bs R).records (left_by words_of o R) ≡ record_lines (answer_to 1 bs R).records (words_read R)
  unfolding record_lines
  records_left o (accepted es) = records_front (nodes es) (words_of es) (drop (length (words_of es)) o) (omega (arith, words_length es))
  records_left o (refused k p) = refl

  lines_left : (o : List ℕ) (R : Outcome) → answer_lines (answer_to 1 bs R) (left_by words_of o R) ≡ reading_lines bs R
  unfolding accepted_lines
  lines_left o R = rw (records_left o R)

  fitting_few : (n k m : ℕ) (R : Outcome) → (answer_to 1 bs (fitting n k m R)).records ≤ k
  fitting_few n k m (accepted es) = go (ltb k (nodes es)) refl
    where
      all : (b : Bool) → nodes es ≤ k → (answer_to 1 bs (if b then refused 16 n else accepted es)).records ≤ k
      all true h = omega arith
      all false h = h

      go : (b : Bool) → ltb k (nodes es) ≡ b
          → (answer_to 1 bs (if b then refused 16 n else if ltb m (length es) then refused 16 n else accepted es)).records ≤ k
      go true e = omega arith
      go false e = all (ltb m (length es)) (ltb-false k (nodes es) e)
  fitting_few n k m (refused f p) = omega arith

module _ (bs o d o' d' : List ℕ) (a : Answer) (records-lent : length o ≡ record_width * most_records) (directory-lent : length d ≡ entry_width * most_statements) (L : Leaves 1 own_lists bs o d a o' d') where
  room : reading 1 own_lists (record_room (length o)) (statement_room (length d)) bs ≡ reading_in one own_lists most_records most_statements bs
  unfolding reading
  room = rw (records-lent, directory-lent)

  pub records_few : a.records ≤ most_records
  unfolding reading_in room
  records_few =
      rw (L.answer, room) (fitting_few bs (length (script bs)) most_records most_statements (read_script one own_lists bs))

  listed : answer_lines a o' ≡ listing bs
  unfolding listing room
  listed = rw (L.answer, L.records, room) (lines_left bs o (reading_in one own_lists most_records most_statements bs))

  pub listed_accepted : a.number ≡ 0 → accepted_lines a o' ≡ listing bs
  listed_accepted h = (simp (eq-eqb a.number 0 h)) ∙ listed

  pub listed_refused : (a.number ≡ 0 → ⊥) → refused_line a ≡ listing bs
  listed_refused h = (simp (ne_eqb a.number 0 h)) ∙ listed
