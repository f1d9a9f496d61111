-- The words of a directory that one statement's replacement leaves: those of the swapped rows, freed room zeroed, the rest as it was.
use mathlib.Core.Path.{◌≡◌, sym, ap, ◌∙◌}
use mathlib.Core.Bool.{true}
use mathlib.Core.List.{List, ◌∷◌, ◌++◌, append_assoc, map}
use Prim.Native.Nat.{ℕ, ◌+◌, ◌-◌, ◌*◌, ◌^◌, ◌≤◌, ◌<◌, max}
use native.Mathlib.Omega.{arith}
use lib.ListN.{length, take, drop, replicate, length-append, length-map}
use lib.Seq.{take_at, drop-append-add}
use Rattle.grammar.specs.Sizes.{entry_width}
use Rattle.grammar.specs.Words.{Row, row_words, rows_words}
use Rattle.grammar.proofs.WordLaws.{rows_length, rows_append}
use Rattle.amending.specs.Amending.{Pick}
use Rattle.amending.specs.Lent.{ascending, moved_row, between_row, swapped_rows}
use Rattle.amending.specs.Moves.{used_after, resized, spliced, leave}
use Rattle.amending.specs.Entries.{rows_from, shifted}
use Rattle.amending.proofs.MoveLaws.{gap_filled, spliced_leaves}
use Rattle.amending.proofs.EntryLaws.{words_of_rows, rows_count}
use Rattle.amending.proofs.OrderLaws.{Ascends, ascending_from, ascending_le}
use Rattle.amending.proofs.ShiftLaws.{shifted_words, moved_plainly, between_plainly}
use Rattle.amending.proofs.SwapLaws.{swapped_count}

-- three runs of rows
rows_three : (xs ys zs : List Row) (t : List ℕ) → rows_words xs ++ (rows_words ys ++ (rows_words zs ++ t)) ≡ rows_words (xs ++ (ys ++ zs)) ++ t
rows_three xs ys zs t =
    sym (rw (rows_append xs (ys ++ zs), rows_append ys zs) (simp append_assoc))

module _ (d : List ℕ) (statements number bytes : ℕ) (p : Pick Row) (room : entry_width * statements ≤ length d)
    (rows : rows_from statements d ≡ p.before ++ (p.one ∷ p.behind)) (here : length p.before ≡ number)
    (order : ascending 0 bytes (p.before ++ (p.one ∷ p.behind)) ≡ true) where
  count : statements ≡ number + 1 + length p.behind
  count = omega (arith, rows_count statements d, ap (λ (rs : List Row). length rs) rows, length-append p.before (p.one ∷ p.behind))

  used : take (entry_width * statements) d ≡ rows_words p.before ++ (row_words p.one ++ rows_words p.behind)
  used = sym (words_of_rows statements d room) ∙ ap rows_words rows ∙ rows_append p.before (p.one ∷ p.behind)

  -- the words of the rows ns in place of the one entry's
  replaced_words : (ns : List Row)
      → spliced d (entry_width * statements) (entry_width * number) (entry_width * number + entry_width) (rows_words ns)
      ≡ leave (rows_words p.before ++ (rows_words ns ++ rows_words p.behind)) (entry_width * statements) d
  replaced_words ns =
      let xs : List ℕ = rows_words p.before in
      let zs : List ℕ = rows_words p.behind in
      let lx : length xs ≡ entry_width * number = omega (arith, rows_length p.before) in
      let past : entry_width * number + entry_width ≡ length xs + entry_width = omega arith in
      let a : take (entry_width * number) (take (entry_width * statements) d) ≡ xs = rw used (take_at xs (row_words p.one ++ zs) (entry_width * number) lx) in
      let b : drop (entry_width * number + entry_width) (take (entry_width * statements) d) ≡ zs = rw (used, past) (drop-append-add xs (row_words p.one ++ zs) entry_width) in
      spliced_leaves d (rows_words ns) (entry_width * statements) (entry_width * number) (entry_width * number + entry_width) (omega arith) (omega (arith, count)) room
      ∙ rw (a, b)

  -- the one entry's words made as many as those of ns, these put there, the new entries moved to where the one started, and those behind as
  -- far as its end moves
  swapped_words : (ns : List Row) (n added : ℕ) → length ns ≡ added → ascending 0 n ns ≡ true → bytes + n < 2 ^ 32
      → used_after (entry_width * statements) (entry_width * number) (entry_width * number + entry_width) (entry_width * added) ≤ length d
      → let r : List ℕ = resized 0 d (entry_width * statements) (entry_width * number) (entry_width * number + entry_width) (entry_width * added) in
      let filled : List ℕ = take (entry_width * number) r ++ (rows_words ns ++ drop (entry_width * added) (drop (entry_width * number) r)) in
      shifted (shifted filled number (number + added) 0 p.one.start) (number + added) (statements - 1 + added) p.one.end (p.one.start + n)
      ≡ leave (rows_words (swapped_rows p n ns)) (entry_width * statements) d
  swapped_words ns n added ln up small fits =
      let xs : List Row = p.before in
      let zs : List Row = p.behind in
      let ys' : List Row = map (moved_row p.one.start) ns in
      let zs' : List Row = map (between_row n (p.one.end - p.one.start)) zs in
      let f : Ascends 0 bytes p.one zs = ascending_from 0 bytes xs p.one zs order in
      let within : p.one.end ≤ bytes = ascending_le p.one.end bytes zs f.rest in
      let lw : length (rows_words ns) ≡ entry_width * added = omega (arith, rows_length ns) in
      let old : ℕ = entry_width * statements in
      let u : List ℕ = rows_words xs ++ (rows_words ns ++ rows_words zs) in
      let tail : List ℕ = replicate (old - length u) 0 ++ drop (max old (length u)) d in
      let size : length u ≡ length (rows_words (swapped_rows p n ns)) =
      omega (
        arith,
        length-append (rows_words xs) (rows_words ns ++ rows_words zs),
        length-append (rows_words ns) (rows_words zs),
        rows_length xs,
        rows_length ns,
        rows_length zs,
        rows_length (swapped_rows p n ns),
        swapped_count p n ns,
      ) in
      let r : List ℕ = resized 0 d old (entry_width * number) (entry_width * number + entry_width) (entry_width * added) in
      let filled : take (entry_width * number) r ++ (rows_words ns ++ drop (entry_width * added) (drop (entry_width * number) r)) ≡ rows_words xs ++ (rows_words ns ++ (rows_words zs ++ tail)) =
      gap_filled d (rows_words ns) old (entry_width * number) (entry_width * number + entry_width) (entry_width * added) lw fits ∙ replaced_words ns ∙ simp append_assoc in
      let one : shifted (rows_words xs ++ (rows_words ns ++ (rows_words zs ++ tail))) number (number + added) 0 p.one.start ≡ rows_words (xs ++ ys') ++ (rows_words zs ++ tail) =
      shifted_words 0 p.one.start xs ns (rows_words zs ++ tail) number (number + added) here (omega arith)
      ∙ rw (moved_plainly p.one.start n ns up (omega arith)) (sym (append_assoc (rows_words xs) (rows_words ys') (rows_words zs ++ tail)) ∙ ap (λ (l : List ℕ). l ++ (rows_words zs ++ tail)) (sym (rows_append xs ys'))) in
      let both : length (xs ++ ys') ≡ number + added = omega (arith, length-append xs ys', length-map ns (moved_row p.one.start)) in
      let two : shifted (rows_words (xs ++ ys') ++ (rows_words zs ++ tail)) (number + added) (statements - 1 + added) p.one.end (p.one.start + n) ≡ rows_words (xs ++ ys') ++ (rows_words zs' ++ tail) =
      shifted_words p.one.end (p.one.start + n) (xs ++ ys') zs tail (number + added) (statements - 1 + added) both (omega (arith, count))
      ∙ rw (between_plainly p.one n bytes zs (omega arith) f.rest small) in
      rw (filled, one, two)
      (rw (rows_append xs ys') (append_assoc (rows_words xs) (rows_words ys') (rows_words zs' ++ tail)) ∙ rows_three xs ys' zs' tail
      ∙ ap (λ (k : ℕ). rows_words (swapped_rows p n ns) ++ (replicate (old - k) 0 ++ drop (max old k) d)) size)

  -- THE LAW: so for the words d₁, d₂, d₃ that a gap of k words, the words g put there and the new entries moved, and those behind moved, leave in turn
  pub swapped_directory : (ns : List Row) (n added : ℕ) → length ns ≡ added → ascending 0 n ns ≡ true → bytes + n < 2 ^ 32
      → used_after (entry_width * statements) (entry_width * number) (entry_width * number + entry_width) (entry_width * added) ≤ length d
      → (d₁ g d₂ d₃ : List ℕ) (k : ℕ)
      → d₁ ≡ resized 0 d (entry_width * statements) (entry_width * number) (entry_width * number + entry_width) (entry_width * added)
      → k ≡ entry_width * added
      → g ≡ rows_words ns
      → d₂ ≡ shifted (take (entry_width * number) d₁ ++ (g ++ drop k (drop (entry_width * number) d₁))) number (number + added) 0 p.one.start
      → d₃ ≡ shifted d₂ (number + added) (statements - 1 + added) p.one.end (p.one.start + n)
      → d₃ ≡ leave (rows_words (swapped_rows p n ns)) (entry_width * statements) d
  swapped_directory ns n added ln up small fits d₁ g d₂ d₃ k made all words new behind =
      behind ∙ rw (new, made, all, words) (swapped_words ns n added ln up small fits)
