-- The bytes, the counts and the latest date that one statement's replacement leaves.
use mathlib.Core.Path.{◌≡◌, refl, sym, ap, ap₂, ◌∙◌}
use mathlib.Core.List.{List, [], ◌∷◌, ◌++◌, append_assoc, append-nil, map}
use Prim.Native.Nat.{ℕ, ◌+◌, ◌-◌, ◌≤◌, max}
use native.Mathlib.Omega.{arith}
use lib.ListN.{length, take, drop}
use lib.Seq.{drop-length}
use Rattle.grammar.specs.Words.{Row, latest_of}
use Rattle.grammar.proofs.LatestLaws.{latest_of_append, latest_of_map}
use Rattle.reading.specs.Reading.{over}
use Rattle.amending.specs.Amending.{Pick}
use Rattle.amending.specs.Lent.{sum_records, sum_tokens, moved_row, between_row, swapped_rows}
use Rattle.amending.specs.Moves.{spliced, leave}
use Rattle.amending.proofs.MoveLaws.{spliced_leaves}
use Rattle.amending.proofs.OrderLaws.{sum_joined, sum_placed}

-- words that fill their memory
pub over_full : (ws o : List ℕ) → length ws ≡ length o → over ws o ≡ ws
over_full ws o e = rw (e, drop-length o) (append-nil ws)

-- the script's bytes, in the form that `swapped` has
pub swapped_script : (l text : List ℕ) (used from to : ℕ) → from ≤ to → to ≤ used → used ≤ length l
    → spliced l used from to text ≡ leave (take from (take used l) ++ text ++ drop to (take used l)) used l
swapped_script l text used from to ordered inside within =
    spliced_leaves l text used from to ordered inside within
    ∙ ap (λ (u : List ℕ). leave u used l) (sym (append_assoc (take from (take used l)) text (drop to (take used l))))

-- ---- counts

module _ (p : Pick Row) (n : ℕ) (ns : List Row) where
  -- a sum that no move changes
  module _ (sum : List Row → ℕ) (of : Row → ℕ) (nil : sum [] ≡ 0) (cons : (r : Row) (rs : List Row) → sum (r ∷ rs) ≡ of r + sum rs)
      (kept : (d : ℕ) (r : Row) → of (moved_row d r) ≡ of r) (kept' : (a b : ℕ) (r : Row) → of (between_row a b r) ≡ of r) where
    swapped_sum : sum (swapped_rows p n ns) ≡ sum p.before + (sum ns + sum p.behind)
    swapped_sum =
        let ys : List Row = map (moved_row p.one.start) ns in
        let zs : List Row = map (between_row n (p.one.end - p.one.start)) p.behind in
        omega (
          arith,
          sum_joined sum of nil cons p.before (ys ++ zs),
          sum_joined sum of nil cons ys zs,
          sum_placed sum of nil cons (moved_row p.one.start) (kept p.one.start) ns,
          sum_placed sum of nil cons (between_row n (p.one.end - p.one.start)) (kept' n (p.one.end - p.one.start)) p.behind,
        )

  pub swapped_records : sum_records (swapped_rows p n ns) ≡ sum_records p.before + (sum_records ns + sum_records p.behind)
  swapped_records = swapped_sum sum_records (λ r. r.records) refl (λ r rs. refl) (λ d r. refl) (λ a b r. refl)

  pub swapped_tokens : sum_tokens (swapped_rows p n ns) ≡ sum_tokens p.before + (sum_tokens ns + sum_tokens p.behind)
  swapped_tokens = swapped_sum sum_tokens (λ r. r.tokens) refl (λ r rs. refl) (λ d r. refl) (λ a b r. refl)

  pub swapped_count : length (swapped_rows p n ns) ≡ length p.before + (length ns + length p.behind)
  swapped_count = swapped_sum length (λ r. 1) refl (λ r rs. omega arith) (λ d r. refl) (λ a b r. refl)

  pub swapped_latest : latest_of (swapped_rows p n ns) ≡ max (latest_of p.before) (max (latest_of ns) (latest_of p.behind))
  swapped_latest =
      let moved : List Row = map (moved_row p.one.start) ns in
      let behind : List Row = map (between_row n (p.one.end - p.one.start)) p.behind in
      latest_of_append p.before (moved ++ behind)
      ∙ ap (max (latest_of p.before)) (latest_of_append moved behind
      ∙ ap₂ max (latest_of_map (moved_row p.one.start) (λ r. refl) ns) (latest_of_map (between_row n (p.one.end - p.one.start)) (λ r. refl) p.behind))
