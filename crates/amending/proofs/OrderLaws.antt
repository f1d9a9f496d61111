-- Entries in order: tested one after the other, and what their order tells.
use mathlib.Core.Path.{◌≡◌, refl, ap, ◌∙◌}
use mathlib.Core.Bool.{Bool, true, ◌&&◌}
use mathlib.Core.List.{List, [], ◌∷◌, ◌++◌, map}
use Prim.Native.Nat.{ℕ, ◌+◌, ◌-◌, ◌*◌, ◌≤◌, ◌<◌, max}
use native.Mathlib.Omega.{arith}
use lib.Dec.{leb, eqb}
use lib.ListN.{length, drop}
use Rattle.std.proofs.lemmas.Bool.Decides.{nat_tests}
use borrow.Author.Tests.{leb-true}
use Rattle.grammar.specs.Sizes.{entry_width}
use Rattle.grammar.specs.Words.{Row, latest_of}
use Rattle.amending.specs.Amending.{Pick}
use Rattle.amending.specs.Lent.{ascending, sum_records, sum_tokens}
use Rattle.amending.specs.Entries.{row_at, rows_from, row_fits}
use Rattle.amending.proofs.EntryLaws.{rows_turn, rows_none}

-- ---- what `ascending` tells

-- of a first entry and of the rest
pub record Ascends (i j : ℕ) (r : Row) (rs : List Row) : Type 0 where
  pub after : i ≤ r.start
  pub filled : r.start < r.end
  pub has_record : 1 ≤ r.records
  pub has_token : 1 ≤ r.tokens
  pub rest : ascending r.end j rs ≡ true

pub ascends : (i j : ℕ) (r : Row) (rs : List Row) → ascending i j (r ∷ rs) ≡ true → Ascends i j r rs
unfolding ascending
ascends i j r rs b = record {
  after = grind (arith, nat_tests);
  filled = grind (arith, nat_tests);
  has_record = grind (arith, nat_tests);
  has_token = grind (arith, nat_tests);
  rest = grind (arith, nat_tests);
}

ascends_none : (i j : ℕ) → ascending i j [] ≡ true → i ≤ j
unfolding ascending
ascends_none i j b = leb-true i j b

-- the bytes that entries in order lie between
pub ascending_le : (i j : ℕ) (rs : List Row) → ascending i j rs ≡ true → i ≤ j
ascending_le i j [] b = ascends_none i j b
ascending_le i j (r ∷ rs) b =
    let f : Ascends i j r rs = ascends i j r rs b in
    let h : r.end ≤ j = ascending_le r.end j rs f.rest in
    omega arith

-- from the entry r on, those before it set aside
pub ascending_from : (i j : ℕ) (xs : List Row) (r : Row) (rs : List Row) → ascending i j (xs ++ (r ∷ rs)) ≡ true → Ascends i j r rs
ascending_from i j [] r rs b = ascends i j r rs b
ascending_from i j (x ∷ xs) r rs b =
    let f : Ascends i j x (xs ++ (r ∷ rs)) = ascends i j x (xs ++ (r ∷ rs)) b in
    let g : Ascends x.end j r rs = ascending_from x.end j xs r rs f.rest in
    record { after = omega arith; filled = g.filled; has_record = g.has_record; has_token = g.has_token; rest = g.rest }

-- ---- one entry

-- the facts that `row_fits` tests
pub record Fits (i records tokens : ℕ) (r : Row) : Type 0 where
  pub after : i ≤ r.start
  pub filled : r.start < r.end
  pub has_record : 1 ≤ r.records
  pub has_token : 1 ≤ r.tokens
  pub records_left : r.records ≤ records

module _ (i m t : ℕ) (r : Row) where
  pub fits_are : row_fits i m t r ≡ true → Fits i m t r
  fits_are b = record {
    after = grind (arith, nat_tests);
    filled = grind (arith, nat_tests);
    has_record = grind (arith, nat_tests);
    has_token = grind (arith, nat_tests);
    records_left = grind (arith, nat_tests);
  }

-- ---- one entry after the other

-- entries in order from the byte i to the byte j, with as many records and tokens as m and t say; x is the latest date, theirs or y
abbrev pub counted : ℕ → ℕ → ℕ → ℕ → ℕ → ℕ → List Row → Bool
counted i j m t x y rs = ascending i j rs && (eqb m (sum_records rs) && (eqb t (sum_tokens rs) && eqb x (max y (latest_of rs))))

-- all entries of a script of j bytes, with the counts m and t and the latest date x
abbrev pub told : ℕ → ℕ → ℕ → ℕ → List Row → Bool
told j m t x rs = ascending 0 j rs && (eqb m (sum_records rs) && (eqb t (sum_tokens rs) && eqb x (latest_of rs)))

pub counted_first : (j m t x : ℕ) (rs : List Row) → told j m t x rs ≡ counted 0 j m t x 0 rs
counted_first j m t x rs = let own : max 0 (latest_of rs) ≡ latest_of rs = omega arith in rw own

-- the first fits, and the rest are in order for what it leaves
pub counted_turn : (i j m t x y : ℕ) (r : Row) (rs : List Row)
    → counted i j m t x y (r ∷ rs) ≡ (row_fits i m t r && counted r.end j (m - r.records) (t - r.tokens) x (max y r.latest) rs)
unfolding ascending latest_of
counted_turn i j m t x y r rs = grind (arith, nat_tests)

-- so of the n entries of a directory, those from number k on
pub counted_next : (d : List ℕ) (k n i j m t x y : ℕ) → k < n
    → let r : Row = row_at d (entry_width * k) in
    counted i j m t x y (rows_from (n - k) (drop (entry_width * k) d))
    ≡ (row_fits i m t r && counted r.end j (m - r.records) (t - r.tokens) x (max y r.latest) (rows_from (n - (k + 1)) (drop (entry_width * (k + 1)) d)))
counted_next d k n i j m t x y h =
    ap (counted i j m t x y) (rows_turn d k n h) ∙ counted_turn i j m t x y (row_at d (entry_width * k)) (rows_from (n - (k + 1)) (drop (entry_width * (k + 1)) d))

-- no entry is left
pub counted_none : (d : List ℕ) (i j m t x y k : ℕ) → k ≡ 0 → counted i j m t x y (rows_from k d) ≡ (leb i j && (eqb m 0 && (eqb t 0 && eqb x y)))
unfolding ascending latest_of
counted_none d i j m t x y k h = let own : max y 0 ≡ y = omega arith in rw (rows_none d k h, own)

-- ---- what the test of a directory tells

pub record Ordered (d : List ℕ) (statements bytes records tokens latest : ℕ) : Type 0 where
  pub room : entry_width * statements ≤ length d
  pub order : ascending 0 bytes (rows_from statements d) ≡ true
  pub record_sum : records ≡ sum_records (rows_from statements d)
  pub token_sum : tokens ≡ sum_tokens (rows_from statements d)
  pub latest_is : latest ≡ latest_of (rows_from statements d)

pub ordered : (d : List ℕ) (statements bytes records tokens latest : ℕ)
    → (leb (entry_width * statements) (length d) && told bytes records tokens latest (rows_from statements d)) ≡ true
    → Ordered d statements bytes records tokens latest
ordered d statements bytes records tokens latest b = record {
  room = grind (arith, nat_tests);
  order = grind (arith, nat_tests);
  record_sum = grind (arith, nat_tests);
  token_sum = grind (arith, nat_tests);
  latest_is = grind (arith, nat_tests);
}

-- a sum over rows, of their records or of their tokens
module _ (sum : List Row → ℕ) (of : Row → ℕ) (nil : sum [] ≡ 0) (cons : (r : Row) (rs : List Row) → sum (r ∷ rs) ≡ of r + sum rs) where
  pub sum_joined : (xs ys : List Row) → sum (xs ++ ys) ≡ sum xs + sum ys
  sum_joined [] ys = omega arith
  sum_joined (x ∷ xs) ys = omega (arith, cons x xs, cons x (xs ++ ys), sum_joined xs ys)

  pub sum_placed : (g : Row → Row) → ((r : Row) → of (g r) ≡ of r) → (rs : List Row) → sum (map g rs) ≡ sum rs
  sum_placed g same [] = refl
  sum_placed g same (r ∷ rs) = omega (arith, cons r rs, cons (g r) (map g rs), same r, sum_placed g same rs)

pub records_joined : (xs ys : List Row) → sum_records (xs ++ ys) ≡ sum_records xs + sum_records ys
records_joined = sum_joined sum_records (λ r. r.records) refl (λ r rs. refl)

pub tokens_joined : (xs ys : List Row) → sum_tokens (xs ++ ys) ≡ sum_tokens xs + sum_tokens ys
tokens_joined = sum_joined sum_tokens (λ r. r.tokens) refl (λ r rs. refl)

-- of the entry that is picked: it lies inside the bytes, and its records and tokens among those that are counted
pub record Stands (p : Pick Row) (bytes records tokens : ℕ) : Type 0 where
  pub filled : p.one.start < p.one.end
  pub inside : p.one.end ≤ bytes
  pub records_inside : sum_records p.before + p.one.records ≤ records
  pub tokens_inside : sum_tokens p.before + p.one.tokens ≤ tokens

pub stands : (p : Pick Row) (bytes records tokens : ℕ) (rs : List Row) → rs ≡ p.before ++ (p.one ∷ p.behind) → ascending 0 bytes rs ≡ true
    → records ≡ sum_records rs → tokens ≡ sum_tokens rs → Stands p bytes records tokens
stands p bytes records tokens rs split order m t =
    let f : Ascends 0 bytes p.one p.behind = ascending_from 0 bytes p.before p.one p.behind (rw split at order) in
    let m' : records ≡ sum_records p.before + (p.one.records + sum_records p.behind) = m ∙ ap sum_records split ∙ records_joined p.before (p.one ∷ p.behind) in
    let t' : tokens ≡ sum_tokens p.before + (p.one.tokens + sum_tokens p.behind) = t ∙ ap sum_tokens split ∙ tokens_joined p.before (p.one ∷ p.behind) in
    record {
      filled = f.filled;
      inside = ascending_le p.one.end bytes p.behind f.rest;
      records_inside = omega arith;
      tokens_inside = omega arith;
    }
