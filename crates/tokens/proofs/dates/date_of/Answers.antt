-- `date_of` reads the date that a text writes.
use mathlib.Core.Path.{◌≡◌, refl, sym, ap, ◌∙◌}
use mathlib.Core.Bool.{true}
use mathlib.Core.List.{List}
use Prim.Native.Nat.{ℕ, zero, suc, ◌+◌, ◌*◌}
use Rattle.std.specs.Prelude.{Option, Some}
use native.Mathlib.Omega.{arith}
use lib.ListN.{length, get_or}
use borrow.Author.Tests.{eq-eqb, lt-ltb}
use Rattle.calendar.specs.Calendar.{dated, count_of}
use Rattle.tokens.specs.Dates.{pair, is_shape, date, unless_0}
use Rattle.tokens.proofs.DateLaws.{digits_read, digits_some, digits_none, unwritten, date_shaped}
use Rattle.tokens.proofs.dates.date_of.Goals as goal
use Rattle.tokens.proofs.dates.date_of.Goals.{then-s-ne10-via-then-s-ne10, then-s-ne10-via-else-s-ne10+then-s-ne45, then-s-ne10-via-else-s-ne10+else-s-ne45+then-s-ne45-2}

pub returns-then-s-ne10 : goal.returns-then-s-ne10
returns-then-s-ne10 c = unwritten c.args.s.now (λ w. elim c.then-s-ne10.branch [
  | then-s-ne10-via-then-s-ne10 v ↦ v.if-s-ne10.true w.long
  | then-s-ne10-via-else-s-ne10+then-s-ne45 v ↦ v.if-s-ne45.true w.first_hyphen
  | then-s-ne10-via-else-s-ne10+else-s-ne45+then-s-ne45-2 v ↦ v.if-s-ne45-2.true w.second_hyphen
])

pub returns-in_err-pair_at : goal.returns-in_err-pair_at
returns-in_err-pair_at c = c.from_residual.ensures ∙ unwritten c.args.s.now (λ w. omega (arith, digits_none _ c.in_err-pair_at.ensures, w.century))

pub returns-in_err-year : goal.returns-in_err-year
returns-in_err-year c = c.from_residual-in_err-year.ensures ∙ unwritten c.args.s.now (λ w. omega (arith, digits_none _ c.in_err-year.ensures, w.year))

pub returns-in_err-pair_at-2 : goal.returns-in_err-pair_at-2
returns-in_err-pair_at-2 c = c.from_residual-in_err-pair_at-2.ensures ∙ unwritten c.args.s.now (λ w. omega (arith, digits_none _ c.in_err-pair_at-2.ensures, w.month))

pub returns-in_err-pair_at-3 : goal.returns-in_err-pair_at-3
returns-in_err-pair_at-3 c = c.from_residual-in_err-pair_at-3.ensures ∙ unwritten c.args.s.now (λ w. omega (arith, digits_none _ c.in_err-pair_at-3.ensures, w.day))

-- what four pairs of digits count to is the text's date
counted : (s : List ℕ) {n a b d e : ℕ} → n ≡ count_of (dated (a * 100 + b) d e) → length s ≡ 10 → get_or s 4 0 ≡ 45 → get_or s 7 0 ≡ 45
    → Some a ≡ digits_read (pair s 0) → Some b ≡ digits_read (pair s 2) → Some d ≡ digits_read (pair s 5) → Some e ≡ digits_read (pair s 8) → n ≡ date s
counted s h l f g p q r t =
    let a = digits_some (pair s 0) p in
    let b = digits_some (pair s 2) q in
    let shape : is_shape s ≡ true = simp (eq-eqb _ _ l, eq-eqb _ _ f, eq-eqb _ _ g, lt-ltb _ _ a.1, lt-ltb _ _ b.1) in
    h
    ∙ (λ i. count_of (dated (a.0 i * 100 + b.0 i) ((digits_some (pair s 5) r).0 i) ((digits_some (pair s 8) t).0 i)))
    ∙ sym (date_shaped s shape)

some_day : (n : ℕ) → (n ≡ 0 → ⊥) → ◌≡◌ {A = Option ℕ} (Some n) (unless_0 n)
some_day zero h = absurd (h refl)
some_day (suc n) h = refl

pub returns-then-day-eq0 : goal.returns-then-day-eq0
returns-then-day-eq0 c =
    let day = counted c.args.s.now c.count_of-day.ensures c.if-s-ne10.false c.if-s-ne45.false c.if-s-ne45-2.false c.in_ok-pair_at.ensures c.in_ok-year.ensures c.in_ok-pair_at-2.ensures c.in_ok-pair_at-3.ensures in
    sym (ap unless_0 (sym day ∙ c.if-day-eq0.true))

pub returns-else-day-eq0 : goal.returns-else-day-eq0
returns-else-day-eq0 c =
    let day = counted c.args.s.now c.count_of-day.ensures c.if-s-ne10.false c.if-s-ne45.false c.if-s-ne45-2.false c.in_ok-pair_at.ensures c.in_ok-year.ensures c.in_ok-pair_at-2.ensures c.in_ok-pair_at-3.ensures in
    some_day c.count_of-day.result c.if-day-eq0.false ∙ ap unless_0 day
