-- Strings are judged before dates, and dates before the day counter.
use Rattle.reading.proofs.CallingLaws.{cvg_first, cvg_second, cvg_third, cvg_date, cvg_date_2, cvg_counter, cvg_good}
use Rattle.reading.proofs.calling.cvg_fault.Goals.{then-is_none-via-then-is_none, then-is_none-via-else-is_none+then-is_none-2}
use Rattle.reading.proofs.calling.cvg_fault.Goals as goal

pub returns-in_default : goal.returns-in_default
returns-in_default c = λ es S p. cvg_third _ _ _ es S p c.in_default.is-0 c.in_default.is-1 c.in_default.is-2

pub returns-in_default-2 : goal.returns-in_default-2
returns-in_default-2 c = λ es S p. cvg_second _ _ _ es S p c.in_default.is-0 c.in_default.is-1

pub returns-in_default-3 : goal.returns-in_default-3
returns-in_default-3 c = λ es S p. cvg_first _ _ _ es S p c.in_default.is-0

pub returns-then-is_none : goal.returns-then-is_none
returns-then-is_none c =
    let s = c.in-Some-Some-Some in
    λ es S p. elim c.then-is_none.branch [
      | then-is_none-via-then-is_none w ↦ cvg_date _ _ _ es S p s.is-0 s.is-1 s.is-2 c.date_at.ensures w.if-is_none.ensures
      | then-is_none-via-else-is_none+then-is_none-2 w ↦ cvg_date_2 _ _ _ es S p s.is-0 s.is-1 s.is-2 c.date_at.ensures w.if-is_none.ensures w.date_at-else-is_none.ensures w.if-is_none-2.ensures
    ]

pub returns-then-is_none-3 : goal.returns-then-is_none-3
returns-then-is_none-3 c =
    let s = c.in-Some-Some-Some in
    λ es S p. cvg_counter _ _ _ es S p s.is-0 s.is-1 s.is-2 c.date_at.ensures c.if-is_none.ensures c.date_at-else-is_none.ensures c.if-is_none-2.ensures c.counter_at.ensures c.if-is_none-3.ensures

pub returns : goal.returns
returns c =
    let s = c.in-Some-Some-Some in
    λ es S p. cvg_good _ _ _ es S p s.is-0 s.is-1 s.is-2 c.date_at.ensures c.if-is_none.ensures c.date_at-else-is_none.ensures c.if-is_none-2.ensures c.counter_at.ensures c.if-is_none-3.ensures
