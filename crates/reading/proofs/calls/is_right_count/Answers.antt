-- Each call has its counts.
use mathlib.Core.Logic.{⊎_elim}
use borrow.Author.Tests.{le-leb, lt-leb}
use Rattle.reading.specs.Calls.{right_count}
use Rattle.reading.specs.declared.records.Kind.TheVariants as kind
use Rattle.reading.proofs.KindLaws.{kind_other}
use Rattle.reading.proofs.calls.is_right_count.Goals as goal

pub returns-in-Ln : goal.returns-in-Ln
unfolding right_count
returns-in-Ln c = ⊎_elim (λ e. rw e) (λ e. rw e) c.in-Ln.is

pub returns-in-Pow : goal.returns-in-Pow
unfolding right_count
returns-in-Pow c = ⊎_elim (λ e. rw e) (λ e. rw e) c.in-Pow.is

pub returns-then-count-ge2 : goal.returns-then-count-ge2
unfolding right_count
returns-then-count-ge2 c =
    let t = le-leb _ _ c.if-count-ge2.true in
    ⊎_elim (λ e. rw e (simp t)) (λ e. rw e (simp t)) c.in-Min.is

pub returns-else-count-ge2 : goal.returns-else-count-ge2
unfolding right_count
returns-else-count-ge2 c =
    let t = lt-leb _ _ c.if-count-ge2.false in
    ⊎_elim (λ e. rw e (simp t)) (λ e. rw e (simp t)) c.in-Min.is

pub returns-in-Cvg : goal.returns-in-Cvg
unfolding right_count
returns-in-Cvg c = rw c.in-Cvg.is

pub returns-in-Fif : goal.returns-in-Fif
unfolding right_count
returns-in-Fif c = rw c.in-Fif.is

pub returns-in_default : goal.returns-in_default
unfolding right_count
returns-in_default c =
    let k = c.args.kind in
    simp (
      kind_other k kind.Ln c.in_default.not-Ln,
      kind_other k kind.Exp c.in_default.not-Exp,
      kind_other k kind.Pow c.in_default.not-Pow,
      kind_other k kind.Range c.in_default.not-Range,
      kind_other k kind.Min c.in_default.not-Min,
      kind_other k kind.Max c.in_default.not-Max,
      kind_other k kind.Cvg c.in_default.not-Cvg,
      kind_other k kind.Fif c.in_default.not-Fif,
    )
