-- What is asked before the text is read, then the text, then whether it fits.
use Rattle.std.proofs.Common.{Ok, rules}
use mathlib.Core.Path.{◌≡◌, sym, ap, ◌∙◌, subst}
use Rattle.tokens.specs.LentLists.{lists_of}
use Rattle.amending.specs.Memory.{as_memory}
use Rattle.amending.specs.Grounds.{Stands, fitting_by, MeetsGround, MeetsVerdict}
use Rattle.amending.specs.Verdict.{as_verdict, as_fitting}
use Rattle.amending.proofs.GroundLaws.{ok_was, admitted_stands, admitted_refused, admitted_ends, admitted_fits}
use Rattle.amending.proofs.grounds.verdict_on.Goals as goal
use Rattle.amending.proofs.grounds.verdict_on.Goals.{After-judge}

row_is : (c : After-judge) → MeetsGround (as_memory c.args.memory.now) c.args.held c.args.statement c.args.text.now (Ok c.in_ok-chosen.chosen)
row_is c =
    subst (MeetsGround (as_memory c.args.memory.now) c.args.held c.args.statement c.args.text.now)
    (ok_was _ c.admitted.result c.map_err.result c.in_ok-chosen.chosen c.map_err.ensures.cases (c.in_ok-chosen.was {u = tt})) c.admitted.ensures

pub returns-in_err-counts : goal.returns-in_err-counts
returns-in_err-counts c =
    let row = row_is (goal.at.returns-in_err-counts c).After-judge in
    let refused = admitted_refused (as_memory c.args.memory.now) c.args.held c.args.statement c.args.text.now _ row.2 (lists_of c.args.lists.now) row.0 (sym (c.in_err-counts.ensures {u = tt})) in
    search rules

pub fitting-requires-clause-stands : goal.fitting-requires-clause-stands
fitting-requires-clause-stands c =
    let row = row_is (goal.at.fitting-requires-clause-stands c).After-judge in
    subst (Stands c.args.held) (sym row.1) (admitted_stands (as_memory c.args.memory.now) c.args.held c.args.statement c.args.text.now _ row.2 (lists_of c.args.lists.now) row.0)

pub fitting-requires-clause-ends : goal.fitting-requires-clause-ends
fitting-requires-clause-ends c =
    let row = row_is (goal.at.fitting-requires-clause-ends c).After-judge in
    admitted_ends (as_memory c.args.memory.now) c.args.held c.args.statement c.args.text.now _ row.2 (lists_of c.args.lists.now) row.0 (sym (c.in_ok-counts.ensures {u = tt}))

pub returns-in_err-whole : goal.returns-in_err-whole
returns-in_err-whole c =
    let row = row_is (goal.at.returns-in_err-whole c).After-judge in
    let fits = admitted_fits (as_memory c.args.memory.now) c.args.held c.args.statement c.args.text.now _ row.2 (lists_of c.args.lists.now) row.0 (sym (c.in_ok-counts.ensures {u = tt})) in
    let same : as_verdict c.from_residual-in_err-whole.result ≡ as_fitting c.in_ok-counts.counts c.fitting.result = search rules in
    subst (MeetsVerdict (lists_of c.args.lists.now) (as_memory c.args.memory.now) c.args.held c.args.statement c.args.text.now)
    (sym (same ∙ c.fitting.ensures ∙ (λ i. fitting_by (c.rooms.ensures i) c.args.held (row.1 i) c.args.text.now c.in_ok-counts.counts))) fits

pub returns : goal.returns
returns c =
    let row = row_is (goal.at.returns c).After-judge in
    let fits = admitted_fits (as_memory c.args.memory.now) c.args.held c.args.statement c.args.text.now _ row.2 (lists_of c.args.lists.now) row.0 (sym (c.in_ok-counts.ensures {u = tt})) in
    let was = ok_was _ c.fitting.result c.map_err-2.result c.in_ok-whole.whole c.map_err-2.ensures.cases (c.in_ok-whole.was {u = tt}) in
    subst (MeetsVerdict (lists_of c.args.lists.now) (as_memory c.args.memory.now) c.args.held c.args.statement c.args.text.now)
    (sym (ap (as_fitting c.in_ok-counts.counts) (sym was) ∙ c.fitting.ensures ∙ (λ i. fitting_by (c.rooms.ensures i) c.args.held (row.1 i) c.args.text.now c.in_ok-counts.counts))) fits
