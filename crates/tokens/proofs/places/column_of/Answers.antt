-- `column_of` counts the characters that begin between the place and the line feed before it.
use mathlib.Core.Path.{◌≡◌, sym, ◌∙◌}
use mathlib.Core.List.{reverse}
use lib.ListN.{length, take}
use borrow.Author.Tests.{tests}
use Rattle.std.specs.List.{filter, take_while}
use borrow.Author.Rules.{rules}
use Rattle.std.proofs.lemmas.Iterator.Adapters.{YieldsList-from_rev_slice}
use Rattle.std.proofs.lemmas.Iterator.Search.{YieldsList-from_take_while}
use Rattle.std.proofs.lemmas.Iterator.Consumers.{YieldsList-at, YieldsList-from_filter, count_from_yields_List}
use Rattle.std.proofs.lemmas.List.Sums.{length-filter}
use Rattle.tokens.proofs.Chains.{count_is}
use Rattle.tokens.proofs.PlaceLaws.{in_line, starts, column_counted}
use Rattle.tokens.proofs.places.column_of.Goals as goal

pub returns : goal.returns
returns c =
    let before = take c.min.result c.args.s.now in
    let line = take_while in_line (reverse before) in
    let e : c.count.result ≡ length (filter starts line) =
    count_from_yields_List c.filter.result c.count.result c.count.ensures.ran
    (YieldsList-from_filter _ starts
    (YieldsList-at c.filter.ensures.source
    (YieldsList-from_take_while _ in_line (YieldsList-from_rev_slice before (cc)) c.take_while-line.ensures.closure c.take_while-line.ensures.done (λ x b q k. search (rules, tests))))
    c.filter.ensures.closure (λ x b q k. search (rules, tests)))
    in
    column_counted c.args.s.now c.args.at _ _ c.min.ensures (e ∙ length-filter starts line ∙ sym (count_is starts line))
