-- `measured` feeds the bytes one by one, as the definition does.
use mathlib.Core.Path.{sym, ◌∙◌}
use borrow.Author.Rules.{rules}
use Rattle.std.proofs.lemmas.Iterator.{YieldsList-from_slice}
use Rattle.std.proofs.lemmas.Iterator.Consumers.{fold_from_yields_List}
use Rattle.tokens.specs.Runs.{feed, begin}
use Rattle.tokens.proofs.Chains.{feed_all_is}
use Rattle.tokens.proofs.numbers.measured.Goals as goal

pub returns : goal.returns
returns c =
    fold_from_yields_List _ feed begin c.fold.result c.fold.ensures.ran (YieldsList-from_slice c.args.w.now (cc)) (λ a x b q k. search rules)
    ∙ sym (feed_all_is c.args.w.now begin)
