-- `is_good_name` meets its contract: the length is good, and each byte is.
use mathlib.Core.Path.{sym, ◌∙◌}
use borrow.Author.Rules.{rules}
use Rattle.std.proofs.lemmas.Iterator.{YieldsList-from_slice}
use Rattle.std.proofs.lemmas.Iterator.Search.{all_from_yields_List}
use Rattle.tokens.specs.Names.{good_byte}
use Rattle.tokens.proofs.Chains.{every_is}
use Rattle.tokens.proofs.names.is_good_name.Goals as goal

pub returns-then-is_good_length : goal.returns-then-is_good_length
returns-then-is_good_length c =
    let good = good_byte c.args.money in
    all_from_yields_List good _ _ c.all.result c.all.ensures.ran (YieldsList-from_slice c.args.name.now (cc)) (λ x b q k. search rules)
    ∙ sym (every_is good c.args.name.now)
    ∙ simp (sym c.if-is_good_length.ensures)
