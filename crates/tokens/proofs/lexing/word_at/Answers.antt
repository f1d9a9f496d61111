-- A word ends where its bytes do, and they tell what it is.
use Rattle.tokens.specs.Text.{name_byte}
use Rattle.tokens.proofs.KeyLaws.{bytes_drop, bytes_take}
use Rattle.tokens.proofs.LexLaws.{word_is}
use Rattle.tokens.proofs.ScanLaws.{keyword_low}
use Rattle.tokens.proofs.lexing.word_at.Goals as goal

pub returns : goal.returns
returns c = (
  word_is c.args.s.now c.args.at c.requires (λ i. (c.type_inv.s i).fits) _ (c.run_end-end.ensures.run name_byte (λ b r p. p)) _ c.keyword-code.ensures,
  rw c.keyword-code.ensures (keyword_low _ (bytes_take _ _ (bytes_drop _ _ (λ i. (c.type_inv.s i).fits)))),
)
