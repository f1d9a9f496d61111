-- The words stand where the part of the memory is written.
use mathlib.Core.Path.{sym, ◌∙◌}
use native.Mathlib.Omega.{arith}
use Rattle.std.proofs.lemmas.Slice.{put_mid-paste}
use Rattle.reading.proofs.RowLaws.{put_part, put_not}
use Rattle.reading.proofs.records.put_at.Goals as goal

pub returns-then-k-out : goal.returns-then-k-out
returns-then-k-out g c =
    put_mid-paste _ _ c.args.out.now _ c.args.words g.row.W c.copy_from_slice.ensures.after (omega arith) (omega arith)
    ∙ put_part g.row.W (omega arith) c.args.out.now c.args.n c.args.words c.if-k-out.true (omega arith)

pub returns-else-k-out : goal.returns-else-k-out
returns-else-k-out g c = sym (put_not g.row.W c.args.out.now c.args.n c.args.words c.if-k-out.false)
