use Rattle.std.proofs.Common.{◌∙◌}
use native.Mathlib.Omega.{arith}
use Rattle.amending.proofs.MoveLaws.{splice_done}
use Rattle.amending.proofs.moves.replace_bytes.Goals as goal

pub returns : goal.returns
returns c =
    let a = c.args in
    let done = c.resize-end in
    (done.ensures.0, c.copy_into.ensures ∙ rw done.ensures.1 (splice_done a.script.now a.text.now a.used a.part.start a.part.end (omega arith)))
