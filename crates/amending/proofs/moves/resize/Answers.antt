-- What the move leaves behind is cleared.
use Rattle.std.proofs.Common.{◌≡◌, ◌∙◌, refl, sym, length, ◌+◌, ◌-◌}
use native.Mathlib.Omega.{arith}
use lib.ListN.{replicate, length-replicate, take, drop, length-take, length-drop}
use Rattle.std.proofs.lemmas.Slice.{put_mid-paste}
use Rattle.amending.proofs.MoveLaws.{shrunk}
use Rattle.amending.proofs.moves.resize.Goals as goal

pub returns-then-end-used : goal.returns-then-end-used
returns-then-end-used g c =
    let a = c.args in
    let end = a.part.start + a.k + (a.used - a.part.end) in
    let n = a.used - end in
    let size : length (take n (drop end c.copy_within.new.self)) ≡ n = omega (arith, length-take n (drop end c.copy_within.new.self), length-drop end c.copy_within.new.self) in
    (refl, put_mid-paste _ n c.copy_within.new.self c.fill.new.self (replicate n a.zero) n (rw size at (c.fill.ensures.after c.requires.copies.1)) refl (sym (length-replicate n a.zero)) ∙ rw c.copy_within.ensures.after (shrunk a.zero a.s.now a.used a.part.start a.part.end a.k (omega arith) (omega arith) (omega arith) (omega arith)))
