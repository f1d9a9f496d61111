-- What is moved, then what is read into the room.
use native.Mathlib.Omega.{arith}
use Prim.Native.Nat.{◌+◌, ◌-◌, ◌*◌}
use Rattle.tokens.specs.LentLists.{lists_of}
use Rattle.grammar.specs.Sizes.{record_width, entry_width}
use Rattle.amending.specs.Memory.{as_memory}
use Rattle.amending.proofs.ReplaceLaws.{replaced}
use Rattle.amending.proofs.amending.replace.Goals as goal

pub returns-clause-left : goal.returns-clause-left
returns-clause-left c =
    let args = c.args in
    let before = c.records_before-from in
    replaced (lists_of args.lists.now) (as_memory args.memory.now) args.held args.statement args.text.now c.requires.fits.1 {i = record_width * before.result + record_width * args.c.records - record_width * before.result} {j = entry_width * args.statement + entry_width * args.c.statements - entry_width * args.statement} c.at-row.ensures before.ensures c.replace_bytes.ensures.1 c.resize.auto.s c.resize.ensures.1 c.resize-2.auto.s c.resize-2.ensures.1 (omega arith) (omega arith) c.read-own.ensures c.shift_entries.ensures c.shift_entries-2.ensures c.latest_then.ensures
