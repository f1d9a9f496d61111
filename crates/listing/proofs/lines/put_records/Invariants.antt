-- What stands in memory and the lines of the records that are left make all the lines.
use Prim.Native.Nat.{◌*◌, ◌≤◌}
use mathlib.Core.Path.{◌≡◌}
use lib.ListN.{length}
use Rattle.std.specs.Iterator.Adapters.{take_source, take_count}
use Rattle.std.specs.Slice.Iter.{chunks_exact_rest, chunks_exact_size}
use Rattle.grammar.specs.Sizes.{record_width}
use Rattle.listing.specs.Lines.{record_lines}
use Rattle.listing.proofs.LineLaws.{Going}
use Rattle.listing.proofs.lines.put_records.Given as goal

abbrev pub invariant-loop-record : goal.invariant-loop-record
invariant-loop-record l =
    let left = chunks_exact_rest (take_source l.record-iterator) in
    let count = take_count l.record-iterator in
    (chunks_exact_size (take_source l.record-iterator) ≡ record_width) × (record_width * count ≤ length left) × Going l.initial.out l.at (record_lines l.count l.records) l.k l.out (record_lines count left)
