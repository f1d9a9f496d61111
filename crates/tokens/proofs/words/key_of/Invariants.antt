-- The loop packs the bytes from the last to the first: what is packed, with the bytes ahead, makes the key.
use mathlib.Core.Path.{◌≡◌}
use Rattle.tokens.specs.Keys.{pack}
use Rattle.tokens.proofs.KeyLaws.{pack_onto}
use Rattle.tokens.proofs.words.key_of.Given as goal

abbrev pub invariant-loop-b : goal.invariant-loop-b
invariant-loop-b l =
    (goal.iterator-loop-b).can_next l.b-iterator × (goal.iterator-loop-b).is_finite l.b-iterator × (pack_onto l.k l.b-iterator.iter.rest.now ≡ pack l.w)
