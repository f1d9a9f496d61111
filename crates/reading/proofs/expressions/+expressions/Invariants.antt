-- The readers of expressions, which call one another: each meets the reader of its level.
use Prim.Native.Nat.{ℕ, ◌<◌, ◌+◌, ◌*◌, ◌-◌}
use lib.ListN.{length}
use Rattle.reading.specs.Meets.{toks_at, language_of, Ready}
use mathlib.Core.List.{List}
use mathlib.Core.Path.{◌≡◌}
use Rattle.std.specs.Prelude.{Some}
use Rattle.grammar.specs.Trees.{Tree}
use Rattle.grammar.specs.Readers.{Out}
use Rattle.grammar.specs.Grammar as G
use Rattle.reading.proofs.StepLaws.{Compares}
use Rattle.reading.proofs.PowerLaws.{Powers}
use Rattle.reading.proofs.ChainLaws.{plus_or_minus, times_or_by, tighter, looser, Nests, Pending}
use Rattle.reading.specs.Joins.{sign_or_0}
use Rattle.reading.specs.Signs.{tighter_sign, looser_sign, sum_sign, product_sign}
use Rattle.reading.specs.Turns.{power_at, product_or, sum_or, comparison_or, expression_or, items_by, inner}
use Rattle.reading.proofs.ItemLaws.{ItemChain, PayChain}
use Rattle.reading.proofs.PostfixLaws.{PostChain}
use Rattle.reading.proofs.expressions.+expressions.Given as goal

abbrev pub decreases-arguments : goal.decreases-arguments
decreases-arguments l = 32 * l.depth + 0

abbrev pub decreases-call : goal.decreases-call
decreases-call l = 32 * l.depth + 3

abbrev pub decreases-comparison : goal.decreases-comparison
decreases-comparison l = 32 * l.depth + 9

abbrev pub decreases-expression : goal.decreases-expression
decreases-expression l = 32 * l.depth + 10

abbrev pub decreases-index : goal.decreases-index
decreases-index l = 32 * l.depth + 12

abbrev pub decreases-items : goal.decreases-items
decreases-items l = 32 * l.depth + 11

abbrev pub decreases-list : goal.decreases-list
decreases-list l = 32 * l.depth + 4

abbrev pub decreases-method : goal.decreases-method
decreases-method l = 32 * l.depth + 1

abbrev pub decreases-minus : goal.decreases-minus
decreases-minus l = 32 * l.depth + 4

abbrev pub decreases-name : goal.decreases-name
decreases-name l = 32 * l.depth + 4

abbrev pub decreases-parenthesis : goal.decreases-parenthesis
decreases-parenthesis l = 32 * l.depth + 4

abbrev pub decreases-pays : goal.decreases-pays
decreases-pays l = 32 * l.depth + 4

abbrev pub decreases-postfix : goal.decreases-postfix
decreases-postfix l = 32 * l.depth + 2

abbrev pub decreases-postfixes : goal.decreases-postfixes
decreases-postfixes l = 32 * l.depth + 3

abbrev pub decreases-power : goal.decreases-power
decreases-power l = 32 * l.depth + 6

abbrev pub decreases-primary : goal.decreases-primary
decreases-primary l = 32 * l.depth + 5

abbrev pub decreases-product : goal.decreases-product
decreases-product l = 32 * l.depth + 7

abbrev pub decreases-signed : goal.decreases-signed
decreases-signed l = 32 * l.depth + 13

abbrev pub decreases-sum : goal.decreases-sum
decreases-sum l = 32 * l.depth + 8

abbrev pub invariant-comparison-loop-r : goal.invariant-comparison-loop-r
invariant-comparison-loop-r l = (length l.out ≡ length l.initial.out) × Compares l.alone (sum_or l.alone (language_of l.language) l.depth) l.s l.initial.at l.n l.initial.out (sign_or_0 l.sign) l.at l.m l.out × (l.sign ≡ Some 0 → ⊥)

abbrev pub decreases-comparison-loop-r : goal.decreases-comparison-loop-r
decreases-comparison-loop-r l = 1 - sign_or_0 l.sign

abbrev pub invariant-expression-loop-r : goal.invariant-expression-loop-r
invariant-expression-loop-r l = (length l.out ≡ length l.initial.out) × Nests (looser l.language.two l.alone) (tighter l.language.two l.alone) (looser_sign l.language.two l.alone) (tighter_sign l.language.two l.alone) (comparison_or l.alone (language_of l.language) l.depth) l.s l.initial.at.start (expression_or l.alone (language_of l.language) l.depth (toks_at l.s l.initial.at.start)) l.n l.initial.out (sign_or_0 l.sign) (sign_or_0 l.tight) l.from l.place l.at l.m l.out × (l.sign ≡ Some 0 → ⊥) × (l.tight ≡ Some 0 → ⊥)

abbrev pub decreases-expression-loop-r : goal.decreases-expression-loop-r
decreases-expression-loop-r l = length (toks_at l.s l.at.start)

abbrev pub invariant-items-loop-at : goal.invariant-items-loop-at
invariant-items-loop-at l = (length l.out ≡ length l.initial.out) × ItemChain (language_of l.language) l.close (G.primary (language_of l.language) l.depth) l.s (items_by (language_of l.language) l.close (G.primary (language_of l.language) l.depth) (toks_at l.s l.initial.at.start)) l.n l.initial.out l.at l.m l.count l.texts l.out

abbrev pub decreases-items-loop-at : goal.decreases-items-loop-at
decreases-items-loop-at l = length (toks_at l.s l.at.start)

abbrev pub invariant-pays-loop-out : goal.invariant-pays-loop-out
invariant-pays-loop-out l = (length l.out ≡ length l.initial.out) × PayChain (language_of l.language) (G.primary (language_of l.language) (l.depth - 1)) l.s (G.payments (language_of l.language) (G.primary (language_of l.language) (l.depth - 1)) (toks_at l.s l.initial.at.start)) l.n l.initial.out l.at l.m l.count l.out

abbrev pub decreases-pays-loop-out : goal.decreases-pays-loop-out
decreases-pays-loop-out l = length (toks_at l.s l.at.start)

abbrev pub invariant-postfixes-loop-out : goal.invariant-postfixes-loop-out
invariant-postfixes-loop-out l = (length l.out ≡ length l.initial.out) × Ready l.s l.at l.k × (l.n < l.k) × ((R : Out Tree) (o : List ℕ) → PostChain (language_of l.language) (inner (language_of l.language) l.depth) l.place l.s R l.n o l.initial.at l.initial.k l.initial.out → PostChain (language_of l.language) (inner (language_of l.language) l.depth) l.place l.s R l.n o l.at l.k l.out)

abbrev pub decreases-postfixes-loop-out : goal.decreases-postfixes-loop-out
decreases-postfixes-loop-out l = length (toks_at l.s l.at.start)

abbrev pub invariant-power-loop-r : goal.invariant-power-loop-r
invariant-power-loop-r l = (length l.out ≡ length l.initial.out) × Powers l.language.two (G.primary (language_of l.language) l.depth) l.s l.initial.at.start (power_at (language_of l.language) l.depth (toks_at l.s l.initial.at.start)) l.n l.initial.out l.count l.fits l.at l.m l.out

abbrev pub decreases-power-loop-r : goal.decreases-power-loop-r
decreases-power-loop-r l = length (toks_at l.s l.at.start)

abbrev pub invariant-product-loop-r : goal.invariant-product-loop-r
invariant-product-loop-r l = (length l.out ≡ length l.initial.out) × Pending (times_or_by l.alone) (product_sign l.alone) (power_at (language_of l.language) l.depth) l.s l.initial.at.start (product_or l.alone (language_of l.language) l.depth (toks_at l.s l.initial.at.start)) l.n l.initial.out (sign_or_0 l.sign) l.at l.m l.out × (l.sign ≡ Some 0 → ⊥)

abbrev pub decreases-product-loop-r : goal.decreases-product-loop-r
decreases-product-loop-r l = length (toks_at l.s l.at.start)

abbrev pub invariant-sum-loop-r : goal.invariant-sum-loop-r
invariant-sum-loop-r l = (length l.out ≡ length l.initial.out) × Pending (plus_or_minus l.alone) (sum_sign l.alone) (product_or l.alone (language_of l.language) l.depth) l.s l.initial.at.start (sum_or l.alone (language_of l.language) l.depth (toks_at l.s l.initial.at.start)) l.n l.initial.out (sign_or_0 l.sign) l.at l.m l.out × (l.sign ≡ Some 0 → ⊥)

abbrev pub decreases-sum-loop-r : goal.decreases-sum-loop-r
decreases-sum-loop-r l = length (toks_at l.s l.at.start)
