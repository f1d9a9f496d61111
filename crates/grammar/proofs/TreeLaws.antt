-- Trees with one more part, with the parts of another, and without places: their nodes and their parts.
use Rattle.std.specs.Prelude.{if◌then◌else◌}
use mathlib.Core.Path.{◌≡◌, refl, sym, ap, ◌∙◌}
use mathlib.Core.Bool.{Bool, true, false}
use Prim.Native.Nat.{ℕ, suc, ◌+◌, ◌≤◌}
use native.Mathlib.Omega.{arith}
use lib.Dec.{eqb}
use Rattle.grammar.specs.Trees.{Fields, fields, none, Tree, Trees, node, nil, ◌▹◌, snoc, join, parts, size, sizes, meant, meaning, meanings}

-- a tree has a node
pub size_some : (t : Tree) → 1 ≤ size t
unfolding size
size_some (node k p s f ts) = omega arith

-- ---- one more part

pub size_snoc : (ts : Trees) (t : Tree) → sizes (snoc ts t) ≡ sizes ts + size t
unfolding size
size_snoc nil t = omega arith
size_snoc (u ▹ us) t = omega (arith, size_snoc us t)

pub parts_snoc : (ts : Trees) (t : Tree) → parts (snoc ts t) ≡ suc (parts ts)
parts_snoc nil t = refl
parts_snoc (u ▹ us) t = ap suc (parts_snoc us t)

-- ---- the parts of both

pub sizes_join : (ts us : Trees) → sizes (join ts us) ≡ sizes ts + sizes us
unfolding size
sizes_join nil us = omega arith
sizes_join (t ▹ ts) us = omega (arith, sizes_join ts us)

pub parts_join : (ts us : Trees) → parts (join ts us) ≡ parts ts + parts us
parts_join nil us = omega arith
parts_join (t ▹ ts) us = omega (arith, parts_join ts us)

-- ---- the same tree by content

mutual
  unfolding size meaning

  pub meaning_size : (t : Tree) → size (meaning t) ≡ size t
  meaning_size (node k p s f ts) = ap suc (meanings_size ts)

  pub meanings_size : (ts : Trees) → sizes (meanings ts) ≡ sizes ts
  meanings_size nil = refl
  meanings_size (t ▹ ts) = λ i. meaning_size t i + meanings_size ts i

pub meanings_parts : (ts : Trees) → parts (meanings ts) ≡ parts ts
unfolding meaning
meanings_parts nil = refl
meanings_parts (t ▹ ts) = ap suc (meanings_parts ts)

-- what fields mean, by the tests on the kind
abbrev meant_by : Bool → Bool → Bool → Bool → Bool → Bool → Bool → Fields → Fields
meant_by b₁ b₂ b₅ b₃₃ b₃₄ b₃₅ b₃₉ (fields a b c d) =
    if b₁ then none
    else if b₂ then fields a b 0 0
    else if b₅ then none
    else if b₃₃ then fields 0 0 c 0
    else if b₃₄ then fields a (if eqb b 0 then 0 else 1) 0 0
    else if b₃₅ then fields 0 0 c d
    else if b₃₉ then none
    else fields a b c d

curve_again : (a : ℕ) (t : Bool)
    → ◌≡◌ {A = Fields} (fields a (if eqb (if t then 0 else 1) 0 then 0 else 1) 0 0) (fields a (if t then 0 else 1) 0 0)
curve_again a true = refl
curve_again a false = refl

again_by : (b₁ b₂ b₅ b₃₃ b₃₄ b₃₅ b₃₉ : Bool) (f : Fields)
    → meant_by b₁ b₂ b₅ b₃₃ b₃₄ b₃₅ b₃₉ (meant_by b₁ b₂ b₅ b₃₃ b₃₄ b₃₅ b₃₉ f) ≡ meant_by b₁ b₂ b₅ b₃₃ b₃₄ b₃₅ b₃₉ f
again_by true b₂ b₅ b₃₃ b₃₄ b₃₅ b₃₉ (fields a b c d) = refl
again_by false true b₅ b₃₃ b₃₄ b₃₅ b₃₉ (fields a b c d) = refl
again_by false false true b₃₃ b₃₄ b₃₅ b₃₉ (fields a b c d) = refl
again_by false false false true b₃₄ b₃₅ b₃₉ (fields a b c d) = refl
again_by false false false false true b₃₅ b₃₉ (fields a b c d) = curve_again a (eqb b 0)
again_by false false false false false true b₃₉ (fields a b c d) = refl
again_by false false false false false false true (fields a b c d) = refl
again_by false false false false false false false (fields a b c d) = refl

-- the tests on the kind k
abbrev tested : ℕ → Fields → Fields
tested k = meant_by (eqb k 1) (eqb k 2) (eqb k 5) (eqb k 33) (eqb k 34) (eqb k 35) (eqb k 39)

is_tested : (k : ℕ) (f : Fields) → meant k f ≡ tested k f
is_tested k (fields a b c d) = refl

meant_again : (k : ℕ) (f : Fields) → meant k (meant k f) ≡ meant k f
meant_again k f =
    is_tested k (meant k f) ∙ ap (tested k) (is_tested k f)
    ∙ again_by (eqb k 1) (eqb k 2) (eqb k 5) (eqb k 33) (eqb k 34) (eqb k 35) (eqb k 39) f ∙ sym (is_tested k f)

-- a meaning has no places left to forget
mutual
  unfolding meaning

  pub meaning_again : (t : Tree) → meaning (meaning t) ≡ meaning t
  meaning_again (node k p s f ts) = λ i. node k 0 s (meant_again k f i) (meanings_again ts i)

  pub meanings_again : (ts : Trees) → meanings (meanings ts) ≡ meanings ts
  meanings_again nil = refl
  meanings_again (t ▹ ts) = λ i. meaning_again t i ▹ meanings_again ts i
