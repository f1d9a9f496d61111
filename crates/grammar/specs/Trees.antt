-- Records: what a statement is read as, a tree, and the words that the tree is written as.
-- Kinds: 1 Variable, 2 Constant, 3 True, 4 False, 5 String, 6 List, 7 UnaryMinus, 8 Add, 9 Subtract, 10 Multiply, 11 Divide, 12 Pow, 13 Equal, 14 NotEqual, 15 Superior,
-- 16 Inferior, 17 SuperiorOrEqual, 18 InferiorOrEqual, 19 And, 20 Or, 21 Ln, 22 Exp, 23 Min, 24 Max, 25 Cvg, 26 Fif, 27 Range, 28 Index, 29 Append, 30 Mean, 31 Std, 32 Spot,
-- 33 equity spot, 34 Df, 35 RateIndex, 36 Pays, 37 Assign, 38 If, 39 ForEach.
use Rattle.std.specs.Prelude.{List, [], ◌∷◌, ◌++◌, ℕ, suc, ◌+◌, eqb, if◌then◌else◌}

-- f1 to f4
pub data Fields : Type 0 where
  fields : ℕ → ℕ → ℕ → ℕ → Fields

-- A node: its kind, its place, the bytes of the script that it names, f1 to f4, and its direct parts.
-- Its place is the byte, from its statement's first byte, of the first token of the text it was read from.
-- A Variable names its name, a String its content, an equity spot and a RateIndex their name, a Df its curve, a ForEach its variable; all others nothing
mutual
  pub data Tree : Type 0 where
    node : ℕ → ℕ → List ℕ → Fields → Trees → Tree

  pub data Trees : Type 0 where
    nil : Trees
    ◌▹◌ : Tree → Trees → Trees

infixr 67 ◌▹◌
-- unused f are 0
abbrev pub none : Fields
none = fields 0 0 0 0

-- a node's kind, and its place
abbrev pub kind_of : Tree → ℕ
kind_of (node k p s f ts) = k

abbrev pub place_of : Tree → ℕ
place_of (node k p s f ts) = p

-- one more part, at the end
abbrev pub snoc : Trees → Tree → Trees
snoc nil t = t ▹ nil
snoc (u ▹ us) t = u ▹ snoc us t

-- the parts of both, one after the other
abbrev pub join : Trees → Trees → Trees
join nil ts = ts
join (u ▹ us) ts = u ▹ join us ts

-- direct parts
abbrev pub parts : Trees → ℕ
parts nil = 0
parts (t ▹ ts) = suc (parts ts)

-- nodes in subtree
unfoldable mutual
  pub size : Tree → ℕ
  size (node k p s f ts) = suc (sizes ts)

  pub sizes : Trees → ℕ
  sizes nil = 0
  sizes (t ▹ ts) = size t + sizes ts

-- eight words: kind, nodes in subtree, direct parts, f1 to f4, place
abbrev pub row : ℕ → ℕ → ℕ → Fields → ℕ → List ℕ
row k n m (fields a b c d) p = k ∷ n ∷ m ∷ a ∷ b ∷ c ∷ d ∷ p ∷ []

-- children before parents, in script order
unfoldable mutual
  pub records : Tree → List ℕ
  records (node k p s f ts) = records_of ts ++ row k (suc (sizes ts)) (parts ts) f p

  pub records_of : Trees → List ℕ
  records_of nil = []
  records_of (t ▹ ts) = records t ++ records_of ts

-- ---- the same tree by content

-- What f1 to f4 say without places: a start and a length are 0, and of a Df's curve it is kept whether there is one, 1 or 0
abbrev pub meant : ℕ → Fields → Fields
meant k (fields a b c d) =
    if eqb k 1 then none
    else if eqb k 2 then fields a b 0 0
    else if eqb k 5 then none
    else if eqb k 33 then fields 0 0 c 0
    else if eqb k 34 then fields a (if eqb b 0 then 0 else 1) 0 0
    else if eqb k 35 then fields 0 0 c d
    else if eqb k 39 then none
    else fields a b c d

-- a tree without places: kinds, the bytes that are named, values, dates, currencies, where an else begins, parts
unfoldable mutual
  pub meaning : Tree → Tree
  meaning (node k p s f ts) = node k 0 s (meant k f) (meanings ts)

  pub meanings : Trees → Trees
  meanings nil = nil
  meanings (t ▹ ts) = meaning t ▹ meanings ts
