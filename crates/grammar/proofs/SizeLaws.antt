-- The nodes of what is read are bounded by the tokens that were read: three for each token.
-- A reader holds k nodes of credit, each token that is read adds three, and what was read weighs w at most what is held.
use Rattle.std.specs.Prelude.{if◌then◌else◌}
use mathlib.Core.Path.{◌≡◌, refl, subst}
use mathlib.Core.Bool.{Bool, true, false, ◌&&◌, ◌||◌, not}
use mathlib.Core.List.{List, [], ◌∷◌}
use mathlib.Core.Option.{Option, none, some}
use Prim.Native.Nat.{ℕ, zero, suc, ◌+◌, ◌*◌, ◌≤◌, ◌<◌}
use Prim.Native.String.{String}
use native.Mathlib.Omega.{arith}
use lib.Dec.{leb, eqb}
use lib.ListN.{length}
use Rattle.tokens.specs.Text.{bytes, same, within}
use Rattle.tokens.specs.Names.{place, member}
use Rattle.tokens.specs.Dates.{date}
use Rattle.tokens.specs.Tokens.{Token, code}
use Rattle.grammar.specs.Trees.{Tree, Trees, nil, snoc, parts, size, sizes}
use Rattle.grammar.specs.Readers.{Out, ok, refused, Reader, bind, ◌>>=◌, ◌>>◌, Turn, again, done, follow, turns, loop, first, is, give, fail, fail_at, ask, look, peek}
use Rattle.grammar.specs.Grammar as G
use Rattle.grammar.specs.Grammar.{deeper, optional, grouped, sum, comparison, expression, items, arguments, method, postfixes, a_date, df, rate_index, Language, Inner, block, if_over, ended, deep, Edition, one, two, in_edition, next_kind}
use Rattle.grammar.proofs.Laws.{left_shorter}
use Rattle.grammar.proofs.GrammarLaws.{Stays, Moves, moving_stays, read_moves, the_moves, optional_law, date_of_law, a_date_law, a_currency_law, named_law}
use Rattle.grammar.proofs.StatementLaws.{near_tail, statement_tail}
use Rattle.grammar.proofs.TreeLaws.{size_snoc, sizes_join}

-- ---- the notion, and its forms

pub record Pays {A : Type 0} (k : ℕ) (w : A → ℕ) (m : Reader A) : Type 0 where
  pub bound : (ts : List Token) (a : A) (r : List Token) → m ts ≡ ok a r → w a + 3 * length r ≤ k + 3 * length ts

-- a tree of no more nodes than three for each token
abbrev pub Sized : Reader Tree → Type 0
Sized m = (ts : List Token) (t : Tree) (r : List Token) → m ts ≡ ok t r → size t + 3 * length r ≤ 3 * length ts

-- the same, where k nodes are paid for by what was read before
abbrev pub SizedUp : ℕ → Reader Tree → Type 0
SizedUp k m = (ts : List Token) (t : Tree) (r : List Token) → m ts ≡ ok t r → size t + 3 * length r ≤ k + 3 * length ts

-- trees
abbrev pub SizedAll : Reader Trees → Type 0
SizedAll m = (ts : List Token) (es : Trees) (r : List Token) → m ts ≡ ok es r → sizes es + 3 * length r ≤ 3 * length ts

module _ {m : Reader Tree} where
  pub sized_pays : {k : ℕ} → Sized m → Pays k (λ t. k + size t) m
  sized_pays h = record { bound = λ ts t r e. omega (arith, h ts t r e) }

  pub pays_sized : Pays 0 size m → Sized m
  pays_sized h ts t r e = omega (arith, h.bound ts t r e)

  pub pays_up : {k : ℕ} → Pays k size m → SizedUp k m
  pays_up h ts t r e = h.bound ts t r e

  -- what is read last
  pub sized_last : {k : ℕ} → Sized m → Pays k size m
  sized_last h = record { bound = λ ts t r e. omega (arith, h ts t r e) }

  pub up_last : {k : ℕ} (j : ℕ) → j ≤ k → SizedUp j m → Pays k size m
  up_last j g h = record { bound = λ ts t r e. omega (arith, g, h ts t r e) }

module _ {m : Reader Trees} where
  pub all_pays : {k : ℕ} → SizedAll m → Pays k (λ es. k + sizes es) m
  all_pays h = record { bound = λ ts t r e. omega (arith, h ts t r e) }

  pub pays_all : Pays 0 sizes m → SizedAll m
  pays_all h ts t r e = omega (arith, h.bound ts t r e)

-- what is no tree weighs nothing
module _ {A : Type 0} {m : Reader A} {k : ℕ} where
  pub stays_pays : Stays m → Pays k (λ a. k) m
  stays_pays h = record { bound = λ ts a r e. omega (arith, left_shorter (h ts a r e)) }

  -- and a token that is read adds three
  pub moves_pays : Moves m → Pays k (λ a. k + 3) m
  moves_pays h = record { bound = λ ts a r e. omega (arith, left_shorter (h ts a r e)) }

module _ {A B : Type 0} {m : Reader A} {f : A → Reader B} {k : ℕ} {w : B → ℕ} where
  pub pay_then : {v : A → ℕ} → Pays k v m → ((a : A) → Pays (v a) w (f a)) → Pays k w (m >>= f)
  unfolding ◌>>=◌
  pay_then {v} hm hf = record { bound = λ ts b r e. go ts b r (m ts) refl e }
    where
      go : (ts : List Token) (b : B) (r : List Token) (o : Out A) → m ts ≡ o → bind f o ≡ ok b r → w b + 3 * length r ≤ k + 3 * length ts
      go ts b r (ok a s) q z = omega (arith, hm.bound ts a s q, (hf a).bound s b r z)
      go ts b r (refused x p) q z = absurd (let y : ◌≡◌ {A = ℕ} 0 1 = cc in omega arith)

  pub stay_pay : Stays m → ((a : A) → Pays k w (f a)) → Pays k w (m >>= f)
  stay_pay hm hf = pay_then (stays_pays hm) hf

  pub move_pay : Moves m → ((a : A) → Pays (k + 3) w (f a)) → Pays k w (m >>= f)
  move_pay hm hf = pay_then (moves_pays hm) hf

module _ {A B : Type 0} {m : Reader A} {n : Reader B} {k : ℕ} {w : B → ℕ} where
  pub stay_next_pay : Stays m → Pays k w n → Pays k w (m >> n)
  unfolding ◌>>◌
  stay_next_pay hm hn = stay_pay hm (λ a. hn)

  pub move_next_pay : Moves m → Pays (k + 3) w n → Pays k w (m >> n)
  unfolding ◌>>◌
  move_next_pay hm hn = move_pay hm (λ a. hn)

module _ {B : Type 0} {f : Tree → Reader B} {m : Reader Tree} {k : ℕ} {w : B → ℕ} where
  pub tree_pay : Sized m → ((t : Tree) → Pays (k + size t) w (f t)) → Pays k w (m >>= f)
  tree_pay hm hf = pay_then (sized_pays hm) hf

module _ {B : Type 0} {f : Trees → Reader B} {m : Reader Trees} {k : ℕ} {w : B → ℕ} where
  pub trees_pay : SizedAll m → ((es : Trees) → Pays (k + sizes es) w (f es)) → Pays k w (m >>= f)
  trees_pay hm hf = pay_then (all_pays hm) hf

module _ {B : Type 0} {f : Token → Reader B} {k : ℕ} {w : B → ℕ} where
  pub peek_pay : ((t : Token) → Pays k w (f t)) → Pays k w (peek >>= f)
  unfolding peek ◌>>=◌
  peek_pay h = record { bound = λ ts b r e. (h (first ts)).bound ts b r e }

module _ {A : Type 0} {k : ℕ} {w : A → ℕ} where
  pub give_pay : (a : A) → w a ≤ k → Pays k w (give a)
  unfolding give
  give_pay a h = record {
    bound = λ ts b r e.
        let p : a ≡ b = cc in
        let q : ts ≡ r = cc in
        subst (λ x. w x + 3 * length r ≤ k + 3 * length ts) p (subst (λ l. w a + 3 * length l ≤ k + 3 * length ts) q (omega (arith, h)));
  }

  pub fail_pay : (n : ℕ) → Pays k w (fail n)
  unfolding fail
  fail_pay n = record { bound = λ ts b r e. absurd (let z : ◌≡◌ {A = ℕ} 0 1 = cc in omega arith) }

  pub fail_at_pay : (t : Token) (n : ℕ) → Pays k w (fail_at t n)
  unfolding fail_at
  fail_at_pay t n = record { bound = λ ts b r e. absurd (let z : ◌≡◌ {A = ℕ} 0 1 = cc in omega arith) }

  pub if_pay : (b : Bool) {m n : Reader A} → Pays k w m → Pays k w n → Pays k w (if b then m else n)
  if_pay true hm hn = hm
  if_pay false hm hn = hn

  pub ask_pay : (test : Token → Bool) {m n : Reader A} → Pays k w m → Pays k w n → Pays k w (ask test m n)
  unfolding ask
  ask_pay test hm hn = record { bound = λ ts a r e. (if_pay (test (first ts)) hm hn).bound ts a r e }

  pub look_pay : (test : List Token → Bool) {m n : Reader A} → Pays k w m → Pays k w n → Pays k w (look test m n)
  unfolding look
  look_pay test hm hn = record { bound = λ ts a r e. (if_pay (test ts) hm hn).bound ts a r e }

  -- with more credit, or less weight
  pub lend : {j : ℕ} {v : A → ℕ} {m : Reader A} → j ≤ k → ((a : A) → w a ≤ v a) → Pays j v m → Pays k w m
  lend h g hm = record { bound = λ ts a r e. omega (arith, h, g a, hm.bound ts a r e) }

  -- what is held before is held after
  pub beside : {m : Reader A} → Pays 0 w m → Pays k (λ a. k + w a) m
  beside hm = record { bound = λ ts a r e. omega (arith, hm.bound ts a r e) }

-- ---- loops

-- what a turn ends with has its weight
abbrev pub turned : {S A : Type 0} → (S → ℕ) → (A → ℕ) → Turn S A → ℕ
turned v w (again s) = v s
turned v w (done a) = w a

module _ {S A : Type 0} {step : S → Reader (Turn S A)} {v : S → ℕ} {w : A → ℕ} (steps : (s : S) → Pays (v s) (turned v w) (step s)) where
  turns_pay : (n : ℕ) (s : S) (ts : List Token) (a : A) (r : List Token) → turns n step s ts ≡ ok a r → w a + 3 * length r ≤ v s + 3 * length ts
  unfolding turns
  turns_pay zero s ts a r e = absurd (let z : ◌≡◌ {A = ℕ} 0 1 = cc in omega arith)
  turns_pay (suc n) s ts a r e = go (λ s' u. turns_pay n s' u a r) (step s ts) refl e
    where
      go : ((s' : S) (u : List Token) → turns n step s' u ≡ ok a r → w a + 3 * length r ≤ v s' + 3 * length u)
          → (o : Out (Turn S A)) → step s ts ≡ o → follow (λ s' ts'. turns n step s' ts') o ≡ ok a r → w a + 3 * length r ≤ v s + 3 * length ts
      go ih (ok (again s') u) q z = omega (arith, (steps s).bound ts (again s') u q, ih s' u z)
      go ih (ok (done b) u) q z =
          let x : b ≡ a = cc in
          let y : u ≡ r = cc in
          subst (λ c. w c + 3 * length r ≤ v s + 3 * length ts) x (subst (λ l. w b + 3 * length l ≤ v s + 3 * length ts) y ((steps s).bound ts (done b) u q))
      go ih (refused x p) q z = absurd (let y : ◌≡◌ {A = ℕ} 0 1 = cc in omega arith)

  pub loop_pay : (s : S) → Pays (v s) w (loop step s)
  unfolding loop
  loop_pay s = record { bound = λ ts a r e. turns_pay (suc (length ts)) s ts a r e }

-- what is one deeper is sized
pub data EachSized : Option (Reader Tree) → Type 0 where
  nothing : EachSized none
  just : {p : Reader Tree} → Sized p → EachSized (some p)

module _ {A : Type 0} {k : ℕ} {w : A → ℕ} {f : Reader Tree → Reader A} where
  pub deeper_pay : (t : Token) (o : Option (Reader Tree)) → EachSized o → ((p : Reader Tree) → Sized p → Pays k w (f p)) → Pays k w (deeper t o f)
  unfolding deeper
  deeper_pay t none nothing h = fail_at_pay t 15
  deeper_pay t (some p) (just m) h = h p m

-- what is one deeper in a statement
pub data EachInnerSized : Option Inner → Type 0 where
  shallow : EachInnerSized none
  inside : {i : Inner} → Sized i.statement → Sized i.primary → EachInnerSized (some i)

module _ {A : Type 0} {k : ℕ} {w : A → ℕ} {f : Inner → Reader A} where
  pub inner_pay : (t : Token) (o : Option Inner) → EachInnerSized o
      → ((i : Inner) → Sized i.statement → Sized i.primary → Pays k w (f i)) → Pays k w (deeper t o f)
  unfolding deeper
  inner_pay t none shallow h = fail_at_pay t 15
  inner_pay t (some i) (inside s p) h = h i s p

pub deep_sized : (o : Option Inner) → EachInnerSized o → EachSized (deep o)
deep_sized none shallow = nothing
deep_sized (some i) (inside s p) = just p

module _ {A : Type 0} {k : ℕ} {w : A → ℕ} where
  pub optional_pay : (s : String) (a : A) (m : Reader A) → w a ≤ k → Pays (k + 3) w m → Pays k w (optional s a m)
  unfolding optional
  optional_pay s a m h hm = ask_pay (is s) (move_next_pay (the_moves s) hm) (give_pay a h)

-- ---- expressions

pub group_turn_pay : (op : Token → Bool) (operand : Reader Tree) → Sized operand → (b : ℕ) (l : Tree) → Pays (size l) (turned size size) (G.group_turn op operand b l)
unfolding G.group_turn size
group_turn_pay op operand h b l =
    ask_pay op (move_pay read_moves λ t. tree_pay h λ r. give_pay _ (omega arith)) (give_pay (done l) (omega arith))

pub grouped_size : (op : Token → Bool) (operand : Reader Tree) → Sized operand → Sized (grouped op operand)
unfolding grouped
grouped_size op operand h =
    pays_sized (peek_pay λ t. tree_pay h λ l. lend (omega arith) (λ a. omega arith) (loop_pay (group_turn_pay op operand h _) l))

-- the operands of a chain, and a node for each but the last
abbrev pub held : List (ℕ × Tree) → ℕ
held [] = 0
held (l ∷ ls) = suc (size l.1) + held ls

abbrev pub chain_size : G.Chain → ℕ
chain_size c = size c.1 + held c.2

pub onto_size : (r : Tree) (ls : List (ℕ × Tree)) → size (G.onto r ls) ≡ size r + held ls
unfolding size
onto_size r [] = omega arith
onto_size r (l ∷ ls) = omega (arith, onto_size (G.binary 12 l.0 l.1 r) ls)

pub raise_turn_pay : (operand : Reader Tree) → Sized operand → (c : G.Chain) → Pays (chain_size c) (turned chain_size size) (G.raise_turn operand c)
unfolding G.raise_turn size
raise_turn_pay operand h c =
    ask_pay (is "**") (move_next_pay read_moves (peek_pay λ t. tree_pay h λ r. give_pay _ (omega arith)))
    (give_pay (done (G.onto c.1 c.2)) (omega (arith, onto_size c.1 c.2)))

pub raised_size : (operand : Reader Tree) → Sized operand → Sized (G.raised operand)
unfolding G.raised
raised_size operand h =
    pays_sized (peek_pay λ t. tree_pay h λ l. lend (omega arith) (λ a. omega arith) (loop_pay (raise_turn_pay operand h) _))

module _ {m n : Reader Tree} where
  pub edition_size : (e : Edition) → Sized m → Sized n → Sized (in_edition e m n)
  edition_size one hm hn = hm
  edition_size two hm hn = hn

pub method_size : (b : ℕ) (x : Tree) (m : Token) (es : Trees) → SizedUp (suc (size x + sizes es)) (method b x m es)
unfolding method size
method_size b x m es =
    pays_up (if_pay (same (bytes "append") m.text && eqb (parts es) 1) (give_pay _ (omega arith))
    (if_pay (same (bytes "mean") m.text && eqb (parts es) 0) (give_pay _ (omega arith))
    (if_pay (same (bytes "std") m.text && eqb (parts es) 0) (give_pay _ (omega arith)) (fail_at_pay m 10))))

-- ---- calls

pub df_size : (b : ℕ) → Sized (df b)
unfolding df size
df_size b =
    pays_sized (move_next_pay (the_moves "(") (move_pay a_date_law λ d.
    pay_then {v = size} (optional_pay "," _ _ (omega arith) (move_pay (the_moves "string") λ s. give_pay _ (omega arith))) λ e.
    move_next_pay (the_moves ")") (give_pay e (omega arith))))

pub rate_index_size : (b : ℕ) → Sized (rate_index b)
unfolding rate_index size
rate_index_size b =
    pays_sized (move_next_pay (the_moves "(") (move_pay (the_moves "string") λ s. move_next_pay (the_moves ",") (move_pay (the_moves "string") λ t.
    move_next_pay (the_moves ",") (move_pay (the_moves "string") λ u. move_next_pay (the_moves ")")
    (stay_pay (date_of_law t) λ c. stay_pay (date_of_law u) λ d. give_pay _ (omega arith))))))

-- ---- statements over the readers of what is one deeper

pub block_turn_pay : (s : Reader Tree) → Sized s → (ss : Trees) → Pays (sizes ss) (turned sizes sizes) (G.block_turn s ss)
unfolding G.block_turn
block_turn_pay s h ss =
    ask_pay (is "}") (give_pay (done ss) (omega arith)) (tree_pay h λ t. give_pay (again (snoc ss t)) (omega (arith, size_snoc ss t)))

pub block_loop_size : (s : Reader Tree) → Sized s → SizedAll (loop (G.block_turn s) nil)
unfolding size
block_loop_size s h = pays_all (loop_pay (block_turn_pay s h) nil)

pub block_size : (s : Reader Tree) → Sized s → SizedAll (block s)
unfolding block
block_size s h =
    pays_all (move_next_pay (the_moves "{") (trees_pay (block_loop_size s h) λ ss. move_next_pay (the_moves "}") (give_pay ss (omega arith))))

module _ (W : Language) where
  pub power_size : (p : Reader Tree) → Sized p → Sized (G.power W p)
  unfolding G.power
  power_size p h = search (edition_size, grouped_size, raised_size)

  pub signed_size : (p : Reader Tree) → Sized p → Sized (G.signed W p)
  unfolding G.signed
  signed_size p h = search (edition_size, power_size)

  pub product_size : (p : Reader Tree) → Sized p → Sized (G.product W p)
  product_size p h = grouped_size _ (G.power W p) (power_size p h)

  pub sum_size : (p : Reader Tree) → Sized p → Sized (sum W p)
  unfolding sum
  sum_size p h = grouped_size _ (G.product W p) (product_size p h)

  pub comparison_size : (p : Reader Tree) → Sized p → Sized (comparison W p)
  unfolding comparison size
  comparison_size p h =
      pays_sized (peek_pay λ s. tree_pay (sum_size p h) λ l.
      ask_pay _ (move_pay read_moves λ t. tree_pay (sum_size p h) λ r. give_pay _ (omega arith)) (give_pay l (omega arith)))

  pub expression_size : (p : Reader Tree) → Sized p → Sized (expression W p)
  unfolding expression
  expression_size p h = search (edition_size, grouped_size, comparison_size)

  -- ---- lists and arguments

  pub item_turn_pay : (close : String) (p : Reader Tree) → Sized p → (es : Trees) → Pays (sizes es) (turned sizes sizes) (G.item_turn W close p es)
  unfolding G.item_turn
  item_turn_pay close p h es =
      ask_pay (is close) (give_pay (done es) (omega arith)) (tree_pay (expression_size p h) λ e. peek_pay λ t.
      if_pay (is "," t) (move_next_pay (the_moves ",") (give_pay (again (snoc es e)) (omega (arith, size_snoc es e))))
      (if_pay (is close t) (give_pay (again (snoc es e)) (omega (arith, size_snoc es e))) (fail_pay 8)))

  pub items_size : (close : String) (p : Reader Tree) → Sized p → SizedAll (items W close p)
  unfolding items size
  items_size close p h = pays_all (loop_pay (item_turn_pay close p h) nil)

  -- the signs pay for a node more
  pub arguments_spare : (o : Option (Reader Tree)) → EachSized o → Pays 0 (λ es. suc (sizes es)) (arguments W o)
  unfolding arguments
  arguments_spare o h =
      peek_pay λ t. if_pay (is "(" t) (deeper_pay t o h λ p m. move_next_pay read_moves
      (trees_pay (items_size ")" p m) λ es. move_next_pay (the_moves ")") (give_pay es (omega arith)))) (fail_pay 8)

  pub arguments_size : (o : Option (Reader Tree)) → EachSized o → SizedAll (arguments W o)
  arguments_size o h = pays_all (lend (omega arith) (λ a. omega arith) (arguments_spare o h))

  -- ---- postfixes

  pub method_of_pay : (o : Option (Reader Tree)) → EachSized o → (b : ℕ) (x : Tree) → Pays (size x) (turned size size) (G.method_of W o b x)
  method_of_pay o h b x =
      move_pay (the_moves "name") λ m. trees_pay (arguments_size o h) λ es.
      pay_then (up_last (suc (size x + sizes es)) (omega arith) (method_size b x m es)) λ y. give_pay (again y) (omega arith)

  pub index_of_pay : (p : Reader Tree) → Sized p → (b : ℕ) (x : Tree) → Pays (size x) (turned size size) (G.index_of W p b x)
  unfolding size
  index_of_pay p h b x = tree_pay (expression_size p h) λ i. move_next_pay (the_moves "]") (give_pay (again (G.binary 28 b x i)) (omega arith))

  pub postfix_turn_pay : (o : Option (Reader Tree)) → EachSized o → (b : ℕ) (x : Tree) → Pays (size x) (turned size size) (G.postfix_turn W o b x)
  unfolding G.postfix_turn
  postfix_turn_pay o h b x =
      peek_pay λ t. if_pay (is "." t) (move_next_pay read_moves (lend (omega arith) (λ a. omega arith) (method_of_pay o h b x)))
      (if_pay (is "[" t) (deeper_pay t o h λ p m. move_next_pay read_moves (lend (omega arith) (λ a. omega arith) (index_of_pay p m b x)))
      (give_pay (done x) (omega arith)))

  pub postfixes_size : (o : Option (Reader Tree)) → EachSized o → (b : ℕ) (x : Tree) → SizedUp (size x) (postfixes W o b x)
  unfolding postfixes
  postfixes_size o h b x = pays_up (loop_pay (postfix_turn_pay o h b) x)

  pub if_over_size : (i : Inner) → Sized i.statement → Sized i.primary → Sized (if_over W i)
  unfolding if_over size
  if_over_size i hs hp =
      pays_sized (move_pay read_moves λ t. tree_pay (expression_size i.primary hp) λ e. trees_pay (block_size i.statement hs) λ ss.
      ask_pay (is "else")
      (move_next_pay read_moves (trees_pay (block_size i.statement hs) λ us. give_pay _ (omega (arith, sizes_join ss us))))
      (give_pay _ (omega arith)))

  pub ended_size : (p : Reader Tree) → Sized p → Sized (ended W p)
  unfolding ended
  ended_size p h = pays_sized (tree_pay (expression_size p h) λ e. move_next_pay (the_moves ";") (give_pay e (omega arith)))

  -- ---- calls

  pub equity_pay : (b : ℕ) (t : Token) → Pays 1 size (G.equity W b t)
  unfolding G.equity size
  equity_pay b t = stay_pay (optional_law "," 0 a_date (moving_stays a_date_law)) λ d. give_pay _ (omega arith)

  pub pair_pay : (b c : ℕ) → Pays 1 size (G.pair W b c)
  unfolding G.pair size
  pair_pay b c =
      optional_pay "," _ _ (omega arith) (move_pay (a_currency_law W) λ k.
      stay_pay (optional_law "," 0 a_date (moving_stays a_date_law)) λ d. give_pay _ (omega arith))

  pub spot_size : (b : ℕ) → Sized (G.spot W b)
  unfolding G.spot
  spot_size b =
      pays_sized (move_next_pay (the_moves "(") (move_pay (the_moves "string") λ s.
      pay_then {v = size} (if_pay (eqb (place W.currencies (G.content s)) 0)
      (lend (omega arith) (λ a. omega arith) (equity_pay b s))
      (lend (omega arith) (λ a. omega arith) (pair_pay b (place W.currencies (G.content s))))) λ e.
      move_next_pay (the_moves ")") (give_pay e (omega arith))))

  pub cvg_size : (t : Token) (es : Trees) → SizedUp (suc (sizes es)) (G.cvg W t es)
  unfolding G.cvg size
  cvg_size t es =
      pays_up (if_pay (not (G.strings es)) (fail_at_pay t 14)
      (if_pay (eqb (date (G.text es 0)) 0 || eqb (date (G.text es 1)) 0) (fail_at_pay t 11)
      (if_pay (member W.counters (G.text es 2)) (give_pay _ (omega arith)) (fail_at_pay t 13))))

  pub call_size : (o : Option (Reader Tree)) → EachSized o → (t : Token) (c : ℕ × ℕ × ℕ) → Sized (G.call W o t c)
  unfolding G.call size
  call_size o h t c =
      pays_sized (pay_then (arguments_spare o h) λ es. if_pay (not (within c.1 c.2 (parts es))) (fail_at_pay t 10)
      (if_pay (eqb c.0 25) (up_last (suc (sizes es)) (omega arith) (cvg_size t es)) (give_pay _ (omega arith))))

  -- a variable is one node, which its token pays for
  pub named_size : (t : Token) → SizedUp 1 (G.named W t)
  unfolding G.named size
  named_size t = pays_up (if_pay (member W.reserved t.text) (fail_at_pay t 9) (give_pay _ (omega arith)))

  pub name_size : (o : Option (Reader Tree)) → EachSized o → (t : Token) → SizedUp 1 (G.name W o t)
  unfolding G.name
  name_size o h t =
      let c : ℕ × ℕ × ℕ = G.call_of t.text G.calls in
      pays_up (if_pay (leb 1 c.0) (sized_last (call_size o h t c))
      (if_pay (same (bytes "Spot") t.text) (sized_last (spot_size t.from))
      (if_pay (same (bytes "Df") t.text) (sized_last (df_size t.from))
      (if_pay (same (bytes "RateIndex") t.text) (sized_last (rate_index_size t.from))
      (pay_then (up_last 1 (omega arith) (named_size t)) λ x. up_last (size x) (omega arith) (postfixes_size o h t.from x))))))

  -- ---- pays

  pub pay_turn_pay : (p : Reader Tree) → Sized p → (es : Trees) → Pays (sizes es) (turned sizes sizes) (G.pay_turn W p es)
  unfolding G.pay_turn
  pay_turn_pay p h es =
      ask_pay _ (give_pay (done es) (omega arith)) (tree_pay (expression_size p h) λ e. give_pay (again (snoc es e)) (omega (arith, size_snoc es e)))

  pub payments_size : (p : Reader Tree) → Sized p → SizedAll (G.payments W p)
  unfolding G.payments size
  payments_size p h = pays_all (loop_pay (pay_turn_pay p h) nil)

  pub payday_size : (b : ℕ) (es : Trees) → SizedUp (suc (sizes es)) (G.payday W b es)
  unfolding size
  payday_size b es =
      pays_up (stay_pay (optional_law "on" 0 a_date (moving_stays a_date_law)) λ d.
      stay_pay (optional_law "in" 0 (G.a_currency W) (moving_stays (a_currency_law W))) λ c. give_pay _ (omega arith))

  -- the word `pays` pays for the node
  pub payment_size : (b : ℕ) (p : Reader Tree) → Sized p → SizedUp 1 (G.payment W b p)
  payment_size b p h = pays_up (trees_pay (payments_size p h) λ es. up_last (suc (sizes es)) (omega arith) (payday_size b es))

  -- and two are left
  pub pays_spare : (o : Option (Reader Tree)) → EachSized o → Pays 0 (λ t. 2 + size t) (G.pays W o)
  unfolding G.pays
  pays_spare o h = peek_pay λ t. deeper_pay t o h λ p m. move_next_pay (the_moves "pays") (record { bound = λ ts a r e. omega (arith, payment_size t.from p m ts a r e) })

  pub pays_size : (o : Option (Reader Tree)) → EachSized o → Sized (G.pays W o)
  pays_size o h = pays_sized (lend (omega arith) (λ a. omega arith) (pays_spare o h))

  -- ---- primaries

  pub negative_size : (b : ℕ) (p : Reader Tree) → Sized p → SizedUp 1 (G.negative W b p)
  unfolding size
  negative_size b p h = pays_up (tree_pay (signed_size p h) λ x. give_pay _ (omega arith))

  pub minus_size : (o : Option (Reader Tree)) → EachSized o → (t : Token) → SizedUp 1 (G.minus W o t)
  unfolding G.minus G.constant size
  minus_size o h s =
      pays_up (look_pay (G.lone W) (move_pay (the_moves "number") λ t. give_pay _ (omega arith))
      (deeper_pay s o h λ p m. up_last 1 (omega arith) (negative_size s.from p m)))

  pub parenthesis_size : (p : Reader Tree) → Sized p → Sized (G.parenthesis W p)
  parenthesis_size p h = pays_sized (tree_pay (expression_size p h) λ e. move_next_pay (the_moves ")") (give_pay e (omega arith)))

  pub listed_size : (b : ℕ) (p : Reader Tree) → Sized p → Sized (G.listed W b p)
  unfolding size
  listed_size b p h = pays_sized (trees_pay (items_size "]" p h) λ es. move_next_pay (the_moves "]") (give_pay _ (omega arith)))

  pub primary_over_size : (o : Option (Reader Tree)) → EachSized o → Sized (G.primary_over W o)
  unfolding G.primary_over G.constant size
  primary_over_size o h =
      pays_sized (peek_pay λ t.
      if_pay (is "(" t) (deeper_pay t o h λ p m. move_next_pay read_moves (sized_last (parenthesis_size p m)))
      (if_pay (is "+" t) (deeper_pay t o h λ p m. move_next_pay read_moves (sized_last (signed_size p m)))
      (if_pay (is "-" t) (move_next_pay read_moves (up_last 1 (omega arith) (minus_size o h t)))
      (if_pay (is "[" t) (pay_then {v = size} (deeper_pay t o h λ p m. move_next_pay read_moves (sized_last (listed_size t.from p m))) λ x. up_last (size x) (omega arith) (postfixes_size o h t.from x))
      (if_pay (is "number" t) (move_next_pay (the_moves "number") (give_pay _ (omega arith)))
      (if_pay (is "true" t) (move_next_pay (the_moves "true") (give_pay _ (omega arith)))
      (if_pay (is "false" t) (move_next_pay (the_moves "false") (give_pay _ (omega arith)))
      (if_pay (is "string" t) (move_next_pay (the_moves "string") (give_pay _ (omega arith)))
      (if_pay (is "pays" t) (sized_last (pays_size o h))
      (if_pay (is "name" t) (move_next_pay (the_moves "name") (up_last 1 (omega arith) (name_size o h t)))
      (fail_pay 8)))))))))))

  pub primary_size : (d : ℕ) → Sized (G.primary W d)
  unfolding G.primary
  primary_size zero = primary_over_size none nothing
  primary_size (suc d) = primary_over_size (some (G.primary W d)) (just (primary_size d))

  -- ---- statements

  pub for_over_size : (i : Inner) → Sized i.statement → Sized i.primary → Sized (G.for_over W i)
  unfolding G.for_over size
  for_over_size i hs hp =
      pays_sized (move_pay read_moves λ t. move_pay (the_moves "name") λ v. stay_next_pay (named_law W v) (move_next_pay (the_moves "in")
      (tree_pay (expression_size i.primary hp) λ e. trees_pay (block_size i.statement hs) λ ss. give_pay _ (omega arith))))

  pub paid_spare : (o : Option (Reader Tree)) → EachSized o → Pays 0 (λ t. 2 + size t) (G.paid W o)
  unfolding G.paid
  paid_spare o h = pay_then (pays_spare o h) λ e. optional_pay ";" e (give e) (omega arith) (give_pay e (omega arith))

  pub paid_size : (o : Option (Reader Tree)) → EachSized o → Sized (G.paid W o)
  paid_size o h = pays_sized (lend (omega arith) (λ a. omega arith) (paid_spare o h))

  -- a variable twice, and one node more
  pub target_pay : Pays 0 (λ x. suc (size x + size x)) (G.target W)
  unfolding G.target G.named size
  target_pay =
      move_pay (the_moves "name") λ t. if_pay (member W.reserved t.text) (fail_at_pay t 9) (give_pay (G.variable t) (omega arith))

  pub target_size : Sized (G.target W)
  target_size = pays_sized (lend (omega arith) (λ a. omega arith) target_pay)

  pub assign_size : (p : Reader Tree) → Sized p → Sized (G.assign W p)
  unfolding G.assign size
  assign_size p h = pays_sized (tree_pay target_size λ x. move_next_pay read_moves (tree_pay (ended_size p h) λ e. give_pay _ (omega arith)))

  pub compound_size : (p : Reader Tree) → Sized p → Sized (G.compound W p)
  unfolding G.compound size
  compound_size p h = pays_sized (pay_then target_pay λ x. move_pay read_moves λ t. tree_pay (ended_size p h) λ e. give_pay _ (omega arith))

  pub assign_paid_size : (o : Option (Reader Tree)) → EachSized o → Sized (G.assign_paid W o)
  unfolding G.assign_paid size
  assign_paid_size o h =
      pays_sized (pay_then target_pay λ x. pay_then (beside (paid_spare o h)) λ e. give_pay _ (omega arith))

  pub name_first_size : (p : Reader Tree) (o : Option (Reader Tree)) → Sized p → EachSized o → (k : ℕ) → Sized (G.name_first W p o k)
  unfolding G.name_first
  name_first_size p o h g k =
      pays_sized (if_pay (eqb k (code "=")) (sized_last (assign_size p h))
      (if_pay (within (code "+=") (code "/=") k) (sized_last (compound_size p h))
      (if_pay (eqb k (code "pays")) (sized_last (assign_paid_size o g)) (sized_last (ended_size p h)))))

  pub plain_size : (p : Reader Tree) (o : Option Inner) → Sized p → EachInnerSized o → Sized (G.plain W p o)
  unfolding G.plain
  plain_size p o h g =
      pays_sized (peek_pay λ t.
      if_pay (is "if" t) (inner_pay t o g λ i s q. sized_last (if_over_size i s q))
      (if_pay (is "for" t) (inner_pay t o g λ i s q. sized_last (for_over_size i s q))
      (if_pay (is "pays" t) (sized_last (paid_size (deep o) (deep_sized o g))) (sized_last (ended_size p h)))))

  pub statement_over_size : (p : Reader Tree) (o : Option Inner) → Sized p → EachInnerSized o → Sized (G.statement_over W p o)
  unfolding G.statement_over
  statement_over_size p o h g ts t r e =
      let M : Pays 0 size (if is "name" (first ts) then G.name_first W p (deep o) (next_kind W ts) else G.plain W p o) =
      if_pay (is "name" (first ts)) (sized_last (name_first_size p (deep o) h (deep_sized o g) (next_kind W ts))) (sized_last (plain_size p o h g)) in
      omega (arith, M.bound ts t r e)

  pub statement_size : (d : ℕ) → Sized (G.statement W d)
  unfolding G.statement
  statement_size zero = statement_over_size (G.primary W zero) none (primary_size zero) shallow
  statement_size (suc d) =
      statement_over_size (G.primary W (suc d)) (some (record { statement = G.statement W d; primary = G.primary W d })) (primary_size (suc d))
      (inside (statement_size d) (primary_size d))

-- ---- progress: what is left is shorter than what was handed in

abbrev pub Less : {A : Type 0} → Reader A → Type 0
Less {A} m = (ts : List Token) (a : A) (r : List Token) → m ts ≡ ok a r → length r < length ts

module _ {A : Type 0} {m : Reader A} where
  pub moves_less : Moves m → Less m
  moves_less h ts a r e = omega (arith, left_shorter (h ts a r e))

module _ (W : Language) where
  pub statement_less : (d : ℕ) → Less (G.statement W d)
  statement_less d = moves_less (statement_tail W d near_tail)
