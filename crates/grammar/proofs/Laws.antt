-- The laws of readers: a reader leaves an end of its tokens, and of what it leaves it looks at the first token alone.
-- Each form that readers are made of has its law, so that a reader's law follows the reader's own text.
use Rattle.std.specs.Prelude.{if◌then◌else◌}
use mathlib.Core.Path.{◌≡◌, refl, sym, ap, ◌∙◌, subst}
use mathlib.Core.Bool.{Bool, true, false}
use mathlib.Core.List.{List, [], ◌∷◌, ◌++◌, append_assoc, append-nil}
use Prim.Native.Nat.{ℕ, zero, suc, ◌+◌, ◌≤◌, ◌<◌}
use Prim.Native.String.{String}
use native.Mathlib.Omega.{arith}
use native.Mathlib.Nat.{le_refl, le_trans}
use lib.Seq.{take-append_seam}
use lib.ListN.{length, take, length-append}
use Rattle.tokens.specs.Tokens.{Token, code}
use Rattle.grammar.specs.Readers.{Out, ok, refused, Reader, bind, ◌>>=◌, Turn, again, done, follow, turns, loop, first, second, is, skip, give, fail, fail_at, ask, look, peek, read, the}

-- ---- what may stand behind: r, of which a reader left r, and r' in its place

abbrev pub Rel : Type 1
Rel = List Token → List Token → Type 0

-- the same token comes first
abbrev pub Near : Rel
Near r r' = first r' ≡ first r

-- a relation that holds where the same token comes first, and that puts no Newline first
pub record Follows (P : Rel) : Type 0 where
  pub near : (r r' : List Token) → Near r r' → P r r'
  pub clear : (r r' : List Token) → P r r' → is "Newline" (first r) ≡ false → is "Newline" (first r') ≡ false

pub near_follows : Follows Near
near_follows = record { near = λ r r' e. e; clear = λ r r' e h. ap (λ t. is "Newline" t) e ∙ h }

pub near_append : (z r r' : List Token) → 1 ≤ length z → Near (z ++ r) (z ++ r')
near_append [] r r' h = absurd (omega arith)
near_append (t ∷ z) r r' h = refl

-- nothing but newlines
abbrev pub Quiet : List Token → Type 0
Quiet nl = (r : List Token) → skip (nl ++ r) ≡ skip r

-- What a reading tells: the tokens that were read, c of them at least; and that it goes the same with anything behind them that is so related,
-- and with newlines in between if a token was read
pub record Reads {A : Type 0} (P : Rel) (c : ℕ) (m : Reader A) (ts : List Token) (a : A) (r : List Token) : Type 0 where
  pub used : List Token
  pub split : ts ≡ used ++ r
  pub enough : c ≤ length used
  pub goes : (nl r' : List Token) → Quiet nl → (used ≡ [] → nl ≡ []) → P r r' → m (used ++ (nl ++ r')) ≡ ok a r'

-- a reader that answers a has read c a tokens at least
abbrev pub Law : {A : Type 0} → Rel → (A → ℕ) → Reader A → Type 0
Law {A} P c m = (ts : List Token) (a : A) (r : List Token) → m ts ≡ ok a r → Reads P (c a) m ts a r

-- ---- lists that are split at the same place

pub split_same : (x y x' y' : List Token) → x ++ y ≡ x' ++ y' → length y ≡ length y' → x ≡ x'
split_same x y x' y' e l =
    let n : length x ≡ length x' = omega (arith, length-append x y, length-append x' y', ap length e) in
    sym (take-append_seam x y) ∙ ap (take (length x)) e ∙ ap (λ (k : ℕ). take k (x' ++ y')) n ∙ take-append_seam x' y'

-- ---- one reader, then another

pub nil_not : (t : Token) (z y : List Token) {X : Type 0} → y ++ t ∷ z ≡ [] → X
nil_not t z [] e = absurd (let q : ◌≡◌ {A = ℕ} 0 1 = cc in omega arith)
nil_not t z (u ∷ y) e = absurd (let q : ◌≡◌ {A = ℕ} 0 1 = cc in omega arith)

module _ {A B : Type 0} (m : Reader A) (f : A → Reader B) where
  pub bind_goes : (P Q : Rel) → Follows Q → (y z s r : List Token) (a : A) (b : B) → s ≡ z ++ r → (z ≡ [] → (r' : List Token) → P r r' → Q r r')
      → ((nl r' : List Token) → Quiet nl → (y ≡ [] → nl ≡ []) → Q s r' → m (y ++ (nl ++ r')) ≡ ok a r')
      → ((nl r' : List Token) → Quiet nl → (z ≡ [] → nl ≡ []) → P r r' → f a (z ++ (nl ++ r')) ≡ ok b r')
      → (nl r' : List Token) → Quiet nl → (y ++ z ≡ [] → nl ≡ []) → P r r' → bind f (m (y ++ z ++ (nl ++ r'))) ≡ ok b r'
  bind_goes P Q F y [] s r a b e w hm hf nl r' n g p =
      ap (λ l. bind f (m (l ++ (nl ++ r')))) (append-nil y)
      ∙ ap (bind f) (hm nl r' n (λ q. g (append-nil y ∙ q)) (subst (λ l. Q l r') (sym e) (w refl r' p)))
      ∙ hf [] r' (λ x. refl) (λ x. refl) p
  bind_goes P Q F y (t ∷ z) s r a b e w hm hf nl r' n g p =
      ap (λ l. bind f (m l)) (append_assoc y (t ∷ z) (nl ++ r'))
      ∙ ap (bind f) (hm [] (t ∷ z ++ (nl ++ r')) (λ x. refl) (λ x. refl) (subst (λ l. Q l (t ∷ z ++ (nl ++ r'))) (sym e) (F.near (t ∷ z ++ r) (t ∷ z ++ (nl ++ r')) refl)))
      ∙ hf nl r' n (λ x. nil_not t z [] x) p

module _ {A B : Type 0} {m : Reader A} {f : A → Reader B} where
  bind_at : (P Q : Rel) (n : ℕ) (k c : B → ℕ) → ((b : B) → c b ≤ n + k b) → Follows Q
      → ((b : B) → k b ≤ 0 → (r r' : List Token) → P r r' → Q r r')
      → Law Q (λ a. n) m → ((a : A) → Law P k (f a))
      → (ts : List Token) (b : B) (r : List Token) (o : Out A) → m ts ≡ o → bind f o ≡ ok b r → Reads P (c b) (m >>= f) ts b r
  unfolding ◌>>=◌
  bind_at P Q n k c adds G h hm hf ts b r (refused x p) e q = absurd (let z : ◌≡◌ {A = ℕ} 0 1 = cc in omega arith)
  bind_at P Q n k c adds G h hm hf ts b r (ok a s) e q =
      let M : Reads Q n m ts a s = hm ts a s e in
      let F : Reads P (k b) (f a) s b r = hf a s b r q in
      record {
        used = M.used ++ F.used;
        split = M.split ∙ ap (λ l. M.used ++ l) F.split ∙ sym (append_assoc M.used F.used r);
        enough = simp length-append (omega (arith, adds b));
        goes = bind_goes m f P Q G M.used F.used s r a b F.split
            (λ z r'. h b (subst (λ l. k b ≤ length l) z F.enough) r r') M.goes F.goes;
      }

  -- the second may read nothing, so the first must bear what may stand behind
  pub bind_law : {P : Rel} (n : ℕ) (k c : B → ℕ) → ((b : B) → c b ≤ n + k b) → Follows P → Law P (λ a. n) m → ((a : A) → Law P k (f a)) → Law P c (m >>= f)
  unfolding ◌>>=◌
  bind_law {P} n k c adds F hm hf ts b r e = bind_at P P n k c adds F (λ b' l x x' p. p) hm hf ts b r (m ts) refl e

  -- the second reads a token, so that the first meets the same
  pub bind_near : {P : Rel} (n k : ℕ) (c : B → ℕ) → ((b : B) → c b ≤ n + suc k) → Law Near (λ a. n) m → ((a : A) → Law P (λ b. suc k) (f a)) → Law P c (m >>= f)
  unfolding ◌>>=◌
  bind_near {P} n k c adds hm hf ts b r e =
      bind_at P Near n (λ b. suc k) c adds near_follows (λ b' l x x' p. absurd (omega arith)) hm hf ts b r (m ts) refl e

-- ---- the reader that reads nothing, and refusals

ask_look : (P : Rel) (test : Token → Bool) → ((r r' : List Token) → P r r' → test (first r') ≡ test (first r))
    → (y r nl r' : List Token) → (y ≡ [] → nl ≡ []) → P r r' → test (first (y ++ (nl ++ r'))) ≡ test (first (y ++ r))
ask_look P test h [] r nl r' g p = ap (λ (l : List Token). test (first (l ++ r'))) (g refl) ∙ h r r' p
ask_look P test h (t ∷ y) r nl r' g p = refl

module _ {A : Type 0} {P : Rel} where
  pub give_law : (c : A → ℕ) (a : A) → c a ≤ 0 → Law P c (give a)
  unfolding give
  give_law c a h ts b r e =
      let p : a ≡ b = cc in
      let q : ts ≡ r = cc in
      record {
        used = [];
        split = q;
        enough = subst (λ x. c x ≤ 0) p h;
        goes = λ nl r' n g w. ap (λ (l : List Token). ok a (l ++ r')) (g refl) ∙ ap (λ x. ok x r') p;
      }

  pub fail_law : (c : A → ℕ) (n : ℕ) → Law P c (fail n)
  unfolding fail
  fail_law c n ts b r e = absurd (let z : ◌≡◌ {A = ℕ} 0 1 = cc in omega arith)

  pub fail_at_law : (c : A → ℕ) (t : Token) (n : ℕ) → Law P c (fail_at t n)
  unfolding fail_at
  fail_at_law c t n ts b r e = absurd (let z : ◌≡◌ {A = ℕ} 0 1 = cc in omega arith)

  pub if_law : (c : A → ℕ) (b : Bool) {m n : Reader A} → Law P c m → Law P c n → Law P c (if b then m else n)
  if_law c true hm hn = hm
  if_law c false hm hn = hn

  pub weaken : (c d : A → ℕ) {m : Reader A} → ((a : A) → c a ≤ d a) → Law P d m → Law P c m
  weaken c d h hm ts a r e =
      let M : Reads P (d a) _ ts a r = hm ts a r e in
      record { used = M.used; split = M.split; enough = le_trans (h a) M.enough; goes = M.goes }

  -- a look at the first token, where what may stand behind passes the test as well as what stood there
  pub ask_law : (c : A → ℕ) (test : Token → Bool) {m n : Reader A} → ((r r' : List Token) → P r r' → test (first r') ≡ test (first r))
      → Law P c m → Law P c n → Law P c (ask test m n)
  unfolding ask
  ask_law c test {m} {n} h hm hn ts a r e =
      let M : Reads P (c a) (if test (first ts) then m else n) ts a r = if_law c (test (first ts)) hm hn ts a r e in
      record {
        used = M.used;
        split = M.split;
        enough = M.enough;
        goes = λ nl r' q g p.
            ap (λ (b : Bool). (if b then m else n) (M.used ++ (nl ++ r'))) (ask_look P test h M.used r nl r' g p ∙ ap (λ l. test (first l)) (sym M.split))
            ∙ M.goes nl r' q g p;
      }

pub peek_law : Law Near (λ t. 0) peek
unfolding peek
peek_law ts t r e =
    let p : first ts ≡ t = cc in
    let q : ts ≡ r = cc in
    record {
      used = [];
      split = q;
      enough = le_refl 0;
      goes = λ nl r' n g e'. ap (λ (l : List Token). ok (first (l ++ r')) (l ++ r')) (g refl) ∙ ap (λ x. ok x r') (e' ∙ ap first (sym q) ∙ p);
    }

-- ---- the reader of a token

-- the newlines at the front
unfoldable pub lead : List Token → List Token
lead [] = []
lead (t ∷ ts) = elim (is "Newline" t) [ true ↦ t ∷ lead ts | false ↦ [] ]

pub lead_skip : (ts : List Token) → ts ≡ lead ts ++ skip ts
unfolding lead skip
lead_skip [] = refl
lead_skip (t ∷ ts) = go (is "Newline" t) (lead_skip ts)
  where
    go : (b : Bool) → ts ≡ lead ts ++ skip ts → t ∷ ts ≡ (elim b as (λ _. List Token) [ true ↦ t ∷ lead ts | false ↦ [] ]) ++ (elim b as (λ _. List Token) [ true ↦ skip ts | false ↦ t ∷ ts ])
    go true h = ap {B = List Token} (λ l. t ∷ l) h
    go false h = refl

-- in front of r the newlines are skipped
pub skip_lead : (ts r : List Token) → skip (lead ts ++ r) ≡ skip r
unfolding lead skip
skip_lead [] r = refl
skip_lead (t ∷ ts) r = go (is "Newline" t) refl (skip_lead ts r)
  where
    go : (b : Bool) → is "Newline" t ≡ b → skip (lead ts ++ r) ≡ skip r
        → skip ((elim b as (λ _. List Token) [ true ↦ t ∷ lead ts | false ↦ [] ]) ++ r) ≡ skip r
    go true e h = rw (e, skip) h
    go false e h = refl

pub skip_first : (ts : List Token) → is "Newline" (first (skip ts)) ≡ false
unfolding skip code
skip_first [] = refl
skip_first (t ∷ ts) = go (is "Newline" t) refl (skip_first ts)
  where
    go : (b : Bool) → is "Newline" t ≡ b → is "Newline" (first (skip ts)) ≡ false
        → is "Newline" (first (elim b as (λ _. List Token) [ true ↦ skip ts | false ↦ t ∷ ts ])) ≡ false
    go true e h = h
    go false e h = e

pub skip_clear : (ts : List Token) → is "Newline" (first ts) ≡ false → skip ts ≡ ts
unfolding skip
skip_clear [] e = refl
skip_clear (t ∷ ts) e = rw (e, skip)

pub read_law : {P : Rel} → Follows P → Law P (λ t. 1) read
unfolding read
read_law F [] t r e = absurd (let z : ◌≡◌ {A = ℕ} 0 1 = cc in omega arith)
read_law F (u ∷ ts) t r e =
    let p : u ≡ t = cc in
    let q : skip ts ≡ r = cc in
    record {
      used = u ∷ lead ts;
      split = ap {B = List Token} (λ l. u ∷ l) (lead_skip ts ∙ ap (λ l. lead ts ++ l) q);
      enough = omega arith;
      goes = λ nl r' n g e'.
          ap (λ x. ok u x) (skip_lead ts (nl ++ r') ∙ n r' ∙ skip_clear r' (F.clear r r' e' (ap (λ l. is "Newline" (first l)) (sym q) ∙ skip_first ts)))
          ∙ ap (λ x. ok x r') p;
    }

pub the_law : {P : Rel} → Follows P → (s : String) → Law P (λ t. 1) (the s)
unfolding the
the_law F s = bind_near 0 0 (λ t. 1) (λ b. omega arith) peek_law (λ t. if_law (λ a. 1) (is s t) (read_law F) (fail_law (λ a. 1) 8))

-- a reader that reads a token reads the newlines behind it
pub reads_clear : {A : Type 0} {m : Reader A} {ts : List Token} {a : A} {r : List Token} → Reads Near 1 m ts a r → is "Newline" (first r) ≡ false
unfolding code skip
reads_clear {r = []} M = refl
reads_clear {A} {m} {ts} {a} {r = t ∷ r} M = go (is "Newline" t) refl
  where
    line : is "Newline" t ≡ true → Quiet (t ∷ [])
    line e x = rw (e, skip)

    go : (b : Bool) → is "Newline" t ≡ b → b ≡ false
    go false e = refl
    go true e =
        let n : M.used ≡ [] → ⊥ = λ o. omega (arith, ap length o, M.enough) in
        let p : m (M.used ++ (t ∷ t ∷ r)) ≡ ok a (t ∷ r) = M.goes (t ∷ []) (t ∷ r) (line e) (λ o. absurd (n o)) refl in
        let q : m (M.used ++ (t ∷ t ∷ r)) ≡ ok a (t ∷ t ∷ r) = M.goes [] (t ∷ t ∷ r) (λ x. refl) (λ o. refl) refl in
        let z : t ∷ r ≡ t ∷ t ∷ r = cc in
        absurd (omega (arith, ap length z))

-- ---- looks at two tokens

-- what stands behind newlines
pub skip_same : (u z z' : List Token) → first (skip z) ≡ first (skip z') → first (skip (u ++ z)) ≡ first (skip (u ++ z'))
unfolding skip
skip_same [] z z' e = e
skip_same (t ∷ u) z z' e = go (is "Newline" t) (skip_same u z z' e)
  where
    go : (b : Bool) → first (skip (u ++ z)) ≡ first (skip (u ++ z'))
        → first (elim b as (λ _. List Token) [ true ↦ skip (u ++ z) | false ↦ t ∷ (u ++ z) ]) ≡ first (elim b as (λ _. List Token) [ true ↦ skip (u ++ z') | false ↦ t ∷ (u ++ z') ])
    go true h = h
    go false h = refl

-- the second token is the same where the same token stands behind what was read
pub second_near : (x r nl r' : List Token) → 1 ≤ length x → Quiet nl → is "Newline" (first r) ≡ false → Near r r' → second (x ++ (nl ++ r')) ≡ second (x ++ r)
second_near [] r nl r' h q c e = absurd (omega arith)
second_near (t ∷ x) r nl r' h q c e =
    skip_same x (nl ++ r') r (ap first (q r') ∙ ap first (skip_clear r' (ap (λ u. is "Newline" u) e ∙ c)) ∙ e ∙ ap first (sym (skip_clear r c)))

-- a test that goes the same so
abbrev pub Looks : (List Token → Bool) → Type 0
Looks test = (x r nl r' : List Token) → 1 ≤ length x → Quiet nl → is "Newline" (first r) ≡ false → Near r r' → test (x ++ (nl ++ r')) ≡ test (x ++ r)

module _ {A : Type 0} where
  pub look_law : (test : List Token → Bool) {m n : Reader A} → Looks test → Law Near (λ a. 1) m → Law Near (λ a. 1) n → Law Near (λ a. 1) (look test m n)
  unfolding look
  look_law test {m} {n} h hm hn ts a r e =
      let M : Reads Near 1 (if test ts then m else n) ts a r = if_law (λ a. 1) (test ts) hm hn ts a r e in
      record {
        used = M.used;
        split = M.split;
        enough = M.enough;
        goes = λ nl r' q g p.
            ap (λ (b : Bool). (if b then m else n) (M.used ++ (nl ++ r'))) (h M.used r nl r' M.enough q (reads_clear M) p ∙ ap test (sym M.split))
            ∙ M.goes nl r' q g p;
      }

-- ---- loops

abbrev pub cost : {S A : Type 0} → Turn S A → ℕ
cost (again s) = 1
cost (done a) = 0

pub left_shorter : {A : Type 0} {P : Rel} {c : ℕ} {m : Reader A} {ts : List Token} {a : A} {r : List Token} → Reads P c m ts a r → length r + c ≤ length ts
left_shorter {r = r} M = rw (M.split, length-append) (omega (arith, M.enough))

module _ {S A : Type 0} {step : S → Reader (Turn S A)} (steps : (s : S) → Law Near cost (step s)) where
  -- a bound above the number of tokens is as good as another
  turns_same : (n k : ℕ) (s : S) (ts : List Token) → length ts < n → length ts < k → turns n step s ts ≡ turns k step s ts
  unfolding turns
  turns_same zero k s ts h g = absurd (omega arith)
  turns_same (suc n) zero s ts h g = absurd (omega arith)
  turns_same (suc n) (suc k) s ts h g = go (λ s' r. turns_same n k s' r) (step s ts) refl
    where
      go : ((s' : S) (r : List Token) → length r < n → length r < k → turns n step s' r ≡ turns k step s' r)
          → (o : Out (Turn S A)) → step s ts ≡ o → follow (λ s' ts'. turns n step s' ts') o ≡ follow (λ s' ts'. turns k step s' ts') o
      go ih (ok (again s') r) e =
          let l : length r + 1 ≤ length ts = left_shorter (steps s ts (again s') r e) in
          ih s' r (omega arith) (omega arith)
      go ih (ok (done a) r) e = refl
      go ih (refused x p) e = refl

  -- the loop without its bound
  pub loop_eq : (s : S) (ts : List Token) → loop step s ts ≡ follow (loop step) (step s ts)
  unfolding loop turns
  loop_eq s ts = go (step s ts) refl
    where
      go : (o : Out (Turn S A)) → step s ts ≡ o → follow (λ s' ts'. turns (length ts) step s' ts') o ≡ follow (loop step) o
      go (ok (again s') r) e =
          let l : length r + 1 ≤ length ts = left_shorter (steps s ts (again s') r e) in
          turns_same (length ts) (suc (length r)) s' r (omega arith) (omega arith)
      go (ok (done a) r) e = refl
      go (refused x p) e = refl

  again_goes : (s s' : S) (y z u r : List Token) (a : A) → u ≡ z ++ r
      → ((nl r' : List Token) → Quiet nl → (y ≡ [] → nl ≡ []) → Near u r' → step s (y ++ (nl ++ r')) ≡ ok (again s') r')
      → ((nl r' : List Token) → Quiet nl → (z ≡ [] → nl ≡ []) → Near r r' → loop step s' (z ++ (nl ++ r')) ≡ ok a r')
      → (nl r' : List Token) → Quiet nl → (y ++ z ≡ [] → nl ≡ []) → Near r r' → loop step s (y ++ z ++ (nl ++ r')) ≡ ok a r'
  again_goes s s' y [] u r a e hm hf nl r' n g p =
      ap (λ l. loop step s (l ++ (nl ++ r'))) (append-nil y)
      ∙ loop_eq s (y ++ (nl ++ r'))
      ∙ ap (follow (loop step)) (hm nl r' n (λ q. g (append-nil y ∙ q)) (p ∙ ap first (sym e)))
      ∙ hf [] r' (λ x. refl) (λ x. refl) p
  again_goes s s' y (t ∷ z) u r a e hm hf nl r' n g p =
      ap (loop step s) (append_assoc y (t ∷ z) (nl ++ r'))
      ∙ loop_eq s (y ++ (t ∷ z ++ (nl ++ r')))
      ∙ ap (follow (loop step)) (hm [] (t ∷ z ++ (nl ++ r')) (λ x. refl) (λ x. refl) (ap first (sym e)))
      ∙ hf nl r' n (λ x. nil_not t z [] x) p

  loop_at : (n : ℕ) (s : S) (ts : List Token) (a : A) (r : List Token) → length ts < n → loop step s ts ≡ ok a r → Reads Near 0 (loop step s) ts a r
  loop_at zero s ts a r h e = absurd (omega arith)
  loop_at (suc n) s ts a r h e = go (λ s' u. loop_at n s' u a r) (step s ts) refl (sym (loop_eq s ts) ∙ e)
    where
      go : ((s' : S) (u : List Token) → length u < n → loop step s' u ≡ ok a r → Reads Near 0 (loop step s') u a r)
          → (o : Out (Turn S A)) → step s ts ≡ o → follow (loop step) o ≡ ok a r → Reads Near 0 (loop step s) ts a r
      go ih (ok (again s') u) e q =
          let M : Reads Near 1 (step s) ts (again s') u = steps s ts (again s') u e in
          let l : length u + 1 ≤ length ts = left_shorter M in
          let F : Reads Near 0 (loop step s') u a r = ih s' u (omega arith) q in
          record {
            used = M.used ++ F.used;
            split = M.split ∙ ap (λ x. M.used ++ x) F.split ∙ sym (append_assoc M.used F.used r);
            enough = omega arith;
            goes = again_goes s s' M.used F.used u r a F.split M.goes F.goes;
          }
      go ih (ok (done b) u) e q =
          let M : Reads Near 0 (step s) ts (done b) u = steps s ts (done b) u e in
          let p : b ≡ a = cc in
          let z : u ≡ r = cc in
          record {
            used = M.used;
            split = M.split ∙ ap (λ x. M.used ++ x) z;
            enough = omega arith;
            goes = λ nl r' n g e'.
                loop_eq s (M.used ++ (nl ++ r')) ∙ ap (follow (loop step)) (M.goes nl r' n g (e' ∙ ap first (sym z))) ∙ ap (λ x. ok x r') p;
          }
      go ih (refused x p) e q = absurd (let z : ◌≡◌ {A = ℕ} 0 1 = cc in omega arith)

  pub loop_law : (s : S) → Law Near (λ a. 0) (loop step s)
  loop_law s ts a r e = loop_at (suc (length ts)) s ts a r (omega arith) e
