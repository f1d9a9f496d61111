-- The statements of a script, one behind the other.
use Rattle.std.specs.Prelude.{if◌then◌else◌}
use mathlib.Core.Path.{◌≡◌, refl, sym, ap, ◌∙◌, subst}
use mathlib.Core.Bool.{Bool, true, false, not}
use mathlib.Core.List.{List, [], ◌∷◌, ◌++◌, append_assoc, append-nil, map, map-append}
use Prim.Native.Nat.{ℕ, zero, suc, ◌+◌, ◌-◌, ◌≤◌, ◌<◌}
use native.Mathlib.Omega.{arith}
use native.Mathlib.Nat.{add_assoc, zero-add, add-zero}
use lib.Seq.{take-append_seam}
use lib.ListN.{length, take, length-append, length-map}
use Rattle.tokens.specs.Limits.{most_depth}
use Rattle.tokens.specs.Text.{count}
use Rattle.tokens.specs.Tokens.{Token, code, counts, end_of}
use Rattle.grammar.specs.Trees.{Tree}
use Rattle.grammar.specs.Readers.{Out, ok, refused as wrong, first, is, skip, last_of}
use Rattle.grammar.specs.Grammar.{Language, statement}
use Rattle.grammar.specs.Script.{Entry, Outcome, accepted, refused, front, back, entry_of, onward, turn, up_to, from, moved_entry}
use Rattle.grammar.proofs.Laws.{Rel, Near, near_append, Reads, left_shorter, lead, lead_skip, skip_lead, skip_first, skip_clear, Quiet}
use Rattle.grammar.proofs.StatementLaws.{Tail, near_tail, statement_tail}
use Rattle.grammar.proofs.EndingLaws.{last_append}

skip_shorter : (ts : List Token) → length (skip ts) ≤ length ts
skip_shorter ts = omega (arith, simp length-append at (ap length (lead_skip ts)))

-- a token further on
abbrev pub forth : ℕ → Token → Token
forth d t = record { kind = t.kind; from = t.from + d; text = t.text }

abbrev pub moved : ℕ → Outcome → Outcome
moved d (accepted es) = accepted (map (moved_entry d) es)
moved d (refused n p) = refused n (p + d)

abbrev pub prepend : List Entry → Outcome → Outcome
prepend [] o = o
prepend (e ∷ es) o = front e (prepend es o)

pub prepend_accepted : (es fs : List Entry) → prepend es (accepted fs) ≡ accepted (es ++ fs)
prepend_accepted [] fs = refl
prepend_accepted (e ∷ es) fs = ap (front e) (prepend_accepted es fs)

pub skip_forth : (d : ℕ) (ts : List Token) → skip (map (forth d) ts) ≡ map (forth d) (skip ts)
unfolding skip
skip_forth d [] = refl
skip_forth d (t ∷ ts) = go (is "Newline" t) (skip_forth d ts)
  where
    go : (b : Bool) → skip (map (forth d) ts) ≡ map (forth d) (skip ts)
        → ◌≡◌ {A = List Token} (elim b [ true ↦ skip (map (forth d) ts) | false ↦ forth d t ∷ map (forth d) ts ]) (map (forth d) (elim b [ true ↦ skip ts | false ↦ t ∷ ts ]))
    go true h = h
    go false h = refl

token_eq : (k x y : ℕ) (w : List ℕ) → x ≡ y → ◌≡◌ {A = Token} (record { kind = k; from = x; text = w }) (record { kind = k; from = y; text = w })
token_eq k x y w e = λ i. record { kind = k; from = e i; text = w }

back_forth : (d s : ℕ) (ts : List Token) → map (back (s + d)) (map (forth d) ts) ≡ map (back s) ts
back_forth d s [] = refl
back_forth d s (t ∷ ts) = λ i. token_eq t.kind (t.from + d - (s + d)) (t.from - s) t.text (omega arith) i ∷ back_forth d s ts i

pub forth_back : (d : ℕ) (ts : List Token) → map (back d) (map (forth d) ts) ≡ ts
forth_back d [] = refl
forth_back d (t ∷ ts) = λ i. token_eq t.kind (t.from + d - d) t.from t.text (omega arith) i ∷ forth_back d ts i

-- ---- what does not depend on places

module _ (f : Token → Token) (same : (t : Token) → counts (f t) ≡ counts t) where
  pub last_map : (q : Token → Bool) → ((t : Token) → q (f t) ≡ q t) → (d d' : Token) (x : List Token) → q d ≡ q d' → q (last_of d (map f x)) ≡ q (last_of d' x)
  unfolding last_of
  last_map q h d d' [] e = e
  last_map q h d d' (t ∷ x) e =
      last_map q h (if counts (f t) then f t else d) (if counts t then t else d') x (ap (λ (b : Bool). q (if b then f t else d)) (same t) ∙ go (counts t))
    where
      go : (b : Bool) → q (if b then f t else d) ≡ q (if b then t else d')
      go true = h t
      go false = e

  pub count_map : (x : List Token) → count counts (map f x) ≡ count counts x
  unfolding count
  count_map [] = refl
  count_map (t ∷ x) = λ i. (if same t i then 1 else 0) + count_map x i

-- ---- the entry of a statement does not depend on what stands behind

pub quiet_nil : (nl : List Token) → Quiet nl → skip nl ≡ []
unfolding skip
quiet_nil nl q = ap skip (sym (append-nil nl)) ∙ q []

pub end_append : (p : ℕ) (x y : List Token) → end_of p (x ++ y) ≡ end_of (end_of p x) y
unfolding end_of
end_append p [] y = refl
end_append p (t ∷ x) y = end_append (if counts t then t.from + length t.text else p) x y

pub count_append : (x y : List Token) → count counts (x ++ y) ≡ count counts x + count counts y
unfolding count
count_append [] y = sym (zero-add (count counts y))
count_append (t ∷ x) y =
    ap (λ (n : ℕ). (if counts t then 1 else 0) + n) (count_append x y) ∙ sym (add_assoc (if counts t then 1 else 0) (count counts x) (count counts y))

pub quiet_end : (p : ℕ) (nl : List Token) → skip nl ≡ [] → (end_of p nl ≡ p) × (count counts nl ≡ 0)
unfolding skip end_of count
quiet_end p [] e = (refl, refl)
quiet_end p (t ∷ nl) e = go (is "Newline" t) e (quiet_end p nl)
  where
    go : (b : Bool) → ◌≡◌ {A = List Token} (elim b [ true ↦ skip nl | false ↦ t ∷ nl ]) [] → (skip nl ≡ [] → (end_of p nl ≡ p) × (count counts nl ≡ 0))
        → (end_of (if not b then t.from + length t.text else p) nl ≡ p) × ((if not b then 1 else 0) + count counts nl ≡ 0)
    go true h ih = ((ih h).0, zero-add (count counts nl) ∙ (ih h).1)
    go false h ih = absurd (let z : ◌≡◌ {A = ℕ} 0 1 = cc in omega arith)

-- what was read, of a list that is split
pub used_part : (y w : List Token) → take (length (y ++ w) - length w) (y ++ w) ≡ y
used_part y w =
    let e : length (y ++ w) - length w ≡ length y = omega (arith, length-append y w) in
    ap (λ (n : ℕ). take n (y ++ w)) e ∙ take-append_seam y w

entry_same : (s : ℕ) (x nl r r'' : List Token) (t : Tree) → Quiet nl → entry_of s (x ++ (nl ++ r'')) t r'' ≡ entry_of s (x ++ r) t r
unfolding entry_of
entry_same s x nl r r'' t q =
    λ i. record { start = s; end = s + (end₁ i); tree = t; tokens = tok₁ i }
  where
    whole : take (length (x ++ (nl ++ r'')) - length r'') (x ++ (nl ++ r'')) ≡ x ++ nl
    whole = ap (λ (l : List Token). take (length l - length r'') l) (sym (append_assoc x nl r'')) ∙ used_part (x ++ nl) r''

    end₁ : end_of 0 (take (length (x ++ (nl ++ r'')) - length r'') (x ++ (nl ++ r''))) ≡ end_of 0 (take (length (x ++ r) - length r) (x ++ r))
    end₁ = ap (end_of 0) whole ∙ end_append 0 x nl ∙ (quiet_end (end_of 0 x) nl (quiet_nil nl q)).0 ∙ ap (end_of 0) (sym (used_part x r))

    tok₁ : count counts (take (length (x ++ (nl ++ r'')) - length r'') (x ++ (nl ++ r''))) ≡ count counts (take (length (x ++ r) - length r) (x ++ r))
    tok₁ =
        ap (count counts) whole ∙ count_append x nl
        ∙ ap (λ (n : ℕ). count counts x + n) (quiet_end 0 nl (quiet_nil nl q)).1 ∙ add-zero (count counts x) ∙ ap (count counts) (sym (used_part x r))

-- ---- lists

pub record Parts (f : Token → Token) (l x y : List Token) : Type 0 where
  pub one : List Token
  pub two : List Token
  pub whole : l ≡ one ++ two
  pub left : map f one ≡ x
  pub right : map f two ≡ y

pub map_parts : (f : Token → Token) (x l y : List Token) → map f l ≡ x ++ y → Parts f l x y
map_parts f [] l y e = record { one = []; two = l; whole = refl; left = refl; right = e }
map_parts f (a ∷ x) [] y e = absurd (let z : ◌≡◌ {A = ℕ} 0 1 = cc in omega arith)
map_parts f (a ∷ x) (c ∷ l) y e =
    let p : f c ≡ a = cc in
    let q : map f l ≡ x ++ y = cc in
    let R : Parts f l x y = map_parts f x l y q in
    record {
      one = c ∷ R.one;
      two = R.two;
      whole = ap {B = List Token} (λ z. c ∷ z) R.whole;
      left = λ i. p i ∷ R.left i;
      right = R.right;
    }

module _ (W : Language) where
  -- ---- the statements without their bound

  turn_same : (b : ℕ) (us : List Token) (k k' : ℕ → List Token → Outcome)
      → ((b' : ℕ) (r : List Token) → length r < length us → k b' r ≡ k' b' r) → turn W k b us ≡ turn W k' b us
  unfolding turn onward
  turn_same b us k k' ih = ap (λ (o : Outcome). if is "End" (first us) then accepted [] else o) (go (statement W most_depth vs) refl)
    where
      s : ℕ
      s = (first us).from

      vs : List Token
      vs = map (back s) us

      go : (o : Out Tree) → statement W most_depth vs ≡ o → onward k (b + s) vs o ≡ onward k' (b + s) vs o
      go (ok t r) e =
          let l : length r + 1 ≤ length vs = left_shorter (statement_tail W most_depth near_tail vs t r e) in
          ap (front (entry_of (b + s) vs t r)) (ih (b + s) r (omega (arith, length-map us (back s))))
      go (wrong x p) e = refl

  up_to_same : (n m b : ℕ) (ts : List Token) → length ts < n → length ts < m → up_to W n b ts ≡ up_to W m b ts
  unfolding up_to
  up_to_same zero m b ts h g = absurd (omega arith)
  up_to_same (suc n) zero b ts h g = absurd (omega arith)
  up_to_same (suc n) (suc m) b ts h g =
      turn_same b (skip ts) (λ b' ts'. up_to W n b' ts') (λ b' ts'. up_to W m b' ts')
      (λ b' r l. up_to_same n m b' r (omega (arith, skip_shorter ts)) (omega (arith, skip_shorter ts)))

  pub from_eq : (b : ℕ) (ts : List Token) → from W b ts ≡ turn W (from W) b (skip ts)
  unfolding from up_to
  from_eq b ts =
      turn_same b (skip ts) (λ b' ts'. up_to W (length ts) b' ts') (from W)
      (λ b' r l. up_to_same (length ts) (suc (length r)) b' r (omega (arith, skip_shorter ts)) (omega arith))

  -- ---- places: a script further on has the same statements

  turn_forth : (k : ℕ → List Token → Outcome) (b d : ℕ) (us : List Token) → turn W k b (map (forth d) us) ≡ turn W k (b + d) us
  unfolding turn code
  turn_forth k b d [] = refl
  turn_forth k b d (t ∷ us) =
      λ i. if is "End" t then accepted [] else onward k (place i) (back_forth d t.from (t ∷ us) i) (statement W most_depth (back_forth d t.from (t ∷ us) i))
    where
      place : b + (t.from + d) ≡ b + d + t.from
      place = omega arith

  pub from_forth : (b d : ℕ) (ts : List Token) → from W b (map (forth d) ts) ≡ from W (b + d) ts
  from_forth b d ts = from_eq b (map (forth d) ts) ∙ ap (turn W (from W) b) (skip_forth d ts) ∙ turn_forth (from W) b d (skip ts) ∙ sym (from_eq (b + d) ts)

  moved_front : (d : ℕ) (e : Entry) (o : Outcome) → moved d (front e o) ≡ front (moved_entry d e) (moved d o)
  moved_front d e (accepted es) = refl
  moved_front d e (refused n p) = refl

  entry_moved : (b d s : ℕ) (vs : List Token) (t : Tree) (r : List Token) → entry_of (b + d + s) vs t r ≡ moved_entry d (entry_of (b + s) vs t r)
  unfolding entry_of
  entry_moved b d s vs t r =
      λ i. record {
        start = from₁ i;
        end = end₁ i;
        tree = t;
        tokens = count counts (take (length vs - length r) vs);
      }
    where
      from₁ : b + d + s ≡ b + s + d
      from₁ = omega arith

      end₁ : b + d + s + end_of 0 (take (length vs - length r) vs) ≡ b + s + end_of 0 (take (length vs - length r) vs) + d
      end₁ = omega arith

  turn_moved : (b d : ℕ) (us : List Token) (k k' : ℕ → List Token → Outcome)
      → ((b' : ℕ) (r : List Token) → length r < length us → k (b' + d) r ≡ moved d (k' b' r)) → turn W k (b + d) us ≡ moved d (turn W k' b us)
  unfolding turn onward
  turn_moved b d us k k' ih = go₁ (is "End" (first us))
    where
      s : ℕ
      s = (first us).from

      vs : List Token
      vs = map (back s) us

      go : (o : Out Tree) → statement W most_depth vs ≡ o → onward k (b + d + s) vs o ≡ moved d (onward k' (b + s) vs o)
      go (ok t r) e =
          let l : length r + 1 ≤ length vs = left_shorter (statement_tail W most_depth near_tail vs t r e) in
          let p : b + d + s ≡ b + s + d = omega arith in
          ap (λ (x : Entry). front x (k (b + d + s) r)) (entry_moved b d s vs t r)
          ∙ ap (λ (x : ℕ). front (moved_entry d (entry_of (b + s) vs t r)) (k x r)) p
          ∙ ap (front (moved_entry d (entry_of (b + s) vs t r))) (ih (b + s) r (omega (arith, length-map us (back s))))
          ∙ sym (moved_front d (entry_of (b + s) vs t r) (k' (b + s) r))
      go (wrong x p) e = let q : b + d + s + p ≡ b + s + p + d = omega arith in ap (refused x) q

      go₁ : (c : Bool) → ◌≡◌ {A = Outcome} (if c then accepted [] else onward k (b + d + s) vs (statement W most_depth vs)) (moved d (if c then accepted [] else onward k' (b + s) vs (statement W most_depth vs)))
      go₁ true = refl
      go₁ false = go (statement W most_depth vs) refl

  up_to_moved : (n b d : ℕ) (ts : List Token) → length ts < n → up_to W n (b + d) ts ≡ moved d (up_to W n b ts)
  unfolding up_to
  up_to_moved zero b d ts h = absurd (omega arith)
  up_to_moved (suc n) b d ts h =
      turn_moved b d (skip ts) (λ b' ts'. up_to W n b' ts') (λ b' ts'. up_to W n b' ts')
      (λ b' r l. up_to_moved n b' d r (omega (arith, skip_shorter ts)))

  pub from_moved : (b d : ℕ) (ts : List Token) → from W (b + d) ts ≡ moved d (from W b ts)
  unfolding from
  from_moved b d ts = up_to_moved (suc (length ts)) b d ts (omega arith)

  -- ---- some statements at the front: those of es are read from ts, whose places are from the byte b; r is left, with places from the byte b + δ

  pub data Run : ℕ → List Token → List Entry → ℕ → List Token → Type 0 where
    none : {b : ℕ} {ts : List Token} → Run b ts [] 0 ts
    more : {b : ℕ} {ts : List Token} (nl : List Token) (u : Token) (us : List Token) (t : Tree) (r : List Token) {es : List Entry} {δ : ℕ} {r' : List Token}
        → ts ≡ nl ++ (u ∷ us) → Quiet nl → is "Newline" u ≡ false → is "End" u ≡ false → statement W most_depth (map (back u.from) (u ∷ us)) ≡ ok t r
        → Run (b + u.from) r es δ r' → Run b ts (entry_of (b + u.from) (map (back u.from) (u ∷ us)) t r ∷ es) (u.from + δ) r'

  skip_quiet : (nl : List Token) (u : Token) (us : List Token) → Quiet nl → is "Newline" u ≡ false → skip (nl ++ (u ∷ us)) ≡ u ∷ us
  skip_quiet nl u us q e = q (u ∷ us) ∙ skip_clear (u ∷ us) e

  turn_one : (k : ℕ → List Token → Outcome) (b : ℕ) (u : Token) (us : List Token) (t : Tree) (r : List Token) → is "End" u ≡ false
      → statement W most_depth (map (back u.from) (u ∷ us)) ≡ ok t r → turn W k b (u ∷ us) ≡ front (entry_of (b + u.from) (map (back u.from) (u ∷ us)) t r) (k (b + u.from) r)
  unfolding turn onward
  turn_one k b u us t r e q =
      ap (λ (c : Bool). if c then accepted [] else onward k (b + u.from) (map (back u.from) (u ∷ us)) (statement W most_depth (map (back u.from) (u ∷ us)))) e
      ∙ ap (onward k (b + u.from) (map (back u.from) (u ∷ us))) q

  pub run_from : {b : ℕ} {ts : List Token} {es : List Entry} {δ : ℕ} {r : List Token} → Run b ts es δ r → from W b ts ≡ prepend es (from W (b + δ) r)
  run_from {b} none = ap (λ (x : ℕ). from W x _) (add_zero' b)
    where
      add_zero' : (n : ℕ) → n ≡ n + 0
      add_zero' n = omega arith
  run_from {b} (more nl u us t r {es} {δ} {r'} s q n e h run) =
      from_eq b _
      ∙ ap (turn W (from W) b) (ap skip s ∙ skip_quiet nl u us q n)
      ∙ turn_one (from W) b u us t r e h
      ∙ ap (front (entry_of (b + u.from) (map (back u.from) (u ∷ us)) t r)) (run_from run ∙ ap (λ (x : ℕ). prepend es (from W x r')) (add_assoc b u.from δ))

  abbrev pub Left : ℕ → List Token → List Entry → List Entry → Type 0
  Left b ts es es' = (δ : ℕ) × (r : List Token) × Run b ts es δ r × (from W (b + δ) r ≡ accepted es')

  pub from_run : (es es' : List Entry) (b : ℕ) (ts : List Token) → from W b ts ≡ accepted (es ++ es') → Left b ts es es'
  unfolding turn onward code
  from_run [] es' b ts h = (0, ts, none, ap (λ (x : ℕ). from W x ts) (plus b) ∙ h)
    where
      plus : (n : ℕ) → n + 0 ≡ n
      plus n = omega arith
  from_run (e ∷ es) es' b ts h = go₁ (λ b' r. from_run es es' b' r) (skip ts) refl (sym (from_eq b ts) ∙ h)
    where
      IH : Type 0
      IH = (b' : ℕ) (r : List Token) → from W b' r ≡ accepted (es ++ es') → Left b' r es es'

      go₄ : IH → (u : Token) (us : List Token) → skip ts ≡ u ∷ us → is "End" u ≡ false → (t : Tree) (r : List Token) → statement W most_depth (map (back u.from) (u ∷ us)) ≡ ok t r
          → (o : Outcome) → from W (b + u.from) r ≡ o → front (entry_of (b + u.from) (map (back u.from) (u ∷ us)) t r) o ≡ accepted (e ∷ (es ++ es')) → Left b ts (e ∷ es) es'
      go₄ ih u us s n t r q (accepted xs) f w =
          let y : xs ≡ es ++ es' = cc in
          let x : entry_of (b + u.from) (map (back u.from) (u ∷ us)) t r ≡ e = cc in
          let L : Left (b + u.from) r es es' = ih (b + u.from) r (f ∙ ap accepted y) in (
            u.from + L.0,
            L.1,
            subst (λ (z : Entry). Run b ts (z ∷ es) (u.from + L.0) L.1) x
                (more (lead ts) u us t r (lead_skip ts ∙ ap (λ l. lead ts ++ l) s) (skip_lead ts)
                (ap (λ l. is "Newline" (first l)) (sym s) ∙ skip_first ts) n q L.2),
            ap (λ (z : ℕ). from W z L.1) (plus b u.from L.0) ∙ L.3,
          )
        where
          plus : (i j k : ℕ) → i + (j + k) ≡ i + j + k
          plus i j k = omega arith
      go₄ ih u us s n t r q (refused x p) f w = absurd (let z : ◌≡◌ {A = ℕ} 0 1 = cc in omega arith)

      go₃ : IH → (u : Token) (us : List Token) → skip ts ≡ u ∷ us → is "End" u ≡ false → (o : Out Tree) → statement W most_depth (map (back u.from) (u ∷ us)) ≡ o
          → onward (from W) (b + u.from) (map (back u.from) (u ∷ us)) o ≡ accepted (e ∷ (es ++ es')) → Left b ts (e ∷ es) es'
      go₃ ih u us s n (ok t r) q w = go₄ ih u us s n t r q (from W (b + u.from) r) refl w
      go₃ ih u us s n (wrong x p) q w = absurd (let z : ◌≡◌ {A = ℕ} 0 1 = cc in omega arith)

      go₂ : IH → (u : Token) (us : List Token) → skip ts ≡ u ∷ us → (c : Bool) → is "End" u ≡ c
          → ◌≡◌ {A = Outcome} (if c then accepted [] else onward (from W) (b + u.from) (map (back u.from) (u ∷ us)) (statement W most_depth (map (back u.from) (u ∷ us)))) (accepted (e ∷ (es ++ es')))
          → Left b ts (e ∷ es) es'
      go₂ ih u us s true n w = absurd (let z : ◌≡◌ {A = ℕ} 0 1 = cc in omega arith)
      go₂ ih u us s false n w = go₃ ih u us s n (statement W most_depth (map (back u.from) (u ∷ us))) refl w

      go₁ : IH → (us : List Token) → skip ts ≡ us → turn W (from W) b us ≡ accepted (e ∷ (es ++ es')) → Left b ts (e ∷ es) es'
      go₁ ih [] s w = absurd (let z : ◌≡◌ {A = ℕ} 0 1 = cc in omega arith)
      go₁ ih (u ∷ us) s w = go₂ ih u us s (is "End" u) refl w

  -- ---- what stands behind some statements can change

  -- the tokens of the statements, and what stood behind them; with other tokens behind, the statements are the same
  pub record Replaced (P : Rel) (b : ℕ) (ts : List Token) (es : List Entry) (δ : ℕ) (r : List Token) : Type 0 where
    pub head : List Token
    pub behind : List Token
    pub split : ts ≡ head ++ behind
    pub left : map (back δ) behind ≡ r
    pub some : 1 ≤ length head
    pub real : (d d' : Token) → last_of d head ≡ last_of d' head
    pub goes : (nl r'' z : List Token) → Quiet nl → P r r'' → map (back δ) z ≡ nl ++ r'' → Run b (head ++ z) es δ r''

  -- one statement, at u
  pub record Step (Q : Rel) (u : Token) (us : List Token) (t : Tree) (r : List Token) : Type 0 where
    pub tail : List Token
    pub two : List Token
    pub whole : us ≡ tail ++ two
    pub right : map (back u.from) two ≡ r
    pub reads : (nl r'' z : List Token) → Quiet nl → Q r r'' → map (back u.from) z ≡ nl ++ r'' → statement W most_depth (map (back u.from) (u ∷ (tail ++ z))) ≡ ok t r''
    pub entry : (s : ℕ) (nl r'' z : List Token) → Quiet nl → map (back u.from) z ≡ nl ++ r''
        → entry_of s (map (back u.from) (u ∷ (tail ++ z))) t r'' ≡ entry_of s (map (back u.from) (u ∷ us)) t r

  pub step_by : {Q : Rel} (u : Token) (us : List Token) (t : Tree) (r : List Token) → Reads Q 1 (statement W most_depth) (map (back u.from) (u ∷ us)) t r → Step Q u us t r
  step_by {Q} u us t r M = go X.one X.whole X.left
    where
      f : Token → Token
      f = back u.from

      X : Parts f (u ∷ us) M.used r
      X = map_parts f M.used (u ∷ us) r M.split

      go : (x : List Token) → u ∷ us ≡ x ++ X.two → map f x ≡ M.used → Step Q u us t r
      go [] w l = absurd (omega (arith, ap length l, M.enough))
      go (c ∷ x) w l =
          let cu : c ≡ u = cc in
          let fx : map f (u ∷ x) ≡ M.used = ap (λ (y : Token). f y ∷ map f x) (sym cu) ∙ l in
          let new : (z v : List Token) → map f z ≡ v → map f (u ∷ (x ++ z)) ≡ M.used ++ v
          = λ z v m. map-append f (u ∷ x) z ∙ (λ i. fx i ++ m i) in
          record {
            tail = x;
            two = X.two;
            whole = cc;
            right = X.right;
            reads = λ nl r'' z q p m. ap (statement W most_depth) (new z (nl ++ r'') m) ∙ M.goes nl r'' q (λ o. absurd (omega (arith, ap length o, M.enough))) p;
            entry = λ s nl r'' z q m.
                ap (λ (l : List Token). entry_of s l t r'') (new z (nl ++ r'') m) ∙ entry_same s M.used nl r r'' t q ∙ ap (λ (l : List Token). entry_of s l t r) (sym M.split);
          }

  pub step_of : {Q : Rel} → Tail Q → (u : Token) (us : List Token) (t : Tree) (r : List Token) → statement W most_depth (map (back u.from) (u ∷ us)) ≡ ok t r → Step Q u us t r
  step_of {Q} T u us t r h = step_by u us t r (statement_tail W most_depth T (map (back u.from) (u ∷ us)) t r h)

  pub back_back : (s d : ℕ) (ts : List Token) → map (back d) (map (back s) ts) ≡ map (back (s + d)) ts
  back_back s d [] = refl
  back_back s d (t ∷ ts) = λ i. token_eq t.kind (t.from - s - d) (t.from - (s + d)) t.text (omega arith) i ∷ back_back s d ts i

  abbrev Result : Rel → ℕ → List Token → List Entry → ℕ → List Token → Type 0
  Result P b ts [] δ r = Unit {0}
  Result P b ts (e ∷ es) δ r = Replaced P b ts (e ∷ es) δ r

  pub quiet_last : (d : Token) (nl : List Token) → skip nl ≡ [] → last_of d nl ≡ d
  unfolding skip last_of
  quiet_last d [] e = refl
  quiet_last d (t ∷ nl) e = go (is "Newline" t) e (quiet_last d nl)
    where
      go : (b : Bool) → ◌≡◌ {A = List Token} (elim b [ true ↦ skip nl | false ↦ t ∷ nl ]) [] → (skip nl ≡ [] → last_of d nl ≡ d) → last_of (if not b then t else d) nl ≡ d
      go true h ih = ih h
      go false h ih = absurd (let z : ◌≡◌ {A = ℕ} 0 1 = cc in omega arith)

  pub real_last : (d : Token) (nl : List Token) (u : Token) (x : List Token) → Quiet nl → is "Newline" u ≡ false → last_of d (nl ++ (u ∷ x)) ≡ last_of u x
  unfolding last_of
  real_last d nl u x q n =
      last_append d nl (u ∷ x) ∙ ap (λ (c : Bool). last_of (if not c then u else last_of d nl) x) n

  -- a statement in front of some others
  pub in_front : {P : Rel} {b : ℕ} {ts : List Token} (nl : List Token) (u : Token) (us : List Token) (t : Tree) (r : List Token) {es : List Entry} {δ : ℕ} {r' : List Token}
      → ts ≡ nl ++ (u ∷ us) → Quiet nl → is "Newline" u ≡ false → is "End" u ≡ false → statement W most_depth (map (back u.from) (u ∷ us)) ≡ ok t r
      → Replaced P (b + u.from) r es δ r' → Replaced P b ts (entry_of (b + u.from) (map (back u.from) (u ∷ us)) t r ∷ es) (u.from + δ) r'
  in_front {P} {b} {ts} nl u us t r {es} {δ} {r'} s q n e h R =
      record {
        head = nl ++ (u ∷ (S.tail ++ X.one));
        behind = X.two;
        split = s ∙ ap (λ (l : List Token). nl ++ (u ∷ l)) (S.whole ∙ ap (λ l. S.tail ++ l) X.whole ∙ sym (append_assoc S.tail X.one X.two))
            ∙ sym (append_assoc nl (u ∷ (S.tail ++ X.one)) X.two);
        left = sym (back_back u.from δ X.two) ∙ ap (map (back δ)) X.right ∙ R.left;
        some = simp length-append (omega arith);
        real = λ d d'. real_last d nl u (S.tail ++ X.one) q n ∙ sym (real_last d' nl u (S.tail ++ X.one) q n);
        goes = λ nl' r'' z q' p m.
            subst (λ (l : List Token). Run b l (E ∷ es) (u.from + δ) r'') (regroup z)
            (subst (λ (y : Entry). Run b (nl ++ (u ∷ (S.tail ++ (X.one ++ z)))) (y ∷ es) (u.from + δ) r'') (S.entry (b + u.from) [] (R.head ++ map f z) (X.one ++ z) (λ x. refl) (moved' z))
            (more nl u (S.tail ++ (X.one ++ z)) t (R.head ++ map f z) refl q n e
            (S.reads [] (R.head ++ map f z) (X.one ++ z) (λ x. refl) (near_append R.head R.behind (map f z) R.some ∙ ap first (sym R.split)) (moved' z))
            (R.goes nl' r'' (map f z) q' p (back_back u.from δ z ∙ m))));
      }
    where
      f : Token → Token
      f = back u.from

      S : Step Near u us t r
      S = step_of near_tail u us t r h

      X : Parts f S.two R.head R.behind
      X = map_parts f R.head S.two R.behind (S.right ∙ R.split)

      E : Entry
      E = entry_of (b + u.from) (map f (u ∷ us)) t r

      moved' : (z : List Token) → map f (X.one ++ z) ≡ R.head ++ map f z
      moved' z = map-append f X.one z ∙ ap (λ l. l ++ map f z) X.left

      regroup : (z : List Token) → nl ++ (u ∷ (S.tail ++ (X.one ++ z))) ≡ nl ++ (u ∷ (S.tail ++ X.one)) ++ z
      regroup z = ap (λ (l : List Token). nl ++ (u ∷ l)) (sym (append_assoc S.tail X.one z)) ∙ sym (append_assoc nl (u ∷ (S.tail ++ X.one)) z)

  -- the last statement
  pub last_one : {P : Rel} {b : ℕ} {ts : List Token} (nl : List Token) (u : Token) (us : List Token) (t : Tree) (r : List Token)
      → ts ≡ nl ++ (u ∷ us) → Quiet nl → is "Newline" u ≡ false → is "End" u ≡ false → Step P u us t r
      → Replaced P b ts (entry_of (b + u.from) (map (back u.from) (u ∷ us)) t r ∷ []) (u.from + 0) r
  last_one {P} {b} {ts} nl u us t r s q n e S =
      let o : u.from + 0 ≡ u.from = omega arith in
      record {
        head = nl ++ (u ∷ S.tail);
        behind = S.two;
        split = s ∙ ap (λ (l : List Token). nl ++ (u ∷ l)) S.whole ∙ sym (append_assoc nl (u ∷ S.tail) S.two);
        left = ap (λ (x : ℕ). map (back x) S.two) o ∙ S.right;
        some = simp length-append (omega arith);
        real = λ d d'. real_last d nl u S.tail q n ∙ sym (real_last d' nl u S.tail q n);
        goes = λ nl' r'' z q' p m.
            let m' : map (back u.from) z ≡ nl' ++ r'' = ap (λ (x : ℕ). map (back x) z) (sym o) ∙ m in
            subst (λ (y : Entry). Run b (nl ++ (u ∷ S.tail) ++ z) (y ∷ []) (u.from + 0) r'') (S.entry (b + u.from) nl' r'' z q' m')
            (more nl u (S.tail ++ z) t r'' (append_assoc nl (u ∷ S.tail) z) q n e (S.reads nl' r'' z q' p m') none);
      }

  -- a statement, and those behind it
  extend : {P : Rel} → Tail P → {b : ℕ} {ts : List Token} (nl : List Token) (u : Token) (us : List Token) (t : Tree) (r : List Token) {es : List Entry} {δ : ℕ} {r' : List Token}
      → ts ≡ nl ++ (u ∷ us) → Quiet nl → is "Newline" u ≡ false → is "End" u ≡ false → statement W most_depth (map (back u.from) (u ∷ us)) ≡ ok t r
      → Run (b + u.from) r es δ r' → Result P (b + u.from) r es δ r'
      → Replaced P b ts (entry_of (b + u.from) (map (back u.from) (u ∷ us)) t r ∷ es) (u.from + δ) r'
  extend T nl u us t r s q n e h none R = last_one nl u us t r s q n e (step_of T u us t r h)
  extend T nl u us t r s q n e h (more nl₂ u₂ us₂ t₂ r₂ s₂ q₂ n₂ e₂ h₂ run) R = in_front nl u us t r s q n e h R

  run_result : {P : Rel} → Tail P → {b : ℕ} {ts : List Token} {es : List Entry} {δ : ℕ} {r : List Token} → Run b ts es δ r → Result P b ts es δ r
  run_result T none = tt
  run_result T (more nl u us t r s q n e h run) = extend T nl u us t r s q n e h run (run_result T run)

  -- the statements of a run, one at least, are the same with other tokens behind them
  pub run_tail : {P : Rel} → Tail P → {b : ℕ} {ts : List Token} {e : Entry} {es : List Entry} {δ : ℕ} {r : List Token} → Run b ts (e ∷ es) δ r → Replaced P b ts (e ∷ es) δ r
  run_tail T run = run_result T run
