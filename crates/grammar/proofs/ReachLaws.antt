-- Places in a script: statements, and the tokens that they are read from.
use Rattle.std.specs.Prelude.{if◌then◌else◌}
use mathlib.Core.Path.{◌≡◌, refl, sym, ap, ◌∙◌, subst}
use mathlib.Core.Bool.{Bool, true, false, not, true≢false}
use mathlib.Core.List.{List, [], ◌∷◌, ◌++◌, append_assoc, append-nil, map, map-append}
use Prim.Native.Nat.{ℕ, suc, ◌+◌, ◌-◌, ◌≤◌}
use native.Mathlib.Omega.{arith}
use lib.Seq.{drop-append_seam}
use lib.ListN.{length, take, drop, length-append, length-map}
use Rattle.tokens.specs.Limits.{most_depth}
use Rattle.tokens.specs.Text.{count}
use Rattle.tokens.specs.Tokens.{Token, code, final, counts, end_of}
use Rattle.tokens.proofs.Shapes.{Sorted}
use Rattle.grammar.specs.Readers.{first, is, skip, last_of, closes}
use Rattle.grammar.specs.Grammar.{Language}
use Rattle.grammar.specs.Script.{Entry, accepted, back, entry_of, from, turn, tokens_of}
use Rattle.grammar.proofs.Laws.{Quiet, skip_clear, split_same}
use Rattle.grammar.proofs.StatementLaws.{stops}
use Rattle.grammar.proofs.EndingLaws.{last_append}
use Rattle.grammar.proofs.ScriptLaws.{forth, skip_forth, from_forth, from_eq, prepend, Left, Run, none, more, from_run, Parts, map_parts, last_map, count_map, used_part, forth_back, quiet_nil, quiet_last, quiet_end, end_append, count_append}
use Rattle.grammar.proofs.ClosingLaws.{statement_no_end, NoEnd}
use Rattle.grammar.proofs.SealLaws.{unsealed, Sealed, sealed_after, Keeps, statement_seals}
use Rattle.grammar.proofs.Seams.{none_last}
use Rattle.grammar.proofs.AmendLaws.{Apart, Kept, kept, Mid, mid, opens_of, end_apart, from_end, only_end, last_end_lem, run_no_end, None}

-- ---- places that ascend

abbrev pub Asc : ℕ → List Token → Type 0
Asc p [] = Unit {0}
Asc p (t ∷ ts) = (p ≤ t.from) × Asc t.from ts

pub sorted_asc : (i j : ℕ) (ts : List Token) → Sorted i j ts → Asc i (ts ++ (final j ∷ []))
sorted_asc i j [] s = (s, tt)
sorted_asc i j (t ∷ ts) s = (s.0, sorted_asc t.from j ts s.2)

asc_less : (p q : ℕ) (ts : List Token) → q ≤ p → Asc p ts → Asc q ts
asc_less p q [] h a = tt
asc_less p q (t ∷ ts) h a = (omega (arith, a.0), a.1)

asc_right : (p : ℕ) (x y : List Token) → Asc p (x ++ y) → Asc p y
asc_right p [] y a = a
asc_right p (t ∷ x) y a = asc_less t.from p y a.0 (asc_right t.from x y a.1)

asc_left : (p : ℕ) (x y : List Token) → Asc p (x ++ y) → Asc p x
asc_left p [] y a = tt
asc_left p (t ∷ x) y a = (a.0, asc_left t.from x y a.1)

asc_back : (p s : ℕ) (ts : List Token) → Asc p ts → Asc (p - s) (map (back s) ts)
asc_back p s [] a = tt
asc_back p s (t ∷ ts) a = (omega (arith, a.0), asc_back t.from s ts a.1)

asc_undo : (s : ℕ) (ts : List Token) → Asc s ts → map (forth s) (map (back s) ts) ≡ ts
asc_undo s [] a = refl
asc_undo s (t ∷ ts) a =
    let h : t.from - s + s ≡ t.from = omega (arith, a.0) in
    λ i. record { kind = t.kind; from = h i; text = t.text } ∷ asc_undo s ts (asc_less t.from s ts a.0 a.1) i

pub forth_forth : (a b c : ℕ) (ts : List Token) → b + a ≡ c → map (forth a) (map (forth b) ts) ≡ map (forth c) ts
forth_forth a b c [] h = refl
forth_forth a b c (t ∷ ts) h =
    let e : t.from + b + a ≡ t.from + c = omega arith in λ i. record { kind = t.kind; from = e i; text = t.text } ∷ forth_forth a b c ts h i

forth_zero : (ts : List Token) → map (forth 0) ts ≡ ts
forth_zero [] = refl
forth_zero (t ∷ ts) = let e : t.from + 0 ≡ t.from = omega arith in λ i. record { kind = t.kind; from = e i; text = t.text } ∷ forth_zero ts i

-- tokens that are moved begin no earlier
low : (k : ℕ) (r : List Token) (u : Token) (us : List Token) → map (forth k) r ≡ u ∷ us → k ≤ u.from
low k [] u us q = absurd (let o : ◌≡◌ {A = ℕ} 0 1 = cc in omega arith)
low k (t ∷ r) u us q = let o : forth k t ≡ u = cc in omega (arith, ap (λ (x : Token). x.from) o)

-- ---- what does not depend on places

apart_forth : (d : ℕ) (x : List Token) → Apart (first (skip x)) → Apart (first (skip (map (forth d) x)))
apart_forth d x q = subst (λ (l : List Token). Apart (first l)) (sym (skip_forth d x)) (go (skip x) q)
  where
    go : (l : List Token) → Apart (first l) → Apart (first (map (forth d) l))
    go [] k = k
    go (t ∷ l) k = record { no_else = k.no_else; no_on = k.no_on; no_in = k.no_in; no_semicolon = k.no_semicolon; no_line = k.no_line }

-- ---- a run of statements, and where its tokens are

abbrev pub Shutting : List Entry → List Token → Type 0
Shutting [] x = x ≡ []
Shutting (e ∷ es) x = Sealed x

-- head are the tokens of the statements es, Newlines included; r are those behind, with places from the byte δ
pub record Reach (ts : List Token) (es : List Entry) (δ : ℕ) (r : List Token) : Type 0 where
  pub head : List Token
  pub split : ts ≡ head ++ map (forth δ) r
  pub shut : stops (first r) ≡ false → Shutting es head
  pub tokens : count counts head ≡ tokens_of es

module _ (W : Language) where
  seal_more : (k : ℕ) {c : ℕ} {r : List Token} {es : List Entry} {δ : ℕ} {r' : List Token} → Run W c r es δ r' → (x y : List Token)
      → (stops (first r) ≡ false → Sealed x) → (stops (first r') ≡ false → Shutting es y) → stops (first r') ≡ false → Sealed (x ++ map (forth k) y)
  seal_more k none x y p q n d = ap (λ (l : List Token). unsealed (last_of d (x ++ map (forth k) l))) (q n) ∙ ap (λ l. unsealed (last_of d l)) (append-nil x) ∙ p n d
  seal_more k (more nl u us t r s q' n' e h run) x y p q n d = sealed_after x (map (forth k) y) (λ d'. last_map (forth k) (λ t. refl) unsealed (λ t. refl) d' d' y refl ∙ q n d') d

  pub reach : {b : ℕ} {ts : List Token} {es : List Entry} {δ : ℕ} {r : List Token} → Run W b ts es δ r → Asc 0 ts → Reach ts es δ r
  unfolding count entry_of
  reach {ts = ts} none a = record { head = []; split = sym (forth_zero ts); shut = λ n. refl; tokens = refl }
  reach {b} {ts} (more nl u us t r {es} {δ} {r'} s q n e h run) a =
      let St : (used : List Token) × (map (back u.from) (u ∷ us) ≡ used ++ r) × (stops (first r) ≡ false → Sealed used) = statement_seals W most_depth (map (back u.from) (u ∷ us)) t r h in
      let X : Parts (back u.from) (u ∷ us) St.0 r = map_parts (back u.from) St.0 (u ∷ us) r St.1 in
      let a₁ : Asc 0 (u ∷ us) = asc_right 0 nl (u ∷ us) (subst (λ (l : List Token). Asc 0 l) s a) in
      let a₂ : Asc u.from (u ∷ us) = (omega arith, a₁.1) in
      let a₃ : Asc u.from X.two = asc_right u.from X.one X.two (subst (λ (l : List Token). Asc u.from l) X.whole a₂) in
      let o : u.from - u.from ≡ 0 = omega arith in
      let a₄ : Asc 0 r = subst (λ (l : List Token). Asc 0 l) X.right (subst (λ (i : ℕ). Asc i (map (back u.from) X.two)) o (asc_back u.from u.from X.two a₃)) in
      let R : Reach r es δ r' = reach run a₄ in
      let w : X.two ≡ map (forth u.from) R.head ++ map (forth (u.from + δ)) r'
      = sym (asc_undo u.from X.two a₃) ∙ ap (map (forth u.from)) (X.right ∙ R.split) ∙ map-append (forth u.from) R.head (map (forth δ) r')
      ∙ ap (λ l. map (forth u.from) R.head ++ l) (forth_forth u.from δ (u.from + δ) r' (omega arith)) in
      let c : count counts (nl ++ X.one ++ map (forth u.from) R.head) ≡ count counts St.0 + tokens_of es
      = count_append (nl ++ X.one) (map (forth u.from) R.head)
      ∙ (λ i. count_append nl X.one i + (count_map (forth u.from) (λ t. refl) R.head ∙ R.tokens) i)
      ∙ (λ i. (quiet_end 0 nl (quiet_nil nl q)).1 i + (sym (count_map (back u.from) (λ t. refl) X.one) ∙ ap (count counts) X.left) i + tokens_of es) ∙ plus (count counts St.0) (tokens_of es) in
      record {
        head = nl ++ X.one ++ map (forth u.from) R.head;
        split = s ∙ ap (λ l. nl ++ l) (X.whole ∙ ap (λ l. X.one ++ l) w) ∙ sym (append_assoc nl X.one (map (forth u.from) R.head ++ map (forth (u.from + δ)) r'))
            ∙ sym (append_assoc (nl ++ X.one) (map (forth u.from) R.head) (map (forth (u.from + δ)) r'));
        shut = seal_more u.from run (nl ++ X.one) R.head
            (λ m. sealed_after nl X.one (λ d. sym (last_map (back u.from) (λ t. refl) unsealed (λ t. refl) d d X.one refl) ∙ ap (λ l. unsealed (last_of d l)) X.left ∙ St.2 m d)) R.shut;
        tokens = c ∙ ap (λ (l : List Token). count counts l + tokens_of es) (sym (used_part St.0 r) ∙ ap (λ (l : List Token). take (length l - length r) l) (sym St.1));
      }
    where
      plus : (i j : ℕ) → 0 + i + j ≡ i + j
      plus i j = omega arith

-- ---- the last token of some, Newlines aside

pub data Last (x : List Token) : Type 0 where
  quiet : count counts x ≡ 0 → Last x
  last : (xs : List Token) (w : Token) (nl : List Token) → x ≡ xs ++ (w ∷ nl) → count counts nl ≡ 0 → counts w ≡ true → Last x

pub last_of_lem : (x : List Token) → Last x
unfolding count
last_of_lem [] = quiet refl
last_of_lem (t ∷ x) = go (last_of_lem x)
  where
    alone : count counts x ≡ 0 → (b : Bool) → counts t ≡ b → Last (t ∷ x)
    alone h true e = last [] t x refl h e
    alone h false e = quiet (ap (λ (b : Bool). (if b then 1 else 0) + count counts x) e ∙ omega arith)

    go : Last x → Last (t ∷ x)
    go (quiet h) = alone h (counts t) refl
    go (last xs w nl s h c) = last (t ∷ xs) w nl (ap {B = List Token} (λ l. t ∷ l) s) h c

pub none_end : (p : ℕ) (ts : List Token) → count counts ts ≡ 0 → end_of p ts ≡ p
unfolding count end_of
none_end p [] h = refl
none_end p (t ∷ ts) h = go (counts t) h (none_end p ts)
  where
    go : (b : Bool) → (if b then 1 else 0) + count counts ts ≡ 0 → (count counts ts ≡ 0 → end_of p ts ≡ p) → end_of (if b then t.from + length t.text else p) ts ≡ p
    go true e ih = absurd (omega arith)
    go false e ih = ih (omega arith)

pub none_quiet : (ts : List Token) → count counts ts ≡ 0 → Quiet ts
unfolding count skip
none_quiet [] h r = refl
none_quiet (t ∷ ts) h r = go (is "Newline" t) h (λ k. none_quiet ts k r)
  where
    go : (b : Bool) → (if not b then 1 else 0) + count counts ts ≡ 0 → (count counts ts ≡ 0 → skip (ts ++ r) ≡ skip r)
        → ◌≡◌ {A = List Token} (elim b [ true ↦ skip (ts ++ r) | false ↦ t ∷ (ts ++ r) ]) (skip r)
    go true e ih = ih (omega arith)
    go false e ih = absurd (omega arith)

pub end_last : (p : ℕ) (xs : List Token) (w : Token) (nl : List Token) → count counts nl ≡ 0 → counts w ≡ true → end_of p (xs ++ (w ∷ nl)) ≡ w.from + length w.text
unfolding end_of
end_last p xs w nl h c =
    end_append p xs (w ∷ nl) ∙ ap (λ (b : Bool). end_of (if b then w.from + length w.text else end_of p xs) nl) c ∙ none_end (w.from + length w.text) nl h

pub last_last : (d : Token) (xs : List Token) (w : Token) (nl : List Token) → count counts nl ≡ 0 → counts w ≡ true → last_of d (xs ++ (w ∷ nl)) ≡ w
unfolding last_of
last_last d xs w nl h c = last_append d xs (w ∷ nl) ∙ ap (λ (b : Bool). last_of (if b then w else last_of d xs) nl) c ∙ none_last w nl h

some_last : (xs : List Token) (w : Token) (nl : List Token) → counts w ≡ true → 1 ≤ count counts (xs ++ (w ∷ nl))
unfolding count
some_last xs w nl c = omega (arith, count_append xs (w ∷ nl), ap (λ (b : Bool). (if b then 1 else 0) + count counts nl) c)

-- places from the byte s
end_back : (s p p' : ℕ) (l : List Token) → Asc s l → p' + s ≡ p → end_of p' (map (back s) l) + s ≡ end_of p l
unfolding end_of
end_back s p p' [] a h = h
end_back s p p' (t ∷ l) a h =
    end_back s (if counts t then t.from + length t.text else p) (if counts t then t.from - s + length t.text else p') l (asc_less t.from s l a.0 a.1) (go (counts t))
  where
    go : (b : Bool) → (if b then t.from - s + length t.text else p') + s ≡ (if b then t.from + length t.text else p)
    go true = omega (arith, a.0)
    go false = h

module _ (W : Language) where
  -- ---- the first statement

  -- behind Newlines it begins at u; w is its last token, and behind that there are Newlines, then two with the other statements
  pub record One (ts : List Token) (e : Entry) (es : List Entry) : Type 0 where
    pub nl : List Token
    pub u : Token
    pub us : List Token
    pub xs : List Token
    pub w : Token
    pub two : List Token
    pub split : ts ≡ nl ++ (u ∷ us)
    pub quiet : Quiet nl
    pub line : is "Newline" u ≡ false
    pub no_end : is "End" u ≡ false
    pub start : e.start ≡ u.from
    pub tail : u ∷ us ≡ xs ++ (w ∷ two)
    pub end : e.end ≡ w.from + length w.text
    pub more : u.from ≤ w.from
    pub last_one : is "End" w ≡ false
    pub last_counts : counts w ≡ true
    pub rest : from W 0 two ≡ accepted es
    pub some : 1 ≤ e.tokens

  pub from_quiet : (b : ℕ) (nl y : List Token) → Quiet nl → from W b (nl ++ y) ≡ from W b y
  from_quiet b nl y q = from_eq W b (nl ++ y) ∙ ap (turn W (from W) b) (q y) ∙ sym (from_eq W b y)

  asc_member : (p : ℕ) (xs : List Token) (w : Token) (ys : List Token) → Asc p (xs ++ (w ∷ ys)) → p ≤ w.from
  asc_member p xs w ys a = (asc_right p xs (w ∷ ys) a).0

  one_run : {ts : List Token} {e : Entry} {es : List Entry} {δ : ℕ} {r : List Token} → Run W 0 ts (e ∷ []) δ r → from W (0 + δ) r ≡ accepted es → Asc 0 ts → One ts e es
  unfolding entry_of end_of last_of count code
  one_run {ts} {es = es} (more nl u us t r s q n d h none) f a =
      let E : (used : List Token) × (map (back u.from) (u ∷ us) ≡ used ++ r) × NoEnd used = statement_no_end W most_depth (map (back u.from) (u ∷ us)) t r h in
      let X : Parts (back u.from) (u ∷ us) E.0 r = map_parts (back u.from) E.0 (u ∷ us) r E.1 in
      go E X X.one refl (last_of_lem X.one)
    where
      f' : Token → Token
      f' = back u.from

      a₁ : Asc u.from (u ∷ us)
      a₁ = (omega arith, (asc_right 0 nl (u ∷ us) (subst (λ (l : List Token). Asc 0 l) s a)).1)

      Used : Type 0
      Used = (used : List Token) × (map (back u.from) (u ∷ us) ≡ used ++ r) × NoEnd used

      go : (E : Used) (X : Parts (back u.from) (u ∷ us) E.0 r) (x : List Token) → X.one ≡ x → Last x → One ts (entry_of (0 + u.from) (map (back u.from) (u ∷ us)) t r) es
      go E X [] e l = absurd (true≢false (ap (λ k. is "End" (last_of (final 0) (map f' k))) (sym e) ∙ ap (λ k. is "End" (last_of (final 0) k)) X.left ∙ E.2 (final 0)))
      go E X (c ∷ x) e (quiet k) =
          let v : u ∷ us ≡ c ∷ (x ++ X.two) = X.whole ∙ ap (λ l. l ++ X.two) e in
          let z : u ≡ c = cc in
          absurd (omega (arith, ap (λ (b : Bool). (if not b then 1 else 0) + count counts x) (sym (ap (λ (t : Token). is "Newline" t) (sym z) ∙ n)) ∙ k))
      go E X (c ∷ x) e (last xs w nl₂ y k m) =
          let v : u ∷ us ≡ c ∷ (x ++ X.two) = X.whole ∙ ap (λ l. l ++ X.two) e in
          let one : X.one ≡ xs ++ (w ∷ nl₂) = e ∙ y in
          let a₂ : Asc u.from X.one = asc_left u.from X.one X.two (subst (λ (l : List Token). Asc u.from l) X.whole a₁) in
          let a₃ : Asc u.from X.two = asc_right u.from X.one X.two (subst (λ (l : List Token). Asc u.from l) X.whole a₁) in
          let z : c ≡ u = cc in
          let cu : counts c ≡ true = ap (λ (t : Token). counts t) z ∙ ap not n in
          let ends : (p : ℕ) → end_of p X.one ≡ w.from + length w.text = λ p. ap (end_of p) one ∙ end_last p xs w nl₂ k m in
          let e₁ : end_of 0 (map f' X.one) + u.from ≡ w.from + length w.text = end_back u.from u.from 0 X.one a₂ (omega arith) ∙ ends u.from in
          let e₂ : end_of 0 (take (length (map f' (u ∷ us)) - length r) (map f' (u ∷ us))) ≡ end_of 0 (map f' X.one)
          = ap (λ (l : List Token). end_of 0 (take (length l - length r) l)) E.1 ∙ ap (end_of 0) (used_part E.0 r ∙ sym X.left) in
          let n₂ : count counts (take (length (map f' (u ∷ us)) - length r) (map f' (u ∷ us))) ≡ count counts (xs ++ (w ∷ nl₂))
          = ap (λ (l : List Token). count counts (take (length l - length r) l)) E.1 ∙ ap (count counts) (used_part E.0 r ∙ sym X.left) ∙ count_map (back u.from) (λ t. refl) X.one ∙ ap (count counts) one in
          let dr : from W 0 X.two ≡ accepted es
          = ap (from W 0) (sym (asc_undo u.from X.two a₃) ∙ ap (map (forth u.from)) X.right) ∙ from_forth W 0 u.from r ∙ ap (λ (i : ℕ). from W i r) (plus u.from) ∙ f in
          record {
            nl = nl;
            u = u;
            us = us;
            xs = xs;
            w = w;
            two = nl₂ ++ X.two;
            split = s;
            quiet = q;
            line = n;
            no_end = d;
            start = plus₂ u.from;
            tail = X.whole ∙ ap (λ l. l ++ X.two) one ∙ append_assoc xs (w ∷ nl₂) X.two;
            end = ap (λ (i : ℕ). 0 + u.from + i) e₂ ∙ plus₃ u.from (end_of 0 (map f' X.one)) ∙ e₁;
            more = asc_member u.from xs w nl₂ (subst (λ (l : List Token). Asc u.from l) one a₂);
            last_one = ap (λ t. is "End" t) (sym (last_last u xs w nl₂ k m)) ∙ ap (λ l. is "End" (last_of u l)) (sym one)
                ∙ sym (last_map (back u.from) (λ t. refl) (λ t. is "End" t) (λ t. refl) u u X.one refl) ∙ ap (λ l. is "End" (last_of u l)) X.left ∙ E.2 u;
            last_counts = m;
            rest = from_quiet 0 nl₂ X.two (none_quiet nl₂ k) ∙ dr;
            some = subst (λ (i : ℕ). 1 ≤ i) (sym n₂) (some_last xs w nl₂ m);
          }
        where
          plus : (i : ℕ) → 0 + i ≡ 0 + (i + 0)
          plus i = omega arith

          plus₂ : (i : ℕ) → 0 + i ≡ i
          plus₂ i = omega arith

          plus₃ : (i j : ℕ) → 0 + i + j ≡ j + i
          plus₃ i j = omega arith

  pub one_of : (ts : List Token) (e : Entry) (es : List Entry) → from W 0 ts ≡ accepted (e ∷ es) → Asc 0 ts → One ts e es
  one_of ts e es h a = let L : Left W 0 ts (e ∷ []) es = from_run W (e ∷ []) es 0 ts h in one_run L.2 L.3 a

  -- ---- what can stand behind other statements

  pub apart_of : (b : ℕ) (ts : List Token) (es : List Entry) → from W b ts ≡ accepted es → Apart (first (skip ts))
  apart_of b ts [] h = end_apart W (first (skip ts)) (from_end W b ts h)
  apart_of b ts (e ∷ es) h = let L : Left W b ts (e ∷ []) es = from_run W (e ∷ []) es b ts h in (opens_of W L.2).apart

  -- with the tokens x before them, the statements of y come behind es, where the places of y are from the byte δ
  abbrev pub Goes : List Token → List Entry → ℕ → Type 0
  Goes x es δ = (y : List Token) → Apart (first (skip y)) → from W 0 (x ++ map (forth δ) y) ≡ prepend es (from W (0 + δ) y)

  pub goes_farther : (x : List Token) (es : List Entry) (δ n : ℕ) → δ ≤ n → Goes x es δ → Goes x es n
  goes_farther x es δ n h g y a =
      let p : n - δ + δ ≡ n = omega arith in
      let q : 0 + δ + (n - δ) ≡ 0 + n = omega arith in
      ap (λ l. from W 0 (x ++ l)) (sym (forth_forth δ (n - δ) n y p)) ∙ g (map (forth (n - δ)) y) (apart_forth (n - δ) y a)
      ∙ ap (prepend es) (from_forth W (0 + δ) (n - δ) y ∙ ap (λ (i : ℕ). from W i y) q)

  goes_quiet : (nl : List Token) → Quiet nl → (n : ℕ) → Goes nl [] n
  goes_quiet nl q n y a = from_quiet 0 nl (map (forth n) y) q ∙ from_forth W 0 n y

  -- ---- the tokens before a statement

  pub record Ahead (ts : List Token) (es : List Entry) (e : Entry) (es' : List Entry) : Type 0 where
    pub head : List Token
    pub u : Token
    pub us : List Token
    pub xs : List Token
    pub w : Token
    pub two : List Token
    pub split : ts ≡ head ++ (u ∷ us)
    pub line : is "Newline" u ≡ false
    pub no_end : is "End" u ≡ false
    pub start : e.start ≡ u.from
    pub tail : u ∷ us ≡ xs ++ (w ∷ two)
    pub end : e.end ≡ w.from + length w.text
    pub more : u.from ≤ w.from
    pub last_one : is "End" w ≡ false
    pub last_counts : counts w ≡ true
    pub rest : from W 0 two ≡ accepted es'
    pub some : 1 ≤ e.tokens
    pub keeps : Keeps head
    pub goes : Goes head es u.from

  ahead_by : (ts head behind : List Token) (es : List Entry) (e : Entry) (es' : List Entry) → ts ≡ head ++ behind → (O : One behind e es') → Keeps (head ++ O.nl) → Goes (head ++ O.nl) es O.u.from
      → Ahead ts es e es'
  ahead_by ts head behind es e es' s O k g = record {
    head = head ++ O.nl;
    u = O.u;
    us = O.us;
    xs = O.xs;
    w = O.w;
    two = O.two;
    split = s ∙ ap (λ l. head ++ l) O.split ∙ sym (append_assoc head O.nl (O.u ∷ O.us));
    line = O.line;
    no_end = O.no_end;
    start = O.start;
    tail = O.tail;
    end = O.end;
    more = O.more;
    last_one = O.last_one;
    last_counts = O.last_counts;
    rest = O.rest;
    some = O.some;
    keeps = k;
    goes = g;
  }

  quiet_clear : (nl z : List Token) → Quiet nl → is "Newline" (first (nl ++ z)) ≡ false → nl ≡ []
  quiet_clear [] z q h = refl
  quiet_clear (t ∷ nl) z q h = let e : t ∷ nl ≡ [] = sym (skip_clear (t ∷ nl) h) ∙ quiet_nil (t ∷ nl) q in absurd (let o : ◌≡◌ {A = ℕ} 0 1 = cc in omega arith)

  pub ahead : (es : List Entry) (ts : List Token) (e : Entry) (es' : List Entry) → from W 0 ts ≡ accepted (es ++ (e ∷ es')) → Asc 0 ts → Ahead ts es e es'
  ahead [] ts e es' h a =
      let O : One ts e es' = one_of ts e es' h a in
      ahead_by ts [] ts [] e es' refl O (λ d k. ap unsealed (quiet_last W d O.nl (quiet_nil O.nl O.quiet)) ∙ k) (goes_quiet O.nl O.quiet O.u.from)
  ahead (e₀ ∷ es) ts e es' h a =
      let K : Kept W 0 ts (e₀ ∷ es) (e ∷ es') = kept W 0 ts e₀ e es es' h in
      let R : Reach ts (e₀ ∷ es) K.δ K.rest = reach W K.run a in
      let l : length K.behind ≡ length (map (forth K.δ) K.rest) = omega (arith, length-map K.behind (back K.δ), ap length K.same, length-map K.rest (forth K.δ)) in
      let hd : K.head ≡ R.head = split_same K.head K.behind R.head (map (forth K.δ) K.rest) (sym K.split ∙ R.split) l in
      let f : from W 0 (map (forth K.δ) K.rest) ≡ accepted (e ∷ es') = from_forth W 0 K.δ K.rest ∙ ap (from W (0 + K.δ)) (sym K.same) ∙ K.left in
      let O : One (map (forth K.δ) K.rest) e es' = one_of (map (forth K.δ) K.rest) e es' f (asc_right 0 R.head (map (forth K.δ) K.rest) (subst (λ (x : List Token). Asc 0 x) R.split a)) in
      let c : is "Newline" (first (map (forth K.δ) K.rest)) ≡ false = clear K.δ K.rest K.opens.apart.no_line in
      let n : O.nl ≡ [] = quiet_clear O.nl (O.u ∷ O.us) O.quiet (ap (λ x. is "Newline" (first x)) (sym O.split) ∙ c) in
      let n' : R.head ++ O.nl ≡ R.head = ap (λ x. R.head ++ x) n ∙ append-nil R.head in
      let lo : K.δ ≤ O.u.from = low K.δ K.rest O.u O.us (O.split ∙ ap (λ x. x ++ (O.u ∷ O.us)) n) in
      ahead_by ts R.head (map (forth K.δ) K.rest) (e₀ ∷ es) e es' R.split O
      (λ d k. ap (λ x. unsealed (last_of d x)) n' ∙ R.shut K.opens.no_stop d)
      (goes_farther (R.head ++ O.nl) (e₀ ∷ es) K.δ O.u.from lo (subst (λ (x : List Token). Goes x (e₀ ∷ es) K.δ) (hd ∙ sym n') K.goes))
    where
      clear : (k : ℕ) (r : List Token) → is "Newline" (first r) ≡ false → is "Newline" (first (map (forth k) r)) ≡ false
      clear k [] q = q
      clear k (t ∷ r) q = q

  -- ---- a text in front of others

  pub none_tokens : (tn y : List Token) → None W tn → is "End" (first (skip (tn ++ y))) ≡ true → count counts tn ≡ 0
  unfolding skip count
  none_tokens [] y n h = refl
  none_tokens (t ∷ tn) y n h = go (is "Newline" t) h (none_tokens tn y (λ x u z q. n (t ∷ x) u z (ap {B = List Token} (λ l. t ∷ l) q)))
    where
      go : (b : Bool) → is "End" (first (elim b as (λ _. List Token) [ true ↦ skip (tn ++ y) | false ↦ t ∷ (tn ++ y) ])) ≡ true
          → (is "End" (first (skip (tn ++ y))) ≡ true → count counts tn ≡ 0) → (if not b then 1 else 0) + count counts tn ≡ 0
      go true e ih = omega (arith, ih e)
      go false e ih = absurd (true≢false (sym e ∙ n [] t tn refl))

  -- the last token, Newlines aside, is `;` or `}`, if there is one
  pub data Ending (tn : List Token) : Type 0 where
    bare : count counts tn ≡ 0 → Ending tn
    shut : ((d : Token) → closes (last_of d tn) ≡ true) → Ending tn

  end_alone : (n : ℕ) → from W 0 (final n ∷ []) ≡ accepted []
  unfolding turn skip code
  end_alone n = from_eq W 0 (final n ∷ [])

  pub text_goes : (tn : List Token) (n : ℕ) (ns : List Entry) → None W tn → Asc 0 (tn ++ (final n ∷ [])) → from W 0 (tn ++ (final n ∷ [])) ≡ accepted ns → Ending tn → Goes tn ns n
  unfolding code
  text_goes tn n [] nn a h e = goes_quiet tn (none_quiet tn (none_tokens tn (final n ∷ []) nn (from_end W 0 (tn ++ (final n ∷ [])) h))) n
  text_goes tn n (x ∷ ns) nn a h (bare c) =
      let q : accepted [] ≡ accepted (x ∷ ns) = sym (from_quiet 0 tn (final n ∷ []) (none_quiet tn c) ∙ end_alone n) ∙ h in
      absurd (let o : ◌≡◌ {A = ℕ} 0 1 = cc in omega arith)
  text_goes tn n (x ∷ ns) nn a h (shut c) =
      let M : Mid W 0 tn (final n) (x ∷ ns) = mid W 0 tn (final n) x ns nn refl h c in
      let R : Reach (tn ++ (final n ∷ [])) (x ∷ ns) M.δ M.left = reach W M.run a in
      let hd : R.head ≡ tn = M.alone R.head (map (forth M.δ) M.left) R.split (forth_back M.δ M.left) in
      let s : tn ++ (final n ∷ []) ≡ tn ++ map (forth M.δ) M.left = R.split ∙ ap (λ l. l ++ map (forth M.δ) M.left) hd in
      let z : final n ∷ [] ≡ map (forth M.δ) M.left = sym (drop-append_seam tn (final n ∷ [])) ∙ ap (drop (length tn)) s ∙ drop-append_seam tn (map (forth M.δ) M.left) in
      goes_farther tn (x ∷ ns) M.δ n (low M.δ M.left (final n) [] (sym z)) M.goes

  -- ---- the number of tokens

  one_end : (l : List Token) (f : Token) → None W l → is "End" f ≡ true → (x y : List Token) → l ++ (f ∷ []) ≡ x ++ y → is "End" (first (skip y)) ≡ true → count counts y ≤ 1
  unfolding skip count
  one_end l f n fe x [] w h = omega arith
  one_end l f n fe x (t ∷ y) w h = go (is "Newline" t) h (one_end l f n fe (x ++ (t ∷ [])) y (w ∙ sym (append_assoc x (t ∷ []) y)))
    where
      alone : (z : List Token) → x ≡ l → l ++ (f ∷ []) ≡ x ++ (t ∷ z) → 1 + count counts z ≤ 1
      alone [] e v = omega arith
      alone (c ∷ z) e v = absurd (omega (arith, ap length e, length-append l (f ∷ []), length-append x (t ∷ c ∷ z), ap length v))

      go : (b : Bool) → is "End" (first (elim b as (λ _. List Token) [ true ↦ skip y | false ↦ t ∷ y ])) ≡ true → (is "End" (first (skip y)) ≡ true → count counts y ≤ 1)
          → (if not b then 1 else 0) + count counts y ≤ 1
      go true e ih = omega (arith, ih e)
      go false e ih = alone y (only_end W f t l x y n e w) w

  -- a script has the tokens of its statements, and End
  tokens_all : (l : List Token) (f : Token) (es : List Entry) → None W l → is "End" f ≡ true → Asc 0 (l ++ (f ∷ [])) → from W 0 (l ++ (f ∷ [])) ≡ accepted es
      → count counts (l ++ (f ∷ [])) ≤ suc (tokens_of es)
  tokens_all l f es n fe a h =
      let L : Left W 0 (l ++ (f ∷ [])) es [] = from_run W es [] 0 (l ++ (f ∷ [])) (h ∙ ap accepted (sym (append-nil es))) in
      let R : Reach (l ++ (f ∷ [])) es L.0 L.1 = reach W L.2 a in
      let e : is "End" (first (skip (map (forth L.0) L.1))) ≡ true
      = ap (λ x. is "End" (first x)) (skip_forth L.0 L.1) ∙ kind L.0 (skip L.1) ∙ from_end W (0 + L.0) L.1 L.3 in
      let c : count counts (map (forth L.0) L.1) ≤ 1 = one_end l f n fe R.head (map (forth L.0) L.1) R.split e in
      omega (arith, ap (count counts) R.split, count_append R.head (map (forth L.0) L.1), R.tokens)
    where
      kind : (k : ℕ) (x : List Token) → is "End" (first (map (forth k) x)) ≡ is "End" (first x)
      kind k [] = refl
      kind k (t ∷ x) = refl

  end_counts : (l : List Token) (f : Token) → is "End" f ≡ true → count counts (l ++ (f ∷ [])) ≡ suc (count counts l)
  unfolding count
  end_counts l f e = count_append l (f ∷ []) ∙ ap (λ (c : Bool). count counts l + ((if not c then 1 else 0) + 0)) (end_apart W f e).no_line ∙ omega arith

  -- no run of statements reads End
  left_some : {ts : List Token} {es : List Entry} {δ : ℕ} {r : List Token} → Run W 0 ts es δ r → (l : List Token) (f : Token) → is "End" f ≡ true → ts ≡ l ++ (f ∷ []) → (x : List Token) → ts ≡ x ++ map (forth δ) r
      → count counts (map (forth δ) r) ≡ 0 → ⊥
  left_some {ts} none l f fe w x v c = omega (arith, count_map (forth 0) (λ t. refl) ts, ap (count counts) w, end_counts l f fe)
  left_some {ts} {δ = δ} {r} (more nl u us t r₁ s q n e h run) l f fe w x v c =
      true≢false (sym fe ∙ ap (λ t. is "End" t) (sym (last_end_lem W f f l fe)) ∙ ap (λ k. is "End" (last_of f k)) (sym w ∙ v) ∙ ap (λ t. is "End" t) (last_append f x (map (forth δ) r) ∙ none_last (last_of f x) (map (forth δ) r) c)
      ∙ run_no_end W (more nl u us t r₁ s q n e h run) x (map (forth δ) r) v (forth_back δ r) f)

  -- a script's tokens are those of its statements
  pub tokens_exact : (l : List Token) (f : Token) (es : List Entry) → None W l → is "End" f ≡ true → Asc 0 (l ++ (f ∷ [])) → from W 0 (l ++ (f ∷ [])) ≡ accepted es → count counts l ≡ tokens_of es
  tokens_exact l f es n fe a h =
      let L : Left W 0 (l ++ (f ∷ [])) es [] = from_run W es [] 0 (l ++ (f ∷ [])) (h ∙ ap accepted (sym (append-nil es))) in
      let R : Reach (l ++ (f ∷ [])) es L.0 L.1 = reach W L.2 a in
      let some : 1 ≤ count counts (map (forth L.0) L.1) = omega (arith, (left_some L.2 l f fe refl R.head R.split)) in
      omega (arith, tokens_all l f es n fe a h, end_counts l f fe, ap (count counts) R.split, count_append R.head (map (forth L.0) L.1), R.tokens)
