-- Towards amending: some statements, and other tokens behind them.
use Rattle.std.specs.Prelude.{if◌then◌else◌}
use mathlib.Core.Path.{◌≡◌, refl, sym, ap, ◌∙◌, subst}
use mathlib.Core.Bool.{Bool, true, false, ◌||◌, not, true≢false}
use mathlib.Core.List.{List, [], ◌∷◌, ◌++◌, append_assoc, append-nil, map}
use Prim.Native.Nat.{ℕ, ◌+◌}
use Prim.Native.String.{String}
use native.Mathlib.Omega.{arith}
use lib.Dec.{eqb}
use lib.ListN.{length, length-map}
use borrow.Author.Tests.{eqb-true}
use Rattle.tokens.specs.Limits.{most_depth}
use Rattle.tokens.specs.Tokens.{Token, code, counts}
use Rattle.grammar.specs.Trees.{Tree}
use Rattle.grammar.specs.Readers.{Out, ok, refused as wrong, first, is, skip, last_of, closes}
use Rattle.grammar.specs.Grammar.{Edition, one, two, Language, statement}
use Rattle.grammar.specs.Script.{Entry, Outcome, accepted, refused, back, from, turn, onward, front, entry_of}
use Rattle.grammar.specs.Computing.{computing}
use Rattle.grammar.proofs.Laws.{Near, Follows, nil_not, lead, lead_skip, skip_lead, skip_first, skip_clear, reads_clear, split_same}
use Rattle.grammar.proofs.StatementLaws.{Tail, stops, near_tail, statement_tail}
use Rattle.grammar.proofs.EndingLaws.{last_append}
use Rattle.grammar.proofs.ScriptLaws.{forth, prepend, Left, Run, none, more, run_from, from_run, Replaced, run_tail, from_eq, Step, step_of, step_by, last_one, in_front, Parts, map_parts, quiet_nil, quiet_last, back_back, last_map, forth_back}
use Rattle.grammar.proofs.ClosingLaws.{statement_closed, statement_no_end, NoEnd}

-- a token that no statement goes on with, and that no statement's pays stops at
pub record Apart (t : Token) : Type 0 where
  pub no_else : is "else" t ≡ false
  pub no_on : is "on" t ≡ false
  pub no_in : is "in" t ≡ false
  pub no_semicolon : is ";" t ≡ false
  pub no_line : is "Newline" t ≡ false

pub record Opens (t : Token) : Type 0 where
  pub apart : Apart t
  pub no_stop : stops t ≡ false

-- the same token; or a token that begins a statement, and in its place another or End
pub data Far : List Token → List Token → Type 0 where
  near : {r r' : List Token} → Near r r' → Far r r'
  far : {r r' : List Token} → Opens (first r) → Apart (first r') → Far r r'

pub far_tail : Tail Far
far_tail = record {
  follows = record { near = λ r r' e. Far.near e; clear = clear };
  no_else = other;
  no_on = on;
  no_in = into;
  no_end = semi;
  stopped = stopped;
}
  where
    clear : (r r' : List Token) → Far r r' → is "Newline" (first r) ≡ false → is "Newline" (first r') ≡ false
    clear r r' (Far.near e) h = ap (λ t. is "Newline" t) e ∙ h
    clear r r' (far o a) h = a.no_line

    other : (r r' : List Token) → Far r r' → is "else" (first r') ≡ is "else" (first r)
    other r r' (Far.near e) = ap (λ t. is "else" t) e
    other r r' (far o a) = a.no_else ∙ sym o.apart.no_else

    on : (r r' : List Token) → Far r r' → is "on" (first r') ≡ is "on" (first r)
    on r r' (Far.near e) = ap (λ t. is "on" t) e
    on r r' (far o a) = a.no_on ∙ sym o.apart.no_on

    into : (r r' : List Token) → Far r r' → is "in" (first r') ≡ is "in" (first r)
    into r r' (Far.near e) = ap (λ t. is "in" t) e
    into r r' (far o a) = a.no_in ∙ sym o.apart.no_in

    semi : (r r' : List Token) → Far r r' → is ";" (first r') ≡ is ";" (first r)
    semi r r' (Far.near e) = ap (λ t. is ";" t) e
    semi r r' (far o a) = a.no_semicolon ∙ sym o.apart.no_semicolon

    stopped : (r r' : List Token) → Far r r' → stops (first r) ≡ true → Near r r'
    stopped r r' (Far.near e) h = e
    stopped r r' (far o a) h = absurd (true≢false (sym h ∙ o.no_stop))

-- the same token; or two that no statement goes on with, End among them
pub data Loose : List Token → List Token → Type 0 where
  near : {r r' : List Token} → Near r r' → Loose r r'
  loose : {r r' : List Token} → Apart (first r) → Apart (first r') → Loose r r'

loose_follows : Follows Loose
loose_follows = record { near = λ r r' e. Loose.near e; clear = clear }
  where
    clear : (r r' : List Token) → Loose r r' → is "Newline" (first r) ≡ false → is "Newline" (first r') ≡ false
    clear r r' (Loose.near e) h = ap (λ t. is "Newline" t) e ∙ h
    clear r r' (loose o a) h = a.no_line

loose_else : (r r' : List Token) → Loose r r' → is "else" (first r') ≡ is "else" (first r)
loose_else r r' (Loose.near e) = ap (λ t. is "else" t) e
loose_else r r' (loose o a) = a.no_else ∙ sym o.no_else

-- ---- what begins a statement

eqb_kind : (s : String) (t : Token) → is s t ≡ true → t ≡ record { kind = code s; from = t.from; text = t.text }
eqb_kind s t e = λ i. record { kind = sym (eqb-true (code s) t.kind e) i; from = t.from; text = t.text }

-- what no statement begins with: `else`, `on`, `in`, `;`, `)`
abbrev Stopped : Language → Type 0
Stopped W =
    (x : ℕ) (w : List ℕ) (us : List Token)
    → (statement W most_depth (record { kind = 49; from = x; text = w } ∷ us) ≡ wrong 8 x) × (statement W most_depth (record { kind = 50; from = x; text = w } ∷ us) ≡ wrong 8 x)
    × (statement W most_depth (record { kind = 51; from = x; text = w } ∷ us) ≡ wrong 8 x) × (statement W most_depth (record { kind = 48; from = x; text = w } ∷ us) ≡ wrong 8 x)
    × (statement W most_depth (record { kind = 41; from = x; text = w } ∷ us) ≡ wrong 8 x)

-- it computes in each edition
stopped : (e : Edition) (r c d : List (List ℕ)) → Stopped (record { edition = e; reserved = r; currencies = c; counters = d })
unfolding computing
stopped one r c d x w us = (refl, refl, refl, refl, refl)
stopped two r c d x w us = (refl, refl, refl, refl, refl)

module _ (W : Language) where
  never : Stopped W
  never = stopped W.edition W.reserved W.currencies W.counters

  not_begun : (s : String) → ((x : ℕ) (w : List ℕ) (us : List Token) → statement W most_depth (record { kind = code s; from = x; text = w } ∷ us) ≡ wrong 8 x)
      → (u : Token) (us : List Token) (t : Tree) (r : List Token) → statement W most_depth (u ∷ us) ≡ ok t r → is s u ≡ false
  not_begun s h u us t r e = go (is s u) refl
    where
      go : (b : Bool) → is s u ≡ b → b ≡ false
      go false q = refl
      go true q =
          let w : wrong 8 u.from ≡ ok t r = sym (ap (λ (x : Token). statement W most_depth (x ∷ us)) (eqb_kind s u q) ∙ h u.from u.text us) ∙ e in
          absurd (let z : ◌≡◌ {A = ℕ} 0 1 = cc in omega arith)

  pub begun : (u : Token) (us : List Token) (t : Tree) (r : List Token) → is "Newline" u ≡ false → is "End" u ≡ false → statement W most_depth (u ∷ us) ≡ ok t r → Opens u
  unfolding code
  begun u us t r n d e =
      let a = not_begun "else" (λ x w us. (never x w us).0) u us t r e in
      let b = not_begun "on" (λ x w us. (never x w us).1) u us t r e in
      let c = not_begun "in" (λ x w us. (never x w us).2) u us t r e in
      let f = not_begun ";" (λ x w us. (never x w us).3) u us t r e in
      let g = not_begun ")" (λ x w us. (never x w us).4) u us t r e in
      record {
        apart = record { no_else = a; no_on = b; no_in = c; no_semicolon = f; no_line = n };
        no_stop = λ i. f i || g i || b i || c i || d i;
      }

  -- ---- other tokens behind some statements

  -- The statements es at the front, with others behind them: head are their tokens. Whatever tokens z stand behind head instead, if their places are from δ on
  -- and what comes first can begin a statement or is End, the statements are es and then those of z
  pub record Kept (b : ℕ) (ts : List Token) (es es' : List Entry) : Type 0 where
    pub δ : ℕ
    pub head : List Token
    pub behind : List Token
    pub split : ts ≡ head ++ behind
    pub left : from W (b + δ) (map (back δ) behind) ≡ accepted es'
    pub goes : (y : List Token) → Apart (first (skip y)) → from W b (head ++ map (forth δ) y) ≡ prepend es (from W (b + δ) y)
    pub rest : List Token
    pub same : map (back δ) behind ≡ rest
    pub run : Run W b ts es δ rest
    pub opens : Opens (first rest)

  opens_back : (d : ℕ) (u : Token) → Opens (back d u) → Opens u
  opens_back d u o = record {
    apart = record { no_else = o.apart.no_else; no_on = o.apart.no_on; no_in = o.apart.no_in; no_semicolon = o.apart.no_semicolon; no_line = o.apart.no_line };
    no_stop = o.no_stop;
  }

  pub opens_of : {b : ℕ} {ts : List Token} {e : Entry} {es : List Entry} {δ : ℕ} {r : List Token} → Run W b ts (e ∷ es) δ r → Opens (first (skip ts))
  opens_of {ts = ts} (more nl u us t r s q n d h run) =
      subst (λ (l : List Token). Opens (first l)) (sym (ap skip s ∙ q (u ∷ us) ∙ skip_clear (u ∷ us) n))
      (opens_back u.from u (begun (back u.from u) (map (back u.from) us) t r n d h))

  pub run_clear : {b : ℕ} {ts : List Token} {e : Entry} {es : List Entry} {δ : ℕ} {r : List Token} → Run W b ts (e ∷ es) δ r → is "Newline" (first r) ≡ false
  run_clear (more nl u us t r s q n d h none) = reads_clear (statement_tail W most_depth near_tail (map (back u.from) (u ∷ us)) t r h)
  run_clear (more nl u us t r s q n d h (more nl₂ u₂ us₂ t₂ r₂ s₂ q₂ n₂ d₂ h₂ run)) = run_clear (more nl₂ u₂ us₂ t₂ r₂ s₂ q₂ n₂ d₂ h₂ run)

  from_skip : (b : ℕ) (y : List Token) → from W b (skip y) ≡ from W b y
  from_skip b y = from_eq W b (skip y) ∙ ap (turn W (from W) b) (skip_clear (skip y) (skip_first y)) ∙ sym (from_eq W b y)

  pub kept : (b : ℕ) (ts : List Token) (e e' : Entry) (es es' : List Entry) → from W b ts ≡ accepted (e ∷ es ++ (e' ∷ es')) → Kept b ts (e ∷ es) (e' ∷ es')
  kept b ts e e' es es' h =
      let L : Left W b ts (e ∷ es) (e' ∷ es') = from_run W (e ∷ es) (e' ∷ es') b ts h in
      let L₂ : Left W (b + L.0) L.1 (e' ∷ []) es' = from_run W (e' ∷ []) es' (b + L.0) L.1 L.3 in
      let o : Opens (first L.1) = subst (λ (l : List Token). Opens (first l)) (skip_clear L.1 (run_clear L.2)) (opens_of L₂.2) in
      let R : Replaced W Far b ts (e ∷ es) L.0 L.1 = run_tail W far_tail L.2 in
      record {
        δ = L.0;
        head = R.head;
        behind = R.behind;
        split = R.split;
        left = ap (from W (b + L.0)) R.left ∙ L.3;
        goes = λ y a.
            run_from W (R.goes (lead y) (skip y) (map (forth L.0) y) (skip_lead y) (far o a) (forth_back L.0 y ∙ lead_skip y))
            ∙ ap (prepend (e ∷ es)) (from_skip (b + L.0) y);
        rest = L.1;
        same = R.left;
        run = L.2;
        opens = o;
      }

  -- ---- statements of which the last ends in `;` or `}`

  abbrev pub Whole : List Token → ℕ → List Token → Type 0
  Whole ts δ r = (x y : List Token) → ts ≡ x ++ y → map (back δ) y ≡ r → (d : Token) → closes (last_of d x) ≡ true

  inner_whole : {c : ℕ} {ts : List Token} (nl : List Token) (u : Token) (us : List Token) (t : Tree) (r : List Token) {e : Entry} {es : List Entry} {δ : ℕ} {r' : List Token}
      → ts ≡ nl ++ (u ∷ us) → statement W most_depth (map (back u.from) (u ∷ us)) ≡ ok t r → Run W c r (e ∷ es) δ r' → Whole ts (u.from + δ) r' → Whole r δ r'
  inner_whole {c = b} {ts} nl u us t r {δ = δ} {r' = r'} s h run c x y w m d =
      let R : Replaced W Near b r _ δ r' = run_tail W near_tail run in
      let S : Step W Near u us t r = step_of W near_tail u us t r h in
      let X : Parts (back u.from) S.two x y = map_parts (back u.from) x S.two y (S.right ∙ w) in
      let d₀ : Token = last_of d (nl ++ (u ∷ S.tail)) in
      let l : length y ≡ length R.behind = omega (arith, length-map y (back δ), length-map R.behind (back δ), ap length m, ap length R.left) in
      let hd : x ≡ R.head = split_same x y R.head R.behind (sym w ∙ R.split) l in
      let all : ts ≡ nl ++ (u ∷ S.tail) ++ X.one ++ X.two
      = s ∙ ap (λ (k : List Token). nl ++ (u ∷ k)) (S.whole ∙ ap (λ k. S.tail ++ k) X.whole)
      ∙ sym (append_assoc nl (u ∷ S.tail) (X.one ++ X.two)) ∙ sym (append_assoc (nl ++ (u ∷ S.tail)) X.one X.two) in
      ap closes (ap (last_of d) hd ∙ R.real d d₀ ∙ ap (last_of d₀) (sym hd))
      ∙ ap (λ (k : List Token). closes (last_of d₀ k)) (sym X.left)
      ∙ last_map (back u.from) (λ t. refl) closes (λ t. refl) d₀ d₀ X.one refl
      ∙ ap closes (sym (last_append d (nl ++ (u ∷ S.tail)) X.one))
      ∙ c (nl ++ (u ∷ S.tail) ++ X.one) X.two all (sym (back_back W u.from δ X.two) ∙ ap (map (back δ)) X.right ∙ m) d

  pub run_closed : {b : ℕ} {ts : List Token} {e : Entry} {es : List Entry} {δ : ℕ} {r : List Token} → Run W b ts (e ∷ es) δ r → Whole ts δ r → Replaced W Loose b ts (e ∷ es) δ r
  run_closed (more nl u us t r s q n e h none) c =
      last_one W nl u us t r s q n e (step_by W u us t r (statement_closed loose_follows W loose_else most_depth (map (back u.from) (u ∷ us)) t r h
      (λ x w d k.
      let X : Parts (back u.from) (u ∷ us) x r = map_parts (back u.from) x (u ∷ us) r w in
      let o : u.from + 0 ≡ u.from = omega arith in
      ap (λ l. closes (last_of d l)) (sym X.left)
      ∙ last_map (back u.from) (λ t. refl) closes (λ t. refl) d d X.one refl
      ∙ ap (λ (v : Token). closes (last_of v X.one)) (sym (quiet_last W d nl (quiet_nil nl q)))
      ∙ ap closes (sym (last_append d nl X.one))
      ∙ c (nl ++ X.one) X.two (s ∙ ap (λ l. nl ++ l) X.whole ∙ sym (append_assoc nl X.one X.two)) (ap (λ (i : ℕ). map (back i) X.two) o ∙ X.right) d)))
  run_closed {b} {ts} (more nl u us t r {es} {δ} {r'} s q n e h (more nl₂ u₂ us₂ t₂ r₂ s₂ q₂ n₂ e₂ h₂ run)) c =
      in_front W nl u us t r s q n e h (run_closed (more nl₂ u₂ us₂ t₂ r₂ s₂ q₂ n₂ e₂ h₂ run) (inner_whole nl u us t r s h (more nl₂ u₂ us₂ t₂ r₂ s₂ q₂ n₂ e₂ h₂ run) c))

  -- ---- no run of statements reads End

  pub run_no_end : {b : ℕ} {ts : List Token} {e : Entry} {es : List Entry} {δ : ℕ} {r : List Token} → Run W b ts (e ∷ es) δ r
      → (x y : List Token) → ts ≡ x ++ y → map (back δ) y ≡ r → (d : Token) → is "End" (last_of d x) ≡ false
  run_no_end (more nl u us t r s q n e h none) x y w m d =
      let E : (used : List Token) × (map (back u.from) (u ∷ us) ≡ used ++ r) × NoEnd used = statement_no_end W most_depth (map (back u.from) (u ∷ us)) t r h in
      let X : Parts (back u.from) (u ∷ us) E.0 r = map_parts (back u.from) E.0 (u ∷ us) r E.1 in
      let l : length y ≡ length X.two = omega (arith, length-map y (back (u.from + 0)), length-map X.two (back u.from), ap length m, ap length X.right) in
      let hd : x ≡ nl ++ X.one = split_same x y (nl ++ X.one) X.two (sym w ∙ s ∙ ap (λ k. nl ++ k) X.whole ∙ sym (append_assoc nl X.one X.two)) l in
      ap (λ k. is "End" (last_of d k)) hd ∙ ap (λ t. is "End" t) (last_append d nl X.one)
      ∙ sym (last_map (back u.from) (λ t. refl) (λ t. is "End" t) (λ t. refl) (last_of d nl) (last_of d nl) X.one refl) ∙ ap (λ k. is "End" (last_of (last_of d nl) k)) X.left ∙ E.2 (last_of d nl)
  run_no_end (more nl u us t r {δ = δ} s q n e h (more nl₂ u₂ us₂ t₂ r₂ s₂ q₂ n₂ e₂ h₂ run)) x y w m d =
      let S : Step W Near u us t r = step_of W near_tail u us t r h in
      let R : Replaced W Near _ r _ δ _ = run_tail W near_tail (more nl₂ u₂ us₂ t₂ r₂ s₂ q₂ n₂ e₂ h₂ run) in
      let X : Parts (back u.from) S.two R.head R.behind = map_parts (back u.from) R.head S.two R.behind (S.right ∙ R.split) in
      let d₀ : Token = last_of d (nl ++ (u ∷ S.tail)) in
      let l : length y ≡ length X.two
      = omega (arith, length-map y (back (u.from + δ)), ap length m, length-map X.two (back u.from), ap length X.right, length-map R.behind (back δ), ap length R.left) in
      let hd : x ≡ nl ++ (u ∷ S.tail) ++ X.one
      = split_same x y (nl ++ (u ∷ S.tail) ++ X.one) X.two
      (sym w ∙ s ∙ ap (λ (k : List Token). nl ++ (u ∷ k)) (S.whole ∙ ap (λ k. S.tail ++ k) X.whole)
      ∙ sym (append_assoc nl (u ∷ S.tail) (X.one ++ X.two)) ∙ sym (append_assoc (nl ++ (u ∷ S.tail)) X.one X.two)) l in
      ap (λ k. is "End" (last_of d k)) hd ∙ ap (λ t. is "End" t) (last_append d (nl ++ (u ∷ S.tail)) X.one)
      ∙ sym (last_map (back u.from) (λ t. refl) (λ t. is "End" t) (λ t. refl) d₀ d₀ X.one refl) ∙ ap (λ k. is "End" (last_of d₀ k)) X.left
      ∙ run_no_end (more nl₂ u₂ us₂ t₂ r₂ s₂ q₂ n₂ e₂ h₂ run) R.head R.behind R.split R.left d₀

  -- where no statement is left, End comes first
  pub from_end : (b : ℕ) (r : List Token) → from W b r ≡ accepted [] → is "End" (first (skip r)) ≡ true
  unfolding turn onward code
  from_end b r h = go (skip r) (sym (from_eq W b r) ∙ h)
    where
      go₂ : (k : ℕ → List Token → Outcome) (s : ℕ) (vs : List Token) (o : Out Tree) → onward k s vs o ≡ accepted [] → ⊥
      go₂ k s vs (ok t x) w = go₃ (k s x) w
        where
          go₃ : (o : Outcome) → front (entry_of s vs t x) o ≡ accepted [] → ⊥
          go₃ (accepted es) v = let z : ◌≡◌ {A = ℕ} 0 1 = cc in omega arith
          go₃ (refused i p) v = let z : ◌≡◌ {A = ℕ} 0 1 = cc in omega arith
      go₂ k s vs (wrong i p) w = let z : ◌≡◌ {A = ℕ} 0 1 = cc in omega arith

      go₁ : (c : Bool) (k : ℕ → List Token → Outcome) (s : ℕ) (vs : List Token) (o : Out Tree)
          → ◌≡◌ {A = Outcome} (if c then accepted [] else onward k s vs o) (accepted []) → c ≡ true
      go₁ true k s vs o w = refl
      go₁ false k s vs o w = absurd (go₂ k s vs o w)

      go : (us : List Token) → turn W (from W) b us ≡ accepted [] → is "End" (first us) ≡ true
      go us w = go₁ (is "End" (first us)) (from W) (b + (first us).from) (map (back (first us).from) us) (statement W most_depth (map (back (first us).from) us)) w

  -- ---- a text in front of other tokens

  -- a text's tokens tn, with End f behind them, have the statements ns, and the last token is `;` or `}`. With others behind instead of End, these statements come first
  pub record Mid (b : ℕ) (tn : List Token) (fin : Token) (ns : List Entry) : Type 0 where
    pub δ : ℕ
    pub goes : (y : List Token) → Apart (first (skip y)) → from W b (tn ++ map (forth δ) y) ≡ prepend ns (from W (b + δ) y)
    pub left : List Token
    pub run : Run W b (tn ++ (fin ∷ [])) ns δ left
    pub alone : (x y : List Token) → tn ++ (fin ∷ []) ≡ x ++ y → map (back δ) y ≡ left → x ≡ tn

  -- there is no End among the tokens
  abbrev pub None : List Token → Type 0
  None tn = (x : List Token) (t : Token) (y : List Token) → tn ≡ x ++ (t ∷ y) → is "End" t ≡ false

  pub only_end : (f g : Token) (tn x gs : List Token) → None tn → is "End" g ≡ true → tn ++ (f ∷ []) ≡ x ++ (g ∷ gs) → x ≡ tn
  only_end f g [] [] gs n e w = refl
  only_end f g [] (c ∷ x) gs n e w = let z : [] ≡ x ++ (g ∷ gs) = cc in nil_not g gs x (sym z)
  only_end f g (c ∷ tn) [] gs n e w =
      let z : c ≡ g = cc in absurd (true≢false (sym e ∙ ap (λ t. is "End" t) (sym z) ∙ n [] c tn refl))
  only_end f g (c ∷ tn) (c' ∷ x) gs n e w =
      let z : c ≡ c' = cc in
      let v : tn ++ (f ∷ []) ≡ x ++ (g ∷ gs) = cc in
      λ i. sym z i ∷ only_end f g tn x gs (λ x' t y' w'. n (c ∷ x') t y' (ap {B = List Token} (λ l. c ∷ l) w')) e v i

  pub end_apart : (t : Token) → is "End" t ≡ true → Apart t
  unfolding code
  end_apart t e =
      let k : 0 ≡ t.kind = eqb-true 0 t.kind e in
      record {
        no_else = ap (eqb 49) (sym k);
        no_on = ap (eqb 50) (sym k);
        no_in = ap (eqb 51) (sym k);
        no_semicolon = ap (eqb 48) (sym k);
        no_line = ap (eqb 55) (sym k);
      }

  end_counts : (f : Token) → is "End" f ≡ true → counts f ≡ true
  end_counts f e = ap not (end_apart f e).no_line

  pub last_end_lem : (d f : Token) (tn : List Token) → is "End" f ≡ true → last_of d (tn ++ (f ∷ [])) ≡ f
  unfolding last_of
  last_end_lem d f tn e = last_append d tn (f ∷ []) ∙ ap (λ (c : Bool). if c then f else last_of d tn) (end_counts f e)

  pub mid : (b : ℕ) (tn : List Token) (f : Token) (n : Entry) (ns : List Entry) → None tn → is "End" f ≡ true → from W b (tn ++ (f ∷ [])) ≡ accepted (n ∷ ns)
      → ((d : Token) → closes (last_of d tn) ≡ true) → Mid b tn f (n ∷ ns)
  mid b tn f n ns nn fe h cl =
      record {
        δ = δ;
        goes = λ y a.
            ap (λ l. from W b (l ++ map (forth δ) y)) (sym (head_is RC.head RC.behind RC.split RC.left))
            ∙ run_from W (RC.goes (lead y) (skip y) (map (forth δ) y) (skip_lead y) (loose (end_apart (first r) end_first) a) (forth_back δ y ∙ lead_skip y))
            ∙ ap (prepend (n ∷ ns)) (from_skip (b + δ) y);
        left = r;
        run = L.2;
        alone = head_is;
      }
    where
      L : Left W b (tn ++ (f ∷ [])) (n ∷ ns) []
      L = from_run W (n ∷ ns) [] b (tn ++ (f ∷ [])) (h ∙ ap accepted (sym (append-nil (n ∷ ns))))

      δ : ℕ
      δ = L.0

      r : List Token
      r = L.1

      end_first : is "End" (first r) ≡ true
      end_first = ap (λ l. is "End" (first l)) (sym (skip_clear r (run_clear L.2))) ∙ from_end (b + δ) r L.3

      head_is : (x y : List Token) → tn ++ (f ∷ []) ≡ x ++ y → map (back δ) y ≡ r → x ≡ tn
      head_is x [] w m =
          absurd (true≢false (sym fe ∙ ap (λ t. is "End" t) (sym (last_end_lem f f tn fe)) ∙ ap (λ l. is "End" (last_of f l)) (w ∙ append-nil x) ∙ run_no_end L.2 x [] w m f))
      head_is x (g ∷ gs) w m = only_end f g tn x gs nn (ap (λ l. is "End" (first l)) m ∙ end_first) w

      RC : Replaced W Loose b (tn ++ (f ∷ [])) (n ∷ ns) δ r
      RC = run_closed L.2 (λ x y w m d. ap (λ l. closes (last_of d l)) (head_is x y w m) ∙ cl d)
