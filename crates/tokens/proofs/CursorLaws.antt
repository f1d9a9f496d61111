-- The cursor: the first token at or behind a place that is no Newline.
use mathlib.Core.Path.{◌≡◌, refl, sym, ap, ◌∙◌, subst}
use mathlib.Core.Bool.{Bool, true, false}
use mathlib.Core.List.{List, [], ◌∷◌}
use Prim.Native.Nat.{ℕ, zero, suc, ◌+◌, ◌-◌, ◌≤◌, ◌<◌}
use native.Mathlib.Omega.{arith}
use lib.Dec.{eqb}
use borrow.Author.Tests.{ne_eqb, eq-eqb}
use lib.ListN.{length, get_or, take, drop, length-take, drop_of_length-le}
use lib.Seq.{drop-drop}
use Rattle.tokens.specs.Limits.{most_bytes}
use Rattle.tokens.specs.Tokens.{code}
use Rattle.tokens.specs.Lexing.{lexeme_at, mark_at, settled, settle_from, cursor_of, cursor_at}
use Rattle.tokens.specs.declared.lexing.Mark.{Mark}
use Rattle.tokens.proofs.Cuts.{Wide, lexeme_wide}
use Rattle.tokens.proofs.Shapes.{lexeme_fits}
use Rattle.tokens.proofs.LexLaws.{front}
use Rattle.tokens.proofs.MarkLaws.{skip_at}
use Rattle.tokens.proofs.ScanLaws.{Stands, over, token, faulty, stands, newline_is, mark_within, mark_progress}

settle_drop : (d : Bool) (k p : ℕ) (bs : List ℕ) → k ≤ length bs → settle_from d k p bs ≡ settle_from d 0 (p + k) (drop k bs)
unfolding settle_from
settle_drop d zero p bs h = let q : p ≡ p + 0 = omega arith in ap (λ (x : ℕ). settle_from d 0 x bs) q
settle_drop d (suc k) p [] h = absurd (omega arith)
settle_drop d (suc k) p (b ∷ bs) h =
    let q : suc p + k ≡ p + suc k = omega arith in settle_drop d k (suc p) bs (omega arith) ∙ ap (λ (x : ℕ). settle_from d 0 x (drop k bs)) q

module _ (s : List ℕ) (at : ℕ) (d : Bool) where
  abbrev L : Mark
  L = mark_at s at

  settle_start : settle_from d 0 at (drop at s) ≡ settle_from d 0 L.start (drop L.start s)
  unfolding settle_from
  settle_start = skip_at (settle_from d) (λ k p b bs. refl) (λ p b bs n e. rw (e, settle_from)) s at

  settle_front : L.start < length s → settle_from d 0 at (drop at s)
      ≡ settled L.start (λ c n. settle_from c (n - 1) (suc L.start) (drop (L.start + 1) s)) d (lexeme_at s L.start)
  unfolding settle_from
  settle_front h = settle_start ∙ (rw (front s L.start h))

  -- any token but a Newline stays
  pub settle_here : (L.code ≡ 55 → ⊥) → settle_from d 0 at (drop at s) ≡ (d, L)
  unfolding settle_from
  settle_here z = go (stands s at)
    where
      go : Stands s L → settle_from d 0 at (drop at s) ≡ (d, L)
      go (over h q) = settle_start ∙ (rw (drop_of_length-le s h) (ap (λ (m : Mark). (d, m)) (sym q)))
      go (token κ n h e q) =
          let k : eqb (code "Newline") κ ≡ false = rw newline_is (ne_eqb 55 κ (λ p. z (ap (λ (m : Mark). m.code) q ∙ sym p))) in
          settle_front h ∙ (rw (e, k) (ap (λ (m : Mark). (d, m)) (sym q)))
      go (faulty f h e q) = settle_front h ∙ (rw e (ap (λ (m : Mark). (d, m)) (sym q)))

  -- a Newline is passed over
  pub settle_line : L.code ≡ 55 → settle_from d 0 at (drop at s) ≡ settle_from true 0 L.end (drop L.end s)
  settle_line z = go (stands s at)
    where
      go : Stands s L → settle_from d 0 at (drop at s) ≡ settle_from true 0 L.end (drop L.end s)
      go (over h q) = absurd (omega (arith, z, ap (λ (m : Mark). m.code) q))
      go (token κ n h e q) =
          let w : 1 ≤ n = subst Wide e (lexeme_wide (get_or s L.start 0) (drop (L.start + 1) s)) in
          let g : n ≤ suc (length (drop (L.start + 1) s)) = rw e at (lexeme_fits (get_or s L.start 0) (drop (L.start + 1) s)) in
          let k : eqb (code "Newline") κ ≡ true = rw newline_is (eq-eqb 55 κ (sym z ∙ ap (λ (m : Mark). m.code) q)) in
          let l : L.end ≡ L.start + n = ap (λ (m : Mark). m.end) q in
          let p : suc L.start + (n - 1) ≡ L.start + n = omega arith in
          let r : L.start + 1 + (n - 1) ≡ L.start + n = omega arith in
          settle_front h
          ∙ (rw (e, k, l) (settle_drop true (n - 1) (suc L.start) (drop (L.start + 1) s) (omega arith) ∙ (rw (drop-drop (n - 1) (L.start + 1) s, p, r))))
      go (faulty f h e q) = absurd (omega (arith, z, ap (λ (m : Mark). m.code) q))

pub script_short : (s t : List ℕ) → t ≡ take most_bytes s → length t ≤ 16384
script_short s t e = omega (arith, ap length e, length-take most_bytes s)

-- a turn of the loop: it has reached the place i of the text t, and m is the mark there
module _ (s t : List ℕ) (is : t ≡ take most_bytes s) (at i : ℕ) (d : Bool) (m : Mark) (mark : m ≡ mark_at t i) (reach : i ≤ 65535)
    (ahead : settle_from d 0 i (drop i t) ≡ settle_from false 0 at (drop at t)) where
  pub cursor_fits : (m.start ≤ 65535) × (m.end ≤ 65535) × (m.code < 256)
  cursor_fits = rw mark (mark_within t i 65535 reach (omega (arith, script_short s t is)))

  pub cursor_here : (m.code ≡ 55 → ⊥) → (taken last : ℕ) → cursor_of taken last (d, m) ≡ cursor_at (take most_bytes s) at taken last
  unfolding cursor_at
  cursor_here h taken last = rw (← is) (ap (cursor_of taken last) (ap (λ (x : Mark). (d, x)) mark ∙ (sym (settle_here t i d (rw mark at h)) ∙ ahead)))

  pub cursor_line : m.code ≡ 55 → settle_from true 0 m.end (drop m.end t) ≡ settle_from false 0 at (drop at t)
  cursor_line h = rw mark (sym (settle_line t i d (rw mark at h)) ∙ ahead)

  pub cursor_less : m.code ≡ 55 → (i < m.end) × (m.end ≤ length t)
  cursor_less h = mark_progress t i 0 0 m mark (λ z. omega (arith, h, z)) (omega arith)
