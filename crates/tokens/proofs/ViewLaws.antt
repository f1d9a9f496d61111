-- The walk from token to token: one token at a time, and that it meets the tokens of the text.
use mathlib.Core.Path.{◌≡◌, refl, sym, ap, ◌∙◌, subst}
use mathlib.Core.Bool.{Bool, true, false}
use mathlib.Core.List.{List, [], ◌∷◌}
use Prim.Native.Nat.{ℕ, zero, suc, ◌+◌, ◌-◌, ◌≤◌, ◌<◌}
use native.Mathlib.Omega.{arith}
use lib.Dec.{eqb, leb}
use lib.ListN.{length, get_or, drop}
use borrow.Author.Tests.{eqb-true, eqb-false, leb-true, leb-false, lt-leb}
use Rattle.tokens.specs.Tokens.{Token, Lexed, lexed, refused, before, final, finished, scan, tokens}
use Rattle.tokens.specs.Kinds.{kind_of, kind_by}
use Rattle.tokens.specs.Lexing.{final as ended, mark_at, token_of, found_by, step_at}
use Rattle.tokens.specs.Views.{passed, place_after, token_after}
use Rattle.tokens.specs.declared.lexing.Mark.{Mark}
use Rattle.tokens.specs.Found.{Found}
use Rattle.tokens.specs.Found as found
use Rattle.tokens.proofs.MarkLaws.{start_at}
use Rattle.tokens.proofs.ScanLaws.{mark_again, end_mark, scan_end, scan_fault, scan_token, token_within, token_end, mark_within, step_fault}

-- ---- one token at a time

module _ (s : List ℕ) where
  -- a place that is not passed once is never passed
  pub after_same : (at k : ℕ) → passed (step_at s at) ≡ at → at ≡ place_after s at k
  unfolding place_after
  after_same at zero e = refl
  after_same at (suc k) e = after_same at k e ∙ ap (λ (p : ℕ). place_after s p k) (sym e)

  -- the first of some tokens is passed, and the others are left
  pub after_more : (at p k : ℕ) → p ≡ passed (step_at s at) → 0 < k → place_after s p (k - 1) ≡ place_after s at k
  unfolding place_after
  after_more at p zero e h = absurd (omega arith)
  after_more at p (suc k) e h =
      let q : suc k - 1 ≡ k = omega arith in
      rw q (ap (λ (x : ℕ). place_after s x k) e)

  pub after_none : (at k : ℕ) → k ≡ 0 → at ≡ place_after s at k
  unfolding place_after
  after_none at zero e = refl
  after_none at (suc k) e = absurd (omega arith)

-- ---- the tokens that are met

-- a token of the definition, as the token step answers it
abbrev pub found_of : Token → Found
found_of t = found.Token (record { start = t.from; end = t.from + length t.text; kind = kind_of t.kind t.text })

-- of a text of n bytes: x is its token k, and the end where it has fewer. Where the text is refused, x is a token, and that only before the m-th, or that refusal
abbrev pub Agrees : ℕ → ℕ → ℕ → Lexed → Found → Type 0
Agrees n m k (lexed ts) x = x ≡ found_of (get_or ts k (final n))
Agrees n m k (refused f p) (found.Token t) = k < m
Agrees n m k (refused f p) (found.Refused g r) = (g ≡ f) × (r ≡ p)

agrees_first : (n m : ℕ) (t : Token) (l : Lexed) → 0 < m → Agrees n m 0 (finished n (before t l)) (found_of t)
agrees_first n m t (lexed ts) h = refl
agrees_first n m t (refused f p) h = h

agrees_later : (n m k : ℕ) (t : Token) (l : Lexed) (x : Found) → Agrees n (m - 1) k (finished n l) x → Agrees n m (suc k) (finished n (before t l)) x
agrees_later n m k t (lexed ts) x a = a
agrees_later n m k t (refused f p) (found.Token u) a = omega arith
agrees_later n m k t (refused f p) (found.Refused g r) a = a

ends_alone : (n k : ℕ) → get_or (final n ∷ []) k (final n) ≡ final n
ends_alone n zero = refl
ends_alone n (suc k) = refl

agrees_refused : (n m k f p : ℕ) (x : Found) → found.Refused f p ≡ x → Agrees n m k (refused f p) x
agrees_refused n m k f p x e = subst (Agrees n m k (refused f p)) e (refl, refl)

module _ (s : List ℕ) (at : ℕ) where
  abbrev N : Mark
  N = mark_at s at

  -- the end, a fault or a token stands there
  by_code : (P : Type 0) → (N.code ≡ 0 → P) → (100 ≤ N.code → P) → ((N.code ≡ 0 → ⊥) → N.code < 100 → P) → P
  by_code P f g h = go (eqb N.code 0) refl (leb 100 N.code) refl
    where
      go : (t : Bool) → eqb N.code 0 ≡ t → (u : Bool) → leb 100 N.code ≡ u → P
      go true e u d = f (eqb-true _ _ e)
      go false e true d = g (leb-true _ _ d)
      go false e false d = h (eqb-false _ _ e) (leb-false _ _ d)

  step_again : step_at s N.start ≡ step_at s at
  unfolding step_at
  step_again = ap (found_by s) (mark_again s at)

  -- where one step gets no further than the start of what stands there, so do many, and the answer stays
  stays : passed (step_at s at) ≡ N.start → (k : ℕ) → step_at s at ≡ step_at s (place_after s at k)
  unfolding place_after
  stays e zero = refl
  stays e (suc k) = sym step_again ∙ ap (step_at s) (after_same s N.start k (ap passed step_again ∙ e) ∙ ap (λ (p : ℕ). place_after s p k) (sym e))

  module _ (h : at ≤ length s) (z : N.code ≡ 0) where
    end_start : N.start ≡ length s
    end_start = omega (arith, (end_mark s at z).0, (mark_within s at (length s) h (omega arith)).0)

    step_end : step_at s at ≡ found_of (final (length s))
    unfolding step_at
    step_end =
        let q : length s ≡ length s + 0 = omega arith in
        ap (found_by s) ((end_mark s at z).1 ∙ ap ended end_start) ∙ ap (λ (p : ℕ). found.Token (record { start = length s; end = p; kind = kind_by 0 })) q

    agrees_end : (m k : ℕ) → Agrees (length s) m k (finished (length s) (scan 0 at (drop at s))) (step_at s (place_after s at k))
    agrees_end m k =
        let p : passed (step_at s at) ≡ N.start = ap passed step_end ∙ omega (arith, end_start) in
        rw (scan_end s at z) (sym (stays p k) ∙ (step_end ∙ ap found_of (sym (ends_alone (length s) k))))

  agrees_fault : 100 ≤ N.code → (m k : ℕ) → Agrees (length s) m k (finished (length s) (scan 0 at (drop at s))) (step_at s (place_after s at k))
  agrees_fault z m k =
      let r = step_fault s at N refl z in
      rw (scan_fault s at z) (agrees_refused (length s) m k (N.code - 100) N.start (step_at s (place_after s at k)) (r ∙ stays (sym (ap passed r)) k))

  module _ (some : N.code ≡ 0 → ⊥) (whole : N.code < 100) where
    step_token : found_of (token_of s N) ≡ step_at s at
    unfolding step_at
    step_token = rw (lt-leb 100 N.code whole, token_end s at some whole)

    agrees_here : (m : ℕ) → 0 < m → Agrees (length s) m 0 (finished (length s) (scan 0 at (drop at s))) (step_at s at)
    agrees_here m h = rw (scan_token s at some whole, ← step_token) (agrees_first (length s) m (token_of s N) (scan 0 N.end (drop N.end s)) h)

    agrees_on : (m k : ℕ) → Agrees (length s) (m - 1) k (finished (length s) (scan 0 N.end (drop N.end s))) (step_at s (place_after s N.end k))
        → Agrees (length s) m (suc k) (finished (length s) (scan 0 at (drop at s))) (step_at s (place_after s at (suc k)))
    unfolding place_after
    agrees_on m k a =
        let e : passed (step_at s at) ≡ N.end = ap passed (sym step_token) ∙ token_end s at some whole in
        rw (scan_token s at some whole, e) (agrees_later (length s) m k (token_of s N) (scan 0 N.end (drop N.end s)) (step_at s (place_after s N.end k)) a)

-- the tokens from a place on, with m bytes or fewer ahead
agrees : (s : List ℕ) (k m at : ℕ) → at ≤ length s → length s ≤ at + m → Agrees (length s) m k (finished (length s) (scan 0 at (drop at s))) (step_at s (place_after s at k))
unfolding place_after
agrees s zero m at h l =
    by_code s at _ (λ z. agrees_end s at h z m 0) (λ z. agrees_fault s at z m 0) (λ some whole.
    agrees_here s at some whole m (omega (arith, start_at s at, token_within s at some whole)))
agrees s (suc k) m at h l =
    let on = agrees s k (m - 1) (mark_at s at).end in
    by_code s at _ (λ z. agrees_end s at h z m (suc k)) (λ z. agrees_fault s at z m (suc k)) (λ some whole.
    agrees_on s at some whole m k (on (token_within s at some whole).1 (omega (arith, start_at s at, token_within s at some whole))))

-- the token behind k others is the one that the text's tokens have there; in a refused text the refusal comes at the latest behind as many as it has bytes
pub tokens_met : (s : List ℕ) (k : ℕ) → Agrees (length s) (length s) k (tokens s) (token_after s k)
unfolding tokens
tokens_met s k = agrees s k (length s) 0 (omega arith) (omega arith)
