-- 18, told by the statements and two bytes: no token of the new text is needed.
use mathlib.Core.Path.{◌≡◌, refl, sym, ap, ◌∙◌}
use mathlib.Core.Bool.{Bool, true, ◌&&◌, ◌||◌}
use mathlib.Core.List.{List, [], ◌∷◌, ◌++◌}
use Prim.Native.Nat.{ℕ, ◌-◌, ◌≤◌}
use native.Mathlib.Omega.{arith}
use lib.Dec.{eqb}
use lib.ListN.{length, get_or, length-append}
use borrow.Author.Tests.{ne_eqb, eq-eqb}
use Rattle.tokens.specs.Text.{count}
use Rattle.tokens.specs.Tokens.{counts, end_of}
use Rattle.tokens.proofs.Closers.{closer}
use Rattle.grammar.specs.Readers.{first, last_of, closes}
use Rattle.grammar.specs.Grammar.{Language}
use Rattle.grammar.specs.Script.{Entry, accepted, tokens_of}
use Rattle.grammar.proofs.ReachLaws.{none_end}
use Rattle.grammar.proofs.AmendBytes.{Text, text_tokens, tokens_append}
use Rattle.grammar.proofs.Endings.{Snoc, nil, snoc, snoc_of, LastToken, last_token}
use Rattle.amending.specs.Amend.{well_ended, ends_well, last_end, ends_by}

pub last_end_lem : (p : ℕ) (es : List Entry) (e : Entry) → last_end p (es ++ (e ∷ [])) ≡ e.end
last_end_lem p [] e = refl
last_end_lem p (x ∷ es) e = last_end_lem x.end es e

module _ (W : Language) where
  -- 18 is told by the statements' last end byte and by two bytes
  pub ends_by_lem : (n : List ℕ) (ns : List Entry) → Text W n ns → ends_well n ≡ ends_by n ns
  unfolding ends_well
  ends_by_lem n ns X = ap (well_ended n) X.scanned ∙ go (snoc_of ns)
    where
      both : ℕ → Bool → Bool → Bool
      both i a b = (eqb (length n) 0 || eqb (get_or n (length n - 1) 0) 10 || eqb i (length n)) && (a || b)

      Goal : Type 0
      Goal = both (end_of 0 X.toks) (eqb (count counts X.toks) 0) (closes (last_of (first []) X.toks)) ≡ both (last_end 0 ns) (eqb (length ns) 0) (closer (get_or n (last_end 0 ns - 1) 0))

      go : Snoc ns → Goal
      go (nil h) =
          let c : count counts X.toks ≡ 0 = text_tokens W X ∙ ap tokens_of h in
          (λ i. both ((none_end 0 X.toks c ∙ ap (last_end 0) (sym h)) i) ((eq-eqb (count counts X.toks) 0 c ∙ ap (λ (es : List Entry). eqb (length es) 0) (sym h)) i) (closes (last_of (first []) X.toks)))
          ∙ shut_by (last_end 0 ns) (eqb (length ns) 0) (closes (last_of (first []) X.toks)) (closer (get_or n (last_end 0 ns - 1) 0)) (ap (λ (es : List Entry). eqb (length es) 0) h)
        where
          shut_by : (i : ℕ) (a b c : Bool) → a ≡ true → both i a b ≡ both i a c
          shut_by i a b c e = ap (λ (x : Bool). both i x b) e ∙ ap (λ (x : Bool). both i x c) (sym e)
      go (snoc es e h) =
          let Y : LastToken W n X.toks e = last h in
          let t : last_end 0 ns ≡ e.end = ap (last_end 0) h ∙ last_end_lem 0 es e in
          let k : 1 ≤ count counts X.toks = omega (arith, text_tokens W X, ap tokens_of h, tokens_append es (e ∷ []), Y.some) in
          let m : 1 ≤ length ns = omega (arith, ap length h, length-append es (e ∷ [])) in
          λ i. both ((Y.ends ∙ sym t) i) ((ne_eqb (count counts X.toks) 0 (λ q. omega arith) ∙ sym (ne_eqb (length ns) 0 (λ q. omega arith))) i)
          ((Y.shuts (first []) ∙ ap (λ (j : ℕ). closer (get_or n (j - 1) 0)) (sym t)) i)
        where
          last : ns ≡ es ++ (e ∷ []) → LastToken W n X.toks e
          last q = last_token W es e (record { toks = X.toks; scanned = X.scanned; reads = X.reads ∙ ap accepted q })
