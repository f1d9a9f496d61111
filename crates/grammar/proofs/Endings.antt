-- The last token of a text is its last statement's, and it is `;` or `}` where its last byte is.
use mathlib.Core.Path.{◌≡◌, refl, sym, ap, ◌∙◌}
use mathlib.Core.List.{List, [], ◌∷◌, ◌++◌, append_assoc}
use Prim.Native.Nat.{ℕ, ◌-◌, ◌≤◌}
use lib.ListN.{length, get_or}
use Rattle.tokens.specs.Text.{count}
use Rattle.tokens.specs.Tokens.{Token, lexed, final, code, counts, end_of}
use Rattle.tokens.proofs.Shapes.{Behind, token_end}
use Rattle.tokens.proofs.Closers.{closer, token_closes}
use Rattle.grammar.specs.Readers.{first, is, skip, last_of, closes}
use Rattle.grammar.specs.Grammar.{Language}
use Rattle.grammar.specs.Script.{Entry}
use Rattle.grammar.proofs.AmendLaws.{None, from_end}
use Rattle.grammar.proofs.ReachLaws.{Ahead, ahead, none_tokens, end_last, last_last}
use Rattle.grammar.proofs.AmendBytes.{Text, init_split, text_asc, text_none}

-- ---- the last statement

pub data Snoc (ns : List Entry) : Type 0 where
  nil : ns ≡ [] → Snoc ns
  snoc : (es : List Entry) (e : Entry) → ns ≡ es ++ (e ∷ []) → Snoc ns

pub snoc_of : (ns : List Entry) → Snoc ns
snoc_of [] = nil refl
snoc_of (x ∷ ns) = go (snoc_of ns)
  where
    go : Snoc ns → Snoc (x ∷ ns)
    go (nil h) = snoc [] x (ap {B = List Entry} (λ l. x ∷ l) h)
    go (snoc es e h) = snoc (x ∷ es) e (ap {B = List Entry} (λ l. x ∷ l) h)

module _ (W : Language) where
  -- the last token of a text is the last statement's
  pub record LastToken (n : List ℕ) (toks : List Token) (e : Entry) : Type 0 where
    pub ends : end_of 0 toks ≡ e.end
    pub shuts : (d : Token) → closes (last_of d toks) ≡ closer (get_or n (e.end - 1) 0)
    pub some : 1 ≤ e.tokens

  pub last_token : {n : List ℕ} (es : List Entry) (e : Entry) (X : Text W n (es ++ (e ∷ []))) → LastToken n X.toks e
  unfolding code
  last_token {n} es e X =
      let F : Token = final (length n) in
      let A : Ahead W (X.toks ++ (F ∷ [])) es e [] = ahead W es (X.toks ++ (F ∷ [])) e [] X.reads (text_asc W X) in
      let J = init_split X.toks (A.head ++ A.xs) A.two F A.w refl A.last_one
      (A.split ∙ ap (λ l. A.head ++ l) A.tail ∙ sym (append_assoc A.head A.xs (A.w ∷ A.two))) in
      let none : None W J.0 = λ x t y q.
      text_none W X (A.head ++ A.xs ++ (A.w ∷ x)) t y (J.1 ∙ ap (λ (l : List Token). A.head ++ A.xs ++ (A.w ∷ l)) q ∙ sym (append_assoc (A.head ++ A.xs) (A.w ∷ x) (t ∷ y))) in
      let c : count counts J.0 ≡ 0
      = none_tokens W J.0 (F ∷ []) none (ap (λ l. is "End" (first (skip l))) (sym J.2) ∙ from_end W 0 A.two A.rest) in
      let B : Behind n A.w J.0 = token_end n (A.head ++ A.xs) A.w J.0 (X.scanned ∙ ap lexed J.1) in
      record {
        ends = ap (end_of 0) J.1 ∙ end_last 0 (A.head ++ A.xs) A.w J.0 c A.last_counts ∙ sym A.end;
        shuts = λ d.
            ap (λ l. closes (last_of d l)) J.1 ∙ ap closes (last_last d (A.head ++ A.xs) A.w J.0 c A.last_counts)
            ∙ token_closes n (A.head ++ A.xs) A.w J.0 (X.scanned ∙ ap lexed J.1) B.some ∙ ap (λ (i : ℕ). closer (get_or n (i - 1) 0)) (sym A.end);
        some = A.some;
      }
