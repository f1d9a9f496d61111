-- Laws of judging: what the scan and the reader of all statements answer is the judgement.
use Rattle.std.specs.Prelude.{Result, Ok, Err, if◌then◌else◌}
use mathlib.Core.Path.{◌≡◌, refl, sym, ap, ◌∙◌, subst}
use mathlib.Core.Bool.{Bool, true, false, ◌&&◌}
use mathlib.Core.List.{List, [], ◌∷◌, ◌++◌}
use Prim.Native.Nat.{ℕ, suc, ◌+◌, ◌-◌, ◌≤◌}
use native.Mathlib.Omega.{arith}
use native.Mathlib.Nat.{zero-add}
use lib.Dec.{T, eqb, ltb}
use lib.ListN.{length, take, drop}
use borrow.Author.Tests.{eqb-true, eqb-false, ltb-false}
use Rattle.tokens.specs.Limits.{most_bytes, most_tokens}
use Rattle.tokens.specs.Text.{script, leading, every, other, count}
use Rattle.tokens.specs.Names.{Lists, good_list, good_lists}
use Rattle.tokens.specs.Tokens.{Token, Lexed, lexed, refused as faulty, scan, final, code, counts, end_of, tokens}
use Rattle.tokens.specs.Lexing.{script_end, summary, scan_of}
use Rattle.tokens.specs.ScriptEnd.{ScriptEnd}
use Rattle.tokens.specs.ScriptEnd as ends
use Rattle.tokens.specs.Scanned.{Scanned}
use Rattle.tokens.specs.Scanned as scanned
use Rattle.tokens.proofs.Shapes.{leading_le}
use Rattle.tokens.proofs.TextLaws.{script_length}
use Rattle.tokens.proofs.NameLaws.{good_few}
use Rattle.grammar.specs.Grammar.{Edition}
use Rattle.grammar.specs.Script.{refused, no_zero, of_tokens, read_script, statements, from, language, tokens_of}
use Rattle.reading.specs.Meets.{listed, toks_at}
use Rattle.reading.specs.Few.{Few}
use Rattle.reading.specs.Scripts.{Clean, ReadsAll}
use Rattle.tokens.specs.declared.refusals.Refusal.{Refusal}
use Rattle.tokens.proofs.Outcomes.{one_refusal}
use Rattle.reading.specs.declared.judging.Counts.{Counts}
use Rattle.reading.specs.Judging.{good, rejected, judged, judged_of, last_end, judgement, text_judgement}
use Rattle.grammar.proofs.ScriptLaws.{count_append}
use Rattle.grammar.proofs.AmendBytes.{Text, script_all, text_tokens}

-- ---- the end of a script

module _ (bs : List ℕ) where
  pub script_in : length (script bs) ≤ length bs
  script_in = omega (arith, script_length bs, leading_le (other 0) bs)

  pub script_take : take (length (script bs)) bs ≡ script bs
  unfolding script
  script_take = ap (λ (n : ℕ). take n bs) (script_length bs)

  -- where the end is found, and how long the script then is
  pub end_found : {n : ℕ} → script_end bs ≡ ends.At n → (n ≡ length (script bs)) × (ltb most_bytes (length (script bs)) ≡ false)
  unfolding script_end
  end_found {n} e = go (ltb most_bytes (length (script bs))) refl e
    where
      go : (b : Bool) → ltb most_bytes (length (script bs)) ≡ b → ◌≡◌ {A = ScriptEnd} (if b then ends.Refused 1 0 else ends.At (length (script bs))) (ends.At n)
          → (n ≡ length (script bs)) × (ltb most_bytes (length (script bs)) ≡ false)
      go true p q = absurd (let z : ◌≡◌ {A = ℕ} 0 1 = cc in omega arith)
      go false p q = (cc, p)

  pub end_short : {n : ℕ} → script_end bs ≡ ends.At n → (n ≤ 16384) × (n ≤ length bs)
  end_short e = let F = end_found e in (omega (arith, ltb-false most_bytes (length (script bs)) F.1, F.0), omega (arith, F.0, script_in))

  module _ (E : Edition) (l : Lists) where
    pub judge_long : {k p : ℕ} → script_end bs ≡ ends.Refused k p → judgement E l bs ≡ rejected k p
    unfolding script_end judgement read_script
    judge_long {k} {p} e = go (ltb most_bytes (length (script bs))) refl e
      where
        go : (b : Bool) → ltb most_bytes (length (script bs)) ≡ b → ◌≡◌ {A = ScriptEnd} (if b then ends.Refused 1 0 else ends.At (length (script bs))) (ends.Refused k p)
            → judged_of (length (script bs)) (last_end (script bs)) (read_script E l bs) ≡ rejected k p
        go true t q =
            let x : ◌≡◌ {A = ℕ} 1 k = cc in
            let y : ◌≡◌ {A = ℕ} 0 p = cc in
            rw t (λ i. rejected (x i) (y i))
        go false t q = absurd (let z : ◌≡◌ {A = ℕ} 0 1 = cc in omega arith)

    pub judge_lists : {n : ℕ} → script_end bs ≡ ends.At n → good_lists l ≡ false → judgement E l bs ≡ rejected 2 0
    unfolding judgement read_script
    judge_lists e g = rw ((end_found e).1, g)

    pub judge_rest : {n : ℕ} → script_end bs ≡ ends.At n → good_lists l ≡ true → judgement E l bs ≡ text_judgement E l (take n bs)
    unfolding judgement read_script text_judgement
    judge_rest {n} e g =
        let p : take n bs ≡ script bs = ap (λ (i : ℕ). take i bs) (end_found e).0 ∙ script_take in
        rw (p, (end_found e).1, g)

-- ---- zero bytes

all_clear : (n : List ℕ) → leading (other 0) n ≡ length n → no_zero n ≡ true
unfolding leading every
all_clear [] e = refl
all_clear (b ∷ n) e = step (other 0 b) (all_clear n) e
  where
    step : (t : Bool) → (leading (other 0) n ≡ length n → no_zero n ≡ true) → (elim t as (λ _. ℕ) [ true ↦ suc (leading (other 0) n) | false ↦ 0 ]) ≡ suc (length n)
        → elim t as (λ _. Bool) [ true ↦ no_zero n | false ↦ false ] ≡ true
    step true f e = f (omega arith)
    step false f e = absurd (omega arith)

-- none is found before the end where there is none
pub clear_is : (n : List ℕ) {k : ℕ} → k ≡ 0 + leading (other 0) (drop 0 n) → eqb k (length n) ≡ no_zero n
clear_is n {k} q = go (eqb k (length n)) (no_zero n) refl refl
  where
    go : (a b : Bool) → eqb k (length n) ≡ a → no_zero n ≡ b → a ≡ b
    go true b e f = sym (all_clear n (omega (arith, q, eqb-true k (length n) e))) ∙ f
    go false true e f = absurd (eqb-false k (length n) e (omega (arith, q, script_length n, ap length (script_all n (subst T (sym f) tt)))))
    go false false e f = refl

-- ---- a text

-- a text that the scan lets pass
pub record Passed (s : List ℕ) (c e : ℕ) : Type 0 where
  pub toks : List Token
  pub scanned : scan 0 0 s ≡ lexed toks
  pub few : ltb most_tokens (count counts toks) ≡ false
  pub count_is : c ≡ count counts toks
  pub end_is : e ≡ end_of 0 toks

pub passed : (s : List ℕ) {c e : ℕ} → scan_of s ≡ scanned.Counted c e → Passed s c e
unfolding scan_of
passed s {c} {e} h = go (scan 0 0 s) refl h
  where
    go₁ : (ts : List Token) → scan 0 0 s ≡ lexed ts → (b : Bool) → ltb most_tokens (count counts ts) ≡ b
        → ◌≡◌ {A = Scanned} (if b then scanned.Refused 7 (length s) else scanned.Counted (count counts ts) (end_of 0 ts)) (scanned.Counted c e) → Passed s c e
    go₁ ts p true q h = absurd (let z : ◌≡◌ {A = ℕ} 0 1 = cc in omega arith)
    go₁ ts p false q h =
        let x : count counts ts ≡ c = cc in
        let y : end_of 0 ts ≡ e = cc in
        record { toks = ts; scanned = p; few = q; count_is = sym x; end_is = sym y }

    go : (x : Lexed) → scan 0 0 s ≡ x → summary 0 0 (length s) x ≡ scanned.Counted c e → Passed s c e
    go (lexed ts) p h = go₁ ts p (ltb most_tokens (count counts ts)) refl (rw zero-add at h)
    go (faulty f q) p h = absurd (let z : ◌≡◌ {A = ℕ} 0 1 = cc in omega arith)

-- the tokens from the first byte on, and the end
pub toks_all : (s : List ℕ) {ts : List Token} → scan 0 0 s ≡ lexed ts → toks_at s 0 ≡ ts ++ (final (length s) ∷ [])
unfolding toks_at
toks_all s h = rw h

-- End is counted too
end_counted : (ts : List Token) (n : ℕ) → count counts (ts ++ (final n ∷ [])) - 1 ≡ count counts ts
unfolding count code
end_counted ts n = omega (arith, count_append ts (final n ∷ []))

module _ (E : Edition) (l : Lists) (s : List ℕ) where
  pub text_refused : {k p : ℕ} → scan_of s ≡ scanned.Refused k p → text_judgement E l s ≡ rejected k p
  unfolding scan_of text_judgement tokens of_tokens
  text_refused {k} {p} h = go (scan 0 0 s) refl h
    where
      go₁ : (ts : List Token) → scan 0 0 s ≡ lexed ts → (b : Bool) → ltb most_tokens (count counts ts) ≡ b
          → ◌≡◌ {A = Scanned} (if b then scanned.Refused 7 (length s) else scanned.Counted (count counts ts) (end_of 0 ts)) (scanned.Refused k p)
          → judged_of (length s) (last_end s) (of_tokens E l (length s) (tokens s)) ≡ rejected k p
      go₁ ts q true r h =
          let x : ◌≡◌ {A = ℕ} 7 k = cc in
          let y : length s ≡ p = cc in
          rw (q, end_counted ts (length s), r) (λ i. rejected (x i) (y i))
      go₁ ts q false r h = absurd (let z : ◌≡◌ {A = ℕ} 0 1 = cc in omega arith)

      go : (x : Lexed) → scan 0 0 s ≡ x → summary 0 0 (length s) x ≡ scanned.Refused k p → judged_of (length s) (last_end s) (of_tokens E l (length s) (tokens s)) ≡ rejected k p
      go (lexed ts) q h = go₁ ts q (ltb most_tokens (count counts ts)) refl (rw zero-add at h)
      go (faulty f b) q h =
          let x : f ≡ k = cc in
          let y : b ≡ p = cc in
          rw q (λ i. rejected (x i) (y i))

  module _ {c e : ℕ} (P : Passed s c e) where
    pub text_clean : length s ≤ most_bytes → Clean s
    text_clean h = record { short = h; tokens = P.toks; scanned = P.scanned }

    passed_is : of_tokens E l (length s) (tokens s) ≡ statements (language E l) (toks_at s 0)
    unfolding tokens of_tokens
    passed_is = rw (P.scanned, toks_all s P.scanned, end_counted P.toks (length s), P.few)

    pub text_not : {k p : ℕ} → statements (language E l) (toks_at s 0) ≡ refused k p → text_judgement E l s ≡ rejected k p
    unfolding text_judgement
    text_not h = ap (judged_of (length s) (last_end s)) (passed_is ∙ h)

    pub text_good : {o d o' d' : List ℕ} {k n x : ℕ} → ReadsAll (statements (language E l) (toks_at s 0)) o d k n x o' d'
        → text_judgement E l s ≡ good (record { bytes = length s; statements = k; records = n; tokens = c; last = e })
    unfolding text_judgement statements
    text_good {k = k} {n = n} R =
        let X : Text (language E l) s R.entries = record { toks = P.toks; scanned = P.scanned; reads = ap (from (language E l) 0) (sym (toks_all s P.scanned)) ∙ R.is } in
        let v : tokens_of R.entries ≡ c = sym (text_tokens (language E l) X) ∙ sym P.count_is in
        let w : last_end s ≡ e = ap (λ (x : Lexed). end_of 0 (listed x)) P.scanned ∙ sym P.end_is in
        ap (judged_of (length s) (last_end s)) (passed_is ∙ R.is)
        ∙ (λ i. good (record { bytes = length s; statements = sym R.statements_are i; records = sym R.records_are i; tokens = v i; last = w i }))

-- ---- good lists

pub lists_few : (l : Lists) → good_lists l ≡ true → Few l.currencies
unfolding good_lists
lists_few l = go (good_list false l.reserved) (good_list true l.currencies) refl
  where
    go : (a b : Bool) → good_list true l.currencies ≡ b → (a && (b && good_list false l.counters)) ≡ true → Few l.currencies
    go true true e h = good_few true l.currencies e
    go true false e h = absurd (let z : ◌≡◌ {A = ℕ} 0 1 = cc in omega arith)
    go false b e h = absurd (let z : ◌≡◌ {A = ℕ} 0 1 = cc in omega arith)

-- ---- two judgements of one script are the same

pub one_judged : (a b : Result Counts Refusal) → judged a ≡ judged b → a ≡ b
one_judged (Ok c) (Ok d) e = let p : c ≡ d = cc in ap (λ (x : Counts). Ok x) p
one_judged (Ok c) (Err y) e = absurd (cc)
one_judged (Err x) (Ok d) e = absurd (cc)
one_judged (Err x) (Err y) e = ap (λ (z : Refusal). Err z) (one_refusal x y (cc) (cc))
