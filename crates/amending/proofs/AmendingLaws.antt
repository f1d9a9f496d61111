-- Calls: an accepted one leaves a script that reads as its statements, any number of them do, and the grounds are exact.
use Rattle.std.specs.Prelude.{if◌then◌else◌}
use mathlib.Core.Path.{◌≡◌, refl, sym, ap, ◌∙◌, subst}
use mathlib.Core.Bool.{Bool, true, false, ◌||◌, not, true≢false}
use mathlib.Core.List.{List, [], ◌∷◌, ◌++◌, map}
use mathlib.Core.Option.{Option, none, some}
use Prim.Native.Nat.{ℕ, zero, suc, ◌-◌, ◌≤◌}
use native.Mathlib.Omega.{arith}
use lib.Dec.{T, ltb}
use lib.ListN.{length}
use borrow.Author.Tests.{ltb-false}
use Rattle.tokens.specs.Limits.{most_bytes, most_tokens}
use Rattle.tokens.specs.Text.{other}
use Rattle.tokens.specs.Names.{Lists}
use Rattle.grammar.specs.Grammar.{Edition}
use Rattle.grammar.specs.Trees.{records}
use Rattle.grammar.specs.Script.{Entry, Outcome, accepted, refused, nodes, read_script, moved_entry, tokens_of, no_zero}
use Rattle.grammar.specs.Words.{words_of}
use Rattle.grammar.proofs.AmendBytes.{append_every}
use Rattle.grammar.proofs.WordLaws.{words_append, words_moved}
use Rattle.amending.specs.Amend.{ends_well, replaced, between, amended_list}
use Rattle.amending.specs.Amending.{State, Rooms, Pick, onto, pick, over, Answer, done, refusal, fitting, put, amend_at, amend, left, after, Good, anew}
use Rattle.amending.proofs.AmendLaw.{replaced_no_zero, tokens_amended, amend_law, amend_exact}

-- ---- the statement, those before it and those behind it

pub pick_is : {A : Type 0} (k : ℕ) (es : List A) (p : Pick A) → pick k es ≡ some p → (es ≡ p.before ++ (p.one ∷ p.behind)) × (length p.before ≡ k)
unfolding pick
pick_is {A} k [] p h = absurd (let z : ◌≡◌ {A = ℕ} 0 1 = cc in omega arith)
pick_is {A} zero (e ∷ es) p h =
    let z : record { before = []; one = e; behind = es } ≡ p = cc in
    (ap (λ (x : Pick A). x.before ++ (x.one ∷ x.behind)) z, sym (ap (λ (x : Pick A). length x.before) z))
pick_is {A} (suc k) (e ∷ es) p h = go (pick k es) refl h (pick_is k es)
  where
    go : (o : Option (Pick A)) → pick k es ≡ o → onto e o ≡ some p → ((q : Pick A) → pick k es ≡ some q → (es ≡ q.before ++ (q.one ∷ q.behind)) × (length q.before ≡ k))
        → (e ∷ es ≡ p.before ++ (p.one ∷ p.behind)) × (length p.before ≡ suc k)
    go none w v ih = absurd (let z : ◌≡◌ {A = ℕ} 0 1 = cc in omega arith)
    go (some q) w v ih =
        let z : record { before = e ∷ q.before; one = q.one; behind = q.behind } ≡ p = cc in
        (ap {B = List A} (λ x. e ∷ x) (ih q w).0 ∙ ap (λ (x : Pick A). x.before ++ (x.one ∷ x.behind)) z, sym (ap (λ (x : Pick A). length x.before) z) ∙ ap suc (ih q w).1)

-- ---- what is not over the rooms is within them

module _ (R : Rooms) where
  pub record Within (b : List ℕ) (es : List Entry) : Type 0 where
    pub bytes : length b ≤ R.bytes
    pub tokens : tokens_of es ≤ R.tokens
    pub records : nodes es ≤ R.records
    pub statements : length es ≤ R.statements

  pub within : (b : List ℕ) (es : List Entry) → over R b es ≡ false → Within b es
  unfolding over
  within b es h = go (ltb R.bytes (length b)) refl (ltb R.tokens (tokens_of es)) refl (ltb R.records (nodes es)) refl (ltb R.statements (length es)) refl h
    where
      go : (x : Bool) → ltb R.bytes (length b) ≡ x → (y : Bool) → ltb R.tokens (tokens_of es) ≡ y → (z : Bool) → ltb R.records (nodes es) ≡ z → (w : Bool) → ltb R.statements (length es) ≡ w
          → x || (y || (z || w)) ≡ false → Within b es
      go true e y f z g w i q = absurd (true≢false q)
      go false e true f z g w i q = absurd (true≢false q)
      go false e false f true g w i q = absurd (true≢false q)
      go false e false f false g true i q = absurd (true≢false q)
      go false e false f false g false i q =
          record { bytes = ltb-false R.bytes (length b) e; tokens = ltb-false R.tokens (tokens_of es) f; records = ltb-false R.records (nodes es) g; statements = ltb-false R.statements (length es) i }

-- ---- calls

module _ (E : Edition) (l : Lists) (R : Rooms) where
  -- the rooms are within the capacities
  module _ (bytes-cap : R.bytes ≤ most_bytes) (tokens-cap : R.tokens ≤ most_tokens) where
    -- what a call does where neither 17, 19, 1 to 15 nor 18 refuses it
    module _ (st : State) (G : Good E l R st) (p : Pick Entry) (at : st.entries ≡ p.before ++ (p.one ∷ p.behind)) (n : List ℕ) (clear : T (no_zero n)) (ns : List Entry) (new : read_script E l n ≡ accepted ns)
        (ends : T (ends_well n)) where
      whole : List ℕ
      whole = replaced st.script p.one n

      list : List Entry
      list = amended_list p.before p.one p.behind (length n) ns

      whole_read : over R whole list ≡ false → read_script E l whole ≡ accepted list
      unfolding whole list
      whole_read o =
          let w : Within R whole list = within R whole list o in
          amend_law E l st.script n p.before p.behind ns p.one (append_every (other 0) st.script n G.clear clear) (G.read ∙ ap accepted at) new ends
          (omega (arith, w.bytes)) (omega (arith, w.tokens, tokens_amended p.before p.one p.behind (length n) ns))

      whole_good : over R whole list ≡ false → Good E l R (record { script = whole; entries = list })
      unfolding whole
      whole_good o = record { clear = replaced_no_zero st.script p.one n G.clear clear; read = whole_read o; room = o }

      whole_only : (xs : List Entry) → read_script E l whole ≡ accepted xs → xs ≡ list
      unfolding whole list
      whole_only xs h = (amend_exact E l st.script n p.before p.behind ns xs p.one (append_every (other 0) st.script n G.clear clear) (G.read ∙ ap accepted at) new ends h).0

    bool_T : (b : Bool) → b ≡ true → T b
    bool_T true e = tt
    bool_T false e = absurd (true≢false (sym e))

    -- an accepted call leaves a script that reads as the statements that it leaves
    pub amend_good : (st : State) → Good E l R st → (k : ℕ) (n : List ℕ) (st' : State) → amend E l R st k n ≡ done st' → Good E l R st'
    unfolding amend amend_at put fitting whole list
    amend_good st G k n st' h = go₁ (pick k st.entries) refl h
      where
        go₄ : (p : Pick Entry) → st.entries ≡ p.before ++ (p.one ∷ p.behind) → no_zero n ≡ true → (ns : List Entry) → read_script E l n ≡ accepted ns → ends_well n ≡ true → (o : Bool)
            → over R (replaced st.script p.one n) (amended_list p.before p.one p.behind (length n) ns) ≡ o
            → (if o then refusal 16 (length n) else done (record { script = replaced st.script p.one n; entries = amended_list p.before p.one p.behind (length n) ns })) ≡ done st' → Good E l R st'
        go₄ p at z ns r w true o v = absurd (let q : ◌≡◌ {A = ℕ} 0 1 = cc in omega arith)
        go₄ p at z ns r w false o v =
            let q : record { script = replaced st.script p.one n; entries = amended_list p.before p.one p.behind (length n) ns } ≡ st' = cc in
            subst (λ (x : State). Good E l R x) q (whole_good st G p at n (bool_T (no_zero n) z) ns r (bool_T (ends_well n) w) o)

        go₃ : (p : Pick Entry) → st.entries ≡ p.before ++ (p.one ∷ p.behind) → no_zero n ≡ true → (o : Outcome) → read_script E l n ≡ o → (t : Bool) → ends_well n ≡ t → put E l R st p n o ≡ done st' → Good E l R st'
        go₃ p at z (refused f q) r t w v = absurd (let x : ◌≡◌ {A = ℕ} 0 1 = cc in omega arith)
        go₃ p at z (accepted ns) r false w v =
            let x : refusal 18 (length n) ≡ done st'
            = ap (λ (b : Bool). if not b then refusal 18 (length n) else fitting R (length n) (replaced st.script p.one n) (amended_list p.before p.one p.behind (length n) ns)) (sym w) ∙ v in
            absurd (let y : ◌≡◌ {A = ℕ} 0 1 = cc in omega arith)
        go₃ p at z (accepted ns) r true w v =
            go₄ p at z ns r w (over R (replaced st.script p.one n) (amended_list p.before p.one p.behind (length n) ns)) refl
            (ap (λ (b : Bool). if not b then refusal 18 (length n) else fitting R (length n) (replaced st.script p.one n) (amended_list p.before p.one p.behind (length n) ns)) (sym w) ∙ v)

        go₂ : (p : Pick Entry) → st.entries ≡ p.before ++ (p.one ∷ p.behind) → (t : Bool) → no_zero n ≡ t → (if not t then refusal 19 0 else put E l R st p n (read_script E l n)) ≡ done st' → Good E l R st'
        go₂ p at true z v = go₃ p at z (read_script E l n) refl (ends_well n) refl v
        go₂ p at false z v = absurd (let y : ◌≡◌ {A = ℕ} 0 1 = cc in omega arith)

        go₁ : (o : Option (Pick Entry)) → pick k st.entries ≡ o → amend_at E l R st n o ≡ done st' → Good E l R st'
        go₁ none e v = absurd (let y : ◌≡◌ {A = ℕ} 0 1 = cc in omega arith)
        go₁ (some p) e v = go₂ p (pick_is k st.entries p e).0 (no_zero n) refl v

    -- ANY NUMBER OF CALLS, refused ones among them, leave a script that reads as the statements that they leave
    pub amends_good : (cs : List (ℕ × List ℕ)) (st : State) → Good E l R st → Good E l R (after E l R st cs)
    amends_good [] st G = G
    amends_good (c ∷ cs) st G = amends_good cs (left st (amend E l R st c.0 c.1)) (go (amend E l R st c.0 c.1) refl)
      where
        go : (o : Answer) → amend E l R st c.0 c.1 ≡ o → Good E l R (left st o)
        go (done st') e = amend_good st G c.0 c.1 st' e
        go (refusal f p) e = G

    -- ---- 16 is exact

    -- where neither 17, 19, 1 to 15 nor 18 refuses it, a call answers what reading the whole new script would
    pub amend_is_reading : (st : State) → Good E l R st → (k : ℕ) (n : List ℕ) (p : Pick Entry) → pick k st.entries ≡ some p → T (no_zero n) → (ns : List Entry) → read_script E l n ≡ accepted ns → T (ends_well n)
        → amend E l R st k n ≡ anew R (length n) (replaced st.script p.one n) (read_script E l (replaced st.script p.one n))
    unfolding amend amend_at put fitting whole list
    amend_is_reading st G k n p e z ns r w =
        ap (amend_at E l R st n) e
        ∙ ap (λ (b : Bool). if not b then refusal 19 0 else put E l R st p n (read_script E l n)) (T-bool (no_zero n) z)
        ∙ ap (put E l R st p n) r
        ∙ ap (λ (b : Bool). if not b then refusal 18 (length n) else fitting R (length n) b₁ xs) (T-bool (ends_well n) w)
        ∙ go (over R b₁ xs) refl
      where
        b₁ : List ℕ
        b₁ = replaced st.script p.one n

        xs : List Entry
        xs = amended_list p.before p.one p.behind (length n) ns

        at : st.entries ≡ p.before ++ (p.one ∷ p.behind)
        at = (pick_is k st.entries p e).0

        T-bool : (b : Bool) → T b → b ≡ true
        T-bool true q = refl
        T-bool false q = absurd q

        over_16 : over R b₁ xs ≡ true → (o : Outcome) → read_script E l b₁ ≡ o → refusal 16 (length n) ≡ anew R (length n) b₁ o
        over_16 o (accepted ys) q =
            sym (ap (λ (x : List Entry). fitting R (length n) b₁ x) (whole_only st G p at n z ns r w ys q)
            ∙ ap (λ (b : Bool). if b then refusal 16 (length n) else done (record { script = b₁; entries = xs })) o)
        over_16 o (refused f q') q = refl

        go : (o : Bool) → over R b₁ xs ≡ o → (if o then refusal 16 (length n) else done (record { script = b₁; entries = xs })) ≡ anew R (length n) b₁ (read_script E l b₁)
        go true o = over_16 o (read_script E l b₁) refl
        go false o =
            sym (ap (anew R (length n) b₁) (whole_read st G p at n z ns r w o) ∙ ap (λ (b : Bool). if b then refusal 16 (length n) else done (record { script = b₁; entries = xs })) o)

-- ---- the records of the statements that are kept are the same words, in the same order

words_between : (a b : ℕ) (x : List Entry) → words_of (map (between a b) x) ≡ words_of x
words_between a b [] = refl
words_between a b (e ∷ x) = ap (λ (l : List ℕ). records e.tree ++ l) (words_between a b x)

-- those of es, of the new text read alone, of es'
pub words_amended : (es : List Entry) (e : Entry) (es' : List Entry) (n : ℕ) (ns : List Entry) → words_of (amended_list es e es' n ns) ≡ words_of es ++ (words_of ns ++ words_of es')
words_amended es e es' n ns =
    words_append es (map (moved_entry e.start) ns ++ map (between n (e.end - e.start)) es')
    ∙ ap (λ (k : List ℕ). words_of es ++ k) (words_append (map (moved_entry e.start) ns) (map (between n (e.end - e.start)) es')
    ∙ (λ i. words_moved e.start ns i ++ words_between n (e.end - e.start) es' i))
