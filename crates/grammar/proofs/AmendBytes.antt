-- Texts: bytes and the statements that they have. One text behind another, a text cut at a statement, and what an accepted script is.
use Rattle.std.specs.Prelude.{if◌then◌else◌}
use mathlib.Core.Path.{◌≡◌, refl, sym, ap, ◌∙◌, subst}
use mathlib.Core.Bool.{Bool, true, false, ◌&&◌, ◌||◌, not, true≢false}
use mathlib.Core.List.{List, [], ◌∷◌, ◌++◌, append_assoc, map, map-append}
use Prim.Native.Nat.{ℕ, zero, suc, ◌+◌, ◌-◌, ◌≤◌, ◌<◌}
use native.Mathlib.Omega.{arith}
use lib.Dec.{T, ltb, eqb}
use lib.Seq.{take_at, take-length}
use lib.ListN.{length, take, drop, get_or, length-append, length-drop}
use borrow.Author.Tests.{eqb-true, ne_eqb, ltb-false, le-ltb}
use Rattle.tokens.specs.Limits.{most_bytes, most_tokens}
use Rattle.tokens.specs.Text.{leading, every, count, script, other}
use Rattle.tokens.specs.Names.{Lists, good_lists}
use Rattle.tokens.specs.Tokens.{Token, Lexed, lexed, refused as faulty, scan, tokens, finished, final, code, counts, end_of}
use Rattle.tokens.proofs.Joins.{Joint, over, joined, scan_join}
use Rattle.tokens.proofs.Cuts.{further, scan_further, Start, token_start}
use Rattle.tokens.proofs.Shapes.{Sorted, scan_sorted, Behind, token_end}
use Rattle.grammar.specs.Readers.{first, is, last_of, closes}
use Rattle.grammar.specs.Grammar.{Edition, Language}
use Rattle.grammar.specs.Script.{Entry, Outcome, accepted, refused, from, statements, language, of_tokens, read_script, moved_entry, tokens_of, no_zero}
use Rattle.grammar.proofs.Laws.{nil_not}
use Rattle.grammar.proofs.ScriptLaws.{forth, moved, from_forth, from_moved, prepend, prepend_accepted, count_append}
use Rattle.grammar.proofs.SealLaws.{unsealed}
use Rattle.grammar.proofs.Seams.{Calm, calm_joint, calm_line, calm_end, last_split, front_joint, none_last, last_any}
use Rattle.grammar.proofs.AmendLaws.{None}
use Rattle.grammar.proofs.ReachLaws.{Asc, sorted_asc, Ahead, ahead, Goes, apart_of, Ending, bare, shut, text_goes, tokens_exact}

-- ---- a text's tokens

sorted_none : (W : Language) (i j : ℕ) (ts : List Token) → Sorted i j ts → None W ts
unfolding code
sorted_none W i j [] s x t y e = nil_not t y x (sym e)
sorted_none W i j (u ∷ ts) s [] t y e =
    let z : u ≡ t = cc in ap (λ (v : Token). eqb 0 v.kind) (sym z) ∙ ne_eqb 0 u.kind (λ q. omega (arith, s.1))
sorted_none W i j (u ∷ ts) s (c ∷ x) t y e = sorted_none W u.from j ts s.2 x t y (cc)

-- a token of a script with End behind it that is not End
pub init_split : (l x us : List Token) (f u : Token) → is "End" f ≡ true → is "End" u ≡ false → l ++ (f ∷ []) ≡ x ++ (u ∷ us)
    → (us' : List Token) × (l ≡ x ++ (u ∷ us')) × (us ≡ us' ++ (f ∷ []))
init_split [] [] us f u h n e = let z : f ≡ u = cc in absurd (true≢false (sym h ∙ ap (λ t. is "End" t) z ∙ n))
init_split [] (c ∷ x) us f u h n e = let z : [] ≡ x ++ (u ∷ us) = cc in nil_not u us x (sym z)
init_split (c ∷ l) [] us f u h n e =
    let z : c ≡ u = cc in
    let y : l ++ (f ∷ []) ≡ us = cc in
    (l, (λ i. z i ∷ l), sym y)
init_split (c ∷ l) (c' ∷ x) us f u h n e =
    let z : c ≡ c' = cc in
    let R = init_split l x us f u h n (cc) in
    (R.0, (λ i. z i ∷ R.1 i), R.2)

module _ (W : Language) where
  -- the bytes bs have the statements es, limits aside
  pub record Text (bs : List ℕ) (es : List Entry) : Type 0 where
    pub toks : List Token
    pub scanned : scan 0 0 bs ≡ lexed toks
    pub reads : from W 0 (toks ++ (final (length bs) ∷ [])) ≡ accepted es

  -- the bytes p have the statements es whatever text stands behind
  pub record Fore (p : List ℕ) (es : List Entry) : Type 0 where
    pub toks : List Token
    pub scanned : scan 0 0 p ≡ lexed toks
    pub goes : Goes W toks es (length p)
    pub joint : (q : List ℕ) → Joint q 0 p

  -- ---- one text behind another

  final_forth : (p q : List ℕ) → final (length (p ++ q)) ≡ forth (length p) (final (length q))
  final_forth p q = let e : length (p ++ q) ≡ length q + length p = omega (arith, length-append p q) in λ i. final (e i)

  pub join : {p q : List ℕ} {es fs : List Entry} → Fore p es → Text q fs → Text (p ++ q) (es ++ map (moved_entry (length p)) fs)
  join {p} {q} {es} {fs} F T =
      let Z : List Token = T.toks ++ (final (length q) ∷ []) in
      let s : scan 0 (0 + length p) q ≡ lexed (map (forth (length p)) T.toks) = scan_further (length p) 0 0 q ∙ ap (further (length p)) T.scanned in
      record {
        toks = F.toks ++ map (forth (length p)) T.toks;
        scanned = scan_join q 0 (F.joint q) ∙ (λ i. joined (F.scanned i) (s i));
        reads = ap (from W 0)
            (append_assoc F.toks (map (forth (length p)) T.toks) (final (length (p ++ q)) ∷ [])
            ∙ ap (λ (t : Token). F.toks ++ (map (forth (length p)) T.toks ++ (t ∷ []))) (final_forth p q)
            ∙ ap (λ l. F.toks ++ l) (sym (map-append (forth (length p)) T.toks (final (length q) ∷ []))))
            ∙ F.goes Z (apart_of W 0 Z fs T.reads)
            ∙ ap (prepend es) (from_moved W 0 (length p) Z ∙ ap (moved (length p)) T.reads)
            ∙ prepend_accepted es (map (moved_entry (length p)) fs);
      }

  -- ---- a script cut at a statement

  pub text_asc : {bs : List ℕ} {es : List Entry} (T : Text bs es) → Asc 0 (T.toks ++ (final (length bs) ∷ []))
  text_asc {bs} T = let e : 0 + length bs ≡ length bs = omega arith in sorted_asc 0 (length bs) T.toks (subst (λ (j : ℕ). Sorted 0 j T.toks) e (scan_sorted 0 0 bs T.toks T.scanned))

  pub text_none : {bs : List ℕ} {es : List Entry} (T : Text bs es) → None W T.toks
  text_none {bs} T = sorted_none W 0 (0 + length bs) T.toks (scan_sorted 0 0 bs T.toks T.scanned)

  semicolon : Token
  semicolon = record { kind = 48; from = 0; text = [] }

  semicolon_sealed : unsealed semicolon ≡ false
  unfolding code semicolon
  semicolon_sealed = refl

  -- what stands before it and behind it are texts of their own
  pub record Cut (s : List ℕ) (es : List Entry) (e : Entry) (es' : List Entry) : Type 0 where
    pub fore : Fore (take e.start s) es
    pub others : List Entry
    pub aft : Text (drop e.end s) others
    pub same : map (moved_entry e.end) others ≡ es'
    pub order : e.start < e.end
    pub inside : e.end ≤ length s
    pub some : 1 ≤ e.tokens

  further_back : (c : ℕ) (ys : List Token) (o : Lexed) → further c o ≡ lexed ys → (zs : List Token) × (o ≡ lexed zs) × (map (forth c) zs ≡ ys)
  further_back c ys (lexed zs) h = (zs, refl, cc)
  further_back c ys (faulty f p) h = absurd (let z : ◌≡◌ {A = ℕ} 0 1 = cc in omega arith)

  moved_back : (c : ℕ) (es : List Entry) (o : Outcome) → moved c o ≡ accepted es → (zs : List Entry) × (o ≡ accepted zs) × (map (moved_entry c) zs ≡ es)
  moved_back c es (accepted zs) h = (zs, refl, cc)
  moved_back c es (refused f p) h = absurd (let z : ◌≡◌ {A = ℕ} 0 1 = cc in omega arith)

  pub cut_at : {s : List ℕ} (es : List Entry) (e : Entry) (es' : List Entry) → Text s (es ++ (e ∷ es')) → Cut s es e es'
  unfolding code
  cut_at {s} es e es' X =
      let A : Ahead W (X.toks ++ (final (length s) ∷ [])) es e es' = ahead W es (X.toks ++ (final (length s) ∷ [])) e es' X.reads (text_asc X) in
      let I = init_split X.toks A.head A.us (final (length s)) A.u refl A.no_end A.split in
      let S : Start 0 0 s A.head A.u I.0 = token_start s 0 0 A.head A.u I.0 (X.scanned ∙ ap lexed I.1) in
      let n : length S.one ≡ e.start = omega (arith, S.place, A.start) in
      let n' : A.u.from ≡ length S.one = omega (arith, S.place) in
      let t : S.one ≡ take e.start s = sym (ap (take e.start) S.whole ∙ take_at S.one S.two e.start n) in
      let J = init_split X.toks (A.head ++ A.xs) A.two (final (length s)) A.w refl A.last_one
      (A.split ∙ ap (λ l. A.head ++ l) A.tail ∙ sym (append_assoc A.head A.xs (A.w ∷ A.two))) in
      let B : Behind s A.w J.0 = token_end s (A.head ++ A.xs) A.w J.0 (X.scanned ∙ ap lexed J.1) in
      let sc : scan 0 (0 + e.end) (drop e.end s) ≡ lexed J.0
      = ap (λ (i : ℕ). scan 0 i (drop e.end s)) (zero_plus e.end) ∙ subst (λ (i : ℕ). scan 0 i (drop i s) ≡ lexed J.0) (sym A.end) B.after in
      let Z = further_back e.end J.0 (scan 0 0 (drop e.end s)) (sym (scan_further e.end 0 0 (drop e.end s)) ∙ sc) in
      let fin : e.end ≤ length s = omega (arith, A.end, B.inside) in
      let two : A.two ≡ map (forth e.end) (Z.0 ++ (final (length (drop e.end s)) ∷ []))
      = J.2 ∙ (λ i. sym Z.2 i ∷' ends s e.end fin i) ∙ sym (map-append (forth e.end) Z.0 (final (length (drop e.end s)) ∷ [])) in
      let M = moved_back e.end es' (from W 0 (Z.0 ++ (final (length (drop e.end s)) ∷ [])))
      (sym (from_moved W 0 e.end (Z.0 ++ (final (length (drop e.end s)) ∷ []))) ∙ sym (from_forth W 0 e.end (Z.0 ++ (final (length (drop e.end s)) ∷ []))) ∙ ap (from W 0) (sym two) ∙ A.rest) in
      record {
        fore = subst (λ (p : List ℕ). Fore p es) t (record {
          toks = A.head;
          scanned = S.left;
          goes = subst (λ (i : ℕ). Goes W A.head es i) n' A.goes;
          joint = front_joint S A.line semicolon (A.keeps semicolon semicolon_sealed);
        });
        others = M.0;
        aft = record { toks = Z.0; scanned = Z.1; reads = M.1 };
        same = M.2;
        order = omega (arith, A.start, A.end, A.more, B.some);
        inside = fin;
        some = A.some;
      }
    where
      infixr 67 ◌∷'◌
      ◌∷'◌ : List Token → Token → List Token
      ◌∷'◌ l t = l ++ (t ∷ [])

      zero_plus : (i : ℕ) → 0 + i ≡ i
      zero_plus i = omega arith

      ends : (b : List ℕ) (c : ℕ) → c ≤ length b → final (length b) ≡ forth c (final (length (drop c b)))
      ends b c h = let q : length b ≡ length (drop c b) + c = omega (arith, length-drop c b) in λ i. final (q i)

  -- ---- a text that ends so that anything may stand behind it

  either : {A : Type 0} (a b : Bool) → a || b ≡ true → (a ≡ true → A) → (b ≡ true → A) → A
  either true b h f g = f refl
  either false b h f g = g h

  -- a text that is empty, or ends in a line feed, or in its last token's last byte; and whose last token (no Newline), if any, is `;` or `}`
  pub fore_ended : {n : List ℕ} {ns : List Entry} (X : Text n ns)
      → T ((eqb (length n) 0 || eqb (get_or n (length n - 1) 0) 10 || eqb (end_of 0 X.toks) (length n)) && (eqb (count counts X.toks) 0 || closes (last_of (first []) X.toks)))
      → Fore n ns
  unfolding code
  fore_ended {n} {ns} X well = go (length n) refl
    where
      split : (a b : Bool) → T (a && b) → (a ≡ true) × (b ≡ true)
      split true true q = (refl, refl)
      split true false q = absurd q
      split false b q = absurd q

      both : (eqb (length n) 0 || eqb (get_or n (length n - 1) 0) 10 || eqb (end_of 0 X.toks) (length n) ≡ true) × (eqb (count counts X.toks) 0 || closes (last_of (first []) X.toks) ≡ true)
      both = split (eqb (length n) 0 || eqb (get_or n (length n - 1) 0) 10 || eqb (end_of 0 X.toks) (length n)) (eqb (count counts X.toks) 0 || closes (last_of (first []) X.toks)) well

      ending : Ending W X.toks
      ending = either (eqb (count counts X.toks) 0) (closes (last_of (first []) X.toks)) both.1 (λ e. bare (eqb-true (count counts X.toks) 0 e))
          (λ e. shut (λ d. last_any (first []) d X.toks refl e))

      closed_sealed : (a b : Bool) → a ≡ true → not (a || b) ≡ false
      closed_sealed true b q = refl
      closed_sealed false b q = absurd (true≢false (sym q))

      keeps : Ending W X.toks → unsealed (last_of semicolon X.toks) ≡ false
      keeps (bare c) = ap unsealed (none_last semicolon X.toks c) ∙ semicolon_sealed
      keeps (shut c) = closed_sealed (closes (last_of semicolon X.toks)) (is "string" (last_of semicolon X.toks)) (c semicolon)

      calm : (k : ℕ) → length n ≡ suc k → Calm 0 n
      calm k e =
          either (eqb (length n) 0 || eqb (get_or n (length n - 1) 0) 10) (eqb (end_of 0 X.toks) (length n)) both.0
          (λ q. either (eqb (length n) 0) (eqb (get_or n (length n - 1) 0) 10) q (λ o. absurd (omega (arith, eqb-true (length n) 0 o)))
          (λ o. subst (λ (l : List ℕ). Calm 0 l) (sym (last_split n (omega arith) ∙ ap (λ (c : ℕ). take (length n - 1) n ++ (c ∷ [])) (eqb-true (get_or n (length n - 1) 0) 10 o)))
          (calm_line 0 (take (length n - 1) n) (omega arith))))
          (λ q. calm_end 0 0 n X.toks 0 (omega arith) X.scanned (omega arith) (omega (arith, eqb-true (end_of 0 X.toks) (length n) q)))

      nil : (l : List ℕ) → length l ≡ 0 → (q : List ℕ) → Joint q 0 l
      nil [] e q = over
      nil (b ∷ l) e q = absurd (omega arith)

      go : (k : ℕ) → length n ≡ k → Fore n ns
      go k e = record {
        toks = X.toks;
        scanned = X.scanned;
        goes = text_goes W X.toks (length n) ns (text_none X) (text_asc X) X.reads ending;
        joint = joints k e;
      }
        where
          joints : (i : ℕ) → length n ≡ i → (q : List ℕ) → Joint q 0 n
          joints zero o q = nil n o q
          joints (suc i) o q = calm_joint q (calm i o) 0 X.toks semicolon X.scanned (keeps ending)

  -- the tokens of a text are those of its statements
  pub text_tokens : {bs : List ℕ} {es : List Entry} (X : Text bs es) → count counts X.toks ≡ tokens_of es
  unfolding code
  text_tokens {bs} {es} X = tokens_exact W X.toks (final (length bs)) es (text_none X) refl (text_asc X) X.reads

  -- and they are no others
  pub text_same : {bs : List ℕ} {es fs : List Entry} → Text bs es → Text bs fs → es ≡ fs
  text_same {bs} {es} {fs} X Y =
      let p : lexed X.toks ≡ lexed Y.toks = sym X.scanned ∙ Y.scanned in
      let q : X.toks ≡ Y.toks = cc in
      let r : accepted es ≡ accepted fs = sym X.reads ∙ ap (λ l. from W 0 (l ++ (final (length bs) ∷ []))) q ∙ Y.reads in
      cc

-- ---- with the limits

pub every_append : (f : ℕ → Bool) (x y : List ℕ) → T (every f (x ++ y)) → T (every f x) × T (every f y)
unfolding every
every_append f [] y h = (tt, h)
every_append f (b ∷ x) y h = go (f b) h (every_append f x y)
  where
    go : (t : Bool) → T (elim t as (λ _. Bool) [ true ↦ every f (x ++ y) | false ↦ false ]) → (T (every f (x ++ y)) → T (every f x) × T (every f y))
        → T (elim t as (λ _. Bool) [ true ↦ every f x | false ↦ false ]) × T (every f y)
    go true k ih = ih k
    go false k ih = absurd k

pub append_every : (f : ℕ → Bool) (x y : List ℕ) → T (every f x) → T (every f y) → T (every f (x ++ y))
unfolding every
append_every f [] y h k = k
append_every f (b ∷ x) y h k = go (f b) h (λ g. append_every f x y g k)
  where
    go : (t : Bool) → T (elim t as (λ _. Bool) [ true ↦ every f x | false ↦ false ]) → (T (every f x) → T (every f (x ++ y))) → T (elim t as (λ _. Bool) [ true ↦ every f (x ++ y) | false ↦ false ])
    go true g ih = ih g
    go false g ih = absurd g

leading_every : (f : ℕ → Bool) (x : List ℕ) → T (every f x) → leading f x ≡ length x
unfolding every leading
leading_every f [] h = refl
leading_every f (b ∷ x) h = go (f b) h (leading_every f x)
  where
    go : (t : Bool) → T (elim t as (λ _. Bool) [ true ↦ every f x | false ↦ false ]) → (T (every f x) → leading f x ≡ length x) → ◌≡◌ {A = ℕ} (elim t [ true ↦ suc (leading f x) | false ↦ 0 ]) (suc (length x))
    go true g ih = ap suc (ih g)
    go false g ih = absurd g

pub script_all : (s : List ℕ) → T (no_zero s) → script s ≡ s
unfolding script
script_all s h = ap (λ (n : ℕ). take n s) (leading_every (other 0) s h) ∙ take-length s

-- what an accepted script is: its text has the statements, and the limits are kept
pub record Accepted (E : Edition) (l : Lists) (s : List ℕ) (es : List Entry) : Type 0 where
  pub short : length s ≤ most_bytes
  pub lists : good_lists l ≡ true
  pub text : Text (language E l) s es
  pub few : tokens_of es ≤ most_tokens

less_one : (i j : ℕ) → i ≡ suc j → i - 1 ≡ j
less_one i j h = omega arith

counted : (W : Language) {s : List ℕ} {es : List Entry} (X : Text W s es) → count counts (X.toks ++ (final (length s) ∷ [])) - 1 ≡ tokens_of es
unfolding code count
counted W {s} {es} X = less_one (count counts (X.toks ++ (final (length s) ∷ []))) (tokens_of es) (count_append X.toks (final (length s) ∷ []) ∙ omega (arith, text_tokens W X))

pub read_accepted : (E : Edition) (l : Lists) (s : List ℕ) (es : List Entry) → T (no_zero s) → read_script E l s ≡ accepted es → Accepted E l s es
unfolding read_script of_tokens tokens statements
read_accepted E l s es z h = go₁ (ltb most_bytes (length s)) refl (ap body (sym (script_all s z)) ∙ h)
  where
    body : List ℕ → Outcome
    body b = if ltb most_bytes (length b) then refused 1 0 else if not (good_lists l) then refused 2 0 else of_tokens E l (length b) (tokens b)

    never : {n p : ℕ} {X : Type 0} → refused n p ≡ accepted es → X
    never e = absurd (let o : ◌≡◌ {A = ℕ} 0 1 = cc in omega arith)

    go₄ : ltb most_bytes (length s) ≡ false → good_lists l ≡ true → (ts : List Token) → scan 0 0 s ≡ lexed ts → (t : Bool) → ltb most_tokens (count counts (ts ++ (final (length s) ∷ [])) - 1) ≡ t
        → (if t then refused 7 (length s) else from (language E l) 0 (ts ++ (final (length s) ∷ []))) ≡ accepted es → Accepted E l s es
    go₄ b g ts c true e k = never k
    go₄ b g ts c false e k =
        let X : Text (language E l) s es = record { toks = ts; scanned = c; reads = k } in
        record { short = ltb-false most_bytes (length s) b; lists = g; text = X; few = omega (arith, ltb-false most_tokens (count counts (ts ++ (final (length s) ∷ [])) - 1) e, counted (language E l) X) }

    go₃ : ltb most_bytes (length s) ≡ false → good_lists l ≡ true → (o : Lexed) → scan 0 0 s ≡ o → of_tokens E l (length s) (finished (length s) o) ≡ accepted es → Accepted E l s es
    go₃ b g (lexed ts) c k = go₄ b g ts c (ltb most_tokens (count counts (ts ++ (final (length s) ∷ [])) - 1)) refl k
    go₃ b g (faulty f p) c k = never k

    go₂ : ltb most_bytes (length s) ≡ false → (t : Bool) → good_lists l ≡ t → (if not t then refused 2 0 else of_tokens E l (length s) (tokens s)) ≡ accepted es → Accepted E l s es
    go₂ b true g k = go₃ b g (scan 0 0 s) refl k
    go₂ b false g k = never k

    go₁ : (t : Bool) → ltb most_bytes (length s) ≡ t → (if t then refused 1 0 else if not (good_lists l) then refused 2 0 else of_tokens E l (length s) (tokens s)) ≡ accepted es → Accepted E l s es
    go₁ true b k = never k
    go₁ false b k = go₂ b (good_lists l) refl k

pub accepted_read : (E : Edition) (l : Lists) (s : List ℕ) (es : List Entry) → T (no_zero s) → Accepted E l s es → read_script E l s ≡ accepted es
unfolding read_script of_tokens tokens statements
accepted_read E l s es z A =
    ap body (script_all s z)
    ∙ ap (λ (t : Bool). if t then refused 1 0 else if not (good_lists l) then refused 2 0 else of_tokens E l (length s) (tokens s)) (le-ltb most_bytes (length s) A.short)
    ∙ ap (λ (t : Bool). if not t then refused 2 0 else of_tokens E l (length s) (tokens s)) A.lists
    ∙ ap (λ (o : Lexed). of_tokens E l (length s) (finished (length s) o)) A.text.scanned
    ∙ ap (λ (t : Bool). if t then refused 7 (length s) else from (language E l) 0 (A.text.toks ++ (final (length s) ∷ [])))
    (le-ltb most_tokens (count counts (A.text.toks ++ (final (length s) ∷ [])) - 1) (omega (arith, A.few, counted (language E l) A.text)))
    ∙ A.text.reads
  where
    body : List ℕ → Outcome
    body b = if ltb most_bytes (length b) then refused 1 0 else if not (good_lists l) then refused 2 0 else of_tokens E l (length b) (tokens b)

pub tokens_append : (x y : List Entry) → tokens_of (x ++ y) ≡ tokens_of x + tokens_of y
tokens_append [] y = omega arith
tokens_append (e ∷ x) y = omega (arith, tokens_append x y)

pub tokens_moved : (d : ℕ) (x : List Entry) → tokens_of (map (moved_entry d) x) ≡ tokens_of x
tokens_moved d [] = refl
tokens_moved d (e ∷ x) = ap (λ (n : ℕ). e.tokens + n) (tokens_moved d x)

-- ---- the bytes before the first zero byte are all that is read

leading_take : (f : ℕ → Bool) (bs : List ℕ) → T (every f (take (leading f bs) bs))
unfolding every leading
leading_take f [] = tt
leading_take f (b ∷ bs) = go (f b) refl (leading_take f bs)
  where
    go : (t : Bool) → f b ≡ t → T (every f (take (leading f bs) bs)) → T (every f (take (elim t as (λ _. ℕ) [ true ↦ suc (leading f bs) | false ↦ 0 ]) (b ∷ bs)))
    go true e h = subst (λ (t : Bool). T (elim t as (λ _. Bool) [ true ↦ every f (take (leading f bs) bs) | false ↦ false ])) (sym e) h
    go false e h = tt

pub script_no_zero : (bs : List ℕ) → T (no_zero (script bs))
unfolding script
script_no_zero bs = leading_take (other 0) bs

pub read_script_lem : (E : Edition) (l : Lists) (bs : List ℕ) → read_script E l (script bs) ≡ read_script E l bs
unfolding read_script
read_script_lem E l bs = ap body (script_all (script bs) (script_no_zero bs))
  where
    body : List ℕ → Outcome
    body s = if ltb most_bytes (length s) then refused 1 0 else if not (good_lists l) then refused 2 0 else of_tokens E l (length s) (tokens s)
