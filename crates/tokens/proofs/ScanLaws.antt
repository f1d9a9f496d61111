-- The tokens from a place on, by the mark of the first: what the scan of a text and the token step lean on.
use Rattle.std.specs.Prelude.{Result, Err, if◌then◌else◌}
use mathlib.Core.Path.{◌≡◌, refl, sym, ap, ◌∙◌, subst}
use mathlib.Core.Bool.{Bool, true, false, ◌||◌, not}
use mathlib.Core.List.{List, [], ◌∷◌}
use Prim.Native.Nat.{ℕ, zero, suc, ◌+◌, ◌-◌, ◌≤◌, ◌<◌}
use Prim.Native.String.{String}
use native.Mathlib.Omega.{arith}
use lib.Dec.{eqb, ltb}
use borrow.Author.Tests.{ltb-true, ltb-false, ne_eqb, eq-eqb, le-leb, lt-leb}
use lib.ListN.{length, get_or, take, drop, length-take, length-drop, drop_of_length-le}
use lib.Seq.{drop-drop}
use Rattle.tokens.specs.Text.{bytes, begins, same, every, leading, letter, digit, name_byte, number_byte, blank, other, count}
use lib.Ieee.{Float}
use Rattle.tokens.specs.Numbers.{number_fault, value_of}
use Rattle.tokens.specs.Tokens.{Token, Lexeme, gap, piece, fault, word, numeral, quoted, sign, signs, keywords, entry, code, lexeme, Lexed, lexed, refused, before, taken, scan, counts, end_of}
use Rattle.tokens.specs.Keys.{key_of, keyword_by}
use Rattle.tokens.specs.Lexing.{lexeme_at, gap_width, final, mark_of, mark_from, mark_at, refused_mark, Tells, token_of, judged_by, summary, step_at}
use Rattle.tokens.specs.Refusals.{number_of}
use Rattle.tokens.specs.declared.refusals.Refusal.{Refusal}
use Rattle.tokens.specs.Kinds.{kind_by}
use Rattle.tokens.specs.declared.lexing.Mark.{Mark}
use Rattle.tokens.specs.declared.kinds.Kind.{Kind}
use Rattle.tokens.specs.declared.kinds.Kind.TheVariants.{Value}
use Rattle.tokens.specs.declared.kinds.Literal.TheVariants.{Number}
use Rattle.tokens.specs.Found.{as_found}
use Rattle.tokens.specs.Found as found
use Rattle.tokens.specs.Scanned.{Scanned, as_scanned}
use Rattle.tokens.specs.Scanned as scanned
use Rattle.tokens.proofs.Joins.{body}
use Rattle.tokens.proofs.Cuts.{Wide, lexeme_wide}
use Rattle.tokens.proofs.Shapes.{Sound, sound, lexeme_fits, scan_drop, entry_every}
use Rattle.tokens.proofs.NumberLaws.{fault_small}
use Rattle.tokens.proofs.KeyLaws.{Bytes, smalls, keyword_is}
use Rattle.tokens.proofs.LexLaws.{front}
use Rattle.tokens.proofs.MarkLaws.{start_at, start_within, skip_at, mark_over, mark_on, mark_here}

-- ---- kinds are small, so that a fault's number is none

abbrev pub Low : Lexeme → Type 0
Low (gap n) = Unit {0}
Low (piece κ n) = κ < 99
Low (fault f) = f < 99

abbrev low_entry : String × ℕ → Bool
low_entry e = ltb e.1 99

pub word_low : (w : List ℕ) (n : ℕ) → Low (word w n)
unfolding word every
word_low w n = go (eqb E.1 99) refl
  where
    E : String × ℕ
    E = entry (λ s. same (bytes s) w) keywords

    go : (t : Bool) → eqb E.1 99 ≡ t → Low (piece (if t then 1 else E.1) n)
    go true e = omega arith
    go false e = ltb-true E.1 99 (entry_every low_entry (λ s. same (bytes s) w) keywords tt e)

pub keyword_low : (w : List ℕ) → Bytes w → keyword_by (key_of w) < 100
keyword_low w h = omega (arith, subst Low (keyword_is w 0 (smalls w h)) (word_low w 0))

numeral_low : (w : List ℕ) (n : ℕ) → Low (numeral w n)
unfolding numeral
numeral_low w n = go (eqb (number_fault w) 0)
  where
    go : (t : Bool) → Low (if t then piece 2 n else fault (number_fault w))
    go true = omega arith
    go false = omega (arith, fault_small w)

quoted_low : (bs : List ℕ) (n : ℕ) → Low (quoted bs n)
unfolding quoted
quoted_low bs n = go (ltb n (length bs))
  where
    go : (t : Bool) → Low (if t then piece 5 (suc (suc n)) else fault 4)
    go true = omega arith
    go false = omega arith

pub sign_low : (bs : List ℕ) → Low (sign bs)
unfolding sign every
sign_low bs = go (eqb E.1 99) refl
  where
    E : String × ℕ
    E = entry (λ s. begins (bytes s) bs) signs

    go : (t : Bool) → eqb E.1 99 ≡ t → Low (if t then fault 3 else piece E.1 (length (bytes E.0)))
    go true e = omega arith
    go false e = ltb-true E.1 99 (entry_every low_entry (λ s. begins (bytes s) bs) signs tt e)

low : (b : ℕ) (bs : List ℕ) → Low (lexeme b bs)
unfolding lexeme body code entry
low b bs = go (blank b) (eqb b 10) (eqb b 35 || begins (bytes "//") (b ∷ bs)) (letter b) (digit b) (eqb b 34)
  where
    go : (t₁ t₂ t₃ t₄ t₅ t₆ : Bool) → Low (body t₁ t₂ t₃ t₄ t₅ t₆ b bs)
    go true t₂ t₃ t₄ t₅ t₆ = tt
    go false true t₃ t₄ t₅ t₆ = omega arith
    go false false true t₄ t₅ t₆ = tt
    go false false false true t₅ t₆ = word_low (take (suc (leading name_byte bs)) (b ∷ bs)) (suc (leading name_byte bs))
    go false false false false true t₆ = numeral_low (take (suc (leading number_byte bs)) (b ∷ bs)) (suc (leading number_byte bs))
    go false false false false false true = quoted_low bs (leading (other 34) bs)
    go false false false false false false = sign_low (b ∷ bs)

-- ---- what a mark stands for

-- what the code answers tells one mark alone
pub tells : (r : Result Mark Refusal) {m n : Mark} → m ≡ n → Tells m r → Tells n r
tells r e h = subst (λ (x : Mark). Tells x r) e h

-- the text's end, a token of n bytes, or a fault stands where the mark of a place starts
pub data Stands (s : List ℕ) (m : Mark) : Type 0 where
  over : length s ≤ m.start → m ≡ final m.start → Stands s m
  token : (κ n : ℕ) → m.start < length s → lexeme_at s m.start ≡ piece κ n → m ≡ mark_of m.start (piece κ n) → Stands s m
  faulty : (f : ℕ) → m.start < length s → lexeme_at s m.start ≡ fault f → m ≡ mark_of m.start (fault f) → Stands s m

-- from a mark's start on the same mark comes
pub mark_again : (s : List ℕ) (at : ℕ) → mark_at s (mark_at s at).start ≡ mark_at s at
unfolding mark_at mark_from
mark_again s at = sym (skip_at mark_from (λ k p b bs. refl) (λ p b bs n e. rw (e, mark_from)) s at)

module _ (s : List ℕ) (at : ℕ) where
  abbrev M : Mark
  M = mark_at s at

  -- no gap stands where it starts: the token would start behind it
  start_solid : M.start < length s → gap_width (lexeme_at s M.start) ≡ 0
  start_solid h = go (gap_width (lexeme_at s M.start)) refl
    where
      go : (n : ℕ) → gap_width (lexeme_at s M.start) ≡ n → n ≡ 0
      go zero e = refl
      go (suc n) e =
          let w = gap_width (lexeme_at s M.start) in
          let q : mark_at s M.start ≡ mark_at s (M.start + w) = mark_on s M.start h (λ z. omega arith) in
          let r : M.start + w ≤ (mark_at s (M.start + w)).start = start_at s (M.start + w) in
          absurd (omega (arith, ap (λ (m : Mark). m.start) (sym q ∙ mark_again s at)))

  pub stands : Stands s M
  stands = go (ltb M.start (length s)) refl
    where
      by_lexeme : M.start < length s → (o : Lexeme) → lexeme_at s M.start ≡ o → gap_width o ≡ 0 → M ≡ mark_of M.start o → Stands s M
      by_lexeme h (gap n) e z q = absurd (let w : 1 ≤ n = subst Wide e (lexeme_wide (get_or s M.start 0) (drop (M.start + 1) s)) in omega arith)
      by_lexeme h (piece κ n) e z q = token κ n h e q
      by_lexeme h (fault f) e z q = faulty f h e q

      go : (t : Bool) → ltb M.start (length s) ≡ t → Stands s M
      go true e =
          let h : M.start < length s = ltb-true _ _ e in
          let z = start_solid h in
          by_lexeme h (lexeme_at s M.start) refl z (sym (mark_again s at) ∙ mark_here s M.start h z)
      go false e =
          let h : length s ≤ M.start = ltb-false _ _ e in
          over h (sym (mark_again s at) ∙ mark_over s M.start h)

-- ---- the tokens from a place on

module _ (s : List ℕ) (at : ℕ) where
  abbrev N : Mark
  N = mark_at s at

  scan_start : scan 0 at (drop at s) ≡ scan 0 N.start (drop N.start s)
  unfolding scan
  scan_start = skip_at scan (λ k p b bs. refl) (λ p b bs n e. rw (e, scan)) s at

  scan_front : N.start < length s → scan 0 at (drop at s)
      ≡ taken N.start (drop N.start s) (λ n. scan (n - 1) (suc N.start) (drop (N.start + 1) s)) (lexeme_at s N.start)
  unfolding scan
  scan_front h = scan_start ∙ (rw (front s N.start h))

  scan_behind : (n : ℕ) → 1 ≤ n → scan (n - 1) (suc N.start) (drop (N.start + 1) s) ≡ scan 0 (N.start + n) (drop (N.start + n) s)
  scan_behind n h =
      let p : suc N.start + (n - 1) ≡ N.start + n = omega arith in
      let q : N.start + 1 + (n - 1) ≡ N.start + n = omega arith in
      scan_drop (n - 1) (suc N.start) (drop (N.start + 1) s) ∙ (rw (drop-drop (n - 1) (N.start + 1) s, p, q))

  -- 0 is the mark of the end
  pub end_mark : N.code ≡ 0 → (length s ≤ N.start) × (N ≡ final N.start)
  end_mark z = go (stands s at)
    where
      go : Stands s N → (length s ≤ N.start) × (N ≡ final N.start)
      go (over h q) = (h, q)
      go (token κ n h e q) = absurd (omega (arith, z, ap (λ (m : Mark). m.code) q, (subst (Sound (get_or s N.start 0) (drop (N.start + 1) s)) e (sound (get_or s N.start 0) (drop (N.start + 1) s))).1))
      go (faulty f h e q) = absurd (omega (arith, z, ap (λ (m : Mark). m.code) q))

  -- at the end there is no token
  pub scan_end : N.code ≡ 0 → scan 0 at (drop at s) ≡ lexed []
  unfolding scan
  scan_end z = scan_start ∙ (rw (drop_of_length-le s (end_mark z).0))

  -- a fault refuses the text
  pub scan_fault : 100 ≤ N.code → scan 0 at (drop at s) ≡ refused (N.code - 100) N.start
  scan_fault z = go (stands s at)
    where
      go : Stands s N → scan 0 at (drop at s) ≡ refused (N.code - 100) N.start
      go (over h q) = absurd (omega (arith, z, ap (λ (m : Mark). m.code) q))
      go (token κ n h e q) = absurd (omega (arith, z, ap (λ (m : Mark). m.code) q, subst Low e (low (get_or s N.start 0) (drop (N.start + 1) s))))
      go (faulty f h e q) =
          let k : N.code - 100 ≡ f = omega (arith, ap (λ (m : Mark). m.code) q) in
          scan_front h ∙ (rw (e, k))

  -- a token, and those behind it
  module _ (some : N.code ≡ 0 → ⊥) (whole : N.code < 100) where
    pub scan_token : scan 0 at (drop at s) ≡ before (token_of s N) (scan 0 N.end (drop N.end s))
    scan_token = go (stands s at)
      where
        go : Stands s N → scan 0 at (drop at s) ≡ before (token_of s N) (scan 0 N.end (drop N.end s))
        go (over h q) = absurd (some (ap (λ (m : Mark). m.code) q))
        go (token κ n h e q) =
            let w : 1 ≤ n = subst Wide e (lexeme_wide (get_or s N.start 0) (drop (N.start + 1) s)) in
            let k : N.code ≡ κ = ap (λ (m : Mark). m.code) q in
            let l : N.end ≡ N.start + n = ap (λ (m : Mark). m.end) q in
            let d : N.start + n - N.start ≡ n = omega arith in
            scan_front h ∙ (rw (e, k, l, d) (ap (before (record { kind = κ; from = N.start; text = take n (drop N.start s) })) (scan_behind n w)))
        go (faulty f h e q) = absurd (omega (arith, whole, ap (λ (m : Mark). m.code) q))

    pub token_within : (N.start < N.end) × (N.end ≤ length s)
    token_within = go (stands s at)
      where
        go : Stands s N → (N.start < N.end) × (N.end ≤ length s)
        go (over h q) = absurd (some (ap (λ (m : Mark). m.code) q))
        go (token κ n h e q) =
            let w : 1 ≤ n = subst Wide e (lexeme_wide (get_or s N.start 0) (drop (N.start + 1) s)) in
            let f : n ≤ suc (length (drop (N.start + 1) s)) = rw e at (lexeme_fits (get_or s N.start 0) (drop (N.start + 1) s)) in
            let l : N.end ≡ N.start + n = ap (λ (m : Mark). m.end) q in
            (omega arith, omega (arith, length-drop (N.start + 1) s))
        go (faulty f h e q) = absurd (omega (arith, whole, ap (λ (m : Mark). m.code) q))

    -- its bytes lead from its start to its end
    pub token_end : N.start + length (take (N.end - N.start) (drop N.start s)) ≡ N.end
    token_end = omega (arith, length-take (N.end - N.start) (drop N.start s), length-drop N.start s, token_within)

  -- a mark ends within what its place and its text are within, and its number is a byte
  pub mark_within : (n : ℕ) → at ≤ n → length s ≤ n → (N.start ≤ n) × (N.end ≤ n) × (N.code < 256)
  mark_within n h l = go (stands s at)
    where
      start_in : N.start ≤ n
      start_in = start_within s at n h l

      go : Stands s N → (N.start ≤ n) × (N.end ≤ n) × (N.code < 256)
      go (over g q) = (start_in, omega (arith, start_in, ap (λ (m : Mark). m.end) q), omega (arith, ap (λ (m : Mark). m.code) q))
      go (token κ k g e q) =
          let f : k ≤ suc (length (drop (N.start + 1) s)) = rw e at (lexeme_fits (get_or s N.start 0) (drop (N.start + 1) s)) in
          (start_in, omega (arith, ap (λ (m : Mark). m.end) q, length-drop (N.start + 1) s), omega (arith, ap (λ (m : Mark). m.code) q, subst Low e (low (get_or s N.start 0) (drop (N.start + 1) s))))
      go (faulty f g e q) =
          (start_in, omega (arith, start_in, ap (λ (m : Mark). m.end) q), omega (arith, ap (λ (m : Mark). m.code) q, subst Low e (low (get_or s N.start 0) (drop (N.start + 1) s))))

-- ---- the scan of a whole text, one token at a time

summary_before : (n e end : ℕ) (t : Token) (l : Lexed)
    → summary n e end (before t l) ≡ summary (n + (if counts t then 1 else 0)) (if counts t then t.from + length t.text else e) end l
unfolding count end_of
summary_before n e end t (lexed ts) =
    let q : n + ((if counts t then 1 else 0) + count counts ts) ≡ n + (if counts t then 1 else 0) + count counts ts = omega arith in
    ap (λ (x : ℕ). judged_by x (end_of (if counts t then t.from + length t.text else e) ts) end) q
summary_before n e end t (refused f p) = refl

pub newline_is : code "Newline" ≡ 55
unfolding code entry
newline_is = refl

module _ (s : List ℕ) (at n last : ℕ) (m : Mark) (is : m ≡ mark_at s at) where
  abbrev Rest : ℕ → ℕ → ℕ → Scanned
  Rest k e i = summary k e (length s) (scan 0 i (drop i s))

  pub summary_end : m.code ≡ 0 → judged_by n last (length s) ≡ Rest n last at
  unfolding count end_of
  summary_end z =
      let q : n ≡ n + 0 = omega arith in
      rw (scan_end s at (ap (λ (x : Mark). x.code) (sym is) ∙ z)) (ap (λ (x : ℕ). judged_by x last (length s)) q)

  pub summary_fault : 100 ≤ m.code → scanned.Refused (m.code - 100) m.start ≡ Rest n last at
  summary_fault z = ap (summary n last (length s)) (sym (rw (← is) at (scan_fault s at (rw is at z))))

  pub summary_refused : (e : Refusal) → refused_mark e ≡ m → as_scanned (Err e) ≡ Rest n last at
  summary_refused e h =
      let k : m.code - 100 ≡ number_of e.cause = omega (arith, ap (λ (x : Mark). x.code) h) in
      (λ i. scanned.Refused (sym k i) (ap (λ (x : Mark). x.start) h i)) ∙ summary_fault (omega (arith, ap (λ (x : Mark). x.code) h))

  module _ (some : m.code ≡ 0 → ⊥) (whole : m.code < 100) where
    inside : (m.start < m.end) × (m.end ≤ length s)
    inside = rw is (token_within s at (rw is at some) (rw is at whole))

    behind : Rest n last at ≡ summary n last (length s) (before (token_of s m) (scan 0 m.end (drop m.end s)))
    behind =
        let q : scan 0 at (drop at s) ≡ before (token_of s m) (scan 0 m.end (drop m.end s)) = rw is (scan_token s at (rw is at some) (rw is at whole)) in
        ap (summary n last (length s)) q

    pub summary_token : (m.code ≡ 55 → ⊥) → Rest n last at ≡ Rest (n + 1) m.end m.end
    summary_token no_line =
        let c : counts (token_of s m) ≡ true = rw newline_is (ap not (ne_eqb 55 m.code (λ e. no_line (sym e)))) in
        let l : m.start + length (take (m.end - m.start) (drop m.start s)) ≡ m.end = rw is (token_end s at (rw is at some) (rw is at whole)) in
        behind ∙ (summary_before n last (length s) (token_of s m) (scan 0 m.end (drop m.end s)) ∙ (rw (c, l)))

    pub summary_line : m.code ≡ 55 → Rest n last at ≡ Rest n last m.end
    summary_line line =
        let c : counts (token_of s m) ≡ false = rw newline_is (ap not (eq-eqb 55 m.code (sym line))) in
        let q : n + 0 ≡ n = omega arith in
        behind ∙ (summary_before n last (length s) (token_of s m) (scan 0 m.end (drop m.end s)) ∙ (rw (c, q)))

    pub mark_progress : (at < m.end) × (m.end ≤ length s)
    mark_progress = (omega (arith, inside, rw (← is) at (start_at s at)), inside.1)

-- ---- the token step

module _ (s : List ℕ) (at : ℕ) (m : Mark) (is : m ≡ mark_at s at) where
  pub step_fault : 100 ≤ m.code → found.Refused (m.code - 100) m.start ≡ step_at s at
  unfolding step_at
  step_fault h = rw (← is, le-leb 100 m.code h)

  pub step_refused : (e : Refusal) → refused_mark e ≡ m → as_found (Err e) ≡ step_at s at
  step_refused e h =
      let k : m.code - 100 ≡ number_of e.cause = omega (arith, ap (λ (x : Mark). x.code) h) in
      (λ i. found.Refused (sym k i) (ap (λ (x : Mark). x.start) h i)) ∙ step_fault (omega (arith, ap (λ (x : Mark). x.code) h))

  pub step_number : m.code ≡ 2 → (x : Float) → x ≡ value_of (take (m.end - m.start) (drop m.start s))
      → found.Token (record { start = m.start; end = m.end; kind = Value (Number x) }) ≡ step_at s at
  unfolding step_at
  step_number h x e = rw (← is, h, e)

  pub step_other : m.code < 100 → (m.code ≡ 2 → ⊥) → (k : Kind) → k ≡ kind_by m.code
      → found.Token (record { start = m.start; end = m.end; kind = k }) ≡ step_at s at
  unfolding step_at
  step_other h g k e = rw (← is, lt-leb 100 m.code h, ne_eqb m.code 2 g, e)

  pub number_within : m.code ≡ 2 → (m.start ≤ m.end) × (m.end ≤ length s)
  number_within h =
      let p : (m.start < m.end) × (m.end ≤ length s) = rw is (token_within s at (λ z. omega (arith, h, ap (λ (x : Mark). x.code) is, z)) (omega (arith, h, ap (λ (x : Mark). x.code) is))) in
      (omega arith, p.1)
