-- Cursors that hold a token of a text: what stands there, where the next one stands, and what the readers do there.
use Rattle.std.specs.Prelude.{if◌then◌else◌}
use mathlib.Core.Path.{◌≡◌, refl, sym, ap, ◌∙◌, subst}
use mathlib.Core.Bool.{Bool, true, false, not}
use mathlib.Core.List.{List, [], ◌∷◌, ◌++◌, append_assoc, map, map-append}
use Prim.Native.Nat.{ℕ, zero, suc, ◌+◌, ◌-◌, ◌≤◌, ◌<◌}
use Prim.Native.String.{String}
use native.Mathlib.Omega.{arith}
use native.Mathlib.Nat.{suc-add}
use lib.Dec.{eqb, ltb}
use borrow.Author.Tests.{ltb-true, ltb-false, lt-ltb, eqb-true, eqb-false, eq-eqb, ne_eqb}
use lib.ListN.{length, take, drop, get_or, length-append, length-take, length-drop, drop_of_length-le}
use lib.Seq.{take_all, take-nil}
use Rattle.tokens.specs.Limits.{most_bytes}
use Rattle.tokens.specs.Text.{count}
use Rattle.tokens.specs.Tokens.{Token, Lexeme, gap, piece, fault, code, lexeme, Lexed, lexed, refused as faulty, before, taken, scan, final, counts, end_of}
use Rattle.tokens.specs.Lexing.{marked, mark_from, mark_at, token_of, settle_from, cursor_of, cursor_at, one_more, advanced}
use Rattle.tokens.specs.declared.lexing.Mark.{Mark}
use Rattle.tokens.specs.declared.cursor.Cursor.{Cursor}
use Rattle.tokens.proofs.Cuts.{forth, further, scan_further}
use Rattle.tokens.proofs.TextLaws.{count_few}
use Rattle.tokens.proofs.Shapes.{Sound, sound}
use Rattle.tokens.proofs.MarkLaws.{start_at, start_within, skip_at}
use Rattle.tokens.proofs.ScanLaws.{Stands, over as past, token, faulty as bad, stands, scan_end, scan_fault, scan_token, token_within, newline_is}
use Rattle.tokens.proofs.CursorLaws.{settle_here, settle_line}
use Rattle.grammar.specs.Readers.{Out, ok, refused, Reader, bind, ◌>>=◌, ◌>>◌, first, next, second, is, skip, fail, ask, peek, read, the}
use Rattle.grammar.specs.Script.{back}
use Rattle.reading.specs.Meets.{listed, toks_at, token_at, Holds, Follows, the_by, Takes}
use Rattle.std.specs.Prelude.{Ok, Err}
use Rattle.tokens.specs.declared.refusals.Ground.TheVariants as ground
use Rattle.reading.specs.Faults.{fault_at}
use Rattle.reading.specs.Scripts.{rebase}
use Rattle.grammar.proofs.Laws.{Quiet, skip_clear}
use Rattle.grammar.proofs.ScriptLaws.{quiet_nil, quiet_end, end_append, count_append, forth_back}

-- ---- counts

-- each token has a byte
pub scan_few : (k i : ℕ) (bs : List ℕ) (ts : List Token) → scan k i bs ≡ lexed ts → length ts ≤ length bs
unfolding scan
scan_few k i [] ts h = let z : [] ≡ ts = cc in omega (arith, ap length z)
scan_few (suc k) i (b ∷ bs) ts h = omega (arith, scan_few k (suc i) bs ts h)
scan_few zero i (b ∷ bs) ts h = go (λ k us. scan_few k (suc i) bs us) (lexeme b bs) h
  where
    IH : Type 0
    IH = (k : ℕ) (us : List Token) → scan k (suc i) bs ≡ lexed us → length us ≤ length bs

    pieced : IH → (κ m : ℕ) (o : Lexed) → scan (m - 1) (suc i) bs ≡ o → before (record { kind = κ; from = i; text = take m (b ∷ bs) }) o ≡ lexed ts → length ts ≤ suc (length bs)
    pieced ih κ m (lexed us) e w =
        let z : record { kind = κ; from = i; text = take m (b ∷ bs) } ∷ us ≡ ts = cc in omega (arith, ap length z, ih (m - 1) us e)
    pieced ih κ m (faulty f p) e w = absurd (let z : ◌≡◌ {A = ℕ} 0 1 = cc in omega arith)

    go : IH → (o : Lexeme) → taken i (b ∷ bs) (λ m. scan (m - 1) (suc i) bs) o ≡ lexed ts → length ts ≤ suc (length bs)
    go ih (gap m) w = omega (arith, ih (m - 1) ts w)
    go ih (piece κ m) w = pieced ih κ m (scan (m - 1) (suc i) bs) refl w
    go ih (fault f) w = absurd (let z : ◌≡◌ {A = ℕ} 0 1 = cc in omega arith)

-- not more tokens, End among them, than bytes and one
pub toks_few : (t : List ℕ) (at : ℕ) → length (toks_at t at) ≤ length t + 1
unfolding toks_at
toks_few t at = go (scan 0 at (drop at t)) refl
  where
    go : (o : Lexed) → scan 0 at (drop at t) ≡ o → length (listed o ++ (final (length t) ∷ [])) ≤ length t + 1
    go (lexed ts) e = omega (arith, length-append ts (final (length t) ∷ []), scan_few 0 at (drop at t) ts e, length-drop at t)
    go (faulty f p) e = omega arith

-- ---- what stands at a place of a text without fault: the end, or a token and those behind it

pub data Seen (t : List ℕ) (m : Mark) (ts : List Token) : Type 0 where
  over : m.code ≡ 0 → length t ≤ m.start → m.end ≡ m.start → ts ≡ [] → Seen t m ts
  more : (us : List Token) → (m.code ≡ 0 → ⊥) → m.start < m.end → m.end ≤ length t → scan 0 m.end (drop m.end t) ≡ lexed us → ts ≡ token_of t m ∷ us → Seen t m ts

module _ (t : List ℕ) (at : ℕ) where
  abbrev M : Mark
  M = mark_at t at

  -- from a mark's start on the same mark comes
  mark_again : mark_at t M.start ≡ M
  unfolding mark_at mark_from
  mark_again = sym (skip_at mark_from (λ k p b bs. refl) (λ p b bs n e. rw (e, mark_from)) t at)

  scan_start : scan 0 at (drop at t) ≡ scan 0 M.start (drop M.start t)
  unfolding scan
  scan_start = skip_at scan (λ k p b bs. refl) (λ p b bs n e. rw (e, scan)) t at

  module _ (ts : List Token) (e : scan 0 at (drop at t) ≡ lexed ts) where
    whole : M.code < 100
    whole = go (ltb M.code 100) refl
      where
        go : (b : Bool) → ltb M.code 100 ≡ b → M.code < 100
        go true q = ltb-true M.code 100 q
        go false q = absurd (let z : ◌≡◌ {A = ℕ} 0 1 = cc (scan_fault t at (ltb-false M.code 100 q)) in omega arith)

    pub seen : Seen t M ts
    seen = go (stands t at)
      where
        behind : (M.code ≡ 0 → ⊥) → (o : Lexed) → scan 0 M.end (drop M.end t) ≡ o → scan 0 at (drop at t) ≡ before (token_of t M) o → Seen t M ts
        behind some (lexed us) q p =
            let z : ts ≡ token_of t M ∷ us = cc in
            more us some (token_within t at some whole).0 (token_within t at some whole).1 q z
        behind some (faulty f x) q p = absurd (let z : ◌≡◌ {A = ℕ} 0 1 = cc in omega arith)

        go : Stands t M → Seen t M ts
        go (past h q) =
            let k : M.code ≡ 0 = ap (λ (m : Mark). m.code) q in
            let z : ts ≡ [] = cc (scan_end t at k) in
            over k h (ap (λ (m : Mark). m.end) q) z
        go (token κ n h p q) =
            let some : M.code ≡ 0 → ⊥ = λ z. omega (arith, z, ap (λ (m : Mark). m.code) q, (subst (Sound (get_or t M.start 0) (drop (M.start + 1) t)) p (sound (get_or t M.start 0) (drop (M.start + 1) t))).1) in
            behind some (scan 0 M.end (drop M.end t)) refl (scan_token t at some whole)
        go (bad f h p q) = absurd (omega (arith, whole, ap (λ (m : Mark). m.code) q))

    -- the first token, End among them
    pub first_mark : at ≤ length t → first (ts ++ (final (length t) ∷ [])) ≡ token_of t M
    first_mark l = go seen
      where
        go : Seen t M ts → first (ts ++ (final (length t) ∷ [])) ≡ token_of t M
        go (over k h p q) =
            let s : length t ≡ M.start = omega (arith, start_within t at (length t) l (omega arith)) in
            let x : [] ≡ take (M.end - M.start) (drop M.start t) = rw (drop_of_length-le t h) (sym (take-nil (M.end - M.start))) in
            rw q (λ i. record { kind = sym k i; from = s i; text = x i })
        go (more us some h p r q) = rw q

-- ---- Newlines are passed over

-- The tokens ts from the place `at` on: newlines, then those from the mark on where the cursor settles. It says whether a newline was passed, or d
pub record Settled (t : List ℕ) (at : ℕ) (d : Bool) (ts : List Token) : Type 0 where
  pub lines : List Token
  pub rest : List Token
  pub broken : Bool
  pub mark : Mark
  pub settles : settle_from d 0 at (drop at t) ≡ (broken, mark)
  pub split : ts ≡ lines ++ rest
  pub quiet : Quiet lines
  pub again : mark_at t mark.start ≡ mark
  pub scans : scan 0 mark.start (drop mark.start t) ≡ lexed rest
  pub no_line : mark.code ≡ 55 → ⊥
  pub inside : mark.start ≤ length t
  pub stays : d ≡ true → broken ≡ true
  pub first_kind : d ≡ false → (first (ts ++ (final (length t) ∷ []))).kind ≡ (if broken then 55 else mark.code)

-- a token of the kind 55 is a newline
line_is : (u : Token) → u.kind ≡ 55 → is "Newline" u ≡ true
line_is u e = rw newline_is (eq-eqb 55 u.kind (sym e))

line_not : (u : Token) → (u.kind ≡ 55 → ⊥) → is "Newline" u ≡ false
line_not u z = rw newline_is (ne_eqb 55 u.kind (λ e. z (sym e)))

line_skips : (u : Token) (nl : List Token) → u.kind ≡ 55 → Quiet nl → Quiet (u ∷ nl)
unfolding skip
line_skips u nl e q r = ap (λ (x : Bool). elim x as (λ _. List Token) [ true ↦ skip (nl ++ r) | false ↦ u ∷ (nl ++ r) ]) (line_is u e) ∙ q r

settle_by : (n : ℕ) (t : List ℕ) (at : ℕ) (d : Bool) (ts : List Token) → at ≤ length t → length t < n + at → scan 0 at (drop at t) ≡ lexed ts → Settled t at d ts
settle_by zero t at d ts l b e = absurd (omega arith)
settle_by (suc n) t at d ts l b e = go (eqb m.code 55) refl (λ at' us l' b' e'. settle_by n t at' true us l' b' e')
  where
    m : Mark
    m = mark_at t at

    IH : Type 0
    IH = (at' : ℕ) (us : List Token) → at' ≤ length t → length t < n + at' → scan 0 at' (drop at' t) ≡ lexed us → Settled t at' true us

    here : (m.code ≡ 55 → ⊥) → Settled t at d ts
    here z = record {
      lines = [];
      rest = ts;
      broken = d;
      mark = m;
      settles = settle_here t at d z;
      split = refl;
      quiet = λ r. refl;
      again = mark_again t at;
      scans = sym (scan_start t at) ∙ e;
      no_line = z;
      inside = start_within t at (length t) l (omega arith);
      stays = λ q. q;
      first_kind = λ q. rw q (ap (λ (u : Token). u.kind) (first_mark t at ts e l));
    }

    on : IH → m.code ≡ 55 → Seen t m ts → Settled t at d ts
    on ih z (over k h p q) = absurd (omega arith)
    on ih z (more us some h p r q) =
        let S = ih m.end us p (omega (arith, start_at t at)) r in
        record {
          lines = token_of t m ∷ S.lines;
          rest = S.rest;
          broken = S.broken;
          mark = S.mark;
          settles = settle_line t at d z ∙ S.settles;
          split = q ∙ ap (λ (x : List Token). token_of t m ∷ x) S.split;
          quiet = line_skips (token_of t m) S.lines z S.quiet;
          again = S.again;
          scans = S.scans;
          no_line = S.no_line;
          inside = S.inside;
          stays = λ x. S.stays refl;
          first_kind = λ x. rw (q, S.stays refl) z;
        }

    go : (x : Bool) → eqb m.code 55 ≡ x → IH → Settled t at d ts
    go true q ih = on ih (eqb-true m.code 55 q) (seen t at ts e)
    go false q ih = here (eqb-false m.code 55 q)

pub settle : (t : List ℕ) (at : ℕ) (d : Bool) (ts : List Token) → at ≤ length t → scan 0 at (drop at t) ≡ lexed ts → Settled t at d ts
settle t at d ts l e = settle_by (suc (length t)) t at d ts l (omega arith) e

module _ {t : List ℕ} {at : ℕ} {d : Bool} {ts : List Token} (S : Settled t at d ts) where
  settled_toks : toks_at t S.mark.start ≡ S.rest ++ (final (length t) ∷ [])
  unfolding toks_at
  settled_toks = rw S.scans

  settled_clear : is "Newline" (first (S.rest ++ (final (length t) ∷ []))) ≡ false
  settled_clear =
      let k : (first (S.rest ++ (final (length t) ∷ []))).kind ≡ S.mark.code
      = ap (λ (u : Token). u.kind) (first_mark t S.mark.start S.rest S.scans S.inside) ∙ ap (λ (m : Mark). m.code) S.again in
      line_not (first (S.rest ++ (final (length t) ∷ []))) (λ e. S.no_line (sym k ∙ e))

  -- the newlines are skipped
  settled_skips : skip (ts ++ (final (length t) ∷ [])) ≡ toks_at t S.mark.start
  settled_skips =
      ap (λ (x : List Token). skip (x ++ (final (length t) ∷ []))) S.split
      ∙ (ap skip (append_assoc S.lines S.rest (final (length t) ∷ []))
      ∙ (S.quiet (S.rest ++ (final (length t) ∷ []))
      ∙ (skip_clear (S.rest ++ (final (length t) ∷ [])) settled_clear ∙ sym settled_toks)))

  -- the newlines are no tokens that count
  settled_none : count counts S.lines ≡ 0
  settled_none = (quiet_end 0 S.lines (quiet_nil S.lines S.quiet)).1

  settled_last : (p : ℕ) → end_of p S.lines ≡ p
  settled_last p = (quiet_end p S.lines (quiet_nil S.lines S.quiet)).0

-- ---- the token of a cursor

abbrev pub mark_in : Cursor → Mark
mark_in c = record { start = c.start; end = c.end; code = c.code }

module _ {t : List ℕ} {c : Cursor} (h : Holds t c) where
  pub mark_is : mark_at t c.start ≡ mark_in c
  mark_is = λ i. record { start = h.start_is i; end = h.end_is i; code = h.code_is i }

  pub toks_are : toks_at t c.start ≡ h.left ++ (final (length t) ∷ [])
  unfolding toks_at
  toks_are = rw h.here

  pub held : Seen t (mark_in c) h.left
  held = rw mark_is at (seen t c.start h.left h.here)

  -- the first token, End among them
  pub first_is : first (toks_at t c.start) ≡ token_at t c
  first_is = ap first toks_are ∙ (first_mark t c.start h.left h.here h.inside ∙ ap (token_of t) mark_is)

  pub first_kind : (first (toks_at t c.start)).kind ≡ c.code
  first_kind = ap (λ (u : Token). u.kind) first_is

  pub first_from : (first (toks_at t c.start)).from ≡ c.start
  first_from = ap (λ (u : Token). u.from) first_is

  pub start_in : c.start ≤ c.end
  start_in = go held
    where
      go : Seen t (mark_in c) h.left → c.start ≤ c.end
      go (over k l p q) = omega arith
      go (more us some l p r q) = omega arith

  pub end_in : c.end ≤ length t
  end_in = go held
    where
      go : Seen t (mark_in c) h.left → c.end ≤ length t
      go (over k l p q) = omega (arith, h.inside)
      go (more us some l p r q) = p

  -- End stands at the text's end
  pub at_end : c.code ≡ 0 → (c.start ≡ length t) × (toks_at t c.start ≡ final (length t) ∷ [])
  at_end z = go held
    where
      go : Seen t (mark_in c) h.left → (c.start ≡ length t) × (toks_at t c.start ≡ final (length t) ∷ [])
      go (over k l p q) = (omega (arith, h.inside), toks_are ∙ ap (λ (x : List Token). x ++ (final (length t) ∷ [])) q)
      go (more us some l p r q) = absurd (some z)

  pub token_in : (c.code ≡ 0 → ⊥) → c.start < c.end
  token_in z = go held
    where
      go : Seen t (mark_in c) h.left → c.start < c.end
      go (over k l p q) = absurd (z k)
      go (more us some l p r q) = l

-- ---- the cursor behind a token

module _ {t : List ℕ} {c : Cursor} (h : Holds t c) (some : c.code ≡ 0 → ⊥) (us : List Token) (split : h.left ≡ token_at t c ∷ us)
    (S : Settled t c.end false us) where
  abbrev Behind : Cursor
  Behind = cursor_of (one_more c.taken) c.end (S.broken, S.mark)

  token_counts : counts (token_at t c) ≡ true
  token_counts = ap not (line_not (token_at t c) h.no_line)

  few : c.taken < 65535
  few = omega (arith, h.taken_is, count_few counts h.past, length-append h.past h.left, scan_few 0 0 t (h.past ++ h.left) h.whole, h.short)

  taken_more : one_more c.taken ≡ count counts (h.past ++ (token_at t c ∷ S.lines))
  unfolding count
  taken_more =
      let n : count counts (token_at t c ∷ S.lines) ≡ 1 + count counts S.lines = ap (λ (b : Bool). (if b then 1 else 0) + count counts S.lines) token_counts in
      ap (λ (b : Bool). if b then c.taken + 1 else c.taken) (lt-ltb c.taken 65535 few)
      ∙ omega (arith, h.taken_is, n, settled_none S, count_append h.past (token_at t c ∷ S.lines))

  last_end_lem : c.end ≡ end_of 0 (h.past ++ (token_at t c ∷ S.lines))
  unfolding end_of
  last_end_lem =
      let l : c.start + length (take (c.end - c.start) (drop c.start t)) ≡ c.end
      = omega (arith, length-take (c.end - c.start) (drop c.start t), length-drop c.start t, token_in h some, end_in h) in
      sym (end_append 0 h.past (token_at t c ∷ S.lines)
      ∙ (ap (λ (b : Bool). end_of (if b then c.start + length (take (c.end - c.start) (drop c.start t)) else end_of 0 h.past) S.lines) token_counts
      ∙ (settled_last S (c.start + length (take (c.end - c.start) (drop c.start t))) ∙ l)))

  behind_holds : Holds t Behind
  behind_holds = record {
    short = h.short;
    past = h.past ++ (token_at t c ∷ S.lines);
    left = S.rest;
    whole = h.whole
        ∙ ap lexed (ap (λ (x : List Token). h.past ++ x) (split ∙ ap (λ (x : List Token). token_at t c ∷ x) S.split)
        ∙ sym (append_assoc h.past (token_at t c ∷ S.lines) S.rest));
    here = S.scans;
    start_is = ap (λ (m : Mark). m.start) S.again;
    end_is = ap (λ (m : Mark). m.end) S.again;
    code_is = ap (λ (m : Mark). m.code) S.again;
    inside = S.inside;
    no_line = S.no_line;
    taken_is = taken_more;
    last_is = last_end_lem;
  }

  toks_split : toks_at t c.start ≡ token_at t c ∷ (us ++ (final (length t) ∷ []))
  toks_split = toks_are h ∙ ap (λ (x : List Token). x ++ (final (length t) ∷ [])) split

  behind_reads : read (toks_at t c.start) ≡ ok (token_at t c) (toks_at t S.mark.start)
  unfolding read
  behind_reads = ap read toks_split ∙ ap (λ (x : List Token). ok (token_at t c) x) (settled_skips S)

  behind_fewer : suc (length (toks_at t S.mark.start)) ≤ length (toks_at t c.start)
  behind_fewer =
      omega (
        arith,
        ap length toks_split,
        length-append us (final (length t) ∷ []),
        ap length S.split,
        length-append S.lines S.rest,
        ap length (settled_toks S),
        length-append S.rest (final (length t) ∷ []),
      )

  behind_follows : Follows t c Behind
  behind_follows = record {
    holds = behind_holds;
    reads = λ z. behind_reads;
    next_is = λ z. ap (λ (x : List Token). (next x).kind) toks_split ∙ S.first_kind refl;
    fewer = λ z. behind_fewer;
  }

pub next_follows : {t : List ℕ} {c r : Cursor} → Holds t c → r ≡ advanced (take most_bytes t) c → Follows t c r
unfolding advanced cursor_at
next_follows {t} {c} {r} h e = subst (λ (x : Cursor). Follows t c x) (sym (e ∙ ap (λ (s : List ℕ). advanced s c) (take_all most_bytes t h.short))) (go (held h))
  where
    ended : c.code ≡ 0 → Follows t c c
    ended k = record { holds = h; reads = λ z. absurd (z k); next_is = λ z. absurd (z k); fewer = λ z. absurd (z k) }

    go : Seen t (mark_in c) h.left → Follows t c (advanced t c)
    go (over k l p q) = rw (eq-eqb c.code 0 k) (ended k)
    go (more us some l p r q) =
        let S = settle t c.end false us p r in
        rw (ne_eqb c.code 0 some, S.settles) (behind_follows h some us q S)

-- ---- the first cursor of a text

pub start_holds : (t : List ℕ) (ts : List Token) (c : Cursor) → length t ≤ most_bytes → scan 0 0 t ≡ lexed ts → c ≡ cursor_at (take most_bytes t) 0 0 0
    → Holds t c × (toks_at t c.start ≡ skip (toks_at t 0))
unfolding cursor_at toks_at
start_holds t ts c l e q =
    let S : Settled t 0 false ts = settle t 0 false ts (omega arith) e in
    let z : c ≡ cursor_of 0 0 (S.broken, S.mark) = q ∙ (ap (λ (s : List ℕ). cursor_at s 0 0 0) (take_all most_bytes t l) ∙ ap (cursor_of 0 0) S.settles) in
    subst (λ (x : Cursor). Holds t x × (toks_at t x.start ≡ skip (toks_at t 0))) (sym z) (held_first S, sym (settled_skips S) ∙ ap (λ (o : Lexed). skip (listed o ++ (final (length t) ∷ []))) (sym e))
  where
    held_first : (S : Settled t 0 false ts) → Holds t (cursor_of 0 0 (S.broken, S.mark))
    held_first S = record {
      short = l;
      past = S.lines;
      left = S.rest;
      whole = e ∙ ap lexed S.split;
      here = S.scans;
      start_is = ap (λ (m : Mark). m.start) S.again;
      end_is = ap (λ (m : Mark). m.end) S.again;
      code_is = ap (λ (m : Mark). m.code) S.again;
      inside = S.inside;
      no_line = S.no_line;
      taken_is = sym (settled_none S);
      last_is = sym (settled_last S 0);
    }

-- ---- the readers at a cursor

module _ {t : List ℕ} {c : Cursor} (h : Holds t c) where
  module _ {A : Type 0} where
    pub ask_yes : (test : Token → Bool) (m n : Reader A) → test (token_at t c) ≡ true → ask test m n (toks_at t c.start) ≡ m (toks_at t c.start)
    unfolding ask
    ask_yes test m n e = ap (λ (b : Bool). (if b then m else n) (toks_at t c.start)) (ap test (first_is h) ∙ e)

    pub ask_no : (test : Token → Bool) (m n : Reader A) → test (token_at t c) ≡ false → ask test m n (toks_at t c.start) ≡ n (toks_at t c.start)
    unfolding ask
    ask_no test m n e = ap (λ (b : Bool). (if b then m else n) (toks_at t c.start)) (ap test (first_is h) ∙ e)

    pub peek_is : (f : Token → Reader A) → (peek >>= f) (toks_at t c.start) ≡ f (token_at t c) (toks_at t c.start)
    unfolding ◌>>=◌ peek
    peek_is f = ap (λ (u : Token). f u (toks_at t c.start)) (first_is h)

    pub fail_is : (k : ℕ) → ◌≡◌ {A = Out A} (fail k (toks_at t c.start)) (refused k c.start)
    unfolding fail
    fail_is k = ap (λ (p : ℕ). refused k p) (first_from h)

  -- the token of a kind, and no other
  pub by_yes : {d : Cursor} → Follows t c d → (c.code ≡ 0 → ⊥) → (k : ℕ) → c.code ≡ k → the_by k (toks_at t c.start) ≡ ok (token_at t c) (toks_at t d.start)
  by_yes f some k e =
      peek_is (λ u. if eqb k u.kind then read else fail 8)
      ∙ (ap (λ (b : Bool). (if b then read else fail 8) (toks_at t c.start)) (eq-eqb k c.code (sym e)) ∙ f.reads some)

  pub by_no : (k : ℕ) → (c.code ≡ k → ⊥) → the_by k (toks_at t c.start) ≡ refused 8 c.start
  by_no k z =
      peek_is (λ u. if eqb k u.kind then read else fail 8)
      ∙ (ap (λ (b : Bool). (if b then read else fail 8) (toks_at t c.start)) (ne_eqb k c.code (λ e. z (sym e))) ∙ fail_is 8)

  pub the_is : {d : Cursor} → Follows t c d → (c.code ≡ 0 → ⊥) → (x : String) → code x ≡ c.code → the x (toks_at t c.start) ≡ ok (token_at t c) (toks_at t d.start)
  unfolding the
  the_is f some x e = by_yes f some (code x) (sym e)

  pub the_not : (x : String) → (code x ≡ c.code → ⊥) → the x (toks_at t c.start) ≡ refused 8 c.start
  unfolding the
  the_not x z = by_no (code x) (λ e. z (sym e))

  module _ {A : Type 0} where
    pub the_then : {d : Cursor} → Follows t c d → (c.code ≡ 0 → ⊥) → (x : String) → code x ≡ c.code → (f : Token → Reader A)
        → (the x >>= f) (toks_at t c.start) ≡ f (token_at t c) (toks_at t d.start)
    unfolding ◌>>=◌
    the_then w some x e f = ap (bind f) (the_is w some x e)

    pub the_next : {d : Cursor} → Follows t c d → (c.code ≡ 0 → ⊥) → (x : String) → code x ≡ c.code → (m : Reader A)
        → (the x >> m) (toks_at t c.start) ≡ m (toks_at t d.start)
    unfolding ◌>>◌ ◌>>=◌
    the_next w some x e m = ap (bind (λ a. m)) (the_is w some x e)

    pub the_then_not : (x : String) → (code x ≡ c.code → ⊥) → (f : Token → Reader A) → (the x >>= f) (toks_at t c.start) ≡ refused 8 c.start
    unfolding ◌>>=◌
    the_then_not x z f = ap (bind f) (the_not x z)

    pub the_next_not : (x : String) → (code x ≡ c.code → ⊥) → (m : Reader A) → (the x >> m) (toks_at t c.start) ≡ refused 8 c.start
    unfolding ◌>>◌ ◌>>=◌
    the_next_not x z m = ap (bind (λ a. m)) (the_not x z)

module _ {t : List ℕ} {c d : Cursor} (w : Follows t c d) (some : c.code ≡ 0 → ⊥) {A : Type 0} where
  pub read_then : (f : Token → Reader A) → (read >>= f) (toks_at t c.start) ≡ f (token_at t c) (toks_at t d.start)
  unfolding ◌>>=◌
  read_then f = ap (bind f) (w.reads some)

  pub read_next : (m : Reader A) → (read >> m) (toks_at t c.start) ≡ m (toks_at t d.start)
  unfolding ◌>>◌ ◌>>=◌
  read_next m = ap (bind (λ a. m)) (w.reads some)

-- what stands behind a token, lines aside, is the next
read_second : (ts : List Token) (u : Token) (r : List Token) → read ts ≡ ok u r → second ts ≡ first r
unfolding read
read_second [] u r e = absurd (let z : ◌≡◌ {A = ℕ} 0 1 = cc in omega arith)
read_second (v ∷ us) u r e = let q : skip us ≡ r = cc in ap first q

pub second_is : {t : List ℕ} {c d : Cursor} → Follows t c d → (c.code ≡ 0 → ⊥) → (second (toks_at t c.start)).kind ≡ d.code
second_is {t} {c} {d} w some = ap (λ (u : Token). u.kind) (read_second (toks_at t c.start) (token_at t c) (toks_at t d.start) (w.reads some)) ∙ first_kind w.holds

-- there is a token to read
pub reads_some : (ts : List Token) (u : Token) {k : ℕ} (b : ℕ) → read (ts ++ (u ∷ [])) ≡ refused k b → ⊥
unfolding read
reads_some [] u b e = let z : ◌≡◌ {A = ℕ} 0 1 = cc in omega arith
reads_some (t ∷ ts) u b e = let z : ◌≡◌ {A = ℕ} 0 1 = cc in omega arith

-- ---- the token of a code, taken or not

pub takes_next : {t : List ℕ} {c d : Cursor} → Holds t c → Follows t c d → (k : ℕ) → (k ≡ 0 → ⊥) → c.code ≡ k → Takes t k c (Ok d)
takes_next h w k z e = (w, e, by_yes h w (λ p. z (sym e ∙ p)) k e)

pub takes_not : {t : List ℕ} {c : Cursor} → Holds t c → (k : ℕ) → (c.code ≡ k → ⊥) → Takes t k c (Err (fault_at c ground.Token))
takes_not h k z = by_no h k z

-- ---- the text from a cursor on, as a text of its own

abbrev fore : ℕ → Mark → Mark
fore d m = record { start = m.start + d; end = m.end + d; code = m.code }

mark_further : (d k i : ℕ) (bs : List ℕ) → mark_from k (i + d) bs ≡ fore d (mark_from k i bs)
unfolding mark_from
mark_further d k i [] = refl
mark_further d (suc k) i (b ∷ bs) = ap (λ (x : ℕ). mark_from k x bs) (sym (suc-add i d)) ∙ mark_further d k (suc i) bs
mark_further d zero i (b ∷ bs) = go (λ n. ap (λ (x : ℕ). mark_from (n - 1) x bs) (sym (suc-add i d)) ∙ mark_further d (n - 1) (suc i) bs) (lexeme b bs)
  where
    go : ((n : ℕ) → mark_from (n - 1) (suc (i + d)) bs ≡ fore d (mark_from (n - 1) (suc i) bs)) → (o : Lexeme)
        → marked (i + d) (λ n. mark_from (n - 1) (suc (i + d)) bs) o ≡ fore d (marked i (λ n. mark_from (n - 1) (suc i) bs) o)
    go ih (gap n) = ih n
    go ih (piece κ n) = let p : i + d + n ≡ i + n + d = omega arith in λ j. record { start = i + d; end = p j; code = κ }
    go ih (fault f) = refl

module _ {t : List ℕ} {c : Cursor} (h : Holds t c) where
  abbrev D : ℕ
  D = c.start

  rebased_mark : fore D (mark_at (drop D t) 0) ≡ mark_in c
  unfolding mark_at
  rebased_mark = let p : 0 + D ≡ D = omega arith in sym (mark_further D 0 0 (drop D t)) ∙ (ap (λ (x : ℕ). mark_from 0 x (drop D t)) p ∙ mark_is h)

  rebased_scan : scan 0 0 (drop D t) ≡ lexed (map (back D) h.left)
  rebased_scan = go (scan 0 0 (drop D t)) refl
    where
      p : 0 + D ≡ D
      p = omega arith

      far : further D (scan 0 0 (drop D t)) ≡ lexed h.left
      far = sym (scan_further D 0 0 (drop D t)) ∙ (ap (λ (x : ℕ). scan 0 x (drop D t)) p ∙ h.here)

      go : (o : Lexed) → scan 0 0 (drop D t) ≡ o → o ≡ lexed (map (back D) h.left)
      go (lexed us) e =
          let q : lexed (map (forth D) us) ≡ lexed h.left = ap (further D) (sym e) ∙ far in
          let z : map (forth D) us ≡ h.left = cc in
          ap lexed (sym (forth_back D us) ∙ ap (map (back D)) z)
      go (faulty f x) e =
          let q : faulty f (x + D) ≡ lexed h.left = ap (further D) (sym e) ∙ far in
          absurd (let z : ◌≡◌ {A = ℕ} 0 1 = cc in omega arith)

  pub rebased_holds : Holds (drop D t) (rebase c)
  unfolding count end_of
  rebased_holds = record {
    short = omega (arith, length-drop D t, h.short);
    past = [];
    left = map (back D) h.left;
    whole = rebased_scan;
    here = rebased_scan;
    start_is = omega (arith, ap (λ (m : Mark). m.start) rebased_mark);
    end_is = omega (arith, ap (λ (m : Mark). m.end) rebased_mark);
    code_is = ap (λ (m : Mark). m.code) rebased_mark;
    inside = omega arith;
    no_line = h.no_line;
    taken_is = refl;
    last_is = refl;
  }

  pub rebased_toks : toks_at (drop D t) 0 ≡ map (back D) (toks_at t D)
  unfolding toks_at
  rebased_toks =
      let p : length (drop D t) ≡ length t - D = length-drop D t in
      ap (λ (o : Lexed). listed o ++ (final (length (drop D t)) ∷ [])) rebased_scan
      ∙ (ap (λ (n : ℕ). map (back D) h.left ++ (final n ∷ [])) p
      ∙ (sym (map-append (back D) h.left (final (length t) ∷ [])) ∙ ap (map (back D)) (sym (toks_are h))))
