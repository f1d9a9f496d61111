-- Laws of words in lines: what a text put behind another makes, and what is left of a line or of the records.
use mathlib.Core.Path.{◌≡◌, refl, sym, ap, ◌∙◌}
use mathlib.Core.List.{List, [], ◌∷◌, ◌++◌, map, append_assoc, append-nil}
use Prim.Native.Nat.{ℕ, zero, suc, ◌+◌, ◌-◌, ◌*◌, ◌/◌, ◌%◌, ◌^◌, ◌≤◌, ◌<◌}
use native.Mathlib.Numerals.{add-one}
use native.Mathlib.Omega.{arith}
use lib.ListN.{length, get_or, take, drop, length-append, length-take, length-drop, drop_of_length-le}
use lib.Seq.{drop-cons, length-take-le}
use Rattle.std.specs.List.{range_with_len}
use Rattle.std.proofs.Common.{take_at, drop_at}
use Rattle.std.proofs.lemmas.List.FromFn.{fill_by_all}
use Rattle.grammar.specs.Sizes.{record_width}
use Rattle.listing.specs.Lines.{hex_digit_ascii, word_bytes, record_bytes, word, gap_of, line, record_lines, Appended}

-- ---- text behind text

pub put_two : {o o₁ o₂ s t : List ℕ} {n m l : ℕ} → Appended o n s m o₁ → Appended o₁ m t l o₂ → Appended o n (s ++ t) l o₂
put_two {o} {o₁} {o₂} {s} {t} {n} {m} {l} x y =
    record {
      size = y.size ∙ x.size;
      end = omega (arith, x.end, y.end, length-append s t);
      bytes = y.bytes ∙ ap (λ (u : List ℕ). u ++ t) x.bytes ∙ append_assoc (take n o) s t;
    }

-- of a whole text that is put behind the first n bytes of o, the rest is still to come
pub record Going (o : List ℕ) (n : ℕ) (whole : List ℕ) (m : ℕ) (o' rest : List ℕ) : Type 0 where
  pub size : length o' ≡ length o
  pub left : m + length rest ≡ n + length whole
  pub bytes : take m o' ++ rest ≡ take n o ++ whole

pub going_on : {o o' o'' whole rest s next : List ℕ} {n m l : ℕ} → Going o n whole m o' rest → rest ≡ s ++ next → Appended o' m s l o''
    → Going o n whole l o'' next
going_on {o} {o'} {o''} {whole} {rest} {s} {next} {n} {m} {l} g e x =
    record {
      size = x.size ∙ g.size;
      left = omega (arith, x.end, g.left, ap length e, length-append s next);
      bytes =
          ap (λ (u : List ℕ). u ++ next) x.bytes ∙ append_assoc (take m o') s next ∙ ap (λ (u : List ℕ). take m o' ++ u) (sym e)
          ∙ g.bytes;
    }

pub going_end : {o o' whole rest : List ℕ} {n m : ℕ} → Going o n whole m o' rest → rest ≡ [] → Appended o n whole m o'
going_end {o} {o'} {whole} {rest} {n} {m} g e =
    record {
      size = g.size;
      end = omega (arith, g.left, ap length e);
      bytes = sym (append-nil (take m o')) ∙ ap (λ (u : List ℕ). take m o' ++ u) (sym e) ∙ g.bytes;
    }

-- what was put is within
pub appended_in : {o o' t : List ℕ} {m : ℕ} → Appended o 0 t m o' → m ≤ length o'
appended_in {o} {o'} {t} {m} x = omega (arith, x.end, ap length x.bytes, length-take m o')

-- ---- the digits of a word

pub word_length : (w : ℕ) → length (word w) ≡ 8
unfolding word
word_length w = refl

-- the digit of a word that n of them stand before
abbrev at_place : ℕ → ℕ → ℕ
at_place w n = hex_digit_ascii (w / 2 ^ (28 - 4 * n) % 16)

word_places : (w : ℕ) → map (at_place w) (range_with_len 0 8) ≡ word w
unfolding word
word_places w =
    let one : w / 2 ^ 0 ≡ w = omega arith in
    let two : w / 2 ^ 8 ≡ w / 16 / 16 = omega arith in
    let three : w / 2 ^ 12 ≡ w / 16 / 16 / 16 = omega arith in
    let four : w / 2 ^ 16 ≡ w / 16 / 16 / 16 / 16 = omega arith in
    let five : w / 2 ^ 20 ≡ w / 16 / 16 / 16 / 16 / 16 = omega arith in
    let six : w / 2 ^ 24 ≡ w / 16 / 16 / 16 / 16 / 16 / 16 = omega arith in
    let seven : w / 2 ^ 28 ≡ w / 16 / 16 / 16 / 16 / 16 / 16 / 16 = omega arith in
    rw (one, two, three, four, five, six, seven)

-- eight digits, each that of its place, are the word
pub word_made : (w : ℕ) (ds : List ℕ) → length ds ≡ 8
    → get_or ds 0 0 ≡ at_place w 0 → get_or ds 1 0 ≡ at_place w 1 → get_or ds 2 0 ≡ at_place w 2 → get_or ds 3 0 ≡ at_place w 3
    → get_or ds 4 0 ≡ at_place w 4 → get_or ds 5 0 ≡ at_place w 5 → get_or ds 6 0 ≡ at_place w 6 → get_or ds 7 0 ≡ at_place w 7 → ds ≡ word w
word_made w ds size d0 d1 d2 d3 d4 d5 d6 d7 = fill_by_all (at_place w) ds 8 0 size each ∙ word_places w
  where
    each : (k : ℕ) → k < 8 → get_or ds k 0 ≡ at_place w k
    each zero h = d0
    each (suc zero) h = d1
    each (suc (suc zero)) h = d2
    each (suc (suc (suc zero))) h = d3
    each (suc (suc (suc (suc zero)))) h = d4
    each (suc (suc (suc (suc (suc zero))))) h = d5
    each (suc (suc (suc (suc (suc (suc zero)))))) h = d6
    each (suc (suc (suc (suc (suc (suc (suc zero))))))) h = d7
    each (suc (suc (suc (suc (suc (suc (suc (suc k)))))))) h = absurd (omega arith)

-- ---- lines

pub line_length : (ws : List ℕ) → length (line ws) ≡ word_bytes * length ws
unfolding line
line_length [] = refl
line_length (w ∷ ws) = length-append (word w) (gap_of (length ws) ∷ line ws) ∙ omega (arith, word_length w, line_length ws)

-- the rest of a line begins with a word and what stands behind it
line_more : (ws : List ℕ) (i : ℕ) → i < length ws
    → line (drop i ws) ≡ (word (get_or ws i 0) ++ (gap_of (length ws - i - 1) ∷ [])) ++ line (drop (i + 1) ws)
unfolding line
line_more ws i h =
    let w = get_or ws i 0 in
    let cut : drop i ws ≡ w ∷ drop (i + 1) ws = rw (add-one, drop-cons ws i 0) in
    let size : length (drop (i + 1) ws) ≡ length ws - i - 1 = omega (arith, length-drop (i + 1) ws) in
    ap line cut ∙ ap (λ (n : ℕ). word w ++ (gap_of n ∷ line (drop (i + 1) ws))) size
    ∙ sym (append_assoc (word w) (gap_of (length ws - i - 1) ∷ []) (line (drop (i + 1) ws)))

module _ {o o' : List ℕ} {n m : ℕ} (ws : List ℕ) (i : ℕ) (g : Going o n (line ws) m o' (line (drop i ws))) where
  -- there is room for a word
  pub line_room : i < length ws → n + word_bytes * length ws ≤ length o → m + 8 ≤ length o'
  line_room h fits = omega (arith, g.size, g.left, line_length ws, line_length (drop i ws), length-drop i ws)

  -- and behind it for what stands there
  pub gap_room : {o₁ : List ℕ} {l : ℕ} → i < length ws → n + word_bytes * length ws ≤ length o → Appended o' m (word (get_or ws i 0)) l o₁ → l < length o₁
  gap_room h fits x =
      omega (arith, x.size, x.end, word_length (get_or ws i 0), g.size, g.left, line_length ws, line_length (drop i ws), length-drop i ws)

  -- both were put
  pub line_on : {o₁ o₂ : List ℕ} {l k b : ℕ} → i < length ws → Appended o' m (word (get_or ws i 0)) l o₁ → b ≡ gap_of (length ws - i - 1)
      → Appended o₁ l (b ∷ []) k o₂ → Going o n (line ws) k o₂ (line (drop (i + 1) ws))
  line_on h x f y =
      going_on g (line_more ws i h ∙ ap (λ (c : ℕ). (word (get_or ws i 0) ++ (c ∷ [])) ++ line (drop (i + 1) ws)) (sym f)) (put_two x y)

  pub line_done : length ws ≤ i → Appended o n (line ws) m o'
  unfolding line
  line_done h = going_end g (ap line (drop_of_length-le ws h))

-- ---- records

pub records_length : (n : ℕ) (ws : List ℕ) → record_width * n ≤ length ws → length (record_lines n ws) ≡ record_bytes * n
unfolding record_lines
records_length zero ws h = refl
records_length (suc n) ws h =
    length-append (line (take record_width ws)) (record_lines n (drop record_width ws))
    ∙ omega (arith, line_length (take record_width ws), length-take-le record_width ws (omega arith), records_length n (drop record_width ws) (omega (arith, length-drop record_width ws)))

-- the lines of the records begin with that of the first
record_more : (front rest : List ℕ) (k : ℕ) → length front ≡ record_width → record_lines (suc k) (front ++ rest) ≡ line front ++ record_lines k rest
unfolding record_lines
record_more front rest k e =
    ap (λ (u : List ℕ). line u ++ record_lines k (drop record_width (front ++ rest))) (take_at front rest record_width e)
    ∙ ap (λ (u : List ℕ). line front ++ record_lines k u) (drop_at front rest record_width e)

module _ {o o' : List ℕ} {n m : ℕ} (rs rest : List ℕ) (count left : ℕ) (g : Going o n (record_lines count rs) m o' (record_lines left rest)) (held : record_width * left ≤ length rest) where
  -- there is room for a record's line
  pub record_room : (next : ℕ) → next + 1 ≡ left → n + record_bytes * count ≤ length o → record_width * count ≤ length rs → m + record_bytes ≤ length o'
  record_room next more fits lent = omega (arith, more, g.size, g.left, records_length count rs lent, records_length left rest held)

  -- it was put
  pub records_on : {o'' : List ℕ} {l : ℕ} (front rest' : List ℕ) (next : ℕ) → next + 1 ≡ left → rest ≡ front ++ rest' → length front ≡ record_width
      → Appended o' m (line front) l o'' → (record_width * next ≤ length rest') × Going o n (record_lines count rs) l o'' (record_lines next rest')
  records_on front rest' next more e size x = (
    omega (arith, more, held, ap length e, length-append front rest', size),
    going_on g (ap (λ (k : ℕ). record_lines k rest) ((let e : left ≡ suc next = omega (arith, more) in e)) ∙ ap (record_lines (suc next)) e ∙ record_more front rest' next size) x,
  )

  pub records_done : (0 < left → length rest < record_width) → Appended o n (record_lines count rs) m o'
  unfolding record_lines
  records_done short = go left refl
    where
      go : (k : ℕ) → left ≡ k → Appended o n (record_lines count rs) m o'
      go zero e = going_end g (ap (λ (k : ℕ). record_lines k rest) e)
      go (suc k) e = absurd (omega (arith, e, held, short (omega (arith, e))))
