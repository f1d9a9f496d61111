-- WHAT IS CERTAIN OF THE CALLS THAT C AND RUST LINK, on one page: what `Certain` says, of the words that a caller lends and sees. `Reads` is the contract of `script_read`,
-- `Replaces` that of `script_amend`; both hold of the code, for all input. Of ten words ws, `number_in ws` is the first, 0 where a call was accepted, and `held_in ws` are the
-- last six: how much of the memory is used, the script's latest date, and its edition. What is assumed is what `Certain` assumes, where `Holds` is named, and nothing else; that lent words are words is `AreWords`.
use mathlib.Core.Path.{◌≡◌, refl, sym, ap, ◌∙◌, subst}
use mathlib.Core.Bool.{Bool, true, false, cond}
use mathlib.Core.List.{List, [], ◌∷◌}
use mathlib.Core.Logic.{◌⊎◌, inl, inr, ⊎_elim}
use Prim.Native.Nat.{ℕ, zero, suc, ◌+◌, ◌*◌, ◌<◌, ◌≤◌}
use native.Mathlib.Omega.{arith}
use lib.ListN.{length, take}
use Rattle.calendar.specs.declared.days.Day.{Day}
use Rattle.calendar.specs.Calendar.{is_day, count_of, last_count, day_of}
use Rattle.calendar.proofs.WayBack.{day_counted, counted_day}
use Rattle.tokens.specs.Limits.{most_bytes}
use Rattle.tokens.specs.Text.{script}
use Rattle.tokens.specs.Names.{Lists}
use Rattle.grammar.specs.Sizes.{record_width, entry_width}
use Rattle.grammar.specs.Grammar.{Edition}
use Rattle.grammar.specs.Script.{Entry, accepted, number_of}
use Rattle.grammar.proofs.DatedLaws.{read_latest}
use Rattle.reading.specs.Reading.{read_into, refused_at, Leaves}
use Rattle.reading.specs.Parts.{part_named, placed}
use Rattle.reading.specs.declared.reading.Answer.{Answer}
use Rattle.reading.specs.declared.parts.Place.{Place}
use Rattle.reading.proofs.ReadLaws.{leaves_same}
use Rattle.reading.proofs.PartLaws.{ends_in_script, ends_in_list}
use Rattle.reading.proofs.ReadAnswers as read
use Rattle.amending.specs.Amending.{State, Rooms, amend, left, after}
use Rattle.amending.specs.Lent.{given}
use Rattle.amending.specs.Memory.{Memory, memory, rooms_in, refused_at as left_at, answered}
use Rattle.amending.specs.States.{held_of, Holds, Begins}
use Rattle.amending.specs.Kept.{DatesTrue, KeepsRecords, KeepsTexts, KeepsBytes}
use Rattle.amending.specs.declared.held.Held.{Held}
use Rattle.amending.proofs.AmendAnswers as amended
use Rattle.amending.proofs.GroundLaws.{bounded}
use Rattle.amending.proofs.StateLaws.{held_within, call_holds}
use Rattle.amending.proofs.Certain as certain
use Rattle.archive.specs.Exports.{word, answer_words, number_in, held_in, place_words, day_words, day_in, Reads, Replaces, AreWords, numbers, Runs, none as no-calls, call}

-- ---- two outcomes of one call coincide

pub reads_same : {e : ℕ} {l : Lists} {bs o d w₁ w₂ o₁ o₂ d₁ d₂ : List ℕ} → Reads e l bs o d w₁ o₁ d₁ → Reads e l bs o d w₂ o₂ d₂ → (w₁ ≡ w₂) × (o₁ ≡ o₂) × (d₁ ≡ d₂)
reads_same x y =
    let same = leaves_same x.leaves y.leaves in
    (x.words ∙ ap answer_words same.0 ∙ sym y.words, same.1, same.2)

pub replaces_same : {l : Lists} {M M₁ M₂ : Memory} {vs n w₁ w₂ : List ℕ} {k : ℕ} → Replaces l M vs k n w₁ M₁ → Replaces l M vs k n w₂ M₂ → (w₁ ≡ w₂) × (M₁ ≡ M₂)
replaces_same {l} x y =
    let same = certain.amends_same l x.amends y.amends in
    (x.words ∙ ap answer_words same.0 ∙ sym y.words, same.1)

-- ---- no number is lost in the words of an answer

low : (n : ℕ) → n < 4294967296 → word n ≡ n
low n h = omega (arith, h)

-- counts and a date that are words
record Few (h : Held) : Type 0 where
  bytes : h.bytes < 4294967296
  statements : h.statements < 4294967296
  records : h.records < 4294967296
  tokens : h.tokens < 4294967296
  latest : h.latest < 4294967296

whole_words : (a : Answer) → (a.byte ≤ most_bytes) × (a.line ≤ suc most_bytes) × (a.column ≤ suc most_bytes) → Few (held_of a) → answer_words a ≡ numbers a
unfolding answer_words
whole_words a p f =
    λ i. a.number ∷ low a.byte (omega (arith, p.0)) i ∷ low a.line (omega (arith, p.1)) i ∷ low a.column (omega (arith, p.2)) i
    ∷ low a.bytes f.bytes i ∷ low a.statements f.statements i ∷ low a.records f.records i ∷ low a.tokens f.tokens i ∷ low a.latest f.latest i ∷ a.edition ∷ []

held_numbers : (a : Answer) → held_in (numbers a) ≡ held_of a
unfolding held_in
held_numbers a = refl

words_few : (vs : List ℕ) → AreWords vs → Few (held_in vs)
unfolding held_in
words_few vs W = record { bytes = omega (arith, W 4); statements = omega (arith, W 5); records = omega (arith, W 6); tokens = omega (arith, W 7); latest = omega (arith, W 8) }

module _ (l : Lists) where
  holds_few : {E : Edition} {M : Memory} {h : Held} {st : State} → Holds E l M h st → Few h
  holds_few {E} {M} {h} {st} H =
      let b = bounded M h (held_within E l M h st H) in
      record {
        bytes = omega (arith, b.0);
        statements = omega (arith, b.1);
        records = omega (arith, b.2);
        tokens = omega (arith, b.3);
        latest = omega (arith, ap (λ (x : Held). x.latest) H.counts, read_latest E l st.script H.good.read);
      }

  -- ---- `script_read`, with any number for the edition

  module _ (e : ℕ) {bs o d ws o' d' : List ℕ} (X : Reads e l bs o d ws o' d') where
    read_few : Few (held_of X.answer)
    read_few = go X.answer.number refl
      where
        go : (f : ℕ) → X.answer.number ≡ f → Few (held_of X.answer)
        go zero z =
            let K = certain.read_edition l e X.leaves z in
            let Y : Leaves (number_of K.0) l bs o d X.answer o' d' = subst (λ (m : ℕ). Leaves m l bs o d X.answer o' d') K.1 X.leaves in
            holds_few (certain.read_holds K.0 l Y z).2
        go (suc f) z =
            let c = (read.refused_keeps e l X.leaves (λ y. omega (arith, y, z))).2 in
            record { bytes = omega (arith, c.0); statements = omega (arith, c.1); records = omega (arith, c.2); tokens = omega (arith, c.3); latest = omega (arith, c.4) }

    -- the ten words are the numbers of the answer
    pub read_words : ws ≡ numbers X.answer
    read_words = X.words ∙ whole_words X.answer (read.place_small e l X.leaves) read_few

    number_read : number_in ws ≡ X.answer.number
    number_read = ap number_in read_words

    held_read : held_in ws ≡ held_of X.answer
    held_read = ap held_in read_words ∙ held_numbers X.answer

    -- the first is one of 0 to 16, or 26
    pub read_known : (number_in ws ≤ 16) ⊎ (number_in ws ≡ 26)
    read_known = ⊎_elim (λ h. inl (omega (arith, number_read, h))) (λ h. inr (number_read ∙ h)) (read.number_known e l X.leaves)

    -- 26 at byte 0 where e is neither 1 nor 2, whatever other grounds there are; and nowhere else
    pub read_no_edition : (e ≡ 1 → ⊥) → (e ≡ 2 → ⊥) → ws ≡ numbers (refused_at bs 26 0)
    read_no_edition a b = read_words ∙ ap numbers (certain.read_no_edition l e X.leaves a b)

    pub read_no_other : number_in ws ≡ 26 → (e ≡ 1 → ⊥) × (e ≡ 2 → ⊥)
    read_no_other z = certain.read_no_other l e X.leaves (sym number_read ∙ z)

    -- a refused one leaves every word as it was
    pub read_refused : (number_in ws ≡ 0 → ⊥) → (o' ≡ o) × (d' ≡ d)
    read_refused f = let R = read.refused_keeps e l X.leaves (λ z. f (number_read ∙ z)) in (R.0, R.1)

    -- an accepted one was given the number of an edition, and the last word has it
    pub read_edition : number_in ws ≡ 0 → (E : Edition) × (e ≡ number_of E) × ((held_in ws).edition ≡ e)
    read_edition z =
        let K = certain.read_edition l e X.leaves (sym number_read ∙ z) in
        (K.0, K.1, ap (λ (h : Held). h.edition) held_read ∙ K.2)

  -- and leaves memory that holds a state in it, of which its last six words say how much is used, with the script's latest date and its edition
  pub reads_hold : (E : Edition) {bs o d ws o' d' : List ℕ} → Reads (number_of E) l bs o d ws o' d' → number_in ws ≡ 0
      → (es : List Entry) × (read_into (number_of E) l bs o d ≡ accepted es) × Holds E l (memory bs o' d') (held_in ws) (record { script = script bs; entries = es })
  reads_hold E {bs} {o' = o'} {d' = d'} X z =
      let H = certain.read_holds E l X.leaves (sym (number_read (number_of E) X) ∙ z) in
      (H.0, H.1, subst (λ (h : Held). Holds E l (memory bs o' d') h (record { script = script bs; entries = H.0 })) (sym (held_read (number_of E) X)) H.2)

  -- ---- `script_amend`, on any memory

  module _ {M M' : Memory} {vs n ws : List ℕ} {k : ℕ} (X : Replaces l M vs k n ws M') where
    number_is : number_in ws ≡ X.answer.number
    unfolding answer_words
    number_is = ap number_in X.words

    -- the first word is one of 0 to 20, or 26
    pub amend_known : (number_in ws ≤ 20) ⊎ (number_in ws ≡ 26)
    amend_known = ⊎_elim (λ h. inl (omega (arith, number_is, h))) (λ h. inr (number_is ∙ h)) (certain.number_known l X.amends)

    -- 26 only where the lent edition is neither 1 nor 2
    pub amend_no_other : number_in ws ≡ 26 → ((held_in vs).edition ≡ 1 → ⊥) × ((held_in vs).edition ≡ 2 → ⊥)
    amend_no_other z = certain.no_other l X.amends (sym number_is ∙ z)

    -- THE EDITION IS NEVER CHANGED, whatever is answered and whatever the memory holds
    pub edition_kept : (held_in ws).edition ≡ (held_in vs).edition
    unfolding answer_words held_in
    edition_kept = ap (λ (x : List ℕ). (held_in x).edition) X.words ∙ certain.edition_kept l X.amends

    amend_few : Few (held_in vs) → Few (held_of X.answer)
    amend_few F = go X.answer.number refl
      where
        go : (f : ℕ) → X.answer.number ≡ f → Few (held_of X.answer)
        go zero e =
            let c = amended.counts_small X.amends e in
            record { bytes = omega (arith, c.0); statements = omega (arith, c.1); records = omega (arith, c.2); tokens = omega (arith, c.3); latest = omega (arith, c.4, F.latest) }
        go (suc f) e = subst Few (sym (certain.refused_keeps l X.amends (λ z. omega (arith, e, z))).1) F

    words_by : Few (held_in vs) → ws ≡ numbers X.answer
    words_by F = X.words ∙ whole_words X.answer (amended.place_small X.amends) (amend_few F)

    held_by : Few (held_in vs) → held_in ws ≡ held_of X.answer
    held_by F = ap held_in (words_by F) ∙ held_numbers X.answer

    module _ (W : AreWords vs) where
      -- the ten words are the numbers of the answer
      pub amend_words : ws ≡ numbers X.answer
      amend_words = words_by (words_few vs W)

      -- a refused one leaves every byte and word of the memory as it was, and its last six words too
      pub amend_refused : (number_in ws ≡ 0 → ⊥) → (M' ≡ M) × (held_in ws ≡ held_in vs)
      amend_refused f =
          let R = certain.refused_keeps l X.amends (λ z. f (number_is ∙ z)) in
          (R.0, held_by (words_few vs W) ∙ R.1)

      -- 26 at byte 0 where the lent edition is neither 1 nor 2, whatever other grounds there are
      pub amend_no_edition : ((held_in vs).edition ≡ 1 → ⊥) → ((held_in vs).edition ≡ 2 → ⊥) → (ws ≡ numbers (left_at (held_in vs) n 26 0)) × (M' ≡ M)
      amend_no_edition a b =
          let R = certain.no_edition l X.amends a b in
          (amend_words ∙ ap numbers R.0, R.1)

  -- nor does any number of calls change the edition
  pub runs_keep_edition : {M M' : Memory} {vs ws : List ℕ} {cs : List (ℕ × List ℕ)} → Runs l M vs cs M' ws → (held_in ws).edition ≡ (held_in vs).edition
  runs_keep_edition no-calls = refl
  runs_keep_edition (call X C) = runs_keep_edition C ∙ edition_kept X

-- ---- memory that holds a state

module _ (E : Edition) (l : Lists) where
  module _ {M : Memory} (vs : List ℕ) {st : State} (H : Holds E l M (held_in vs) st) where
    F : Few (held_in vs)
    F = holds_few l H

    -- its edition is the last of the words
    pub of_edition : (held_in vs).edition ≡ number_of E
    of_edition = certain.of_edition E l H

    -- it goes on holding it in other slices that begin with what is used of it
    pub re_lent : {N : Memory} → Begins (held_in vs) M N → Holds E l N (held_in vs) st
    re_lent B = certain.re_lent E l H B

    -- it is what reading its script from the start in its edition gives: the same counts, every word of the records, every word of the directory
    pub as_read : {o d o' d' ws : List ℕ} → length o ≡ length M.records → length d ≡ length M.directory
        → Reads (number_of E) l (take (held_in vs).bytes M.script) o d ws o' d'
        → (number_in ws ≡ 0) × (held_in ws ≡ held_in vs) × (take (record_width * (held_in vs).records) o' ≡ take (record_width * (held_in vs).records) M.records)
        × (take (entry_width * (held_in vs).statements) d' ≡ take (entry_width * (held_in vs).statements) M.directory)
    as_read lo ld X =
        let R = certain.as_read E l H lo ld X.leaves in
        (number_read l (number_of E) X ∙ R.0, held_read l (number_of E) X ∙ R.1, R.2, R.3)

    -- each entry's latest date is that of its records' words, and the script's, the last word but one, is the greatest of the entries'
    pub dates_true : DatesTrue M (held_in vs)
    dates_true = certain.dates_true E l H

    module _ {k : ℕ} {n ws : List ℕ} {M' : Memory} (X : Replaces l M vs k n ws M') where
      accepted_by : number_in ws ≡ 0 → X.answer.number ≡ 0
      accepted_by z = sym (number_is l X) ∙ z

      after_it : held_of X.answer ≡ held_in ws
      after_it = sym (held_by l X F)

      -- the grounds are exact: its words are the numbers that the definition answers of the state
      pub answers : ws ≡ numbers (answered (held_in vs) n (given (amend E l (rooms_in M) st k n)))
      answers = words_by l X F ∙ ap numbers (certain.answers E l H X.amends)

      -- it leaves memory that holds a state again, in the same edition: that of the whole new script, or the old one
      pub replaces_hold : Holds E l M' (held_in ws) (left st (amend E l (rooms_in M) st k n))
      replaces_hold = subst (λ (h : Held). Holds E l M' h (left st (amend E l (rooms_in M) st k n))) after_it (certain.call_leaves E l H X.amends)

      -- an accepted one replaces exactly the bytes of statement k, as the directory has them, by the new text
      pub kept_bytes : number_in ws ≡ 0 → KeepsBytes M (held_in vs) k n M' (held_in ws)
      kept_bytes z = subst (KeepsBytes M (held_in vs) k n M') after_it (certain.kept_bytes E l H X.amends (accepted_by z))

      -- and keeps every other statement: the same words of records, the same text, in the same order
      pub kept : number_in ws ≡ 0 → KeepsRecords E l M (held_in vs) k n M' (held_in ws)
      kept z = subst (KeepsRecords E l M (held_in vs) k n M') after_it (certain.kept E l H X.amends (accepted_by z))

      pub kept_texts : number_in ws ≡ 0 → KeepsTexts E l M (held_in vs) k n M' (held_in ws)
      kept_texts z = subst (KeepsTexts E l M (held_in vs) k n M') after_it (certain.kept_texts E l H X.amends (accepted_by z))

  -- ---- any number of calls, refused ones among them

  pub runs_hold : {M M' : Memory} {vs ws : List ℕ} {st : State} {cs : List (ℕ × List ℕ)} → Holds E l M (held_in vs) st → Runs l M vs cs M' ws → Holds E l M' (held_in ws) (after E l (rooms_in M) st cs)
  runs_hold H no-calls = H
  runs_hold {M} {M'} {vs} {ws} {st} H (call {n = n} {k = k} {cs = cs} X C) =
      subst (λ (R : Rooms). Holds E l M' (held_in ws) (after E l R (left st (amend E l (rooms_in M) st k n)) cs)) (call_holds E l M (held_in vs) st H k n X.amends).0
      (runs_hold (replaces_hold vs H X) C)

-- ---- `script_part`: of slices below 4 GiB, its words are the place itself

module _ (s c ws : List ℕ) (start : ℕ) (second : Bool) (short : length s < 4294967296) (few : length c < 4294967296) where
  abbrev p : Place
  p = placed (part_named s c ws start second)

  ends : (t : Bool) → p.in_list ≡ t → p.from + p.size < 4294967296
  ends true e = omega (arith, ends_in_list s c ws start second p refl e)
  ends false e = omega (arith, ends_in_script s c ws start second p refl e)

  pub part_words : place_words p ≡ cond p.in_list 1 0 ∷ p.from ∷ p.size ∷ []
  unfolding place_words
  part_words =
      let e = ends p.in_list refl in
      λ i. cond p.in_list 1 0 ∷ low p.from (omega (arith, e)) i ∷ low p.size (omega (arith, e)) i ∷ []

-- ---- `calendar_count` answers `count_of` of a day, and `calendar_day` leaves `day_words` of `day_of` a count: each gives back what the other was asked

words_day : (d : Day) → day_in (day_words d) ≡ d
unfolding day_words day_in
words_day d = refl

pub day_back : (d : Day) → is_day d ≡ true → day_in (day_words (day_of (count_of d))) ≡ d
day_back d e = words_day (day_of (count_of d)) ∙ counted_day d e

pub count_back : (n : ℕ) → n ≤ last_count → count_of (day_in (day_words (day_of n))) ≡ n
count_back n h = ap count_of (words_day (day_of n)) ∙ day_counted n h
