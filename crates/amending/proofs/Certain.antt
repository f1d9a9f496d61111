-- WHAT IS CERTAIN OF READING AND AMENDING, on one page. `Leaves` is the contract of `read`, `Amends` that of `amend`; both hold of the code, for all input.
-- A caller sees the answer r, whose number is 0 where a call was accepted, and the memory M' that is left, of which `held_of r` says how much is used, and in what edition.
-- What is assumed below, and no more: the lists l are the same throughout; the script is the first bytes of its slice, as many as the counts say; and the memory
-- was left by a reading in the edition E (`read_holds`) or by calls on such memory (`calls_hold`), in the same slices or in others (`re_lent`). That is what `Holds`
-- says. No ground checks it, so the theorems name it. Where `Holds` is not named, a theorem holds of any memory. The edition is a parameter: each theorem holds of
-- the first as of the second, and no call leads from one to the other (`edition_kept`, `calls_keep_edition`).
use mathlib.Core.Path.{◌≡◌, refl, ap, ◌∙◌, subst}
use mathlib.Core.Bool.{true}
use mathlib.Core.List.{List}
use mathlib.Core.Logic.{◌⊎◌}
use Prim.Native.Nat.{ℕ, ◌*◌, ◌≤◌}
use lib.ListN.{length, take}
use borrow.Author.Tests.{ne_eqb}
use Rattle.tokens.specs.Text.{script}
use Rattle.tokens.specs.Names.{Lists}
use Rattle.tokens.proofs.Outcomes.{one_outcome}
use Rattle.grammar.specs.Grammar.{Edition, one, two}
use Rattle.grammar.specs.Sizes.{record_width, entry_width, record_room, statement_room}
use Rattle.grammar.specs.Script.{Entry, accepted, number_of}
use Rattle.grammar.proofs.Refusals.{edition_first}
use Rattle.reading.specs.Reading.{refused_at as none_at, answer_to, read_into, Leaves}
use Rattle.reading.specs.declared.reading.Answer.{Answer}
use Rattle.reading.proofs.ReadAnswers as reads
use Rattle.amending.specs.Amending.{State, Rooms, amend, left, after}
use Rattle.amending.specs.Lent.{in_order, given}
use Rattle.amending.specs.Memory.{Memory, memory, rooms_in, used_in, within, refused_at, answered, Amends}
use Rattle.amending.specs.States.{held_of, Holds, Begins, Calls, none as no-calls, call}
use Rattle.amending.specs.Kept.{DatesTrue, KeepsRecords, KeepsTexts, KeepsBytes}
use Rattle.amending.specs.declared.held.Held.{Held}
use Rattle.amending.proofs.Editions.{known, read_not_26}
use Rattle.amending.proofs.LentLaws.{good_in_order}
use Rattle.amending.proofs.GroundLaws.{within_yes}
use Rattle.amending.proofs.StateLaws.{held_edition, held_within, call_is, call_holds}
use Rattle.amending.proofs.AmendAnswers as amended
use Rattle.amending.proofs.Rereading.{reads_same, leaves_holds}
use Rattle.amending.proofs.Slices.{begins_holds}
use Rattle.amending.proofs.KeptLaws.{held_dates, call_records, call_texts, call_bytes}

module _ (l : Lists) where
  -- ---- one call, on any memory, with any number for its edition

  -- of `read`: its number is one of 0 to 16, or 26, its byte is inside the script, and a refused one leaves every word of records and directory as it was
  module _ (e : ℕ) {bs o d o' d' : List ℕ} {r : Answer} (X : Leaves e l bs o d r o' d') where
    pub read_known : (r.number ≤ 16) ⊎ (r.number ≡ 26)
    read_known = reads.number_known e l X

    pub read_inside : r.byte ≤ length (script bs)
    read_inside = reads.byte_inside e l X

    pub read_refused : (r.number ≡ 0 → ⊥) → (o' ≡ o) × (d' ≡ d)
    read_refused f = let R = reads.refused_keeps e l X f in (R.0, R.1)

    -- 26 is the answer where e is neither 1 nor 2, at byte 0, whatever other grounds there are; and nowhere else
    pub read_no_edition : (e ≡ 1 → ⊥) → (e ≡ 2 → ⊥) → r ≡ none_at bs 26 0
    read_no_edition a b = X.answer ∙ ap (answer_to e bs) (edition_first e l bs (record_room (length o)) (statement_room (length d)) (ne_eqb e 1 a) (ne_eqb e 2 b))

    pub read_no_other : r.number ≡ 26 → (e ≡ 1 → ⊥) × (e ≡ 2 → ⊥)
    read_no_other z = (λ v. read_not_26 one v l X z, λ v. read_not_26 two v l X z)

    -- an accepted one has the number of an edition, and answers it
    pub read_edition : r.number ≡ 0 → (E : Edition) × (e ≡ number_of E) × (r.edition ≡ e)
    read_edition z =
        let R = reads.edition_kept e l X z in
        let K = known e R.1 in
        (K.0, K.1, R.0)

  module _ {M : Memory} {h : Held} {k : ℕ} {n : List ℕ} where
    -- of `amend`: two outcomes of it coincide
    pub amends_same : {r₁ r₂ : Answer} {M₁ M₂ : Memory} → Amends l M h k n r₁ M₁ → Amends l M h k n r₂ M₂ → (r₁ ≡ r₂) × (M₁ ≡ M₂)
    amends_same x y = (one_outcome x.answer y.answer, one_outcome x.memory y.memory)

    module _ {r : Answer} {M' : Memory} (A : Amends l M h k n r M') where
      -- its number is one of 0 to 20, or 26, and its byte is inside the new text
      pub number_known : (r.number ≤ 20) ⊎ (r.number ≡ 26)
      number_known = amended.number_known A

      pub byte_inside : r.byte ≤ length n
      byte_inside = amended.byte_inside A

      -- a refused one leaves every byte and word of the memory as it was, and answers the old counts, the old latest date and the old edition
      pub refused_keeps : (r.number ≡ 0 → ⊥) → (M' ≡ M) × (held_of r ≡ h)
      refused_keeps = amended.refused_keeps A

      -- 26 is the answer where the lent edition is neither 1 nor 2, at byte 0, whatever other grounds there are; and nowhere else
      pub no_edition : (h.edition ≡ 1 → ⊥) → (h.edition ≡ 2 → ⊥) → (r ≡ refused_at h n 26 0) × (M' ≡ M)
      no_edition = amended.no_edition A

      pub no_other : r.number ≡ 26 → (h.edition ≡ 1 → ⊥) × (h.edition ≡ 2 → ⊥)
      no_other = amended.no_other A

      -- IT NEVER CHANGES THE EDITION, refused or accepted, whatever the memory holds
      pub edition_kept : r.edition ≡ h.edition
      edition_kept = amended.edition_kept A

  -- nor does any number of calls
  pub calls_keep_edition : {M M' : Memory} {h h' : Held} {cs : List (ℕ × List ℕ)} → Calls l M h cs M' h' → h'.edition ≡ h.edition
  calls_keep_edition no-calls = refl
  calls_keep_edition (call A C) = calls_keep_edition C ∙ edition_kept A

module _ (E : Edition) (l : Lists) where
  -- ---- memory that holds a state

  -- what `read` accepts leaves such memory
  pub read_holds : {bs o d o' d' : List ℕ} {r : Answer} → Leaves (number_of E) l bs o d r o' d' → r.number ≡ 0
      → (es : List Entry) × (read_into (number_of E) l bs o d ≡ accepted es) × Holds E l (memory bs o' d') (held_of r) (record { script = script bs; entries = es })
  read_holds X z = let A = reads.accepted_is (number_of E) l X z in (A.0, A.1, leaves_holds E l A.1 X)

  module _ {M : Memory} {h : Held} {st : State} (H : Holds E l M h st) where
    -- its edition is the one that is lent with the counts
    pub of_edition : h.edition ≡ number_of E
    of_edition = held_edition E l M h st H

    -- it goes on holding its state when it is lent in other slices that begin with what is used of it
    pub re_lent : {N : Memory} → Begins h M N → Holds E l N h st
    re_lent B = begins_holds H B

    -- its directory is in order, with counts that are within: the condition of 20 is never met
    pub in_order_lem : (within (rooms_in M) h ≡ true) × (in_order (rooms_in M) (used_in M h) ≡ true)
    in_order_lem = (within_yes (rooms_in M) h (held_within E l M h st H), ap (in_order (rooms_in M)) H.used ∙ good_in_order E l (rooms_in M) st H.good)

    -- it is what reading its script from the start in its edition gives: the same counts, every word of the records, every word of the directory
    pub as_read : {o d o' d' : List ℕ} {r : Answer} → length o ≡ length M.records → length d ≡ length M.directory
        → Leaves (number_of E) l (take h.bytes M.script) o d r o' d'
        → (r.number ≡ 0) × (held_of r ≡ h) × (take (record_width * h.records) o' ≡ take (record_width * h.records) M.records)
        × (take (entry_width * h.statements) d' ≡ take (entry_width * h.statements) M.directory)
    as_read = reads_same E l H

    -- each entry's latest date is that of its records' words, and the script's is the greatest of the entries'
    pub dates_true : DatesTrue M h
    dates_true = held_dates H

    -- ---- one call on it

    module _ {k : ℕ} {n : List ℕ} {r : Answer} {M' : Memory} (A : Amends l M h k n r M') where
      -- the grounds are exact: it answers what the definition answers of the state, 17, 19, 1 to 15, 18, 16 or accepted, each on its condition alone
      pub answers : r ≡ answered h n (given (amend E l (rooms_in M) st k n))
      answers = A.answer ∙ ap (answered h n) (call_is E l M h st H k n)

      -- it leaves memory that holds a state again, in the same edition: that of the whole new script, or the old one
      pub call_leaves : Holds E l M' (held_of r) (left st (amend E l (rooms_in M) st k n))
      call_leaves = (call_holds E l M h st H k n A).1

      -- an accepted one replaces exactly the bytes of statement k, as the directory has them, by the new text
      pub kept_bytes : r.number ≡ 0 → KeepsBytes M h k n M' (held_of r)
      kept_bytes = call_bytes E l H A

      -- and keeps every other statement: the same words of records, the same text, in the same order
      pub kept : r.number ≡ 0 → KeepsRecords E l M h k n M' (held_of r)
      kept = call_records E l H A

      pub kept_texts : r.number ≡ 0 → KeepsTexts E l M h k n M' (held_of r)
      kept_texts = call_texts E l H A

  -- ---- any number of calls, refused ones among them

  pub calls_hold : {M M' : Memory} {h h' : Held} {st : State} {cs : List (ℕ × List ℕ)} → Holds E l M h st → Calls l M h cs M' h' → Holds E l M' h' (after E l (rooms_in M) st cs)
  calls_hold H no-calls = H
  calls_hold {M} {M'} {h} {h'} {st} H (call {k = k} {n = n} {cs = cs} A C) =
      let X = call_holds E l M h st H k n A in
      subst (λ (R : Rooms). Holds E l M' h' (after E l R (left st (amend E l (rooms_in M) st k n)) cs)) X.0 (calls_hold X.1 C)
