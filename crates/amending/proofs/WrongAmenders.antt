-- What no function can be that meets the contract of `amend`.
use mathlib.Core.Path.{◌≡◌, refl, sym, ap, ◌∙◌}
use mathlib.Core.List.{List, [], ◌∷◌}
use Prim.Native.Nat.{ℕ, suc}
use native.Mathlib.Omega.{arith}
use lib.ListN.{get_or, set}
use Rattle.tokens.specs.Text.{bytes}
use Rattle.tokens.specs.Names.{Lists}
use Rattle.grammar.specs.Grammar.{Edition, one}
use Rattle.grammar.specs.Script.{Entry, Outcome, accepted, refused, read_script}
use Rattle.grammar.specs.Computing.{computing}
use Rattle.reading.specs.Reading.{Leaves}
use Rattle.reading.specs.declared.reading.Answer.{Answer}
use Rattle.amending.specs.Amend.{ends_well}
use Rattle.amending.specs.Amending.{State, pick}
use Rattle.amending.specs.Lent.{over_rows, ascending, in_order, swapped, fitting_lent, put_lent, lent_at, amend_lent}
use Rattle.amending.specs.Entries.{rows_from}
use Rattle.amending.specs.Memory.{Memory, memory, within, amend_in, Amends}
use Rattle.amending.specs.States.{held_of, Holds}
use Rattle.amending.specs.Kept.{texts_in, records_in, texts_of, records_of, exchanged, KeepsRecords, KeepsTexts}
use Rattle.amending.specs.declared.held.Held.{Held}
use Rattle.amending.proofs.Certain.{read_holds, kept, kept_texts}

-- what a call is given, and what it answers and leaves
abbrev pub Call : Type 0
Call = Lists → Memory → Held → ℕ → List ℕ → Answer × Memory

-- a function that meets the contract of `amend`
abbrev pub Amending : Call → Type 0
Amending f = (l : Lists) (M : Memory) (h : Held) (k : ℕ) (n : List ℕ) → Amends l M h k n (f l M h k n).0 (f l M h k n).1

-- ---- memory that a reading of `a;`, or of another name of one letter, leaves

usd : Lists
unfolding computing
usd = record { reserved = []; currencies = bytes "USD\n"; counters = [] }

of : ℕ → Memory
of b = memory (b ∷ 59 ∷ []) (1 ∷ 1 ∷ 0 ∷ 0 ∷ 1 ∷ 0 ∷ 0 ∷ 0 ∷ []) (0 ∷ 2 ∷ 1 ∷ 2 ∷ 0 ∷ [])

-- and how much of it is used
single : Held
single = record { bytes = 2; statements = 1; records = 1; tokens = 2; latest = 0; edition = 1 }

-- the same in the first edition, and in the second
abbrev pub in_first : Held → Held
in_first h = record { bytes = h.bytes; statements = h.statements; records = h.records; tokens = h.tokens; latest = h.latest; edition = 1 }

in_second : Held → Held
in_second h = record { bytes = h.bytes; statements = h.statements; records = h.records; tokens = h.tokens; latest = h.latest; edition = 2 }

-- `a;` in slices of six bytes and four records
roomy : Memory
roomy =
    memory (97 ∷ 59 ∷ 0 ∷ 0 ∷ 0 ∷ 0 ∷ [])
    (1 ∷ 1 ∷ 0 ∷ 0 ∷ 1 ∷ 0 ∷ 0 ∷ 0 ∷ 0 ∷ 0 ∷ 0 ∷ 0 ∷ 0 ∷ 0 ∷ 0 ∷ 0 ∷ 0 ∷ 0 ∷ 0 ∷ 0 ∷ 0 ∷ 0 ∷ 0 ∷ 0 ∷ 0 ∷ 0 ∷ 0 ∷ 0 ∷ 0 ∷ 0 ∷ 0 ∷ 0 ∷ [])
    (0 ∷ 2 ∷ 1 ∷ 2 ∷ 0 ∷ [])

module _ (f : Call) (m : Amending f) where
  -- `a;` is amended to `b;`
  first : ((f usd (of 97) single 0 (bytes "b;")).0.number ≡ 0) × ((f usd (of 97) single 0 (bytes "b;")).1 ≡ of 98) × (held_of (f usd (of 97) single 0 (bytes "b;")).0 ≡ single)
  unfolding computing usd of single ends_well pick over_rows ascending in_order swapped fitting_lent put_lent lent_at amend_lent rows_from within amend_in
  first =
      let A = m usd (of 97) single 0 (bytes "b;") in
      (ap (λ (r : Answer). r.number) A.answer, A.memory, ap held_of A.answer)

  -- and that to `c;`
  second : (f usd (of 98) single 0 (bytes "c;")).1 ≡ of 99
  unfolding computing usd of single ends_well pick over_rows ascending in_order swapped fitting_lent put_lent lent_at amend_lent rows_from within amend_in
  second = (m usd (of 98) single 0 (bytes "c;")).memory

  differ : {b c : ℕ} → of b ≡ of c → b ≡ c
  unfolding of
  differ e = ap (λ (M : Memory). get_or M.script 0 0) e

  -- one that always refuses
  pub refuses_not_always : ((l : Lists) (M : Memory) (h : Held) (k : ℕ) (n : List ℕ) → (f l M h k n).0.number ≡ 0 → ⊥) → ⊥
  refuses_not_always g = g usd (of 97) single 0 (bytes "b;") first.0

  -- one that does nothing
  pub not_idle : ((l : Lists) (M : Memory) (h : Held) (k : ℕ) (n : List ℕ) → (f l M h k n).1 ≡ M) → ⊥
  not_idle g =
      let e : ◌≡◌ {A = ℕ} 98 97 = differ (sym first.1 ∙ g usd (of 97) single 0 (bytes "b;")) in
      absurd (omega (arith, e))

  -- one that works on the first call only: on memory that a call left, it leaves what was there
  pub not_once : ((l : Lists) (M : Memory) (h : Held) (k k' : ℕ) (n n' : List ℕ) → (f l (f l M h k n).1 (held_of (f l M h k n).0) k' n').1 ≡ (f l M h k n).1) → ⊥
  not_once g =
      let e : (f usd (of 98) single 0 (bytes "c;")).1 ≡ of 98 =
      (λ i. (f usd (sym first.1 i) (sym first.2 i) 0 (bytes "c;")).1) ∙ g usd (of 97) single 0 0 (bytes "b;") (bytes "c;") ∙ first.1 in
      let z : ◌≡◌ {A = ℕ} 99 98 = differ (sym second ∙ e) in
      absurd (omega (arith, z))

  -- one that reads every new text by the first edition, whichever is lent: it leaves the same memory in each
  pub not_by_the_first : ((l : Lists) (M : Memory) (h : Held) (k : ℕ) (n : List ℕ) → (f l M h k n).1 ≡ (f l M (in_first h) k n).1) → ⊥
  unfolding computing usd roomy single in_second ends_well pick over_rows ascending in_order swapped fitting_lent put_lent lent_at amend_lent rows_from within amend_in
  not_by_the_first g =
      let n = bytes "-2**2;" in
      let e : ◌≡◌ {A = ℕ} 7 0 =
      ap (λ (M : Memory). get_or M.records 24 0) (sym (m usd roomy (in_second single) 0 n).memory ∙ g usd roomy (in_second single) 0 n ∙ (m usd roomy single 0 n).memory) in
      absurd (omega (arith, e))

-- ---- what does not keep the other statements

-- a function whose accepted calls, on memory that holds a state, keep the records of the other statements; and one whose calls keep their texts
abbrev pub KeepingRecords : Call → Type 0
KeepingRecords f = (E : Edition) (l : Lists) (M : Memory) (h : Held) (st : State) (k : ℕ) (n : List ℕ) → Holds E l M h st → (f l M h k n).0.number ≡ 0
    → KeepsRecords E l M h k n (f l M h k n).1 (held_of (f l M h k n).0)

abbrev pub KeepingTexts : Call → Type 0
KeepingTexts f = (E : Edition) (l : Lists) (M : Memory) (h : Held) (st : State) (k : ℕ) (n : List ℕ) → Holds E l M h st → (f l M h k n).0.number ≡ 0
    → KeepsTexts E l M h k n (f l M h k n).1 (held_of (f l M h k n).0)

-- one that meets the contract is such a function
pub keeps_records : (f : Call) → Amending f → KeepingRecords f
keeps_records f m E l M h st k n H z = kept E l H (m l M h k n) z

pub keeps_texts : (f : Call) → Amending f → KeepingTexts f
keeps_texts f m E l M h st k n H z = kept_texts E l H (m l M h k n) z

-- memory that a reading of `a;true;` leaves
both : Memory
unfolding computing
both = memory (bytes "a;true;") (1 ∷ 1 ∷ 0 ∷ 0 ∷ 1 ∷ 0 ∷ 0 ∷ 0 ∷ 3 ∷ 1 ∷ 0 ∷ 0 ∷ 0 ∷ 0 ∷ 0 ∷ 0 ∷ []) (0 ∷ 2 ∷ 1 ∷ 2 ∷ 0 ∷ 2 ∷ 7 ∷ 1 ∷ 2 ∷ 0 ∷ [])

two : Held
two = record { bytes = 7; statements = 2; records = 2; tokens = 4; latest = 0; edition = 1 }

both_answer : Answer
both_answer = record { number = 0; byte = 0; line = 1; column = 1; bytes = 7; statements = 2; records = 2; tokens = 4; latest = 0; edition = 1 }

both_read : Leaves 1 usd (bytes "a;true;") both.records both.directory both_answer both.records both.directory
unfolding computing usd both both_answer
both_read = record { answer = refl; records = refl; directory = refl }

both_held : (st : State) × Holds one usd both two st
unfolding computing both two both_answer
both_held = let H = read_holds one usd both_read refl in (_, H.2)

-- what `1;` is read as, alone
taken : Outcome → List Entry
taken (accepted es) = es
taken (refused f p) = []

alone : (ns : List Entry) → read_script one usd (bytes "1;") ≡ accepted ns → (records_of ns ≡ (2 ∷ 1 ∷ 0 ∷ 0x3ff00000 ∷ 0 ∷ 0 ∷ 1 ∷ 0 ∷ []) ∷ []) × (texts_of (bytes "1;") ns ≡ (49 ∷ 59 ∷ []) ∷ [])
unfolding computing usd taken
alone ns e = (sym (ap (λ (x : Outcome). records_of (taken x)) e), sym (ap (λ (x : Outcome). texts_of (bytes "1;") (taken x)) e))

-- the first of the words, or bytes, of the i-th statement
first_of : ℕ → List (List ℕ) → ℕ
first_of i xs = get_or (get_or xs i []) 0 0

-- its second statement begins with another byte, and the second's records with another word
abbrev pub spoiled : Memory → Memory
spoiled M = memory (set M.script 2 0) (set M.records 8 0) M.directory

module _ (f g : Call) (m : Amending g) where
  -- one that replaces the statement behind the one that it is asked to replace
  module _ (w : (l : Lists) (M : Memory) (h : Held) (k : ℕ) (n : List ℕ) → f l M h k n ≡ g l M h (suc k) n) where
    made : ((f usd both two 0 (bytes "1;")).0.number ≡ 0) × (first_of 0 (records_in (f usd both two 0 (bytes "1;")).1 (held_of (f usd both two 0 (bytes "1;")).0)) ≡ 1)
        × (first_of 0 (texts_in (f usd both two 0 (bytes "1;")).1 (held_of (f usd both two 0 (bytes "1;")).0)) ≡ 97)
    unfolding computing usd both two first_of ends_well pick over_rows ascending in_order swapped fitting_lent put_lent lent_at amend_lent rows_from within amend_in
    made =
        let A = m usd both two 1 (bytes "1;") in
        let e = w usd both two 0 (bytes "1;") in (
          ap (λ (x : Answer × Memory). x.0.number) e ∙ ap (λ (r : Answer). r.number) A.answer,
          ap (λ (x : Answer × Memory). first_of 0 (records_in x.1 (held_of x.0))) e ∙ (λ i. first_of 0 (records_in (A.memory i) (held_of (A.answer i)))),
          ap (λ (x : Answer × Memory). first_of 0 (texts_in x.1 (held_of x.0))) e ∙ (λ i. first_of 0 (texts_in (A.memory i) (held_of (A.answer i)))),
        )

    pub records_not_of_another : KeepingRecords f → ⊥
    unfolding both two first_of rows_from
    records_not_of_another keeps =
        let K = keeps one usd both two both_held.0 0 (bytes "1;") both_held.1 made.0 in
        let e : ◌≡◌ {A = ℕ} 1 2 =
        sym made.1 ∙ ap (first_of 0) K.records ∙ ap (λ (ys : List (List ℕ)). first_of 0 (exchanged 0 ys (records_in both two))) (alone K.new K.reads).0 in
        absurd (omega (arith, e))

    pub texts_not_of_another : KeepingTexts f → ⊥
    unfolding both two first_of rows_from
    texts_not_of_another keeps =
        let K = keeps one usd both two both_held.0 0 (bytes "1;") both_held.1 made.0 in
        let e : ◌≡◌ {A = ℕ} 97 49 =
        sym made.2 ∙ ap (first_of 0) K.texts ∙ ap (λ (ys : List (List ℕ)). first_of 0 (exchanged 0 ys (texts_in both two))) (alone K.new K.reads).1 in
        absurd (omega (arith, e))

  -- one that replaces the right statement, and changes another's record and text
  module _ (w : (l : Lists) (M : Memory) (h : Held) (k : ℕ) (n : List ℕ) → f l M h k n ≡ ((g l M h k n).0, spoiled (g l M h k n).1)) where
    spoilt : ((f usd both two 0 (bytes "1;")).0.number ≡ 0) × (first_of 1 (records_in (f usd both two 0 (bytes "1;")).1 (held_of (f usd both two 0 (bytes "1;")).0)) ≡ 0)
        × (first_of 1 (texts_in (f usd both two 0 (bytes "1;")).1 (held_of (f usd both two 0 (bytes "1;")).0)) ≡ 0)
    unfolding computing usd both two first_of ends_well pick over_rows ascending in_order swapped fitting_lent put_lent lent_at amend_lent rows_from within amend_in
    spoilt =
        let A = m usd both two 0 (bytes "1;") in
        let e = w usd both two 0 (bytes "1;") in (
          ap (λ (x : Answer × Memory). x.0.number) e ∙ ap (λ (r : Answer). r.number) A.answer,
          ap (λ (x : Answer × Memory). first_of 1 (records_in x.1 (held_of x.0))) e ∙ (λ i. first_of 1 (records_in (spoiled (A.memory i)) (held_of (A.answer i)))),
          ap (λ (x : Answer × Memory). first_of 1 (texts_in x.1 (held_of x.0))) e ∙ (λ i. first_of 1 (texts_in (spoiled (A.memory i)) (held_of (A.answer i)))),
        )

    pub records_not_changed : KeepingRecords f → ⊥
    unfolding both two first_of rows_from
    records_not_changed keeps =
        let K = keeps one usd both two both_held.0 0 (bytes "1;") both_held.1 spoilt.0 in
        let e : ◌≡◌ {A = ℕ} 0 3 =
        sym spoilt.1 ∙ ap (first_of 1) K.records ∙ ap (λ (ys : List (List ℕ)). first_of 1 (exchanged 0 ys (records_in both two))) (alone K.new K.reads).0 in
        absurd (omega (arith, e))

    pub texts_not_changed : KeepingTexts f → ⊥
    unfolding computing both two first_of rows_from
    texts_not_changed keeps =
        let K = keeps one usd both two both_held.0 0 (bytes "1;") both_held.1 spoilt.0 in
        let e : ◌≡◌ {A = ℕ} 0 116 =
        sym spoilt.2 ∙ ap (first_of 1) K.texts ∙ ap (λ (ys : List (List ℕ)). first_of 1 (exchanged 0 ys (texts_in both two))) (alone K.new K.reads).1 in
        absurd (omega (arith, e))
