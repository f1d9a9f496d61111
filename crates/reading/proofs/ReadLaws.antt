-- Laws of reading into lent memory: what a judgement, the room and the reader of all statements leave there.
use Rattle.std.specs.Prelude.{if◌then◌else◌}
use mathlib.Core.Path.{◌≡◌, refl, sym, ap, ◌∙◌, subst}
use mathlib.Core.Bool.{Bool, true, false}
use mathlib.Core.List.{List, [], ◌∷◌, ◌++◌, map}
use Prim.Native.Nat.{ℕ, ◌*◌, ◌/◌, ◌≤◌, ◌<◌}
use native.Mathlib.Omega.{arith}
use lib.Dec.{ltb}
use lib.ListN.{length, length-map, take}
use borrow.Author.Tests.{ne_eqb, lt-ltb, le-ltb, ltb-true, ltb-false}
use Rattle.tokens.specs.Text.{script}
use Rattle.tokens.specs.Names.{Lists}
use Rattle.tokens.proofs.Outcomes.{one_outcome}
use Rattle.grammar.specs.Sizes.{record_width, entry_width, most_records, most_statements, record_room, statement_room}
use Rattle.grammar.specs.Grammar.{Edition}
use Rattle.grammar.specs.Script.{Entry, Outcome, accepted, refused, fitting, read_script, reading_in, number_of, reading, statements, language, nodes, tokens_of}
use Rattle.grammar.specs.Words.{words_of, row_of, row_words, directory_of, latest_of}
use Rattle.reading.specs.Rows.{rows, put_rows, put_entries}
use Rattle.reading.specs.Meets.{edition_by, toks_at}
use Rattle.reading.specs.Few.{Few}
use Rattle.std.specs.Prelude.{Result, Ok, Err}
use Rattle.tokens.specs.declared.refusals.Refusal.{Refusal}
use Rattle.reading.specs.Scripts.{Clean, rows_in, entries_in, ReadsAll, MeetsAll}
use Rattle.reading.specs.declared.answers.All.{All}
use Rattle.reading.specs.declared.judging.Counts.{Counts}
use Rattle.reading.specs.declared.reading.Answer.{Answer}
use Rattle.reading.specs.Judging.{good, rejected, judged_of, last_end, judgement}
use Rattle.reading.specs.Reading.{accepted_with, refused_at, answer_of, answer_to, over, left_by, LeavesBy, LeavesIn, Leaves}
use Rattle.grammar.proofs.Refusals.{edition_first}
use Rattle.grammar.proofs.AmendBytes.{Accepted, read_accepted, script_no_zero, read_script_lem}
use Rattle.grammar.proofs.WordLaws.{words_length, directory_length}
use Rattle.reading.proofs.RowLaws.{flat, flat_append, rows_flat, rows_wide, Wide, none, more, wide_append, put_first}
use Rattle.reading.proofs.WholeLaws.{rows_in_size}
use Rattle.reading.proofs.JudgeLaws.{script_in, script_take, toks_all, lists_few}

-- ---- two outcomes of one call coincide

pub leaves_same : {e : ℕ} {x : Outcome} {bs o d : List ℕ} {r₁ r₂ : Answer} {o₁ o₂ d₁ d₂ : List ℕ} → LeavesBy e x bs o d r₁ o₁ d₁ → LeavesBy e x bs o d r₂ o₂ d₂
    → (r₁ ≡ r₂) × (o₁ ≡ o₂) × (d₁ ≡ d₂)
leaves_same x y = (one_outcome x.answer y.answer, one_outcome x.records y.records, one_outcome x.directory y.directory)

-- ---- rows as words

rows_in_flat : (es : List Entry) → flat (rows_in es) ≡ words_of es
rows_in_flat [] = refl
rows_in_flat (e ∷ es) = flat_append (rows e.tree) (rows_in es) ∙ rw (rows_flat e.tree, rows_in_flat es)

rows_in_wide : (es : List Entry) → Wide record_width (rows_in es)
rows_in_wide [] = none
rows_in_wide (e ∷ es) = wide_append (rows_wide e.tree) (rows_in_wide es)

entries_in_flat : (es : List Entry) → flat (entries_in es) ≡ directory_of es
entries_in_flat [] = refl
entries_in_flat (e ∷ es) = ap (λ (l : List ℕ). row_words (row_of e) ++ l) (entries_in_flat es)

entries_in_wide : (es : List Entry) → Wide entry_width (entries_in es)
entries_in_wide [] = none
entries_in_wide (e ∷ es) = more refl (entries_in_wide es)

-- what fits stands at the front, and the words past it are as they were
put_records : (o : List ℕ) (es : List Entry) → record_width * nodes es ≤ length o → put_rows o 0 (rows_in es) ≡ over (words_of es) o
put_records o es h =
    let fits : record_width * length (rows_in es) ≤ length o = omega (arith, rows_in_size es) in
    let past : record_width * length (rows_in es) ≡ length (words_of es) = omega (arith, rows_in_size es, words_length es) in
    put_first record_width (omega arith) o (rows_in es) fits (rows_in_wide es) ∙ rw (rows_in_flat es, past)

put_directory : (d : List ℕ) (es : List Entry) → entry_width * length es ≤ length d → put_entries d 0 (entries_in es) ≡ over (directory_of es) d
put_directory d es h =
    let size : length (entries_in es) ≡ length es = length-map es (λ (e : Entry). row_words (row_of e)) in
    let fits : entry_width * length (entries_in es) ≤ length d = omega arith in
    let past : entry_width * length (entries_in es) ≡ length (directory_of es) = omega (arith, directory_length es) in
    put_first entry_width (omega arith) d (entries_in es) fits (entries_in_wide es) ∙ rw (entries_in_flat es, past)

-- ---- room

pub room_in : (most n : ℕ) → (if ltb most n then most else n) ≤ n
room_in most n = go (ltb most n) refl
  where
    go : (b : Bool) → ltb most n ≡ b → (if b then most else n) ≤ n
    go true e = omega (arith, ltb-true most n e)
    go false e = omega arith

pub room_most : (most n : ℕ) → (if ltb most n then most else n) ≤ most
room_most most n = go (ltb most n) refl
  where
    go : (b : Bool) → ltb most n ≡ b → (if b then most else n) ≤ most
    go true e = omega arith
    go false e = ltb-false most n e

-- ---- what the reader of all statements wrote, where they can be read

-- the latest date that it answers
abbrev pub latest_read : Result All Refusal → ℕ
latest_read (Ok a) = a.latest
latest_read (Err b) = 0

all_wrote : {R : Outcome} (o d : List ℕ) {k n x : ℕ} {o' d' : List ℕ} (es : List Entry) → R ≡ accepted es → record_width * nodes es ≤ length o → ReadsAll R o d k n x o' d'
    → (o' ≡ put_rows o 0 (rows_in es)) × (d' ≡ put_entries d 0 (entries_in es)) × (x ≡ latest_of (map row_of es))
all_wrote o d {n = n} es e h X =
    let both : accepted X.entries ≡ accepted es = sym X.is ∙ e in
    let same : X.entries ≡ es = cc in
    let fits : record_width * n ≤ length o = omega (arith, X.records_are, ap nodes same) in (
      X.records ∙ ap (λ fs. put_rows o 0 (rows_in fs)) same,
      X.directory fits ∙ ap (λ fs. put_entries d 0 (entries_in fs)) same,
      X.latest fits ∙ ap (λ fs. latest_of (map row_of fs)) same,
    )

module _ (E : Edition) (l : Lists) (bs : List ℕ) where
  -- ---- what a judgement says of the script

  pub judged_not : {k p : ℕ} → judgement E l bs ≡ rejected k p → read_script E l bs ≡ refused k p
  unfolding judgement
  judged_not {k} {p} h = go (read_script E l bs) refl h
    where
      go : (x : Outcome) → read_script E l bs ≡ x → judged_of (length (script bs)) (last_end (script bs)) x ≡ rejected k p → read_script E l bs ≡ refused k p
      go (accepted es) e h = absurd (let z : ◌≡◌ {A = ℕ} 0 1 = cc in omega arith)
      go (refused j q) e h =
          let x : j ≡ k = cc in
          let y : q ≡ p = cc in
          e ∙ (λ i. refused (x i) (y i))

  pub record Good (c : Counts) : Type 0 where
    pub entries : List Entry
    pub reads : read_script E l bs ≡ accepted entries
    pub counts_are : good c ≡ judged_of (length (script bs)) (last_end (script bs)) (accepted entries)
    pub bytes_are : c.bytes ≡ length (script bs)
    pub statements_are : c.statements ≡ length entries
    pub records_are : c.records ≡ nodes entries
    pub tokens_are : c.tokens ≡ tokens_of entries
    pub last_are : c.last ≡ last_end (script bs)

  pub judged_good : {c : Counts} → judgement E l bs ≡ good c → Good c
  unfolding judgement
  judged_good {c} h = go (read_script E l bs) refl h
    where
      go : (x : Outcome) → read_script E l bs ≡ x → judged_of (length (script bs)) (last_end (script bs)) x ≡ good c → Good c
      go (accepted es) e h = record { entries = es; reads = e; counts_are = sym h; bytes_are = cc; statements_are = cc; records_are = cc; tokens_are = cc; last_are = cc }
      go (refused j q) e h = absurd (let z : ◌≡◌ {A = ℕ} 0 1 = cc in omega arith)

  module _ {c : Counts} (G : Good c) where
    admits : Accepted E l (script bs) G.entries
    admits = read_accepted E l (script bs) G.entries (script_no_zero bs) (read_script_lem E l bs ∙ G.reads)

    pub text_is : take c.bytes bs ≡ script bs
    text_is = ap (λ (n : ℕ). take n bs) G.bytes_are ∙ script_take bs

    pub bytes_in : c.bytes ≤ length bs
    bytes_in = omega (arith, G.bytes_are, script_in bs)

    pub text_ready : Clean (take c.bytes bs) × Few l.currencies
    text_ready = (
      subst Clean (sym text_is) (record { short = admits.short; tokens = admits.text.toks; scanned = admits.text.scanned }),
      lists_few l admits.lists,
    )

    reads_are : statements (language E l) (toks_at (take c.bytes bs) 0) ≡ accepted G.entries
    unfolding statements
    reads_are = ap (λ (s : List ℕ). statements (language E l) (toks_at s 0)) text_is ∙ ap (statements (language E l)) (toks_all (script bs) admits.text.scanned) ∙ admits.text.reads

    -- what was judged good is not refused when it is read again
    pub never_refused : {k p : ℕ} → statements (language E l) (toks_at (take c.bytes bs) 0) ≡ refused k p → ⊥
    never_refused {k} {p} h = let z : accepted G.entries ≡ refused k p = sym reads_are ∙ h in cc

  module _ (o d : List ℕ) where
    leaves_refused : {k p : ℕ} → reading_in E l (record_room (length o)) (statement_room (length d)) bs ≡ refused k p → LeavesIn E l bs o d (refused_at bs k p) o d
    leaves_refused h = record {
      answer = sym (ap (answer_to (number_of E) bs) h);
      records = sym (ap (left_by words_of o) h);
      directory = sym (ap (left_by directory_of d) h);
    }

    -- 1 to 15
    pub leaves_not : {k p : ℕ} → judgement E l bs ≡ rejected k p → LeavesIn E l bs o d (refused_at bs k p) o d
    unfolding reading_in
    leaves_not h = leaves_refused (ap (fitting (length (script bs)) (record_room (length o)) (statement_room (length d))) (judged_not h))

    module _ {c : Counts} (G : Good c) where
      into : reading_in E l (record_room (length o)) (statement_room (length d)) bs ≡ fitting c.bytes (record_room (length o)) (statement_room (length d)) (accepted G.entries)
      unfolding reading_in
      into = rw (G.reads, G.bytes_are)

      -- 16
      pub leaves_wide : {m : ℕ} → m ≡ record_room (length o) → m < c.records → LeavesIn E l bs o d (refused_at bs 16 c.bytes) o d
      leaves_wide p h =
          let full : ltb (record_room (length o)) (nodes G.entries) ≡ true = lt-ltb (record_room (length o)) (nodes G.entries) (omega (arith, p, h, G.records_are)) in
          leaves_refused (into ∙ rw full)

      pub leaves_many : {m n : ℕ} → m ≡ record_room (length o) → c.records ≤ m → n ≡ statement_room (length d) → n < c.statements
          → LeavesIn E l bs o d (refused_at bs 16 c.bytes) o d
      leaves_many p h q g =
          let fits : ltb (record_room (length o)) (nodes G.entries) ≡ false = le-ltb (record_room (length o)) (nodes G.entries) (omega (arith, p, h, G.records_are)) in
          let full : ltb (statement_room (length d)) (length G.entries) ≡ true = lt-ltb (statement_room (length d)) (length G.entries) (omega (arith, q, g, G.statements_are)) in
          leaves_refused (into ∙ rw (fits, full))

      -- accepted: the reader of all statements cannot refuse any more
      pub leaves_read : {r : Answer} {m n x : ℕ} → r ≡ accepted_with (number_of E) c x → m ≡ record_room (length o) → c.records ≤ m → n ≡ statement_room (length d) → c.statements ≤ n
          → (a : Result All Refusal) {o' d' : List ℕ} → x ≡ latest_read a → MeetsAll (statements (language E l) (toks_at (take c.bytes bs) 0)) o d a o' d' → LeavesIn E l bs o d r o' d'
      leaves_read e p h q g (Err b) y M = absurd (never_refused G M)
      leaves_read e p h q g (Ok a) y M =
          let fits : ltb (record_room (length o)) (nodes G.entries) ≡ false = le-ltb (record_room (length o)) (nodes G.entries) (omega (arith, p, h, G.records_are)) in
          let few : ltb (statement_room (length d)) (length G.entries) ≡ false = le-ltb (statement_room (length d)) (length G.entries) (omega (arith, q, g, G.statements_are)) in
          let is : reading_in E l (record_room (length o)) (statement_room (length d)) bs ≡ accepted G.entries = into ∙ rw (fits, few) in
          let record_fits : record_width * nodes G.entries ≤ length o = omega (arith, room_in most_records (length o / record_width), p, h, G.records_are) in
          let W = all_wrote o d G.entries (reads_are G) record_fits M in
          let entry_fits : entry_width * length G.entries ≤ length d = omega (arith, room_in most_statements (length d / entry_width), q, g, G.statements_are) in
          record {
            answer =
                e ∙ ap (accepted_with (number_of E) c) (y ∙ W.2) ∙ ap (answer_of (number_of E) bs (latest_of (map row_of G.entries))) G.counts_are
                ∙ sym (ap (answer_to (number_of E) bs) is);
            records = W.0 ∙ put_records o G.entries record_fits ∙ sym (ap (left_by words_of o) is);
            directory = W.1 ∙ put_directory d G.entries entry_fits ∙ sym (ap (left_by directory_of d) is);
          }

-- ---- by the edition's number

module _ (l : Lists) (bs o d : List ℕ) {e : ℕ} {r : Answer} {o' d' : List ℕ} where
  pub leaves_named : (second : Bool) → e ≡ number_of (edition_by second) → LeavesIn (edition_by second) l bs o d r o' d' → Leaves e l bs o d r o' d'
  unfolding reading
  leaves_named false z X = rw z X
  leaves_named true z X = rw z X

-- 26
pub leaves_other : (l : Lists) (bs o d : List ℕ) {e : ℕ} → (e ≡ 1 → ⊥) → (e ≡ 2 → ⊥) → Leaves e l bs o d (refused_at bs 26 0) o d
leaves_other l bs o d {e} x y =
    let h = edition_first e l bs (record_room (length o)) (statement_room (length d)) (ne_eqb e 1 x) (ne_eqb e 2 y) in
    record {
      answer = sym (ap (answer_to e bs) h);
      records = sym (ap (left_by words_of o) h);
      directory = sym (ap (left_by directory_of d) h);
    }
