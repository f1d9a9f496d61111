-- Laws of memory that holds a state: its counts are within, its words are read back, and a call leaves such memory.
use Rattle.std.specs.Prelude.{if◌then◌else◌}
use mathlib.Core.Path.{◌≡◌, refl, sym, ap, ◌∙◌, subst}
use mathlib.Core.Bool.{Bool, true, false, not}
use mathlib.Core.List.{List, [], ◌∷◌, map}
use mathlib.Core.Option.{Option, none, some}
use Prim.Native.Nat.{ℕ, ◌*◌, ◌/◌, ◌≤◌}
use native.Mathlib.Omega.{arith}
use lib.Dec.{T, ltb}
use lib.ListN.{length, take, drop, length-append, length-drop, length-map}
use lib.Seq.{take_at}
use borrow.Author.Tests.{ltb-false}
use Rattle.tokens.specs.Text.{script}
use Rattle.tokens.specs.Names.{Lists}
use Rattle.grammar.specs.Sizes.{record_width, entry_width, most_records, most_statements}
use Rattle.grammar.specs.Grammar.{Edition}
use Rattle.grammar.specs.Script.{Entry, Outcome, accepted, refused, fitting, read_script, reading_in, no_zero, nodes, tokens_of, number_of}
use Rattle.reading.specs.Reading.{over}
use Rattle.grammar.specs.Words.{row_of, words_of, rows_words, latest_of}
use Rattle.reading.specs.declared.reading.Answer.{Answer}
use Rattle.grammar.proofs.WordLaws.{words_length as record-words, rows_length}
use Rattle.reading.proofs.ReadLaws.{room_in}
use Rattle.amending.specs.Amend.{ends_well, replaced, amended_list}
use Rattle.amending.specs.Amending.{State, Rooms, Pick, pick, over as over_rooms, Answer as Result, done, refusal, fitting as fitting_rooms, put, amend_at, amend, left, Good}
use Rattle.amending.specs.Lent.{Lent, handed, unchanged, sum_records, amend_lent, lent_of, given}
use Rattle.amending.specs.Moves.{leave}
use Rattle.amending.specs.Entries.{rows_from}
use Rattle.amending.specs.Memory.{Memory, rooms_in, used_in, amend_in, held_by, answered, left_in, Amends}
use Rattle.amending.specs.States.{held_of, Holds}
use Rattle.amending.specs.declared.held.Held.{Held}
use Rattle.amending.proofs.MoveLaws.{leave_length}
use Rattle.amending.proofs.EntryLaws.{rows_of_words}
use Rattle.amending.proofs.AmendingLaws.{Within as Inside, within as inside, amends_good}
use Rattle.amending.proofs.LentLaws.{sum_nodes, amend_lent_lem}
use Rattle.amending.proofs.GroundLaws.{Within, asked}

-- ---- what is read with room, and what an amendment made

pub over_length : (ws o : List ℕ) → length ws ≤ length o → length (over ws o) ≡ length o
over_length ws o h = length-append ws (drop (length ws) o) ∙ omega (arith, length-drop (length ws) o)

pub reading_is : (E : Edition) (l : Lists) (a b : ℕ) (bs : List ℕ) → fitting (length (script bs)) a b (read_script E l bs) ≡ reading_in E l a b bs
unfolding reading_in
reading_is E l a b bs = refl

-- what is accepted with room fits
pub fits_are : (n a b : ℕ) (x : Outcome) (es : List Entry) → fitting n a b x ≡ accepted es → (x ≡ accepted es) × (nodes es ≤ a) × (length es ≤ b)
fits_are n a b (refused f p) es e = absurd (let z : ◌≡◌ {A = ℕ} 0 1 = cc in omega arith)
fits_are n a b (accepted fs) es e = go (ltb a (nodes fs)) refl (ltb b (length fs)) refl e
  where
    go : (s : Bool) → ltb a (nodes fs) ≡ s → (t : Bool) → ltb b (length fs) ≡ t → (if s then refused 16 n else if t then refused 16 n else accepted fs) ≡ accepted es
        → (accepted fs ≡ accepted es) × (nodes es ≤ a) × (length es ≤ b)
    go true p t q e = absurd (let z : ◌≡◌ {A = ℕ} 0 1 = cc in omega arith)
    go false p true q e = absurd (let z : ◌≡◌ {A = ℕ} 0 1 = cc in omega arith)
    go false p false q e =
        let z : fs ≡ es = cc in
        (e, omega (arith, ap nodes z, ltb-false a (nodes fs) p), omega (arith, ap (λ (x : List Entry). length x) z, ltb-false b (length fs) q))

-- an amendment that is made: the statement, and those of the new text
pub record Done (E : Edition) (l : Lists) (R : Rooms) (st : State) (k : ℕ) (n : List ℕ) (st' : State) : Type 0 where
  pub picked : Pick Entry
  pub new : List Entry
  pub is_there : pick k st.entries ≡ some picked
  pub clear : T (no_zero n)
  pub read : read_script E l n ≡ accepted new
  pub script_is : st'.script ≡ replaced st.script picked.one n
  pub entries_are : st'.entries ≡ amended_list picked.before picked.one picked.behind (length n) new

pub done_is : (E : Edition) (l : Lists) (R : Rooms) (st : State) (k : ℕ) (n : List ℕ) (st' : State) → amend E l R st k n ≡ done st' → Done E l R st k n st'
unfolding amend amend_at put fitting_rooms
done_is E l R st k n st' e = go₁ (pick k st.entries) refl e
  where
    never : {f q : ℕ} {X : Type 0} → refusal f q ≡ done st' → X
    never e = absurd (let z : ◌≡◌ {A = ℕ} 0 1 = cc in omega arith)

    go₄ : (p : Pick Entry) → pick k st.entries ≡ some p → T (no_zero n) → (ns : List Entry) → read_script E l n ≡ accepted ns → (t : Bool)
        → (if t then refusal 16 (length n) else done (record { script = replaced st.script p.one n; entries = amended_list p.before p.one p.behind (length n) ns })) ≡ done st'
        → Done E l R st k n st'
    go₄ p q z ns r true e = never e
    go₄ p q z ns r false e =
        let same : record { script = replaced st.script p.one n; entries = amended_list p.before p.one p.behind (length n) ns } ≡ st' = cc in
        record {
          picked = p;
          new = ns;
          is_there = q;
          clear = z;
          read = r;
          script_is = sym (ap (λ (x : State). x.script) same);
          entries_are = sym (ap (λ (x : State). x.entries) same);
        }

    go₃ : (p : Pick Entry) → pick k st.entries ≡ some p → T (no_zero n) → (x : Outcome) → read_script E l n ≡ x → (t : Bool) → put E l R st p n x ≡ done st' → ends_well n ≡ t → Done E l R st k n st'
    go₃ p q z (refused f b) r t e w = never e
    go₃ p q z (accepted ns) r true e w =
        go₄ p q z ns r (over_rooms R (replaced st.script p.one n) (amended_list p.before p.one p.behind (length n) ns))
        (ap (λ (b : Bool). if not b then refusal 18 (length n) else fitting_rooms R (length n) (replaced st.script p.one n) (amended_list p.before p.one p.behind (length n) ns)) (sym w) ∙ e)
    go₃ p q z (accepted ns) r false e w =
        never (ap (λ (b : Bool). if not b then refusal 18 (length n) else fitting_rooms R (length n) (replaced st.script p.one n) (amended_list p.before p.one p.behind (length n) ns)) (sym w) ∙ e)

    go₂ : (p : Pick Entry) → pick k st.entries ≡ some p → (t : Bool) → no_zero n ≡ t → (if not t then refusal 19 0 else put E l R st p n (read_script E l n)) ≡ done st' → Done E l R st k n st'
    go₂ p q true z e = go₃ p q (rw z tt) (read_script E l n) refl (ends_well n) e refl
    go₂ p q false z e = never e

    go₁ : (o : Option (Pick Entry)) → pick k st.entries ≡ o → amend_at E l R st n o ≡ done st' → Done E l R st k n st'
    go₁ none q e = never e
    go₁ (some p) q e = go₂ p q (no_zero n) refl e

-- ---- the counts of a state are within

module _ (E : Edition) (l : Lists) (M : Memory) (st : State) (G : Good E l (rooms_in M) st) where
  F : Inside (rooms_in M) st.script st.entries
  F = inside (rooms_in M) st.script st.entries G.room

  pub state_within : Within (rooms_in M) (held_by (number_of E) (lent_of st))
  state_within = record {
    bytes = F.bytes;
    tokens = F.tokens;
    records = omega (arith, F.records, sum_nodes st.entries);
    statements = omega (arith, F.statements, length-map st.entries row_of);
  }

-- ---- the words of a state in memory, read back

-- what stands at the front, and is used
front_used : (ws : List ℕ) (old m : ℕ) (l : List ℕ) → m ≡ length ws → take m (leave ws old l) ≡ ws
front_used ws old m l e = take_at ws _ m (sym e)

module _ (e : ℕ) (M : Memory) (h : Held) (st : State) where
  abbrev L : Lent
  L = lent_of st

  pub used_again : used_in (left_in M h (handed L)) (held_by e L) ≡ L
  used_again =
      let a : take (length st.script) (leave st.script h.bytes M.script) ≡ st.script = front_used st.script h.bytes (length st.script) M.script refl in
      let b : take (record_width * sum_records (map row_of st.entries)) (leave (words_of st.entries) (record_width * h.records) M.records) ≡ words_of st.entries =
      front_used (words_of st.entries) (record_width * h.records) (record_width * sum_records (map row_of st.entries)) M.records
      (omega (arith, record-words st.entries, sum_nodes st.entries)) in
      let c : rows_from (length (map row_of st.entries)) (leave (rows_words (map row_of st.entries)) (entry_width * h.statements) M.directory) ≡ map row_of st.entries =
      rows_of_words (map row_of st.entries) _ in
      λ i. record { script = a i; rows = c i; words = b i; tokens = tokens_of st.entries; latest = latest_of (map row_of st.entries) }

  -- the slices are as long as they were, where there is room
  pub same_rooms : Within (rooms_in M) h → Within (rooms_in M) (held_by e L) → rooms_in (left_in M h (handed L)) ≡ rooms_in M
  same_rooms w x =
      let s : length (leave st.script h.bytes M.script) ≡ length M.script =
      leave_length st.script h.bytes M.script (omega (arith, x.bytes)) (omega (arith, w.bytes)) in
      let r : length (leave (words_of st.entries) (record_width * h.records) M.records) ≡ length M.records =
      leave_length (words_of st.entries) (record_width * h.records) M.records
      (omega (arith, record-words st.entries, sum_nodes st.entries, x.records, room_in most_records (length M.records / record_width)))
      (omega (arith, w.records, room_in most_records (length M.records / record_width))) in
      let d : length (leave (rows_words (map row_of st.entries)) (entry_width * h.statements) M.directory) ≡ length M.directory =
      leave_length (rows_words (map row_of st.entries)) (entry_width * h.statements) M.directory
      (omega (arith, rows_length (map row_of st.entries), x.statements, room_in most_statements (length M.directory / entry_width)))
      (omega (arith, w.statements, room_in most_statements (length M.directory / entry_width))) in
      rw (s, r, d)

-- ---- a call on memory that holds a state

module _ (E : Edition) (l : Lists) (M : Memory) (h : Held) (st : State) (H : Holds E l M h st) where
  -- its edition is the one that is lent
  pub held_edition : h.edition ≡ number_of E
  held_edition = ap (λ (x : Held). x.edition) H.counts

  pub held_within : Within (rooms_in M) h
  held_within = subst (Within (rooms_in M)) (sym H.counts) (state_within E l M st H.good)

  -- it is the call on the state
  pub call_is : (k : ℕ) (n : List ℕ) → amend_in l M h k n ≡ given (amend E l (rooms_in M) st k n)
  call_is k n = asked l M h k n E held_edition held_within ∙ ap (λ (x : Lent). amend_lent E l (rooms_in M) x k n) H.used ∙ amend_lent_lem E l (rooms_in M) st H.good k n

  -- and leaves memory that holds the state that the call leaves
  pub call_holds : (k : ℕ) (n : List ℕ) {r : Answer} {M' : Memory} → Amends l M h k n r M' → (rooms_in M' ≡ rooms_in M) × Holds E l M' (held_of r) (left st (amend E l (rooms_in M) st k n))
  call_holds k n {r} {M'} A = go (amend E l (rooms_in M) st k n) refl
    where
      good : Good E l (rooms_in M) (left st (amend E l (rooms_in M) st k n))
      good = amends_good E l (rooms_in M) (omega arith) (omega arith) ((k, n) ∷ []) st H.good

      go : (o : Result) → amend E l (rooms_in M) st k n ≡ o → (rooms_in M' ≡ rooms_in M) × Holds E l M' (held_of r) (left st o)
      go (done st') e =
          let is : amend_in l M h k n ≡ handed (lent_of st') = call_is k n ∙ ap given e in
          let m : M' ≡ left_in M h (handed (lent_of st')) = A.memory ∙ ap (left_in M h) is in
          let c : held_of r ≡ held_by (number_of E) (lent_of st') = ap held_of (A.answer ∙ ap (answered h n) is) ∙ ap (λ (e : ℕ). held_by e (lent_of st')) held_edition in
          let g : Good E l (rooms_in M) st' = subst (λ (x : Result). Good E l (rooms_in M) (left st x)) e good in
          let same : rooms_in M' ≡ rooms_in M = ap rooms_in m ∙ same_rooms (number_of E) M h st' held_within (state_within E l M st' g) in (
            same,
            record {
              good = subst (λ (R : Rooms). Good E l R st') (sym same) g;
              used = (λ i. used_in (m i) (c i)) ∙ used_again (number_of E) M h st';
              counts = c;
            },
          )
      go (refusal f p) e =
          let is : amend_in l M h k n ≡ unchanged f p = call_is k n ∙ ap given e in
          let m : M' ≡ M = A.memory ∙ ap (left_in M h) is in
          let c : held_of r ≡ h = ap held_of (A.answer ∙ ap (answered h n) is) in
          (ap rooms_in m, subst (λ (X : Memory). Holds E l X (held_of r) st) (sym m) (subst (λ (x : Held). Holds E l M x st) (sym c) H))
