-- Laws of what is seen statement by statement: of memory that holds a state, of one of many that is replaced, and so of an accepted call.
use mathlib.Core.Path.{◌≡◌, refl, sym, ap, ◌∙◌, subst}
use mathlib.Core.List.{List, [], ◌∷◌, ◌++◌, append_assoc, map, map-append}
use mathlib.Core.Option.{some}
use Prim.Native.Nat.{ℕ, suc, ◌+◌, ◌-◌, ◌*◌, ◌/◌, ◌<◌}
use native.Mathlib.Omega.{arith}
use lib.ListN.{length, take, drop, length-append, length-map}
use lib.Seq.{slice, take_at, drop_at, take-take, drop-append-add}
use Rattle.tokens.specs.Names.{Lists}
use Rattle.grammar.specs.Sizes.{record_width, entry_width}
use Rattle.grammar.specs.Trees.{size, records}
use Rattle.grammar.specs.Grammar.{Edition}
use Rattle.grammar.specs.Script.{Entry, accepted, language, moved_entry}
use Rattle.grammar.specs.Latest.{latest_in}
use Rattle.grammar.specs.Words.{words_of, Row, row_of, latest_of}
use Rattle.grammar.proofs.AmendBytes.{Cut, cut_at, Accepted, read_accepted}
use Rattle.grammar.proofs.WordLaws.{records_length}
use Rattle.reading.specs.declared.reading.Answer.{Answer}
use Rattle.amending.specs.Amend.{between, amended_list}
use Rattle.amending.specs.Amending.{State, Pick, pick, Answer as Result, left}
use Rattle.amending.specs.Entries.{row_at, pick_at}
use Rattle.amending.specs.Memory.{Memory, rooms_in, Amends}
use Rattle.amending.specs.States.{held_of, Holds}
use Rattle.amending.specs.Kept.{texts_at, records_at, texts_in, records_in, texts_of, records_of, dates_of, DatesTrue, exchanged, KeepsRecords, KeepsTexts, KeepsBytes}
use Rattle.amending.specs.declared.held.Held.{Held}
use Rattle.amending.proofs.AmendingLaws.{pick_is}
use Rattle.amending.proofs.EntryLaws.{pick_here}
use Rattle.amending.proofs.Directory.{texts_append, texts_amended}
use Rattle.amending.proofs.LentLaws.{row_pick, pick_row, pick_rows}
use Rattle.amending.proofs.StateLaws.{Done, done_is, call_holds}
use Rattle.amending.proofs.AmendAnswers.{done_seen}

-- ---- memory that holds a state

-- the words of statements, cut by their entries
cut : (es : List Entry) → records_at (words_of es) (map row_of es) ≡ records_of es
cut [] = refl
cut (e ∷ es) =
    let n : length (records e.tree) ≡ record_width * size e.tree = records_length e.tree in
    (λ i. take_at (records e.tree) (words_of es) (record_width * size e.tree) n i
    ∷ records_at (drop_at (records e.tree) (words_of es) (record_width * size e.tree) n i) (map row_of es))
    ∙ ap {B = List (List ℕ)} (λ x. records e.tree ∷ x) (cut es)

-- the latest dates in the entries of statements are those of their words
own_dates : (es : List Entry) → map (λ (r : Row). r.latest) (map row_of es) ≡ dates_of (records_of es)
own_dates [] = refl
own_dates (e ∷ es) =
    let n : size e.tree ≡ length (records e.tree) / record_width = omega (arith, records_length e.tree) in
    λ i. latest_in (n i) (records e.tree) ∷ own_dates es i

module _ {E : Edition} {l : Lists} {M : Memory} {h : Held} {st : State} (H : Holds E l M h st) where
  pub held_records : records_in M h ≡ records_of st.entries
  held_records = (λ i. records_at (H.used i).words (H.used i).rows) ∙ cut st.entries

  pub held_texts : texts_in M h ≡ texts_of st.script st.entries
  held_texts = λ i. texts_at (H.used i).script (H.used i).rows

  pub held_dates : DatesTrue M h
  held_dates = record {
    entries = (λ i. map (λ (r : Row). r.latest) (H.used i).rows) ∙ own_dates st.entries ∙ ap dates_of (sym held_records);
    script = ap (λ (x : Held). x.latest) H.counts ∙ (λ i. latest_of (sym H.used i).rows);
  }

pub texts_count : (s : List ℕ) (rs : List Row) → length (texts_at s rs) ≡ length rs
texts_count s [] = refl
texts_count s (r ∷ rs) = ap suc (texts_count s rs)

-- ---- one is replaced

-- the one that is picked is there
pub pick_there : {A : Type 0} (k : ℕ) (es : List A) (p : Pick A) → pick k es ≡ some p → k < length es
pick_there k es p h = let P = pick_is k es p h in omega (arith, P.1, length-append p.before (p.one ∷ p.behind), ap length P.0)

pub exchanged_at : {A : Type 0} (k : ℕ) (a : List A) (x : A) (b y : List A) → length a ≡ k → exchanged k y (a ++ (x ∷ b)) ≡ a ++ (y ++ b)
exchanged_at k a x b y h =
    let n : suc k ≡ length a + 1 = omega arith in
    λ i. take_at a (x ∷ b) k h i ++ (y ++ (ap (λ (j : ℕ). drop j (a ++ (x ∷ b))) n ∙ drop-append-add a (x ∷ b) 1) i)

map_over : {A B : Type 0} (f : A → B) (g : A → A) → ((a : A) → f (g a) ≡ f a) → (xs : List A) → map f (map g xs) ≡ map f xs
map_over f g h [] = refl
map_over f g h (a ∷ xs) = λ i. h a i ∷ map_over f g h xs i

pub records_amended : (es : List Entry) (e : Entry) (es' : List Entry) (n : ℕ) (ns : List Entry) → records_of (amended_list es e es' n ns) ≡ records_of es ++ (records_of ns ++ records_of es')
records_amended es e es' n ns =
    map-append own es (map (moved_entry e.start) ns ++ map (between n (e.end - e.start)) es')
    ∙ ap (λ (x : List (List ℕ)). records_of es ++ x) (map-append own (map (moved_entry e.start) ns) (map (between n (e.end - e.start)) es')
    ∙ (λ i. map_over own (moved_entry e.start) (λ a. refl) ns i ++ map_over own (between n (e.end - e.start)) (λ a. refl) es' i))
  where
    own : Entry → List ℕ
    own e = records e.tree

-- ---- an accepted call on memory that holds a state

module _ (E : Edition) (l : Lists) {M M' : Memory} {h : Held} {st : State} {k : ℕ} {n : List ℕ} {r : Answer} (H : Holds E l M h st) (A : Amends l M h k n r M') (z : r.number ≡ 0) where
  st' : State
  st' = (done_seen A H z).0

  D : Done E l (rooms_in M) st k n st'
  unfolding st'
  D = done_is E l (rooms_in M) st k n st' (done_seen A H z).1

  H' : Holds E l M' (held_of r) st'
  unfolding st'
  H' = subst (λ (x : Result). Holds E l M' (held_of r) (left st x)) (done_seen A H z).1 (call_holds E l M h st H k n A).1

  abbrev p : Pick Entry
  p = D.picked

  split : st.entries ≡ p.before ++ (p.one ∷ p.behind)
  split = (pick_is k st.entries p D.is_there).0

  before : length p.before ≡ k
  before = (pick_is k st.entries p D.is_there).1

  there : k < h.statements
  there = omega (arith, pick_there k st.entries p D.is_there, ap (λ (x : Held). x.statements) H.counts, length-map st.entries row_of)

  pub call_records : KeepsRecords E l M h k n M' (held_of r)
  call_records = record {
    new = D.new;
    reads = D.read;
    there = there;
    records =
        held_records H' ∙ ap records_of D.entries_are ∙ records_amended p.before p.one p.behind (length n) D.new
        ∙ sym (exchanged_at k (records_of p.before) (records p.one.tree) (records_of p.behind) (records_of D.new) (length-map p.before (λ (e : Entry). records e.tree) ∙ before))
        ∙ ap (exchanged k (records_of D.new)) (sym (held_records H ∙ ap records_of split ∙ map-append (λ (e : Entry). records e.tree) p.before (p.one ∷ p.behind)));
  }

  old : Accepted E l st.script (p.before ++ (p.one ∷ p.behind))
  old = read_accepted E l st.script (p.before ++ (p.one ∷ p.behind)) H.good.clear (H.good.read ∙ ap accepted split)

  pub call_texts : KeepsTexts E l M h k n M' (held_of r)
  call_texts = record {
    new = D.new;
    reads = D.read;
    there = there;
    texts =
        held_texts H' ∙ (λ i. texts_of (D.script_is i) (D.entries_are i))
        ∙ texts_amended (language E l) st.script n p.before p.one p.behind D.new old.text (read_accepted E l n D.new D.clear D.read).text
        ∙ sym (exchanged_at k (texts_of st.script p.before) (slice p.one.start p.one.end st.script) (texts_of st.script p.behind) (texts_of n D.new)
        (texts_count st.script (map row_of p.before) ∙ length-map p.before row_of ∙ before))
        ∙ ap (exchanged k (texts_of n D.new)) (sym (held_texts H ∙ ap (texts_of st.script) split ∙ texts_append st.script p.before (p.one ∷ p.behind)));
  }

  -- the statement's entry in the directory
  entry : row_at M.directory (entry_width * k) ≡ row_of p.one
  entry =
      let a : some (pick_at k h.statements M.directory) ≡ some (row_pick p) =
      sym (pick_here k h.statements M.directory there) ∙ (λ i. pick k (H.used i).rows) ∙ pick_rows k st.entries ∙ ap pick_row D.is_there in
      let b : pick_at k h.statements M.directory ≡ row_pick p = cc in
      ap (λ (x : Pick Row). x.one) b

  pub call_bytes : KeepsBytes M h k n M' (held_of r)
  call_bytes =
      let C : Cut (language E l) st.script p.before p.one p.behind = cut_at (language E l) p.before p.one p.behind old.text in
      let b : h.bytes ≡ length st.script = ap (λ (x : Held). x.bytes) H.counts in
      record {
        there = there;
        script =
            (λ i. (H'.used i).script) ∙ D.script_is ∙ append_assoc (take p.one.start st.script) n (drop p.one.end st.script)
            ∙ (λ i. take p.one.start (sym H.used i).script ++ (n ++ drop p.one.end (sym H.used i).script))
            ∙ ap (λ (s : List ℕ). s ++ (n ++ slice p.one.end h.bytes M.script)) (take-take p.one.start h.bytes M.script (omega (arith, C.order, C.inside)))
            ∙ ap (λ (e : Row). take e.start M.script ++ (n ++ slice e.end h.bytes M.script)) (sym entry);
      }
