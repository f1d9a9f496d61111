-- On the words of a state that was read, a call on lent words answers what the call on the state does; so any number of calls.
use Rattle.std.specs.Prelude.{if◌then◌else◌}
use mathlib.Core.Path.{◌≡◌, refl, sym, ap, ◌∙◌}
use mathlib.Core.Bool.{Bool, true, false, ◌&&◌, ◌||◌, not}
use mathlib.Core.List.{List, [], ◌∷◌, ◌++◌, append_assoc, map}
use mathlib.Core.Option.{Option, none, some}
use Prim.Native.Nat.{ℕ, zero, suc, ◌+◌, ◌-◌, ◌*◌}
use native.Mathlib.Omega.{arith}
use lib.Dec.{ltb}
use lib.Seq.{take_at, drop_at}
use lib.ListN.{length, take, drop, length-append, length-map}
use borrow.Author.Tests.{le-leb, lt-ltb, eq-eqb}
use Rattle.tokens.specs.Names.{Lists}
use Rattle.grammar.specs.Grammar.{Edition}
use Rattle.grammar.specs.Sizes.{record_width}
use Rattle.grammar.specs.Trees.{size, records}
use Rattle.grammar.specs.Script.{Entry, Outcome, accepted, refused, nodes, read_script, moved_entry, tokens_of, no_zero}
use Rattle.grammar.specs.Words.{words_of, Row, row_of, latest_of}
use Rattle.grammar.proofs.WordLaws.{words_length as All-words, words_before, records_length}
use Rattle.amending.specs.Amend.{ends_well, replaced, between, amended_list}
use Rattle.amending.specs.Amending.{State, Rooms, Pick, onto, pick, over, fitting, done, refusal, put, amend_at, amend, Good}
use Rattle.amending.specs.Lent.{sum_records, sum_tokens, over_rows, ascending, in_order, moved_row, between_row, swapped_rows, swapped, handed, unchanged, fitting_lent, put_lent, lent_at, amend_lent, lent_of, given}
use Rattle.reading.proofs.RowLaws.{size_some}
use Rattle.amending.proofs.AmendingLaws.{pick_is, words_amended}
use Rattle.amending.proofs.Directory.{InOrder, good_order}

-- ---- counts

pub sum_nodes : (es : List Entry) → sum_records (map row_of es) ≡ nodes es
sum_nodes [] = refl
sum_nodes (e ∷ es) = ap (λ (n : ℕ). size e.tree + n) (sum_nodes es)

pub sum_tokens_lem : (es : List Entry) → sum_tokens (map row_of es) ≡ tokens_of es
sum_tokens_lem [] = refl
sum_tokens_lem (e ∷ es) = ap (λ (n : ℕ). e.tokens + n) (sum_tokens_lem es)

words_length : (es : List Entry) → length (words_of es) ≡ record_width * sum_records (map row_of es)
words_length es = All-words es ∙ ap (λ (n : ℕ). record_width * n) (sym (sum_nodes es))

-- ---- rows of amended entries

map_rows : (x y : List Entry) → map row_of (x ++ y) ≡ map row_of x ++ map row_of y
map_rows [] y = refl
map_rows (e ∷ x) y = ap {B = List Row} (λ l. row_of e ∷ l) (map_rows x y)

rows_moved : (d : ℕ) (x : List Entry) → map row_of (map (moved_entry d) x) ≡ map (moved_row d) (map row_of x)
rows_moved d [] = refl
rows_moved d (e ∷ x) = ap {B = List Row} (λ l. row_of (moved_entry d e) ∷ l) (rows_moved d x)

rows_between : (a b : ℕ) (x : List Entry) → map row_of (map (between a b) x) ≡ map (between_row a b) (map row_of x)
rows_between a b [] = refl
rows_between a b (e ∷ x) = ap {B = List Row} (λ l. row_of (between a b e) ∷ l) (rows_between a b x)

abbrev pub row_pick : Pick Entry → Pick Row
row_pick p = record { before = map row_of p.before; one = row_of p.one; behind = map row_of p.behind }

rows_amended : (p : Pick Entry) (n : ℕ) (ns : List Entry) → map row_of (amended_list p.before p.one p.behind n ns) ≡ swapped_rows (row_pick p) n (map row_of ns)
rows_amended p n ns =
    map_rows p.before (map (moved_entry p.one.start) ns ++ map (between n (p.one.end - p.one.start)) p.behind)
    ∙ ap (λ (x : List Row). map row_of p.before ++ x) (map_rows (map (moved_entry p.one.start) ns) (map (between n (p.one.end - p.one.start)) p.behind)
    ∙ (λ i. rows_moved p.one.start ns i ++ rows_between n (p.one.end - p.one.start) p.behind i))

abbrev pub pick_row : Option (Pick Entry) → Option (Pick Row)
pick_row none = none
pick_row (some p) = some (row_pick p)

pub pick_rows : (k : ℕ) (es : List Entry) → pick k (map row_of es) ≡ pick_row (pick k es)
unfolding pick
pick_rows k [] = refl
pick_rows zero (e ∷ es) = refl
pick_rows (suc k) (e ∷ es) = ap (onto (row_of e)) (pick_rows k es) ∙ go (pick k es)
  where
    go : (o : Option (Pick Entry)) → onto (row_of e) (pick_row o) ≡ pick_row (onto e o)
    go none = refl
    go (some p) = refl

-- ---- a state that was read is in order

pub ascending_true : (i j : ℕ) (es : List Entry) → InOrder i j es → ascending i j (map row_of es) ≡ true
unfolding ascending
ascending_true i j [] h = le-leb i j h
ascending_true i j (e ∷ es) h =
    λ x. le-leb i e.start h.0 x && (lt-ltb e.start e.end h.1 x && (le-leb 1 (size e.tree) (size_some e.tree) x && (le-leb 1 e.tokens h.2 x && ascending_true e.end j es h.3 x)))

over_rows_lem : (R : Rooms) (b : List ℕ) (es : List Entry) → over_rows R (length b) (map row_of es) ≡ over R b es
unfolding over_rows over
over_rows_lem R b es =
    λ i. ltb R.bytes (length b) || (ltb R.tokens (sum_tokens_lem es i) || (ltb R.records (sum_nodes es i) || ltb R.statements (length-map es row_of i)))

module _ (E : Edition) (l : Lists) (R : Rooms) where
  pub good_in_order : (st : State) → Good E l R st → in_order R (lent_of st) ≡ true
  unfolding in_order
  good_in_order st G =
      λ i. ascending_true 0 (length st.script) st.entries (good_order E l R st G) i
      && (eq-eqb (length (words_of st.entries)) (record_width * sum_records (map row_of st.entries)) (words_length st.entries) i
      && (eq-eqb (tokens_of st.entries) (sum_tokens (map row_of st.entries)) (sym (sum_tokens_lem st.entries)) i
      && (eq-eqb (latest_of (map row_of st.entries)) (latest_of (map row_of st.entries)) refl i && not ((over_rows_lem R st.script st.entries ∙ G.room) i))))

  -- ---- the words of an amended state

  swapped_is : (st : State) (p : Pick Entry) → st.entries ≡ p.before ++ (p.one ∷ p.behind) → (n : List ℕ) (ns : List Entry)
      → swapped (lent_of st) (row_pick p) n ns ≡ lent_of (record { script = replaced st.script p.one n; entries = amended_list p.before p.one p.behind (length n) ns })
  unfolding swapped
  swapped_is st p at n ns =
      λ i. record { script = replaced st.script p.one n; rows = sym (rows_amended p (length n) ns) i; words = w i; tokens = t i; latest = latest_of (sym (rows_amended p (length n) ns) i) }
    where
      old : words_of st.entries ≡ words_of p.before ++ (records p.one.tree ++ words_of p.behind)
      old = ap words_of at ∙ words_before p.before p.one p.behind

      a : take (record_width * sum_records (map row_of p.before)) (words_of st.entries) ≡ words_of p.before
      a = ap (take (record_width * sum_records (map row_of p.before))) old
          ∙ take_at (words_of p.before) (records p.one.tree ++ words_of p.behind) (record_width * sum_records (map row_of p.before)) (words_length p.before)

      both : length (words_of p.before ++ records p.one.tree) ≡ record_width * (sum_records (map row_of p.before) + size p.one.tree)
      both = length-append (words_of p.before) (records p.one.tree) ∙ omega (arith, words_length p.before, records_length p.one.tree)

      b : drop (record_width * (sum_records (map row_of p.before) + size p.one.tree)) (words_of st.entries) ≡ words_of p.behind
      b = ap (drop (record_width * (sum_records (map row_of p.before) + size p.one.tree))) (old ∙ sym (append_assoc (words_of p.before) (records p.one.tree) (words_of p.behind)))
          ∙ drop_at (words_of p.before ++ records p.one.tree) (words_of p.behind) (record_width * (sum_records (map row_of p.before) + size p.one.tree)) both

      w : take (record_width * sum_records (map row_of p.before)) (words_of st.entries) ++ (words_of ns ++ drop (record_width * (sum_records (map row_of p.before) + size p.one.tree)) (words_of st.entries))
          ≡ words_of (amended_list p.before p.one p.behind (length n) ns)
      w = (λ i. a i ++ (words_of ns ++ b i)) ∙ sym (words_amended p.before p.one p.behind (length n) ns)

      t : sum_tokens (swapped_rows (row_pick p) (length n) (map row_of ns)) ≡ tokens_of (amended_list p.before p.one p.behind (length n) ns)
      t = ap sum_tokens (sym (rows_amended p (length n) ns)) ∙ sum_tokens_lem (amended_list p.before p.one p.behind (length n) ns)

  -- ---- amending lent words is amending

  fitting_is : (p : ℕ) (b : List ℕ) (es : List Entry) → fitting_lent R p (lent_of (record { script = b; entries = es })) ≡ given (fitting R p b es)
  unfolding fitting_lent fitting
  fitting_is p b es = ap (λ (t : Bool). if t then unchanged 16 p else handed (lent_of (record { script = b; entries = es }))) (over_rows_lem R b es) ∙ go (over R b es)
    where
      go : (t : Bool) → (if t then unchanged 16 p else handed (lent_of (record { script = b; entries = es }))) ≡ given (if t then refusal 16 p else done (record { script = b; entries = es }))
      go true = refl
      go false = refl

  pub amend_lent_lem : (st : State) → Good E l R st → (k : ℕ) (n : List ℕ) → amend_lent E l R (lent_of st) k n ≡ given (amend E l R st k n)
  unfolding amend_lent lent_at put_lent amend amend_at put
  amend_lent_lem st G k n =
      ap (λ (t : Bool). if not t then unchanged 20 0 else lent_at E l R (lent_of st) n (pick k (map row_of st.entries))) (good_in_order st G)
      ∙ ap (lent_at E l R (lent_of st) n) (pick_rows k st.entries)
      ∙ go₁ (pick k st.entries) refl
    where
      go₃ : (p : Pick Entry) → st.entries ≡ p.before ++ (p.one ∷ p.behind) → (ns : List Entry) (t : Bool)
          → (if not t then unchanged 18 (length n) else fitting_lent R (length n) (swapped (lent_of st) (row_pick p) n ns))
          ≡ given (if not t then refusal 18 (length n) else fitting R (length n) (replaced st.script p.one n) (amended_list p.before p.one p.behind (length n) ns))
      go₃ p at ns true = ap (fitting_lent R (length n)) (swapped_is st p at n ns) ∙ fitting_is (length n) (replaced st.script p.one n) (amended_list p.before p.one p.behind (length n) ns)
      go₃ p at ns false = refl

      go₂ : (p : Pick Entry) → st.entries ≡ p.before ++ (p.one ∷ p.behind) → (o : Outcome) (t : Bool)
          → (if not t then unchanged 19 0 else put_lent E l R (lent_of st) (row_pick p) n o) ≡ given (if not t then refusal 19 0 else put E l R st p n o)
      go₂ p at o false = refl
      go₂ p at (refused f x) true = refl
      go₂ p at (accepted ns) true = go₃ p at ns (ends_well n)

      go₁ : (o : Option (Pick Entry)) → pick k st.entries ≡ o → lent_at E l R (lent_of st) n (pick_row o) ≡ given (amend_at E l R st n o)
      go₁ none e = refl
      go₁ (some p) e = go₂ p (pick_is k st.entries p e).0 (read_script E l n) (no_zero n)
