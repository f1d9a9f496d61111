-- Laws of the loop over a script's statements: what was read so far, and what is left.
use mathlib.Core.Path.{◌≡◌, refl, sym, ap, ◌∙◌, subst}
use mathlib.Core.Bool.{false}
use mathlib.Core.List.{List, [], ◌∷◌, ◌++◌, append-nil, append_assoc, map, map-append}
use Prim.Native.Nat.{ℕ, ◌+◌, ◌-◌, ◌*◌, ◌≤◌, ◌<◌, max}
use Prim.Native.String.{String}
use native.Mathlib.Omega.{arith}
use native.Mathlib.Nat.{zero-add}
use lib.ListN.{length, take, drop, length-append, length-map, length-drop}
use lib.Seq.{drop-drop, take-append_seam, take_all}
use borrow.Author.Tests.{ne_eqb, le-leb}
use Rattle.tokens.specs.Limits.{most_bytes, most_depth}
use Rattle.tokens.specs.Text.{count}
use Rattle.tokens.specs.Tokens.{Token, Lexed, final, code, counts, end_of}
use Rattle.tokens.specs.Lexing.{cursor_at}
use Rattle.tokens.specs.declared.cursor.Cursor.{Cursor}
use Rattle.grammar.specs.Sizes.{record_width, entry_width}
use Rattle.grammar.specs.Trees.{Tree, size, records}
use Rattle.grammar.specs.Readers.{Out, refused as wrong, first, is, skip}
use Rattle.grammar.specs.Grammar.{Language, statement}
use Rattle.grammar.specs.Script.{Entry, Outcome, accepted, refused, front, back, entry_of, onward, turn, from, statements, nodes}
use Rattle.grammar.specs.Latest.{latest_in}
use Rattle.grammar.specs.Words.{row_of, row_words, latest_of}
use Rattle.reading.specs.Rows.{rows, put_all, put_rows, put_entry, put_entries, latest_between}
use Rattle.reading.specs.Meets.{listed, toks_at, Holds, Room, Ready, Reads, Meets}
use Rattle.reading.specs.Scripts.{Clean, rebase, rows_in, entries_in, ReadsAll}
use Rattle.std.specs.Prelude.{Option, Result}
use Rattle.reading.specs.declared.answers.Fault.{Fault}
use Rattle.reading.specs.declared.answers.Read.{Read}
use Rattle.grammar.proofs.Laws.{skip_clear}
use Rattle.grammar.proofs.ScriptLaws.{prepend, prepend_accepted, from_eq}
use Rattle.grammar.proofs.SizeLaws.{statement_size, statement_less}
use Rattle.grammar.proofs.WordLaws.{records_length}
use Rattle.grammar.proofs.LatestLaws.{latest_first, latest_of_append}
use Rattle.reading.proofs.HoldLaws.{toks_few, toks_are, first_kind, first_from, at_end, start_holds, rebased_holds, rebased_toks}
use Rattle.reading.proofs.RowLaws.{size_some, rows_size, put_all_length, put_all_one, put_all_append, put_rows_same, rows_flat, rows_wide, put_behind}

-- ---- what the tokens at a cursor are read as

is_not : (x : String) (t : Token) (k : ℕ) → t.kind ≡ k → (k ≡ code x → ⊥) → is x t ≡ false
is_not x t k e n = ne_eqb (code x) t.kind (λ z. n (sym e ∙ sym z))

module _ {t : List ℕ} {c : Cursor} (h : Holds t c) where
  pub skip_held : skip (toks_at t c.start) ≡ toks_at t c.start
  unfolding code
  skip_held = skip_clear (toks_at t c.start) (is_not "Newline" (first (toks_at t c.start)) c.code (first_kind h) h.no_line)

  module _ (W : Language) (b : ℕ) where
    pub from_end : c.code ≡ 0 → from W b (toks_at t c.start) ≡ accepted []
    unfolding turn code
    from_end z = from_eq W b (toks_at t c.start) ∙ ap (turn W (from W) b) (skip_held ∙ (at_end h z).1)

    pub from_held : (c.code ≡ 0 → ⊥)
        → from W b (toks_at t c.start) ≡ onward (from W) (b + c.start) (toks_at (drop c.start t) 0) (statement W most_depth (toks_at (drop c.start t) 0))
    unfolding turn code
    from_held z =
        from_eq W b (toks_at t c.start) ∙ ap (turn W (from W) b) skip_held
        ∙ rw (is_not "End" (first (toks_at t c.start)) c.code (first_kind h) z, first_from h, rebased_toks h)

-- ---- lists of statements

prepend_refused : (es : List Entry) (k p : ℕ) → prepend es (refused k p) ≡ refused k p
prepend_refused [] k p = refl
prepend_refused (e ∷ es) k p = ap (front e) (prepend_refused es k p)

prepend_snoc : (es : List Entry) (e : Entry) (x : Outcome) → prepend es (front e x) ≡ prepend (es ++ (e ∷ [])) x
prepend_snoc [] e x = refl
prepend_snoc (f ∷ es) e x = ap (front f) (prepend_snoc es e x)

nodes_snoc : (es : List Entry) (e : Entry) → nodes (es ++ (e ∷ [])) ≡ nodes es + size e.tree
nodes_snoc [] e = omega arith
nodes_snoc (f ∷ es) e = omega (arith, nodes_snoc es e)

rows_in_snoc : (es : List Entry) (e : Entry) → rows_in (es ++ (e ∷ [])) ≡ rows_in es ++ rows e.tree
rows_in_snoc [] e = append-nil (rows e.tree)
rows_in_snoc (f ∷ es) e = ap (λ (l : List (List ℕ)). rows f.tree ++ l) (rows_in_snoc es e) ∙ sym (append_assoc (rows f.tree) (rows_in es) (rows e.tree))

pub rows_in_size : (es : List Entry) → length (rows_in es) ≡ nodes es
rows_in_size [] = refl
rows_in_size (e ∷ es) = length-append (rows e.tree) (rows_in es) ∙ omega (arith, rows_size e.tree, rows_in_size es)

put_entries_snoc : (d : List ℕ) (k : ℕ) (es : List Entry) (e : Entry)
    → put_entries d k (entries_in (es ++ (e ∷ []))) ≡ put_entry (put_entries d k (entries_in es)) (k + length es) (row_words (row_of e))
put_entries_snoc d k es e =
    rw (map-append (λ (x : Entry). row_words (row_of x)) es (e ∷ []), put_all_append entry_width d k (entries_in es) (row_words (row_of e) ∷ []), put_all_one)
    (rw (length-map es (λ (x : Entry). row_words (row_of x))))

-- ---- the loop

-- the statements read so far make n records and k entries, and the cursor stands behind them; x is their latest date, where the records have room
pub record Chain (W : Language) (t o d : List ℕ) (b : ℕ) (c : Cursor) (n k x : ℕ) (o₁ d₁ : List ℕ) : Type 0 where
  pub entries : List Entry
  pub goes : statements W (toks_at t 0) ≡ prepend entries (from W b (toks_at (drop b t) c.start))
  pub short : length t ≤ most_bytes
  pub inside : b ≤ length t
  pub holds : Holds (drop b t) c
  pub room : Room (drop b t) c n
  pub fewer : k ≤ n
  pub statements_are : k ≡ length entries
  pub records_are : n ≡ nodes entries
  pub records : o₁ ≡ put_rows o 0 (rows_in entries)
  pub directory : record_width * n ≤ length o → d₁ ≡ put_entries d 0 (entries_in entries)
  pub latest : record_width * n ≤ length o → x ≡ latest_of (map row_of entries)

module _ (W : Language) (t o d : List ℕ) where
  pub chain_start : Clean t → (c : Cursor) → c ≡ cursor_at (take most_bytes t) 0 0 0 → Chain W t o d 0 c 0 0 0 o d
  unfolding statements put_all latest_of
  chain_start C c e =
      let S : Holds t c × (toks_at t c.start ≡ skip (toks_at t 0)) = start_holds t C.tokens c C.short C.scanned e in
      record {
        entries = [];
        goes = from_eq W 0 (toks_at t 0) ∙ ap (turn W (from W) 0) (sym S.1 ∙ sym (skip_held S.0)) ∙ sym (from_eq W 0 (toks_at t c.start));
        short = C.short;
        inside = omega arith;
        holds = S.0;
        room = omega (arith, toks_few t c.start, C.short);
        fewer = omega arith;
        statements_are = refl;
        records_are = refl;
        records = refl;
        directory = λ h. refl;
        latest = λ h. refl;
      }

  module _ {b : ℕ} {c : Cursor} {n k x : ℕ} {o₁ d₁ : List ℕ} (C : Chain W t o d b c n k x o₁ d₁) where
    pub chain_exit : c.code ≡ 0 → ReadsAll (statements W (toks_at t 0)) o d k n x o₁ d₁
    chain_exit z = record {
      entries = C.entries;
      is = C.goes ∙ ap (prepend C.entries) (from_end C.holds W b z) ∙ prepend_accepted C.entries [] ∙ ap accepted (append-nil C.entries);
      statements_are = C.statements_are;
      records_are = C.records_are;
      records = C.records;
      directory = C.directory;
      latest = C.latest;
    }

    abbrev P : List ℕ
    P = drop (b + c.start) t

    part_is : drop c.start (drop b t) ≡ P
    part_is = drop-drop c.start b t

    pub part_in : b + c.start ≤ length t
    part_in = omega (arith, C.inside, C.holds.inside, length-drop b t)

    pub part_ready : Ready P (rebase c) n
    part_ready = (
      subst (λ (x : List ℕ). Holds x (rebase c)) part_is (rebased_holds C.holds),
      omega (arith, C.room, ap length (sym (ap (λ (x : List ℕ). toks_at x 0) part_is) ∙ rebased_toks C.holds), length-map (toks_at (drop b t) c.start) (back c.start)),
    )

    -- the part that the code lends: as many bytes as there are
    abbrev S : List ℕ
    S = take (length t - (b + c.start)) P

    all_is : S ≡ P
    all_is = take_all (length t - (b + c.start)) P (omega (arith, length-drop (b + c.start) t))

    pub ready_at : {r : Cursor} → r ≡ rebase c → Ready S r n
    ready_at {r} e = subst (λ (x : List ℕ). Ready x r n) (sym all_is) (subst (λ (x : Cursor). Ready P x n) (sym e) part_ready)

    pub meets_at : {r : Cursor} → r ≡ rebase c → (x : Result Read Fault) (o₂ : List ℕ) → Meets S (statement W most_depth (toks_at S r.start)) n o₁ x o₂
        → Meets P (statement W most_depth (toks_at P 0)) n o₁ x o₂
    meets_at e x o₂ h =
        subst (λ (s : List ℕ). Meets s (statement W most_depth (toks_at s 0)) n o₁ x o₂) all_is
        (subst (λ (y : Cursor). Meets S (statement W most_depth (toks_at S y.start)) n o₁ x o₂) e h)

    onward_is : (c.code ≡ 0 → ⊥) → statements W (toks_at t 0) ≡ prepend C.entries (onward (from W) (b + c.start) (toks_at P 0) (statement W most_depth (toks_at P 0)))
    onward_is z =
        C.goes
        ∙ ap (prepend C.entries) (from_held C.holds W b z ∙ ap (λ (x : List ℕ). onward (from W) (b + c.start) (toks_at x 0) (statement W most_depth (toks_at x 0))) part_is)

    pub chain_refused : (c.code ≡ 0 → ⊥) → {j p : ℕ} → statement W most_depth (toks_at P 0) ≡ wrong j p → statements W (toks_at t 0) ≡ refused j (b + c.start + p)
    unfolding onward
    chain_refused z {j} {p} e =
        onward_is z ∙ ap (λ (x : Out Tree). prepend C.entries (onward (from W) (b + c.start) (toks_at P 0) x)) e ∙ prepend_refused C.entries j (b + c.start + p)

    module _ (z : c.code ≡ 0 → ⊥) {e : Cursor} {m : ℕ} {p : Option ℕ} {o₂ : List ℕ} (R : Reads P (statement W most_depth (toks_at P 0)) n o₁ e m p o₂) where
      -- the tokens that the statement has
      used : take (length (toks_at P 0) - length (toks_at P e.start)) (toks_at P 0) ≡ R.holds.past
      unfolding toks_at
      used =
          let w : toks_at P 0 ≡ R.holds.past ++ toks_at P e.start =
          ap (λ (x : Lexed). listed x ++ (final (length P) ∷ [])) R.holds.whole
          ∙ append_assoc R.holds.past R.holds.left (final (length P) ∷ []) ∙ ap (λ (x : List Token). R.holds.past ++ x) (sym (toks_are R.holds)) in
          let l : length (R.holds.past ++ toks_at P e.start) - length (toks_at P e.start) ≡ length R.holds.past =
          omega (arith, length-append R.holds.past (toks_at P e.start)) in
          ap (λ (x : List Token). take (length x - length (toks_at P e.start)) x) w
          ∙ ap (λ (i : ℕ). take i (R.holds.past ++ toks_at P e.start)) l ∙ take-append_seam R.holds.past (toks_at P e.start)

      abbrev E : Entry
      E = entry_of (b + c.start) (toks_at P 0) R.tree (toks_at P e.start)

      entry_tree : E.tree ≡ R.tree
      unfolding entry_of
      entry_tree = refl

      abbrev own : ℕ
      own = latest_in (size R.tree) (records R.tree)

      entry_row : row_words (row_of E) ≡ (b + c.start) ∷ (b + c.start + e.last) ∷ (m - n) ∷ e.taken ∷ own ∷ []
      unfolding entry_of
      entry_row =
          let w : size R.tree ≡ m - n = omega (arith, R.counts) in
          let l : end_of 0 (take (length (toks_at P 0) - length (toks_at P e.start)) (toks_at P 0)) ≡ e.last = ap (end_of 0) used ∙ sym R.holds.last_is in
          let v : count counts (take (length (toks_at P 0) - length (toks_at P e.start)) (toks_at P 0)) ≡ e.taken = ap (count counts) used ∙ sym R.holds.taken_is in
          λ i. (b + c.start) ∷ (b + c.start + l i) ∷ w i ∷ v i ∷ own ∷ []

      last_row : latest_of (row_of E ∷ []) ≡ own
      unfolding latest_of entry_of
      last_row = omega arith

      pub chain_numbers : (m + 3 * length (toks_at P e.start) ≤ 50000) × (n < m)
      chain_numbers = (omega (arith, part_ready.1, R.counts, statement_size W most_depth (toks_at P 0) R.tree (toks_at P e.start) R.is), omega (arith, R.counts, size_some R.tree))

      pub chain_less : length (toks_at P e.start) < length (toks_at (drop b t) c.start)
      chain_less =
          omega (arith, statement_less W most_depth (toks_at P 0) R.tree (toks_at P e.start) R.is, ap length (sym (ap (λ (x : List ℕ). toks_at x 0) part_is) ∙ rebased_toks C.holds), length-map (toks_at (drop b t) c.start) (back c.start))

      -- what the code finds in the records that the statement wrote, y, is the date of its entry
      own_is : {y : ℕ} → length o₁ ≡ length o → record_width * m ≤ length o
          → y ≡ latest_between o₂ n m → y ≡ own
      own_is same fits q =
          let w : m - n ≡ size R.tree = omega (arith, R.counts) in
          let v : length o₂ ≡ length o = ap length R.writes ∙ put_all_length record_width o₁ n (rows R.tree) ∙ same in
          let room : record_width * n + record_width * length (rows R.tree) ≤ length o₁ = omega (arith, R.counts, rows_size R.tree, same) in
          let stands : drop (record_width * n) o₂ ≡ records R.tree ++ drop (record_width * n + record_width * length (rows R.tree)) o₁ =
          ap (drop (record_width * n)) R.writes ∙ put_behind record_width (omega arith) o₁ n (rows R.tree) room (rows_wide R.tree)
          ∙ ap (λ (ws : List ℕ). ws ++ drop (record_width * n + record_width * length (rows R.tree)) o₁) (rows_flat R.tree) in
          q ∙ rw (le-leb (record_width * m) (length o₂) (omega arith), w, stands)
          (latest_first (size R.tree) (records R.tree) _ (omega (arith, records_length R.tree)))

      pub chain_next : {d₂ : List ℕ} {y x' : ℕ} → length o₁ ≡ length o
          → y ≡ latest_between o₂ n m
          → d₂ ≡ put_entry d₁ k ((b + c.start) ∷ (b + c.start + e.last) ∷ (m - n) ∷ e.taken ∷ y ∷ []) → x' ≡ max x y
          → Chain W t o d (b + c.start) e m (k + 1) x' o₂ d₂
      unfolding onward latest_of
      chain_next same p q g = record {
        entries = C.entries ++ (E ∷ []);
        goes =
            onward_is z ∙ ap (λ (x : Out Tree). prepend C.entries (onward (from W) (b + c.start) (toks_at P 0) x)) R.is
            ∙ prepend_snoc C.entries E (from W (b + c.start) (toks_at P e.start));
        short = C.short;
        inside = part_in;
        holds = R.holds;
        room = chain_numbers.0;
        fewer = omega (arith, C.fewer, chain_numbers.1);
        statements_are = omega (arith, C.statements_are, length-append C.entries (E ∷ []));
        records_are = omega (arith, R.counts, C.records_are, nodes_snoc C.entries E, ap size entry_tree);
        records =
            R.writes
            ∙ put_rows_same C.records (C.records_are ∙ sym (rows_in_size C.entries) ∙ sym (zero-add (length (rows_in C.entries)))) (ap rows (sym entry_tree))
            ∙ sym (put_all_append record_width o 0 (rows_in C.entries) (rows E.tree)) ∙ ap (put_rows o 0) (sym (rows_in_snoc C.entries E));
        directory = λ h.
            let before : d₁ ≡ put_entries d 0 (entries_in C.entries) = C.directory (omega (arith, chain_numbers.1)) in
            q ∙ rw (own_is same h p, before, C.statements_are, sym entry_row) (sym (rw zero-add at (put_entries_snoc d 0 C.entries E)));
        latest = λ h.
            g ∙ rw (own_is same h p, C.latest (omega (arith, chain_numbers.1)))
            (sym (ap latest_of (map-append row_of C.entries (E ∷ [])) ∙ latest_of_append (map row_of C.entries) (row_of E ∷ []) ∙ ap (max (latest_of (map row_of C.entries))) last_row));
      }
