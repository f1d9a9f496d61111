-- Laws of the verdict on an amendment: what each test of the code tells of the definition.
use Rattle.std.specs.Prelude.{if◌then◌else◌, Result, Ok, Err, MatchResult}
use Rattle.std.specs.Result.{IsErrAnd}
use mathlib.Core.Path.{◌≡◌, refl, sym, ap, ◌∙◌, subst}
use mathlib.Core.Bool.{true, false, ◌&&◌, not}
use mathlib.Core.List.{List, [], ◌∷◌, ◌++◌, map}
use Prim.Native.Nat.{ℕ, ◌+◌, ◌-◌, ◌*◌, ◌/◌, ◌≤◌, ◌<◌}
use native.Mathlib.Omega.{arith}
use lib.Dec.{T, leb, eqb}
use lib.ListN.{length, take, drop, length-append, length-drop, length-map}
use lib.Seq.{length-take-le}
use mathlib.Core.Logic.{⊎_elim}
use Rattle.std.proofs.lemmas.Bool.{cases_Bool}
use Rattle.std.proofs.lemmas.Bool.Decides.{nat_tests}
use borrow.Author.Tests.{eq-eqb, ne_eqb}
use Rattle.tokens.specs.Limits.{most_bytes, most_tokens}
use Rattle.tokens.specs.Text.{count}
use Rattle.tokens.specs.Names.{Lists}
use Rattle.tokens.specs.Tokens.{Lexed, counts, end_of}
use Rattle.grammar.specs.Sizes.{record_width, entry_width, most_records, most_statements}
use Rattle.grammar.specs.Grammar.{Edition, Language}
use Rattle.grammar.specs.Script.{Entry, accepted, refused, read_script, no_zero, tokens_of, language, number_of}
use Rattle.grammar.specs.Words.{Row, row_of}
use Rattle.reading.specs.Meets.{edition_by, listed}
use Rattle.reading.specs.Judging.{last_end as text_end, judgement}
use Rattle.reading.specs.declared.judging.Counts.{Counts}
use Rattle.reading.specs.Judging as judged
use Rattle.grammar.proofs.AmendBytes.{Text, Accepted, read_accepted, script_all, text_tokens, tokens_append}
use Rattle.grammar.proofs.ReachLaws.{none_end}
use Rattle.grammar.proofs.Endings.{Snoc, nil, snoc, snoc_of, LastToken, last_token}
use Rattle.reading.proofs.ReadLaws.{room_in, room_most, Good, judged_not, judged_good}
use Rattle.amending.specs.Amend.{ends_well, last_end}
use Rattle.amending.specs.Amending.{Rooms, Pick, pick}
use Rattle.amending.specs.Lent.{Lent, handed, unchanged, ascending, sum_records, sum_tokens, over_rows, in_order, swapped, fitting_lent, put_lent, lent_at, amend_lent}
use Rattle.amending.specs.Entries.{rows_from, pick_at}
use Rattle.amending.specs.Memory.{Memory, rooms_in, as_rooms, used_in, within, is_edition, amend_in}
use Rattle.amending.specs.Grounds.{ends_at, has_order, Ends, Few, words_at, Stands, Admits, alone, totals, fitting_by, Fits, latest_then, MeetsVerdict}
use Rattle.amending.specs.declared.held.Held.{Held}
use Rattle.amending.specs.declared.rooms.Rooms.{Rooms as Most}
use Rattle.amending.proofs.EntryLaws.{pick_here, pick_past, rows_split, rows_count}
use Rattle.amending.proofs.OrderLaws.{told, Ordered, ordered, Stands as Inside, stands as inside, records_joined, tokens_joined}
use Rattle.amending.proofs.SwapLaws.{swapped_records, swapped_tokens, swapped_count}
use Rattle.amending.proofs.LentLaws.{sum_nodes, sum_tokens_lem}
use Rattle.amending.proofs.Directory.{InOrder, text_order}
use Rattle.amending.proofs.EndsBy.{ends_by_lem, last_end_lem}
use Rattle.amending.proofs.Editions.{numbered_is, numbered_none, tested, none_tested}

-- ---- within

pub record Within (R : Rooms) (h : Held) : Type 0 where
  pub bytes : h.bytes ≤ R.bytes
  pub tokens : h.tokens ≤ R.tokens
  pub records : h.records ≤ R.records
  pub statements : h.statements ≤ R.statements

module _ (R : Rooms) (h : Held) where
  pub within_yes : Within R h → within R h ≡ true
  unfolding within
  within_yes w = grind (arith, nat_tests)

  pub within_are : within R h ≡ true → Within R h
  unfolding within
  within_are b = record { bytes = grind (arith, nat_tests); tokens = grind (arith, nat_tests); records = grind (arith, nat_tests); statements = grind (arith, nat_tests) }

-- totals that are over capacity or room are those that are not within
module _ (R : Rooms) (b : ℕ) (rs : List Row) (h : Held) (p : h.bytes ≡ b) (q : h.tokens ≡ sum_tokens rs) (r : h.records ≡ sum_records rs) (s : h.statements ≡ length rs) where
  over_no : Within R h → over_rows R b rs ≡ false
  unfolding over_rows
  over_no w = grind (arith, nat_tests)

  pub over_are : over_rows R b rs ≡ false → Within R h
  unfolding over_rows
  over_are f = record { bytes = grind (arith, nat_tests); tokens = grind (arith, nat_tests); records = grind (arith, nat_tests); statements = grind (arith, nat_tests) }

  over_yes : within R h ≡ false → over_rows R b rs ≡ true
  unfolding over_rows within
  over_yes f = grind (arith, nat_tests)

-- ---- the words that are used, where counts are within

module _ (M : Memory) (h : Held) (w : Within (rooms_in M) h) where
  abbrev rows : List Row
  rows = rows_from h.statements M.directory

  pub bytes_used : length (take h.bytes M.script) ≡ h.bytes
  bytes_used = length-take-le h.bytes M.script (omega (arith, w.bytes))

  pub records_fit : record_width * h.records ≤ length M.records
  records_fit = omega (arith, w.records, room_in most_records (length M.records / record_width))

  pub entries_fit : entry_width * h.statements ≤ length M.directory
  entries_fit = omega (arith, w.statements, room_in most_statements (length M.directory / entry_width))

  words_used : length (take (record_width * h.records) M.records) ≡ record_width * h.records
  words_used = length-take-le (record_width * h.records) M.records records_fit

  pub bounded : (h.bytes ≤ most_bytes) × (h.statements ≤ most_statements) × (h.records ≤ most_records) × (h.tokens ≤ most_tokens)
  bounded = (
    omega (arith, w.bytes),
    omega (arith, w.statements, room_most most_statements (length M.directory / entry_width)),
    omega (arith, w.records, room_most most_records (length M.records / record_width)),
    w.tokens,
  )

  -- 20: the code's test is the definition's
  pub order_is : in_order (rooms_in M) (used_in M h) ≡ (leb (entry_width * h.statements) (length M.directory) && told h.bytes h.records h.tokens h.latest rows)
  unfolding in_order
  order_is =
      let fits : h.tokens ≡ sum_tokens rows → h.records ≡ sum_records rows → over_rows (rooms_in M) (length (take h.bytes M.script)) rows ≡ false =
      λ t r. over_no (rooms_in M) (length (take h.bytes M.script)) rows h (sym bytes_used) t r (sym (rows_count h.statements M.directory)) w in
      let order : ascending 0 (length (take h.bytes M.script)) rows ≡ ascending 0 h.bytes rows = ap (λ (n : ℕ). ascending 0 n rows) bytes_used in
      let words = words_used in
      let entries = entries_fit in
      grind (arith, nat_tests)

-- ---- 18 and 16

-- counts that are within rooms are within the capacities
pub few_capped : (R : Most) (c : Counts) → within (as_rooms R) (alone c) ≡ true → Few c
few_capped R c b =
    let w : Within (as_rooms R) (alone c) = within_are (as_rooms R) (alone c) b in
    (omega (arith, w.bytes, R.few_bytes), omega (arith, w.statements, R.few_statements), omega (arith, w.records, R.few_records), omega (arith, w.tokens, R.few_tokens))

module _ (W : Language) (n : List ℕ) (ns : List Entry) (X : Text W n ns) where
  -- the last statement ends where the last token does, and there is one where there is a token
  ends_there : (last_end 0 ns ≡ end_of 0 X.toks) × (eqb (length ns) 0 ≡ eqb (count counts X.toks) 0)
  ends_there = go (snoc_of ns)
    where
      go : Snoc ns → (last_end 0 ns ≡ end_of 0 X.toks) × (eqb (length ns) 0 ≡ eqb (count counts X.toks) 0)
      go (nil h) =
          let c : count counts X.toks ≡ 0 = text_tokens W X ∙ ap tokens_of h in
          (ap (last_end 0) h ∙ sym (none_end 0 X.toks c), ap (λ (es : List Entry). eqb (length es) 0) h ∙ sym (eq-eqb (count counts X.toks) 0 c))
      go (snoc es e h) =
          let Y : LastToken W n X.toks e = last_token W es e (record { toks = X.toks; scanned = X.scanned; reads = X.reads ∙ ap accepted h }) in
          let k : 1 ≤ count counts X.toks = omega (arith, text_tokens W X, ap tokens_of h, tokens_append es (e ∷ []), Y.some) in
          let m : 1 ≤ length ns = omega (arith, ap length h, length-append es (e ∷ [])) in
          (ap (last_end 0) h ∙ last_end_lem 0 es e ∙ sym Y.ends, ne_eqb (length ns) 0 (λ q. omega arith) ∙ sym (ne_eqb (count counts X.toks) 0 (λ q. omega arith)))

  pub ends_at_lem : ends_well n ≡ ends_at n (end_of 0 X.toks) (count counts X.toks)
  ends_at_lem = ends_by_lem W n ns X ∙ rw (ends_there.0, ends_there.1)

  -- the last token ends inside the text, and behind its first byte
  pub end_inside : (end_of 0 X.toks ≤ length n) × ((count counts X.toks ≡ 0 → ⊥) → 1 ≤ end_of 0 X.toks)
  end_inside = go (snoc_of ns)
    where
      last_in : (i j : ℕ) (es : List Entry) (e : Entry) → InOrder i j (es ++ (e ∷ [])) → (e.end ≤ j) × (1 ≤ e.end)
      last_in i j [] e o = (o.3, omega (arith, o.1))
      last_in i j (x ∷ es) e o = last_in x.end j es e o.3

      go : Snoc ns → (end_of 0 X.toks ≤ length n) × ((count counts X.toks ≡ 0 → ⊥) → 1 ≤ end_of 0 X.toks)
      go (nil h) =
          let c : count counts X.toks ≡ 0 = text_tokens W X ∙ ap tokens_of h in
          (omega (arith, none_end 0 X.toks c), λ f. absurd (f c))
      go (snoc es e h) =
          let Y : LastToken W n X.toks e = last_token W es e (record { toks = X.toks; scanned = X.scanned; reads = X.reads ∙ ap accepted h }) in
          let I = last_in 0 (length n) es e (subst (λ (x : List Entry). InOrder 0 (length n) x) h (text_order W n ns X)) in
          (omega (arith, Y.ends, I.0), λ f. omega (arith, Y.ends, I.1))

-- ---- the call, test by test

-- 26: no edition has the number that is lent
pub not_edition : (l : Lists) (M : Memory) (h : Held) (k : ℕ) (n : List ℕ) → is_edition h.edition ≡ false → amend_in l M h k n ≡ unchanged 26 0
unfolding amend_in
not_edition l M h k n f =
    numbered_none h.edition (unchanged 26 0) (λ (F : Edition). if not (within (rooms_in M) h) then unchanged 20 0 else amend_lent F l (rooms_in M) (used_in M h) k n) f

-- the others, in the edition E that has it
module _ (l : Lists) (M : Memory) (h : Held) (k : ℕ) (n : List ℕ) (E : Edition) (v : h.edition ≡ number_of E) where
  pub by_edition : amend_in l M h k n ≡ (if not (within (rooms_in M) h) then unchanged 20 0 else amend_lent E l (rooms_in M) (used_in M h) k n)
  unfolding amend_in
  by_edition =
      numbered_is E (unchanged 26 0) (λ (F : Edition). if not (within (rooms_in M) h) then unchanged 20 0 else amend_lent F l (rooms_in M) (used_in M h) k n) v

  -- 20
  not_within : within (rooms_in M) h ≡ false → amend_in l M h k n ≡ unchanged 20 0
  not_within f = by_edition ∙ rw f

  module _ (w : Within (rooms_in M) h) where
    abbrev d : List ℕ
    d = M.directory

    pub asked : amend_in l M h k n ≡ amend_lent E l (rooms_in M) (used_in M h) k n
    asked = by_edition ∙ rw (within_yes (rooms_in M) h w)

    not_ordered : (leb (entry_width * h.statements) (length d) && told h.bytes h.records h.tokens h.latest (rows_from h.statements d)) ≡ false → amend_in l M h k n ≡ unchanged 20 0
    unfolding amend_lent
    not_ordered f = asked ∙ rw (order_is M h w ∙ f)

    module _ (o : (leb (entry_width * h.statements) (length d) && told h.bytes h.records h.tokens h.latest (rows_from h.statements d)) ≡ true) where
      at : amend_in l M h k n ≡ lent_at E l (rooms_in M) (used_in M h) n (pick k (rows_from h.statements d))
      unfolding amend_lent
      at = asked ∙ rw (order_is M h w ∙ o)

      -- 17
      not_there : h.statements ≤ k → amend_in l M h k n ≡ unchanged 17 0
      unfolding lent_at
      not_there f = at ∙ rw (pick_past k h.statements d f)

      module _ (t : k < h.statements) where
        abbrev p : Pick Row
        p = pick_at k h.statements d

        O : Ordered d h.statements h.bytes h.records h.tokens h.latest
        O = ordered d h.statements h.bytes h.records h.tokens h.latest o

        split : rows_from h.statements d ≡ p.before ++ (p.one ∷ p.behind)
        split = rows_split k h.statements d t

        S : Inside p h.bytes h.records h.tokens
        S = inside p h.bytes h.records h.tokens (rows_from h.statements d) split O.order O.record_sum O.token_sum

        -- the entry that is replaced
        one_stands : Stands h (words_at d (entry_width * k))
        one_stands = record {
          starts = omega (arith, S.filled);
          ends = S.inside;
          some = omega arith;
          records = omega (arith, S.records_inside);
          tokens = omega (arith, S.tokens_inside);
          bounded = bounded M h w;
        }

        -- 19
        not_clear : no_zero n ≡ false → amend_in l M h k n ≡ unchanged 19 0
        unfolding lent_at
        not_clear f = at ∙ rw (pick_here k h.statements d t, f)

        module _ (z : no_zero n ≡ true) where
          put : amend_in l M h k n ≡ put_lent E l (rooms_in M) (used_in M h) p n (read_script E l n)
          unfolding lent_at
          put = at ∙ rw (pick_here k h.statements d t, z)

          -- 1 to 15
          not_read : {f b : ℕ} → read_script E l n ≡ refused f b → amend_in l M h k n ≡ unchanged f b
          unfolding put_lent
          not_read e = put ∙ rw e

          clear : T (no_zero n)
          clear = subst T (sym z) tt

          module _ {c : Counts} (G : Good E l n c) where
            admits : Accepted E l n G.entries
            admits = read_accepted E l n G.entries clear G.reads

            pub size_is : c.bytes ≡ length n
            size_is = G.bytes_are ∙ ap length (script_all n clear)

            end_is : c.last ≡ end_of 0 admits.text.toks
            end_is = G.last_are ∙ ap text_end (script_all n clear) ∙ ap (λ (x : Lexed). end_of 0 (listed x)) admits.text.scanned

            count_is : c.tokens ≡ count counts admits.text.toks
            count_is = G.tokens_are ∙ sym (text_tokens (language E l) admits.text)

            ends_is : ends_well n ≡ ends_at n c.last c.tokens
            ends_is = ends_at_lem (language E l) n G.entries admits.text ∙ rw (sym end_is, sym count_is)

            ends_ready : Ends n c
            ends_ready =
                let I = end_inside (language E l) n G.entries admits.text in
                (omega (arith, I.0, end_is), λ f. omega (arith, I.1 (λ q. f (count_is ∙ q)), end_is))

            abbrev ns : List Entry
            ns = G.entries

            abbrev L : Lent
            L = swapped (used_in M h) p n ns

            abbrev whole : Held
            whole = totals h (words_at d (entry_width * k)) c

            bytes_whole : whole.bytes ≡ length L.script
            unfolding swapped
            bytes_whole =
                let u : List ℕ = take h.bytes M.script in
                let x : length (take p.one.start u ++ n ++ drop p.one.end u) ≡ p.one.start + length n + (h.bytes - p.one.end) =
                length-append (take p.one.start u ++ n) (drop p.one.end u)
                ∙ omega (arith, length-append (take p.one.start u) n, length-take-le p.one.start u (omega (arith, bytes_used M h w, S.filled, S.inside)), length-drop p.one.end u, bytes_used M h w) in
                omega (arith, x, size_is, S.filled, S.inside)

            tokens_whole : whole.tokens ≡ sum_tokens L.rows
            unfolding swapped
            tokens_whole =
                omega (arith, O.token_sum, ap sum_tokens split, tokens_joined p.before (p.one ∷ p.behind), swapped_tokens p (length n) (map row_of ns), sum_tokens_lem ns, G.tokens_are)

            records_whole : whole.records ≡ sum_records L.rows
            unfolding swapped
            records_whole =
                omega (arith, O.record_sum, ap sum_records split, records_joined p.before (p.one ∷ p.behind), swapped_records p (length n) (map row_of ns), sum_nodes ns, G.records_are)

            statements_whole : whole.statements ≡ length L.rows
            unfolding swapped
            statements_whole =
                omega (arith, rows_count h.statements d, ap (λ (rs : List Row). length rs) split, length-append p.before (p.one ∷ p.behind), swapped_count p (length n) (map row_of ns), length-map ns row_of, G.statements_are)

            fits_there : ends_at n c.last c.tokens ≡ true → amend_in l M h k n ≡ fitting_lent (rooms_in M) (length n) L
            unfolding put_lent
            fits_there e = put ∙ rw (G.reads, ends_is ∙ e)

            over_there : ends_at n c.last c.tokens ≡ true → within (rooms_in M) whole ≡ false → amend_in l M h k n ≡ unchanged 16 c.bytes
            unfolding fitting_lent
            over_there e f =
                fits_there e ∙ rw (over_yes (rooms_in M) (length L.script) L.rows whole bytes_whole tokens_whole records_whole statements_whole f, size_is)

            -- a text that does not fit alone does not fit with others
            alone_not : within (rooms_in M) (alone c) ≡ false → within (rooms_in M) whole ≡ false
            unfolding within
            alone_not f = grind (arith, nat_tests)

            -- 18, 16, or what is made
            fitted : MeetsVerdict l M h k n (fitting_by (rooms_in M) h (words_at d (entry_width * k)) n c)
            unfolding fitting_by put_lent fitting_lent swapped
            fitted =
                ⊎_elim
                (λ e. rw e (⊎_elim
                (λ a. rw a (⊎_elim (λ f. rw f (made e f)) (λ f. rw f (over_there e f)) (cases_Bool (within (rooms_in M) whole))))
                (λ a. rw a (over_there e (alone_not a)))
                (cases_Bool (within (rooms_in M) (alone c)))))
                (λ e. rw e (not_ended e))
                (cases_Bool (ends_at n c.last c.tokens))
              where
                not_ended : ends_at n c.last c.tokens ≡ false → amend_in l M h k n ≡ unchanged 18 c.bytes
                not_ended e = put ∙ rw (G.reads, ends_is ∙ e, size_is)

                made : ends_at n c.last c.tokens ≡ true → within (rooms_in M) whole ≡ true → Fits l M h k n c whole
                made e f =
                    let made_is : amend_in l M h k n ≡ handed L =
                    fits_there e ∙ rw (over_no (rooms_in M) (length L.script) L.rows whole bytes_whole tokens_whole records_whole statements_whole (within_are (rooms_in M) whole f)) in
                    record {
                      edition = E;
                      named = v;
                      entries = ns;
                      there = t;
                      clear = clear;
                      reads = G.reads;
                      bytes_are = size_is;
                      statements_are = G.statements_are;
                      records_are = G.records_are;
                      holds = within_yes (rooms_in M) h w;
                      ordered = O.order;
                      records_sum = O.record_sum;
                      tokens_sum = O.token_sum;
                      latest_is = O.latest_is;
                      whole = refl;
                      held_then = λ i. record { bytes = bytes_whole i; statements = statements_whole i; records = records_whole i; tokens = tokens_whole i; latest = latest_then (made_is i); edition = h.edition };
                      fits = f;
                      is = made_is;
                    }

-- ---- the call as the code asks it

module _ (M : Memory) (h : Held) (k : ℕ) (n : List ℕ) where
  pub refused_edition : (h.edition ≡ 1 → ⊥) → (h.edition ≡ 2 → ⊥) → (l : Lists) → amend_in l M h k n ≡ unchanged 26 0
  refused_edition a b l = not_edition l M h k n (none_tested h.edition a b)

  module _ (e : is_edition h.edition ≡ true) where
    pub refused_room : within (rooms_in M) h ≡ false → (l : Lists) → amend_in l M h k n ≡ unchanged 20 0
    refused_room f l = not_within l M h k n (edition_by (eqb h.edition 2)) (tested h.edition e) f

    module _ (w : within (rooms_in M) h ≡ true) where
      W : Within (rooms_in M) h
      W = within_are (rooms_in M) h w

      pub refused_order : has_order M.directory h ≡ false → (l : Lists) → amend_in l M h k n ≡ unchanged 20 0
      refused_order f l = not_ordered l M h k n (edition_by (eqb h.edition 2)) (tested h.edition e) W f

      module _ (o : has_order M.directory h ≡ true) where
        pub refused_number : h.statements ≤ k → (l : Lists) → amend_in l M h k n ≡ unchanged 17 0
        refused_number f l = not_there l M h k n (edition_by (eqb h.edition 2)) (tested h.edition e) W o f

        pub refused_zero : k < h.statements → no_zero n ≡ false → (l : Lists) → amend_in l M h k n ≡ unchanged 19 0
        refused_zero t f l = not_clear l M h k n (edition_by (eqb h.edition 2)) (tested h.edition e) W o t f

  module _ (E : Edition) (v : h.edition ≡ number_of E) (l : Lists) (A : Admits M h k n) where
    pub admitted_stands : Stands h (words_at M.directory (entry_width * k))
    admitted_stands = one_stands l M h k n E v (within_are (rooms_in M) h A.holds) A.ordered A.there

    pub admitted_refused : {f b : ℕ} → judgement E l n ≡ judged.rejected f b → amend_in l M h k n ≡ unchanged f b
    admitted_refused j = not_read l M h k n E v (within_are (rooms_in M) h A.holds) A.ordered A.there A.clear (judged_not E l n j)

    pub admitted_ends : {c : Counts} → judgement E l n ≡ judged.good c → Ends n c
    admitted_ends j = ends_ready l M h k n E v (within_are (rooms_in M) h A.holds) A.ordered A.there A.clear (judged_good E l n j)

    pub admitted_fits : {c : Counts} → judgement E l n ≡ judged.good c → MeetsVerdict l M h k n (fitting_by (rooms_in M) h (words_at M.directory (entry_width * k)) n c)
    admitted_fits j = fitted l M h k n E v (within_are (rooms_in M) h A.holds) A.ordered A.there A.clear (judged_good E l n j)

-- ---- a result whose refusal was given its byte

module _ {A E D : Type 0} (post : E → D → Type 0) where
  pub ok_was : (r : Result A E) (m : Result A D) (x : A) → MatchResult r (λ y. m ≡ Ok y) (λ e. IsErrAnd m (post e)) → m ≡ Ok x → r ≡ Ok x
  ok_was (Ok y) m x c o = cc
  ok_was (Err e) m x c o = absurd (rw o at c)
