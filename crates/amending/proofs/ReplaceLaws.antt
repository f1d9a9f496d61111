-- Laws of an amendment that is made: what the three slices hold after it, and their latest date.
use Rattle.std.specs.Prelude.{if◌then◌else◌}
use mathlib.Core.Path.{◌≡◌, refl, sym, ap, ◌∙◌, subst}
use mathlib.Core.Bool.{Bool, true, false}
use mathlib.Core.List.{List, ◌∷◌, ◌++◌, map}
use Prim.Native.Nat.{ℕ, ◌+◌, ◌-◌, ◌*◌, ◌/◌, max}
use native.Mathlib.Omega.{arith}
use lib.Dec.{leb, ltb}
use lib.ListN.{length, take, drop, length-drop, length-map}
use lib.Seq.{length-take-le}
use borrow.Author.Tests.{le-ltb, ltb-true, leb-true}
use Rattle.tokens.specs.Names.{Lists}
use Rattle.grammar.specs.Sizes.{record_width, entry_width, most_records, most_statements, record_room, statement_room}
use Rattle.grammar.specs.Script.{Entry, accepted, reading_in, nodes}
use Rattle.grammar.specs.Words.{words_of, Row, row_of, rows_words, directory_of, latest_of}
use Rattle.reading.specs.Reading.{answer_to, left_by, read_into, Leaves}
use Rattle.reading.specs.declared.judging.Counts.{Counts}
use Rattle.reading.specs.declared.reading.Answer.{Answer}
use Rattle.grammar.proofs.WordLaws.{words_length, directory_length}
use Rattle.grammar.proofs.LatestLaws.{latest_of_append}
use Rattle.reading.proofs.ReadLaws.{room_in, room_most}
use Rattle.amending.specs.Amending.{Pick}
use Rattle.amending.specs.Lent.{Lent, unchanged, ascending, sum_records, swapped}
use Rattle.amending.specs.Moves.{resized, spliced, leave}
use Rattle.amending.specs.Entries.{rows_from, pick_at, shifted}
use Rattle.amending.specs.Memory.{Memory, memory, rooms_in, used_in, amend_in, left_in, answered, dated, accepted_with, refused_at, Amends}
use Rattle.amending.specs.Grounds.{words_at, totals, latest_then, Fits, Ready, Left, answer_by, MeetsVerdict}
use Rattle.amending.specs.declared.held.Held.{Held}
use Rattle.amending.specs.declared.rows.Row.{Row as Line}
use Rattle.amending.specs.Verdict.{Verdict}
use Rattle.amending.specs.Verdict as verdict
use Rattle.amending.proofs.MoveLaws.{gap_leaves}
use Rattle.amending.proofs.EntryLaws.{rows_of_words, rows_split, rows_count}
use Rattle.amending.proofs.OrderLaws.{Stands, stands}
use Rattle.amending.proofs.SwapLaws.{over_full, swapped_script, swapped_count, swapped_latest}
use Rattle.amending.proofs.DirectoryWords.{swapped_directory}
use Rattle.amending.proofs.LentLaws.{ascending_true}
use Rattle.amending.proofs.Directory.{read_order}
use Rattle.amending.proofs.Editions.{reading_in_lem}
use Rattle.amending.proofs.GroundLaws.{Within, within_are, records_fit, entries_fit, bounded}

module _ (l : Lists) (M : Memory) (h : Held) (k : ℕ) (n : List ℕ) {c : Counts} {w : Held} (F : Fits l M h k n c w) where
  abbrev d : List ℕ
  d = M.directory

  abbrev p : Pick Row
  p = pick_at k h.statements d

  abbrev ns : List Entry
  ns = F.entries

  W : Within (rooms_in M) h
  W = within_are (rooms_in M) h F.holds

  X : Within (rooms_in M) (totals h (words_at d (entry_width * k)) c)
  X = subst (Within (rooms_in M)) F.whole (within_are (rooms_in M) w F.fits)

  split : rows_from h.statements d ≡ p.before ++ (p.one ∷ p.behind)
  split = rows_split k h.statements d F.there

  S : Stands p h.bytes h.records h.tokens
  S = stands p h.bytes h.records h.tokens (rows_from h.statements d) split F.ordered F.records_sum F.tokens_sum

  -- ---- in numbers

  pub ready : Ready M.script M.records d h k n c
  ready =
      let B = bounded M h W in
      let r₁ = room_in most_records (length M.records / record_width) in
      let r₂ = room_most most_records (length M.records / record_width) in
      let e₁ = room_in most_statements (length d / entry_width) in
      let e₂ = room_most most_statements (length d / entry_width) in
      record {
        there = F.there;
        directory = entries_fit M h W;
        records = records_fit M h W;
        bytes = omega (arith, W.bytes);
        starts = omega (arith, S.filled);
        ends = S.inside;
        among = S.records_inside;
        bounded = (B.0, B.1, B.2);
        few = (
          omega (arith, X.bytes, F.bytes_are, S.filled, S.inside),
          omega (arith, X.statements, e₂),
          omega (arith, X.records, r₂),
        );
        script_room = omega (arith, X.bytes, F.bytes_are, S.filled, S.inside);
        record_room = omega (arith, X.records, r₁, S.records_inside);
        entry_room = omega (arith, X.statements, e₁, F.there);
      }

  -- ---- what reading the new text into the room made for it leaves

  reads_in : (o e : List ℕ) → length o ≡ record_width * c.records → length e ≡ entry_width * c.statements → read_into h.edition l n o e ≡ accepted ns
  unfolding reading_in
  reads_in o e x y =
      let Y : Ready M.script M.records d h k n c = ready in
      let a : length o / record_width ≡ nodes ns = omega (arith, x, F.records_are) in
      let b : length e / entry_width ≡ length ns = omega (arith, y, F.statements_are) in
      let a' : ltb most_records (length o / record_width) ≡ false = le-ltb most_records (length o / record_width) (omega (arith, x, Y.few.2)) in
      let b' : ltb most_statements (length e / entry_width) ≡ false = le-ltb most_statements (length e / entry_width) (omega (arith, y, Y.few.1)) in
      reading_in_lem F.edition F.named l (record_room (length o)) (statement_room (length e)) n
      ∙ rw (F.reads, a', b', a, b, le-ltb (nodes ns) (nodes ns) (omega arith), le-ltb (length ns) (length ns) (omega arith))

  -- the words of the new text, which fill the room
  pub read_words : {r : Answer} {o e o' e' : List ℕ} → length o ≡ record_width * c.records → length e ≡ entry_width * c.statements → Leaves h.edition l n o e r o' e'
      → (o' ≡ words_of ns) × (e' ≡ rows_words (map row_of ns)) × (r.latest ≡ latest_of (map row_of ns))
  read_words {o = o} {e = e} x y R =
      let A : read_into h.edition l n o e ≡ accepted ns = reads_in o e x y in
      let lo : length (words_of ns) ≡ length o = omega (arith, words_length ns, F.records_are, x) in
      let le : length (directory_of ns) ≡ length e = omega (arith, directory_length ns, F.statements_are, y) in (
        R.records ∙ ap (left_by words_of o) A ∙ over_full (words_of ns) o lo,
        R.directory ∙ ap (left_by directory_of e) A ∙ over_full (directory_of ns) e le,
        ap (λ (a : Answer). a.latest) (R.answer ∙ ap (answer_to h.edition n) A),
      )

  -- ---- the three slices

  abbrev L : Lent
  L = swapped (used_in M h) p n ns

  pub script_left : {s₁ : List ℕ} → s₁ ≡ spliced M.script h.bytes p.one.start p.one.end n → s₁ ≡ leave L.script h.bytes M.script
  unfolding swapped
  script_left e =
      let Y : Ready M.script M.records d h k n c = ready in
      e ∙ swapped_script M.script n h.bytes p.one.start p.one.end Y.starts Y.ends Y.bytes

  pub records_left : {o₁ g : List ℕ} (from to j : ℕ) → from ≡ record_width * sum_records p.before → to ≡ record_width * (sum_records p.before + p.one.records)
      → j ≡ record_width * c.records → o₁ ≡ resized 0 M.records (record_width * h.records) from to (record_width * c.records) → g ≡ words_of ns
      → take from o₁ ++ (g ++ drop j (drop from o₁)) ≡ leave L.words (record_width * h.records) M.records
  unfolding swapped
  records_left {o₁} {g} from to j x y z made is =
      let Y : Ready M.script M.records d h k n c = ready in
      let size : length g ≡ record_width * c.records = ap length is ∙ omega (arith, words_length ns, F.records_are) in
      gap_leaves M.records o₁ g (record_width * h.records) from to (record_width * c.records) j made z size
      (omega (arith, x, y)) (omega (arith, y, S.records_inside)) Y.records (omega (arith, x, y, Y.record_room, S.records_inside))
      ∙ rw (x, y, is)

  pub directory_left : {d₁ g d₂ d₃ : List ℕ} (j : ℕ)
      → d₁ ≡ resized 0 d (entry_width * h.statements) (entry_width * k) (entry_width * k + entry_width) (entry_width * c.statements) → j ≡ entry_width * c.statements → g ≡ rows_words (map row_of ns)
      → d₂ ≡ shifted (take (entry_width * k) d₁ ++ (g ++ drop j (drop (entry_width * k) d₁))) k (k + c.statements) 0 p.one.start
      → d₃ ≡ shifted d₂ (k + c.statements) (h.statements - 1 + c.statements) p.one.end (p.one.start + length n)
      → d₃ ≡ leave (rows_words L.rows) (entry_width * h.statements) d
  unfolding swapped
  directory_left {d₁} {g} {d₂} {d₃} j made z is one two =
      let Y : Ready M.script M.records d h k n c = ready in
      let order : ascending 0 h.bytes (p.before ++ (p.one ∷ p.behind)) ≡ true = ap (ascending 0 h.bytes) (sym split) ∙ F.ordered in
      let up : ascending 0 (length n) (map row_of ns) ≡ true = ascending_true 0 (length n) ns (read_order F.edition l n ns F.clear F.reads) in
      swapped_directory d h.statements k h.bytes p Y.directory split (rows_count k d) order (map row_of ns) (length n) c.statements
      (length-map ns row_of ∙ sym F.statements_are) up (omega (arith, Y.bounded.0, Y.few.0)) (omega (arith, Y.entry_room, Y.there))
      d₁ g d₂ d₃ j made z is one two

  -- ---- the latest date

  -- where the entry that is gone had not the latest, it stays, or the new text has a later one; where the new text has none that is earlier, it is that one; else the entries are asked
  pub latest_left : {d₃ : List ℕ} {x old gone new m : ℕ} → d₃ ≡ leave (rows_words L.rows) (entry_width * h.statements) d
      → x ≡ (if ltb gone old then max old new else if leb old new then new else latest_of (rows_from m d₃)) → old ≡ h.latest → gone ≡ p.one.latest → new ≡ latest_of (map row_of ns) → m ≡ h.statements - 1 + c.statements
      → x ≡ L.latest
  unfolding swapped latest_of
  latest_left {d₃} {x} {old} {gone} {new} {m} made is o g e count = is ∙ go (ltb gone old) (leb old new) refl refl
    where
      before : h.latest ≡ max (latest_of p.before) (max p.one.latest (latest_of p.behind))
      before = F.latest_is ∙ ap latest_of split ∙ latest_of_append p.before (p.one ∷ p.behind)

      after : L.latest ≡ max (latest_of p.before) (max (latest_of (map row_of ns)) (latest_of p.behind))
      after = swapped_latest p (length n) (map row_of ns)

      entries : m ≡ length L.rows
      entries =
          omega (arith, count, F.there, swapped_count p (length n) (map row_of ns), length-map ns row_of, F.statements_are, rows_count k d, rows_count (h.statements - 1 - k) (drop (entry_width * k + entry_width) d))

      go : (t u : Bool) → ltb gone old ≡ t → leb old new ≡ u → (if t then max old new else if u then new else latest_of (rows_from m d₃)) ≡ L.latest
      go true u q w = omega (arith, ltb-true gone old q, before, after, o, g, e)
      go false true q w = omega (arith, leb-true old new w, before, after, o, e)
      go false false q w = ap latest_of (ap (rows_from m) made ∙ ap (λ (i : ℕ). rows_from i (leave (rows_words L.rows) (entry_width * h.statements) d)) entries ∙ rows_of_words L.rows _)

  -- all three, as the code makes them: row is the entry, b the records before it, and i and j the words of the rooms that are read into
  pub replaced : {row : Line} {b : ℕ} {s₁ o₁ d₁ g g' d₂ d₃ : List ℕ} {r : Answer} {i j x' : ℕ} → row ≡ words_at d (entry_width * k) → b ≡ sum_records (rows_from k d)
      → s₁ ≡ spliced M.script h.bytes row.start row.end n
      → length o₁ ≡ length M.records → o₁ ≡ resized 0 M.records (record_width * h.records) (record_width * b) (record_width * b + record_width * row.records) (record_width * c.records)
      → length d₁ ≡ length d → d₁ ≡ resized 0 d (entry_width * h.statements) (entry_width * k) (entry_width * k + entry_width) (entry_width * c.statements)
      → i ≡ record_width * c.records → j ≡ entry_width * c.statements
      → Leaves h.edition l n (take i (drop (record_width * b) o₁)) (take j (drop (entry_width * k) d₁)) r g g'
      → d₂ ≡ shifted (take (entry_width * k) d₁ ++ (g' ++ drop j (drop (entry_width * k) d₁))) k (k + c.statements) 0 row.start
      → d₃ ≡ shifted d₂ (k + c.statements) (h.statements - 1 + c.statements) row.end (row.start + length n)
      → x' ≡ (if ltb row.latest h.latest then max h.latest r.latest else if leb h.latest r.latest then r.latest else latest_of (rows_from (h.statements - 1 + c.statements) d₃))
      → Left h (amend_in l M h k n) M x' (memory s₁ (take (record_width * b) o₁ ++ (g ++ drop i (drop (record_width * b) o₁))) d₃)
  replaced {row} {b} {s₁} {o₁} {d₁} {g} {g'} {d₂} {d₃} {r} {i} {j} e f x lo y ld z p' q' R u v m =
      let Y : Ready M.script M.records d h k n c = ready in
      let start : row.start ≡ p.one.start = ap (λ (t : Line). t.start) e in
      let end : row.end ≡ p.one.end = ap (λ (t : Line). t.end) e in
      let gone : row.records ≡ p.one.records = ap (λ (t : Line). t.records) e in
      let li : length (take i (drop (record_width * b) o₁)) ≡ record_width * c.records =
      length-take-le i (drop (record_width * b) o₁) (omega (arith, length-drop (record_width * b) o₁, lo, p', f, Y.record_room, S.records_inside)) ∙ p' in
      let lj : length (take j (drop (entry_width * k) d₁)) ≡ entry_width * c.statements =
      length-take-le j (drop (entry_width * k) d₁) (omega (arith, length-drop (entry_width * k) d₁, ld, q', Y.entry_room, Y.there)) ∙ q' in
      let G = read_words li lj R in
      let x₁ : s₁ ≡ spliced M.script h.bytes p.one.start p.one.end n = x ∙ rw (start, end) in
      let y₁ = records_left {o₁ = o₁} {g = g} (record_width * b) (record_width * b + record_width * row.records) i (omega (arith, f)) (omega (arith, f, gone)) p' y G.0 in
      let u₁ : d₂ ≡ shifted (take (entry_width * k) d₁ ++ (g' ++ drop j (drop (entry_width * k) d₁))) k (k + c.statements) 0 p.one.start = u ∙ rw start in
      let v₁ : d₃ ≡ shifted d₂ (k + c.statements) (h.statements - 1 + c.statements) p.one.end (p.one.start + length n) = v ∙ rw (start, end) in
      let z₁ = directory_left {d₁ = d₁} {g = g'} {d₂ = d₂} {d₃ = d₃} j z q' G.1 u₁ v₁ in
      record {
        latest = latest_left z₁ m refl (ap (λ (t : Line). t.latest) e) G.2 refl ∙ ap latest_then (sym F.is);
        memory = (λ t. memory (script_left x₁ t) (y₁ t) (z₁ t)) ∙ ap (left_in M h) (sym F.is);
      }

-- ---- the call

module _ (l : Lists) (M : Memory) (h : Held) (k : ℕ) (n : List ℕ) where
  -- the answer of the call is the one that the verdict stands for
  pub verdict_answers : (v : Verdict) → MeetsVerdict l M h k n v → answered h n (amend_in l M h k n) ≡ answer_by h n (latest_then (amend_in l M h k n)) v
  verdict_answers (verdict.Fits c w) m = ap (answered h n) m.is ∙ sym (ap accepted_with m.held_then)
  verdict_answers (verdict.Refused f b) m = ap (answered h n) m

  pub refuses : {r : Answer} {f b : ℕ} → r ≡ refused_at h n f b → amend_in l M h k n ≡ unchanged f b → Amends l M h k n r M
  refuses {f = f} {b = b} e u = record { answer = e ∙ sym (verdict_answers (verdict.Refused f b) u); memory = sym (ap (left_in M h) u) }

  pub makes : {r : Answer} {x : ℕ} {c : Counts} {w : Held} {M' : Memory} → Fits l M h k n c w → r ≡ accepted_with (dated x w) → Left h (amend_in l M h k n) M x M' → Amends l M h k n r M'
  makes {c = c} {w = w} F e m = record {
    answer = e ∙ ap (λ (x : ℕ). accepted_with (dated x w)) m.latest ∙ sym (verdict_answers (verdict.Fits c w) F);
    memory = m.memory;
  }
