-- What a caller sees of an amendment, on any memory: the number 0 is acceptance and nothing else; a refusal's number lies in 1 to 20 or is 26, its place in the new text,
-- and it has changed nothing; 26 is the answer exactly where no edition has the number that was lent; the edition is never changed; every number of an answer is small.
use Rattle.std.specs.Prelude.{if◌then◌else◌}
use mathlib.Core.Path.{◌≡◌, refl, sym, ap, ◌∙◌, subst}
use mathlib.Core.Bool.{Bool, true, false, not}
use mathlib.Core.Logic.{◌⊎◌, inl, inr, ⊎_elim}
use mathlib.Core.List.{List, ◌∷◌, map}
use mathlib.Core.Option.{Option, none, some}
use Prim.Native.Nat.{ℕ, suc, ◌≤◌, min, max}
use native.Mathlib.Omega.{arith}
use lib.Dec.{T, eqb}
use lib.ListN.{length}
use Rattle.calendar.specs.Calendar.{last_count}
use Rattle.tokens.specs.Limits.{most_bytes, most_tokens}
use Rattle.tokens.specs.Names.{Lists}
use Rattle.tokens.proofs.PlaceLaws.{line_within, column_within}
use Rattle.grammar.specs.Sizes.{most_records, most_statements}
use Rattle.grammar.specs.Grammar.{Edition}
use Rattle.grammar.specs.Script.{Outcome, accepted, refused, read_script, no_zero, number_of}
use Rattle.grammar.specs.Words.{Row, row_of, latest_of}
use Rattle.grammar.proofs.AmendBytes.{read_accepted, script_all}
use Rattle.grammar.proofs.Refusals.{Ground, Named, named_least, named_inside, read_refused, read_small}
use Rattle.grammar.proofs.LatestLaws.{latest_of_append}
use Rattle.grammar.proofs.DatedLaws.{read_latest}
use Rattle.reading.specs.Meets.{edition_by}
use Rattle.reading.specs.declared.reading.Answer.{Answer}
use Rattle.amending.specs.Amend.{ends_well}
use Rattle.amending.specs.Amending.{State, Rooms, Pick, pick, Answer as Result, done, refusal, amend}
use Rattle.amending.specs.Lent.{Lent, Handed, handed, unchanged, over_rows, in_order, swapped, fitting_lent, put_lent, lent_at, amend_lent, given}
use Rattle.amending.specs.Memory.{Memory, rooms_in, used_in, within, is_edition, amend_in, held_by, refused_at, answered, left_in, Amends}
use Rattle.amending.specs.States.{held_of, Holds}
use Rattle.amending.specs.declared.held.Held.{Held}
use Rattle.std.proofs.lemmas.Bool.Decides.{nat_tests}
use Rattle.amending.proofs.AmendingLaws.{pick_is}
use Rattle.amending.proofs.SwapLaws.{swapped_latest}
use Rattle.amending.proofs.Editions.{tested, known, none_tested}
use Rattle.amending.proofs.GroundLaws.{Within, over_are, bounded, not_edition, by_edition}
use Rattle.amending.proofs.StateLaws.{call_is}

-- ---- what a call comes to

-- accepted: what is used then is within the rooms, and the latest date is no later than x, which was lent with the edition e, or than the last
abbrev Fits : Rooms → ℕ → ℕ → Lent → Type 0
Fits R e x L = Within R (held_by e L) × (L.latest ≤ max x last_count)

-- refused: one of 1 to 20, at a byte of the new text n that is one of a script
abbrev Told : Rooms → ℕ → ℕ → List ℕ → Handed → Type 0
Told R e x n (handed L) = Fits R e x L
Told R e x n (unchanged f p) = Ground 20 (min most_bytes (length n)) f p

-- or 26, at byte 0
abbrev Comes : Rooms → ℕ → ℕ → List ℕ → Handed → Type 0
Comes R e x n (handed L) = Fits R e x L
Comes R e x n (unchanged f p) = Named 20 (min most_bytes (length n)) f p

told_comes : (R : Rooms) (e x : ℕ) (n : List ℕ) (y : Handed) → Told R e x n y → Comes R e x n y
told_comes R e x n (handed L) t = t
told_comes R e x n (unchanged f p) t = inr t

module _ (E : Edition) (l : Lists) (n : List ℕ) (R : Rooms) (e : ℕ) where
  -- 17, 19 and 20 are at the text's first byte
  at_first : (x f : ℕ) → 1 ≤ f → f ≤ 20 → Told R e x n (unchanged f 0)
  at_first x f a b = record { least = a; most = b; inside = omega arith }

  module _ (L : Lent) where
    put_told : (p : Pick Row) → (latest_of p.before ≤ L.latest) × (latest_of p.behind ≤ L.latest) → T (no_zero n) → (x : Outcome) → read_script E l n ≡ x → Told R e L.latest n (put_lent E l R L p n x)
    unfolding put_lent fitting_lent swapped
    put_told p k z (refused f b) q =
        let G = read_refused E l n q in
        record { least = G.least; most = omega (arith, G.most); inside = omega (arith, G.inside, ap length (script_all n z), read_small E l n q) }
    put_told p k z (accepted ns) q = go (ends_well n) (over_rows R (length S.script) S.rows) refl
      where
        S : Lent
        S = swapped L p n ns

        -- 16 and 18 are at its end
        at_end : (f : ℕ) → 1 ≤ f → f ≤ 20 → Told R e L.latest n (unchanged f (length n))
        at_end f a b = record { least = a; most = b; inside = omega (arith, (read_accepted E l n ns z q).short) }

        late : S.latest ≤ max L.latest last_count
        late = omega (arith, swapped_latest p (length n) (map row_of ns), read_latest E l n q, k.0, k.1)

        go : (s t : Bool) → over_rows R (length S.script) S.rows ≡ t → Told R e L.latest n (if not s then unchanged 18 (length n) else if t then unchanged 16 (length n) else handed S)
        go false t o = at_end 18 (omega arith) (omega arith)
        go true true o = at_end 16 (omega arith) (omega arith)
        go true false o = (over_are R (length S.script) S.rows (held_by e S) refl refl refl refl o, late)

    -- 20: the lent date is the greatest of the entries'
    lent_latest : in_order R L ≡ true → L.latest ≡ latest_of L.rows
    unfolding in_order
    lent_latest o =
        grind (arith, nat_tests)

    lent_told : (k : ℕ) → Told R e L.latest n (amend_lent E l R L k n)
    unfolding amend_lent lent_at latest_of
    lent_told k = ordered (in_order R L) refl
      where
        among : in_order R L ≡ true → (p : Pick Row) → pick k L.rows ≡ some p → (latest_of p.before ≤ L.latest) × (latest_of p.behind ≤ L.latest)
        among o p q =
            let e : L.latest ≡ max (latest_of p.before) (max p.one.latest (latest_of p.behind)) =
            lent_latest o ∙ ap latest_of (pick_is k L.rows p q).0 ∙ latest_of_append p.before (p.one ∷ p.behind) in
            (omega arith, omega arith)

        clear : (p : Pick Row) → (latest_of p.before ≤ L.latest) × (latest_of p.behind ≤ L.latest) → (t : Bool) → no_zero n ≡ t → Told R e L.latest n (if not t then unchanged 19 0 else put_lent E l R L p n (read_script E l n))
        clear p m false z = at_first L.latest 19 (omega arith) (omega arith)
        clear p m true z = put_told p m (rw z tt) (read_script E l n) refl

        there : in_order R L ≡ true → (o : Option (Pick Row)) → pick k L.rows ≡ o → Told R e L.latest n (lent_at E l R L n o)
        there w none q = at_first L.latest 17 (omega arith) (omega arith)
        there w (some p) q = clear p (among w p q) (no_zero n) refl

        ordered : (t : Bool) → in_order R L ≡ t → Told R e L.latest n (if not t then unchanged 20 0 else lent_at E l R L n (pick k L.rows))
        ordered false w = at_first L.latest 20 (omega arith) (omega arith)
        ordered true w = there w (pick k L.rows) refl

-- in an edition
call_told : (l : Lists) (M : Memory) (h : Held) (k : ℕ) (n : List ℕ) (E : Edition) → h.edition ≡ number_of E → Told (rooms_in M) h.edition h.latest n (amend_in l M h k n)
call_told l M h k n E v = subst (Told (rooms_in M) h.edition h.latest n) (sym (by_edition l M h k n E v)) (go (within (rooms_in M) h))
  where
    go : (t : Bool) → Told (rooms_in M) h.edition h.latest n (if not t then unchanged 20 0 else amend_lent E l (rooms_in M) (used_in M h) k n)
    go false = at_first E l n (rooms_in M) h.edition h.latest 20 (omega arith) (omega arith)
    go true = lent_told E l n (rooms_in M) h.edition (used_in M h) k

-- with any number of an edition
call_comes : (l : Lists) (M : Memory) (h : Held) (k : ℕ) (n : List ℕ) → Comes (rooms_in M) h.edition h.latest n (amend_in l M h k n)
call_comes l M h k n = go (is_edition h.edition) refl
  where
    go : (t : Bool) → is_edition h.edition ≡ t → Comes (rooms_in M) h.edition h.latest n (amend_in l M h k n)
    go true e = told_comes (rooms_in M) h.edition h.latest n (amend_in l M h k n) (call_told l M h k n (edition_by (eqb h.edition 2)) (tested h.edition e))
    go false e = subst (Comes (rooms_in M) h.edition h.latest n) (sym (not_edition l M h k n e)) (inl (refl, refl))

-- ---- what the answer tells

module _ {l : Lists} {M M' : Memory} {h : Held} {k : ℕ} {n : List ℕ} {r : Answer} (A : Amends l M h k n r M') where
  is : (x : Handed) → amend_in l M h k n ≡ x → (r ≡ answered h n x) × Comes (rooms_in M) h.edition h.latest n x
  is x e = (A.answer ∙ ap (answered h n) e, subst (Comes (rooms_in M) h.edition h.latest n) e (call_comes l M h k n))

  -- the number 0 is acceptance, and nothing else
  pub accepted_is : r.number ≡ 0 → (L : Lent) × (amend_in l M h k n ≡ handed L)
  accepted_is z = go (amend_in l M h k n) refl
    where
      go : (x : Handed) → amend_in l M h k n ≡ x → (L : Lent) × (amend_in l M h k n ≡ handed L)
      go (handed L) e = (L, e)
      go (unchanged f p) e = let T = is (unchanged f p) e in absurd (omega (arith, ap (λ (a : Answer). a.number) T.0, z, named_least T.1))

  -- on memory that holds a state: the amendment of the state is made
  pub done_seen : {E : Edition} {st : State} → Holds E l M h st → r.number ≡ 0 → (st' : State) × (amend E l (rooms_in M) st k n ≡ done st')
  done_seen {E} {st} H z = go (amend E l (rooms_in M) st k n) refl
    where
      go : (o : Result) → amend E l (rooms_in M) st k n ≡ o → (st' : State) × (amend E l (rooms_in M) st k n ≡ done st')
      go (done st') e = (st', e)
      go (refusal f p) e =
          let T = is (unchanged f p) (call_is E l M h st H k n ∙ ap given e) in
          absurd (omega (arith, ap (λ (a : Answer). a.number) T.0, z, named_least T.1))

  -- a refusal has one of the numbers 1 to 20, or 26
  pub number_known : (r.number ≤ 20) ⊎ (r.number ≡ 26)
  number_known = go (amend_in l M h k n) refl
    where
      go : (x : Handed) → amend_in l M h k n ≡ x → (r.number ≤ 20) ⊎ (r.number ≡ 26)
      go (handed L) e = inl (omega (arith, ap (λ (a : Answer). a.number) (is (handed L) e).0))
      go (unchanged f p) e =
          let T = is (unchanged f p) e in
          let q : r.number ≡ f = ap (λ (a : Answer). a.number) T.0 in
          ⊎_elim (λ g. inr (q ∙ g.0)) (λ g. inl (omega (arith, q, g.most))) T.1

  -- 26 is the answer where the lent edition is neither 1 nor 2, at byte 0 and whatever else there is to refuse; nothing is changed
  pub no_edition : (h.edition ≡ 1 → ⊥) → (h.edition ≡ 2 → ⊥) → (r ≡ refused_at h n 26 0) × (M' ≡ M)
  no_edition a b =
      let e : amend_in l M h k n ≡ unchanged 26 0 = not_edition l M h k n (none_tested h.edition a b) in
      (A.answer ∙ ap (answered h n) e, A.memory ∙ ap (left_in M h) e)

  -- and nowhere else
  pub no_other : r.number ≡ 26 → (h.edition ≡ 1 → ⊥) × (h.edition ≡ 2 → ⊥)
  no_other z = (λ v. never (known h.edition (inl v)), λ v. never (known h.edition (inr v)))
    where
      never : (E : Edition) × (h.edition ≡ number_of E) → ⊥
      never X = go (amend_in l M h k n) refl
        where
          go : (x : Handed) → amend_in l M h k n ≡ x → ⊥
          go (handed L) e = omega (arith, ap (λ (a : Answer). a.number) (is (handed L) e).0, z)
          go (unchanged f p) e =
              let G = subst (Told (rooms_in M) h.edition h.latest n) e (call_told l M h k n X.0 X.1) in
              omega (arith, ap (λ (a : Answer). a.number) (is (unchanged f p) e).0, z, G.most)

  -- the edition of the answer is the one that was lent, of a refusal too
  pub edition_kept : r.edition ≡ h.edition
  edition_kept = go (amend_in l M h k n) refl
    where
      go : (x : Handed) → amend_in l M h k n ≡ x → r.edition ≡ h.edition
      go (handed L) e = ap (λ (a : Answer). a.edition) (is (handed L) e).0
      go (unchanged f p) e = ap (λ (a : Answer). a.edition) (is (unchanged f p) e).0

  -- its byte is inside the new text, and it, its line and its column are small
  pub byte_inside : r.byte ≤ length n
  byte_inside = go (amend_in l M h k n) refl
    where
      go : (x : Handed) → amend_in l M h k n ≡ x → r.byte ≤ length n
      go (handed L) e = omega (arith, ap (λ (a : Answer). a.byte) (is (handed L) e).0)
      go (unchanged f p) e = let T = is (unchanged f p) e in omega (arith, ap (λ (a : Answer). a.byte) T.0, named_inside T.1)

  pub place_small : (r.byte ≤ most_bytes) × (r.line ≤ suc most_bytes) × (r.column ≤ suc most_bytes)
  place_small = go (amend_in l M h k n) refl
    where
      go : (x : Handed) → amend_in l M h k n ≡ x → (r.byte ≤ most_bytes) × (r.line ≤ suc most_bytes) × (r.column ≤ suc most_bytes)
      go (handed L) e =
          let a = (is (handed L) e).0 in
          (omega (arith, ap (λ (a : Answer). a.byte) a), omega (arith, ap (λ (a : Answer). a.line) a), omega (arith, ap (λ (a : Answer). a.column) a))
      go (unchanged f p) e =
          let a = (is (unchanged f p) e).0 in
          let s : p ≤ most_bytes = omega (arith, named_inside (is (unchanged f p) e).1) in (
            omega (arith, ap (λ (a : Answer). a.byte) a),
            omega (arith, ap (λ (a : Answer). a.line) a, line_within n p),
            omega (arith, ap (λ (a : Answer). a.column) a, column_within n p),
          )

  -- the counts of an acceptance are within the capacities, and its latest date is no later than the one that was lent, or than the last
  pub counts_small : r.number ≡ 0
      → (r.bytes ≤ most_bytes) × (r.statements ≤ most_statements) × (r.records ≤ most_records) × (r.tokens ≤ most_tokens) × (r.latest ≤ max h.latest last_count)
  counts_small z =
      let L = accepted_is z in
      let T = is (handed L.0) L.1 in
      let b = bounded M (held_by h.edition L.0) T.1.0 in
      let c : held_of r ≡ held_by h.edition L.0 = ap held_of T.0 in (
        omega (arith, b.0, ap (λ (x : Held). x.bytes) c),
        omega (arith, b.1, ap (λ (x : Held). x.statements) c),
        omega (arith, b.2, ap (λ (x : Held). x.records) c),
        omega (arith, b.3, ap (λ (x : Held). x.tokens) c),
        omega (arith, T.1.1, ap (λ (x : Held). x.latest) c),
      )

  -- a refusal changes no lent memory, every byte and word of it, and its counts, its latest date and its edition are the old ones
  pub refused_keeps : (r.number ≡ 0 → ⊥) → (M' ≡ M) × (held_of r ≡ h)
  refused_keeps z = go (amend_in l M h k n) refl
    where
      go : (x : Handed) → amend_in l M h k n ≡ x → (M' ≡ M) × (held_of r ≡ h)
      go (handed L) e = absurd (z (ap (λ (a : Answer). a.number) (is (handed L) e).0))
      go (unchanged f p) e = (A.memory ∙ ap (left_in M h) e, ap held_of (is (unchanged f p) e).0)
