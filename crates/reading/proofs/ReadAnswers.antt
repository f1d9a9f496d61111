-- What a caller sees of a reading: the number 0 is acceptance and nothing else; a refusal's number lies in 1 to 16 or is 26, its place in the script, and it has changed nothing.
use mathlib.Core.Path.{◌≡◌, refl, ap, ◌∙◌}
use mathlib.Core.Logic.{◌⊎◌, inl, inr, ⊎_elim}
use mathlib.Core.List.{List}
use Prim.Native.Nat.{ℕ, suc, ◌≤◌}
use native.Mathlib.Omega.{arith}
use lib.ListN.{length}
use Rattle.tokens.specs.Limits.{most_bytes}
use Rattle.tokens.specs.Text.{script}
use Rattle.tokens.specs.Names.{Lists}
use Rattle.tokens.proofs.PlaceLaws.{line_within, column_within}
use Rattle.grammar.specs.Sizes.{record_room, statement_room}
use Rattle.grammar.specs.Script.{Entry, Outcome, accepted, refused}
use Rattle.grammar.specs.Words.{words_of, directory_of}
use Rattle.grammar.proofs.Refusals.{Named, named_least, named_inside, edition_known, numbered_refused, numbered_small}
use Rattle.reading.specs.Reading.{answer_to, left_by, read_into, Leaves}
use Rattle.reading.specs.declared.reading.Answer.{Answer}

module _ (v : ℕ) (l : Lists) {bs o d o' d' : List ℕ} {r : Answer} (X : Leaves v l bs o d r o' d') where
  is : (x : Outcome) → read_into v l bs o d ≡ x → r ≡ answer_to v bs x
  is x e = X.answer ∙ ap (answer_to v bs) e

  ground : {f p : ℕ} → read_into v l bs o d ≡ refused f p → Named 16 (length (script bs)) f p
  ground e = numbered_refused v l bs (record_room (length o)) (statement_room (length d)) e

  -- the number 0 is acceptance, and nothing else
  pub accepted_is : r.number ≡ 0 → (es : List Entry) × (read_into v l bs o d ≡ accepted es)
  accepted_is z = go (read_into v l bs o d) refl
    where
      go : (x : Outcome) → read_into v l bs o d ≡ x → (es : List Entry) × (read_into v l bs o d ≡ accepted es)
      go (accepted es) e = (es, e)
      go (refused f p) e = absurd (omega (arith, ap (λ (a : Answer). a.number) (is (refused f p) e), z, named_least (ground e)))

  -- a refusal has one of the numbers 1 to 16, or 26
  pub number_known : (r.number ≤ 16) ⊎ (r.number ≡ 26)
  number_known = go (read_into v l bs o d) refl
    where
      go : (x : Outcome) → read_into v l bs o d ≡ x → (r.number ≤ 16) ⊎ (r.number ≡ 26)
      go (accepted es) e = inl (omega (arith, ap (λ (a : Answer). a.number) (is (accepted es) e)))
      go (refused f p) e =
          let k : r.number ≡ f = ap (λ (a : Answer). a.number) (is (refused f p) e) in
          ⊎_elim (λ g. inr (k ∙ g.0)) (λ g. inl (omega (arith, k, g.most))) (ground e)

  -- its byte is inside the script, so that it, its line and its column are small
  pub byte_inside : r.byte ≤ length (script bs)
  byte_inside = go (read_into v l bs o d) refl
    where
      go : (x : Outcome) → read_into v l bs o d ≡ x → r.byte ≤ length (script bs)
      go (accepted es) e = omega (arith, ap (λ (a : Answer). a.byte) (is (accepted es) e))
      go (refused f p) e = omega (arith, ap (λ (a : Answer). a.byte) (is (refused f p) e), named_inside (ground e))

  pub place_small : (r.byte ≤ most_bytes) × (r.line ≤ suc most_bytes) × (r.column ≤ suc most_bytes)
  place_small = go (read_into v l bs o d) refl
    where
      go : (x : Outcome) → read_into v l bs o d ≡ x → (r.byte ≤ most_bytes) × (r.line ≤ suc most_bytes) × (r.column ≤ suc most_bytes)
      go (accepted es) e =
          let a = is (accepted es) e in
          (omega (arith, ap (λ (a : Answer). a.byte) a), omega (arith, ap (λ (a : Answer). a.line) a), omega (arith, ap (λ (a : Answer). a.column) a))
      go (refused f p) e =
          let a = is (refused f p) e in
          let s : p ≤ most_bytes = numbered_small v l bs (record_room (length o)) (statement_room (length d)) e in (
            omega (arith, ap (λ (a : Answer). a.byte) a),
            omega (arith, ap (λ (a : Answer). a.line) a, line_within bs p),
            omega (arith, ap (λ (a : Answer). a.column) a, column_within bs p),
          )

  -- a refusal changes no lent memory, every word of it; its counts, its latest date and its edition are 0
  pub refused_keeps : (r.number ≡ 0 → ⊥) → (o' ≡ o) × (d' ≡ d) × ((r.bytes ≡ 0) × (r.statements ≡ 0) × (r.records ≡ 0) × (r.tokens ≡ 0) × (r.latest ≡ 0) × (r.edition ≡ 0))
  refused_keeps n = go (read_into v l bs o d) refl
    where
      go : (x : Outcome) → read_into v l bs o d ≡ x → (o' ≡ o) × (d' ≡ d) × ((r.bytes ≡ 0) × (r.statements ≡ 0) × (r.records ≡ 0) × (r.tokens ≡ 0) × (r.latest ≡ 0) × (r.edition ≡ 0))
      go (accepted es) e = absurd (n (ap (λ (a : Answer). a.number) (is (accepted es) e)))
      go (refused f p) e =
          let a = is (refused f p) e in (
            X.records ∙ ap (left_by words_of o) e,
            X.directory ∙ ap (left_by directory_of d) e,
            (ap (λ (a : Answer). a.bytes) a, ap (λ (a : Answer). a.statements) a, ap (λ (a : Answer). a.records) a, ap (λ (a : Answer). a.tokens) a, ap (λ (a : Answer). a.latest) a, ap (λ (a : Answer). a.edition) a),
          )

  -- an accepted script is of the edition that was named, 1 or 2
  pub edition_kept : r.number ≡ 0 → (r.edition ≡ v) × ((v ≡ 1) ⊎ (v ≡ 2))
  edition_kept z =
      let A = accepted_is z in
      (ap (λ (a : Answer). a.edition) (is (accepted A.0) A.1), edition_known v l bs (record_room (length o)) (statement_room (length d)) A.1)
