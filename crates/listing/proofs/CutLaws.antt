-- The listing of an input is that of its first 16,385 bytes: one more than a script may have tells that it is too long.
use Rattle.std.specs.Prelude.{if◌then◌else◌}
use mathlib.Core.Path.{◌≡◌, refl, sym, ap, ◌∙◌}
use mathlib.Core.Bool.{Bool, true, false, not}
use mathlib.Core.List.{List, [], ◌∷◌}
use Prim.Native.Nat.{ℕ, zero, suc, ◌≤◌, ◌<◌}
use native.Mathlib.Omega.{arith}
use lib.Dec.{eqb, ltb}
use lib.ListN.{length, take}
use lib.Seq.{length-take-le, take_all, take-take}
use borrow.Author.Tests.{lt-ltb, ltb-true, ltb-false}
use Rattle.tokens.specs.Limits.{most_bytes}
use Rattle.tokens.specs.Text.{script, leading, other, count}
use Rattle.tokens.specs.Tokens.{tokens}
use Rattle.tokens.specs.Names.{good_lists}
use Rattle.tokens.specs.Places.{line as line_at, column as column_at, since}
use Rattle.grammar.specs.Sizes.{most_records, most_statements}
use Rattle.grammar.specs.Grammar.{one}
use Rattle.grammar.specs.Script.{Outcome, accepted, refused, fitting, of_tokens, read_script, reading_in}
use Rattle.grammar.proofs.Refusals.{reading_small}
use Rattle.listing.specs.Listing.{own_lists, accepted_lines, answer_lines, reading_lines, listing}

-- the script of the first bytes is the first bytes of the script
script_cut : (n : ℕ) (bs : List ℕ) → script (take n bs) ≡ take n (script bs)
unfolding script leading
script_cut zero bs = refl
script_cut (suc n) [] = refl
script_cut (suc n) (b ∷ bs) = go (other 0 b) refl (script_cut n bs)
  where
    go : (t : Bool) → other 0 b ≡ t → script (take n bs) ≡ take n (script bs) → script (take (suc n) (b ∷ bs)) ≡ take (suc n) (script (b ∷ bs))
    go true e h = rw (script, leading, e) (ap (λ (u : List ℕ). b ∷ u) h)
    go false e h = rw (script, leading, e)

abbrev reading_of : List ℕ → Outcome
reading_of bs = reading_in one own_lists most_records most_statements bs

-- what is read is told by the script
reading_same : (cs bs : List ℕ) → script cs ≡ script bs → reading_of cs ≡ reading_of bs
unfolding reading_in read_script
reading_same cs bs e =
    ap (λ (s : List ℕ). fitting (length s) most_records most_statements
    (if ltb most_bytes (length s) then refused 1 0 else if not (good_lists own_lists) then refused 2 0 else of_tokens one own_lists (length s) (tokens s))) e

reading_long : (bs : List ℕ) → most_bytes < length (script bs) → reading_of bs ≡ refused 1 0
unfolding reading_in read_script
reading_long bs h = rw (lt-ltb most_bytes (length (script bs)) h)

-- its lines are told by what was read, and by the bytes before a refusal
lines_same : (cs bs : List ℕ) (R : Outcome) → ((k p : ℕ) → R ≡ refused k p → take p cs ≡ take p bs) → reading_lines cs R ≡ reading_lines bs R
unfolding accepted_lines line_at column_at
lines_same cs bs (accepted es) h = refl
lines_same cs bs (refused k p) h = λ i.
    answer_lines (record {
      number = k;
      byte = p;
      line = suc (count (eqb 10) (h k p refl i));
      column = suc (since 0 (h k p refl i));
      bytes = 0;
      statements = 0;
      records = 0;
      tokens = 0;
      latest = 0;
      edition = 0;
    }) []

module _ (bs : List ℕ) where
  reading_cut : reading_of (take 16385 bs) ≡ reading_of bs
  reading_cut = go (ltb most_bytes (length (script bs))) refl
    where
      go : (t : Bool) → ltb most_bytes (length (script bs)) ≡ t → reading_of (take 16385 bs) ≡ reading_of bs
      go true e =
          let long : most_bytes < length (script bs) = ltb-true most_bytes (length (script bs)) e in
          let cut : length (script (take 16385 bs)) ≡ 16385 = ap length (script_cut 16385 bs) ∙ length-take-le 16385 (script bs) long in
          reading_long (take 16385 bs) (omega (arith, cut)) ∙ sym (reading_long bs long)
      go false e =
          let short : length (script bs) ≤ 16385 = omega (arith, ltb-false most_bytes (length (script bs)) e) in
          reading_same (take 16385 bs) bs (script_cut 16385 bs ∙ take_all 16385 (script bs) short)

  pub listing_cut : listing (take 16385 bs) ≡ listing bs
  unfolding listing
  listing_cut =
      lines_same (take 16385 bs) bs (reading_of (take 16385 bs))
      (λ k p e. take-take p 16385 bs (omega (arith, reading_small one own_lists (take 16385 bs) most_records most_statements e)))
      ∙ ap (reading_lines bs) reading_cut
