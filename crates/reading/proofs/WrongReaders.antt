-- What no function can be that meets the contract of `read`.
use mathlib.Core.Path.{◌≡◌, sym, ap, ◌∙◌}
use mathlib.Core.List.{List, [], ◌∷◌, ◌++◌}
use Prim.Native.Nat.{ℕ, suc}
use native.Mathlib.Omega.{arith}
use lib.ListN.{get_or}
use Rattle.tokens.specs.Text.{bytes}
use Rattle.tokens.specs.Names.{Lists}
use Rattle.reading.specs.Computing.{computing}
use Rattle.reading.specs.Reading.{Leaves}
use Rattle.reading.specs.declared.reading.Answer.{Answer}

-- what a call is given, the edition first, and what it answers and leaves: the answer, the records, the directory
abbrev pub Call : Type 0
Call = ℕ → Lists → List ℕ → List ℕ → List ℕ → Answer × List ℕ × List ℕ

-- a function that meets the contract of `read`
abbrev pub Reads : Call → Type 0
Reads f = (e : ℕ) (l : Lists) (bs o d : List ℕ) → Leaves e l bs o d (f e l bs o d).0 (f e l bs o d).1 (f e l bs o d).2

-- ---- lists, and room for two records and two statements

pub usd : Lists
unfolding computing
usd = record { reserved = []; currencies = bytes "USD\n"; counters = [] }

pub two : List ℕ
two = 0 ∷ 0 ∷ 0 ∷ 0 ∷ 0 ∷ 0 ∷ 0 ∷ 0 ∷ 0 ∷ 0 ∷ 0 ∷ 0 ∷ 0 ∷ 0 ∷ 0 ∷ 0 ∷ []

-- and room for four records
pub four : List ℕ
unfolding two
four = two ++ two

module _ (f : Call) (m : Reads f) where
  -- one that refuses all
  pub refuses_not_all : ((e : ℕ) (l : Lists) (bs o d : List ℕ) → (f e l bs o d).0.number ≡ 0 → ⊥) → ⊥
  unfolding computing usd
  refuses_not_all h = h 1 usd [] [] [] (ap (λ (r : Answer). r.number) (m 1 usd [] [] []).answer)

  -- one that gives a constant tree
  pub tree_not_constant : ((bs bs' : List ℕ) → (f 1 usd bs two two).1 ≡ (f 1 usd bs' two two).1) → ⊥
  unfolding computing usd two
  tree_not_constant h =
      let x = bytes "1;" in
      let y = bytes "2;" in
      let e : ◌≡◌ {A = ℕ} 0x3ff00000 0x40000000 =
      ap (λ (l : List ℕ). get_or l 3 0) (sym (m 1 usd x two two).records ∙ h x y ∙ (m 1 usd y two two).records) in
      absurd (omega arith)

  -- one that reads the first statement and fakes the others
  pub others_not_faked : ((xs ys : List ℕ) → (f 1 usd (bytes "a;" ++ xs) two two).1 ≡ (f 1 usd (bytes "a;" ++ ys) two two).1) → ⊥
  unfolding computing usd two
  others_not_faked h =
      let x = bytes "b;" in
      let y = bytes "1;" in
      let e : ◌≡◌ {A = ℕ} 1 2 =
      ap (λ (l : List ℕ). get_or l 8 0) (sym (m 1 usd (bytes "a;" ++ x) two two).records ∙ h x y ∙ (m 1 usd (bytes "a;" ++ y) two two).records) in
      absurd (omega arith)

  -- one that places every node where its statement begins
  pub places_not_dropped : ((bs : List ℕ) → get_or (f 1 usd bs two two).1 7 0 ≡ 0) → ⊥
  unfolding computing usd two
  places_not_dropped h =
      let x = bytes "(a);" in
      let e : ◌≡◌ {A = ℕ} 1 0 = sym (ap (λ (l : List ℕ). get_or l 7 0) (m 1 usd x two two).records) ∙ h x in
      absurd (omega arith)

  -- one whose token counts are invented, from the other counts
  pub tokens_not_invented : (t : ℕ → ℕ → ℕ → ℕ)
      → ((bs : List ℕ) → (f 1 usd bs two two).0.tokens ≡ t (f 1 usd bs two two).0.bytes (f 1 usd bs two two).0.statements (f 1 usd bs two two).0.records) → ⊥
  unfolding computing usd two
  tokens_not_invented t h =
      let x = bytes "(a);" in
      let y = bytes "a  ;" in
      let p = (m 1 usd x two two).answer in
      let q = (m 1 usd y two two).answer in
      let fourth : 4 ≡ t 4 1 1 = sym (ap (λ (r : Answer). r.tokens) p) ∙ h x ∙ ap (λ (r : Answer). t r.bytes r.statements r.records) p in
      let second : 2 ≡ t 4 1 1 = sym (ap (λ (r : Answer). r.tokens) q) ∙ h y ∙ ap (λ (r : Answer). t r.bytes r.statements r.records) q in
      absurd (omega (arith, fourth, second))

  -- one whose columns count bytes, if only in the first line
  pub columns_not_bytes : ((bs : List ℕ) → (f 1 usd bs two two).0.line ≡ 1 → (f 1 usd bs two two).0.column ≡ suc (f 1 usd bs two two).0.byte) → ⊥
  unfolding computing usd two
  columns_not_bytes h =
      let x : List ℕ = 34 ∷ 0xC3 ∷ 0xA9 ∷ 34 ∷ 36 ∷ [] in
      let p = (m 1 usd x two two).answer in
      let e : ◌≡◌ {A = ℕ} 4 5 = sym (ap (λ (r : Answer). r.column) p) ∙ h x (ap (λ (r : Answer). r.line) p) ∙ ap (λ (r : Answer). suc r.byte) p in
      absurd (omega arith)

  -- one that reads every edition as the first
  pub editions_not_one : ((e : ℕ) (bs : List ℕ) → (f e usd bs four two).1 ≡ (f 1 usd bs four two).1) → ⊥
  unfolding computing usd two four
  editions_not_one h =
      let x = bytes "-2**2;" in
      let e : ◌≡◌ {A = ℕ} 7 0 =
      ap (λ (l : List ℕ). get_or l 24 0) (sym (m 2 usd x four two).records ∙ h 2 x ∙ (m 1 usd x four two).records) in
      absurd (omega arith)
