-- Keywords by their length and their bytes, as the arms of a match on a word tell them.
use mathlib.Core.Path.{◌≡◌, sym, ap}
use mathlib.Core.List.{List}
use Prim.Native.Nat.{ℕ}
use lib.ListN.{length, get_or}
use Rattle.tokens.specs.Text.{bytes}
use Rattle.tokens.specs.Tokens.{keywords}
use Rattle.tokens.specs.Keys.{pack, lookup, keyed, key_of, keyword_by}
use Rattle.tokens.proofs.Shapes.{same_not}
use Rattle.tokens.proofs.KeyLaws.{Bytes, smalls, none_entry, keyword_code, keyword_spelled}

pub spells_if : (w : List ℕ) → length w ≡ 2 → get_or w 0 0 ≡ 105 → get_or w 1 0 ≡ 102 → 38 ≡ keyword_by (key_of w)
unfolding keyword_by lookup keyed key_of pack bytes
spells_if w l h0 h1 = keyword_spelled "if" w l (h0, (h1, tt))

pub spells_or : (w : List ℕ) → length w ≡ 2 → get_or w 0 0 ≡ 111 → get_or w 1 0 ≡ 114 → 20 ≡ keyword_by (key_of w)
unfolding keyword_by lookup keyed key_of pack bytes
spells_or w l h0 h1 = keyword_spelled "or" w l (h0, (h1, tt))

pub spells_on : (w : List ℕ) → length w ≡ 2 → get_or w 0 0 ≡ 111 → get_or w 1 0 ≡ 110 → 50 ≡ keyword_by (key_of w)
unfolding keyword_by lookup keyed key_of pack bytes
spells_on w l h0 h1 = keyword_spelled "on" w l (h0, (h1, tt))

pub spells_in : (w : List ℕ) → length w ≡ 2 → get_or w 0 0 ≡ 105 → get_or w 1 0 ≡ 110 → 51 ≡ keyword_by (key_of w)
unfolding keyword_by lookup keyed key_of pack bytes
spells_in w l h0 h1 = keyword_spelled "in" w l (h0, (h1, tt))

pub spells_and : (w : List ℕ) → length w ≡ 3 → get_or w 0 0 ≡ 97 → get_or w 1 0 ≡ 110 → get_or w 2 0 ≡ 100 → 19 ≡ keyword_by (key_of w)
unfolding keyword_by lookup keyed key_of pack bytes
spells_and w l h0 h1 h2 = keyword_spelled "and" w l (h0, (h1, (h2, tt)))

pub spells_for : (w : List ℕ) → length w ≡ 3 → get_or w 0 0 ≡ 102 → get_or w 1 0 ≡ 111 → get_or w 2 0 ≡ 114 → 39 ≡ keyword_by (key_of w)
unfolding keyword_by lookup keyed key_of pack bytes
spells_for w l h0 h1 h2 = keyword_spelled "for" w l (h0, (h1, (h2, tt)))

pub spells_end : (w : List ℕ) → length w ≡ 3 → get_or w 0 0 ≡ 101 → get_or w 1 0 ≡ 110 → get_or w 2 0 ≡ 100 → 53 ≡ keyword_by (key_of w)
unfolding keyword_by lookup keyed key_of pack bytes
spells_end w l h0 h1 h2 = keyword_spelled "end" w l (h0, (h1, (h2, tt)))

pub spells_not : (w : List ℕ) → length w ≡ 3 → get_or w 0 0 ≡ 110 → get_or w 1 0 ≡ 111 → get_or w 2 0 ≡ 116 → 54 ≡ keyword_by (key_of w)
unfolding keyword_by lookup keyed key_of pack bytes
spells_not w l h0 h1 h2 = keyword_spelled "not" w l (h0, (h1, (h2, tt)))

pub spells_else : (w : List ℕ) → length w ≡ 4 → get_or w 0 0 ≡ 101 → get_or w 1 0 ≡ 108 → get_or w 2 0 ≡ 115 → get_or w 3 0 ≡ 101 → 49 ≡ keyword_by (key_of w)
unfolding keyword_by lookup keyed key_of pack bytes
spells_else w l h0 h1 h2 h3 = keyword_spelled "else" w l (h0, (h1, (h2, (h3, tt))))

pub spells_true : (w : List ℕ) → length w ≡ 4 → get_or w 0 0 ≡ 116 → get_or w 1 0 ≡ 114 → get_or w 2 0 ≡ 117 → get_or w 3 0 ≡ 101 → 3 ≡ keyword_by (key_of w)
unfolding keyword_by lookup keyed key_of pack bytes
spells_true w l h0 h1 h2 h3 = keyword_spelled "true" w l (h0, (h1, (h2, (h3, tt))))

pub spells_pays : (w : List ℕ) → length w ≡ 4 → get_or w 0 0 ≡ 112 → get_or w 1 0 ≡ 97 → get_or w 2 0 ≡ 121 → get_or w 3 0 ≡ 115 → 36 ≡ keyword_by (key_of w)
unfolding keyword_by lookup keyed key_of pack bytes
spells_pays w l h0 h1 h2 h3 = keyword_spelled "pays" w l (h0, (h1, (h2, (h3, tt))))

pub spells_then : (w : List ℕ) → length w ≡ 4 → get_or w 0 0 ≡ 116 → get_or w 1 0 ≡ 104 → get_or w 2 0 ≡ 101 → get_or w 3 0 ≡ 110 → 52 ≡ keyword_by (key_of w)
unfolding keyword_by lookup keyed key_of pack bytes
spells_then w l h0 h1 h2 h3 = keyword_spelled "then" w l (h0, (h1, (h2, (h3, tt))))

pub spells_false : (w : List ℕ) → length w ≡ 5 → get_or w 0 0 ≡ 102 → get_or w 1 0 ≡ 97 → get_or w 2 0 ≡ 108 → get_or w 3 0 ≡ 115 → get_or w 4 0 ≡ 101 → 4 ≡ keyword_by (key_of w)
unfolding keyword_by lookup keyed key_of pack bytes
spells_false w l h0 h1 h2 h3 h4 = keyword_spelled "false" w l (h0, (h1, (h2, (h3, (h4, tt)))))

-- equal words have the same bytes
read : {v w : List ℕ} → v ≡ w → (i : ℕ) → get_or w i 0 ≡ get_or v i 0
read e i = ap (λ (x : List ℕ). get_or x i 0) (sym e)

-- a word that is spelled as none of them is a name
pub spells_none : (w : List ℕ) → Bytes w
    → (length w ≡ 2 → get_or w 0 0 ≡ 105 → get_or w 1 0 ≡ 102 → ⊥)
    → (length w ≡ 4 → get_or w 0 0 ≡ 101 → get_or w 1 0 ≡ 108 → get_or w 2 0 ≡ 115 → get_or w 3 0 ≡ 101 → ⊥)
    → (length w ≡ 3 → get_or w 0 0 ≡ 97 → get_or w 1 0 ≡ 110 → get_or w 2 0 ≡ 100 → ⊥)
    → (length w ≡ 2 → get_or w 0 0 ≡ 111 → get_or w 1 0 ≡ 114 → ⊥)
    → (length w ≡ 3 → get_or w 0 0 ≡ 102 → get_or w 1 0 ≡ 111 → get_or w 2 0 ≡ 114 → ⊥)
    → (length w ≡ 4 → get_or w 0 0 ≡ 116 → get_or w 1 0 ≡ 114 → get_or w 2 0 ≡ 117 → get_or w 3 0 ≡ 101 → ⊥)
    → (length w ≡ 5 → get_or w 0 0 ≡ 102 → get_or w 1 0 ≡ 97 → get_or w 2 0 ≡ 108 → get_or w 3 0 ≡ 115 → get_or w 4 0 ≡ 101 → ⊥)
    → (length w ≡ 4 → get_or w 0 0 ≡ 112 → get_or w 1 0 ≡ 97 → get_or w 2 0 ≡ 121 → get_or w 3 0 ≡ 115 → ⊥)
    → (length w ≡ 2 → get_or w 0 0 ≡ 111 → get_or w 1 0 ≡ 110 → ⊥)
    → (length w ≡ 2 → get_or w 0 0 ≡ 105 → get_or w 1 0 ≡ 110 → ⊥)
    → (length w ≡ 4 → get_or w 0 0 ≡ 116 → get_or w 1 0 ≡ 104 → get_or w 2 0 ≡ 101 → get_or w 3 0 ≡ 110 → ⊥)
    → (length w ≡ 3 → get_or w 0 0 ≡ 101 → get_or w 1 0 ≡ 110 → get_or w 2 0 ≡ 100 → ⊥)
    → (length w ≡ 3 → get_or w 0 0 ≡ 110 → get_or w 1 0 ≡ 111 → get_or w 2 0 ≡ 116 → ⊥)
    → 1 ≡ keyword_by (key_of w)
unfolding bytes
spells_none w h no_if no_else no_and no_or no_for no_true no_false no_pays no_on no_in no_then no_end no_not = keyword_code w (smalls w h) 99 (none_entry w keywords (
  same_not (bytes "if") w (λ e. no_if (ap length (sym e)) (read e 0) (read e 1)),
  (
    same_not (bytes "else") w (λ e. no_else (ap length (sym e)) (read e 0) (read e 1) (read e 2) (read e 3)),
    (
      same_not (bytes "and") w (λ e. no_and (ap length (sym e)) (read e 0) (read e 1) (read e 2)),
      (
        same_not (bytes "or") w (λ e. no_or (ap length (sym e)) (read e 0) (read e 1)),
        (
          same_not (bytes "for") w (λ e. no_for (ap length (sym e)) (read e 0) (read e 1) (read e 2)),
          (
            same_not (bytes "true") w (λ e. no_true (ap length (sym e)) (read e 0) (read e 1) (read e 2) (read e 3)),
            (
              same_not (bytes "false") w (λ e. no_false (ap length (sym e)) (read e 0) (read e 1) (read e 2) (read e 3) (read e 4)),
              (
                same_not (bytes "pays") w (λ e. no_pays (ap length (sym e)) (read e 0) (read e 1) (read e 2) (read e 3)),
                (
                  same_not (bytes "on") w (λ e. no_on (ap length (sym e)) (read e 0) (read e 1)),
                  (
                    same_not (bytes "in") w (λ e. no_in (ap length (sym e)) (read e 0) (read e 1)),
                    (
                      same_not (bytes "then") w (λ e. no_then (ap length (sym e)) (read e 0) (read e 1) (read e 2) (read e 3)),
                      (
                        same_not (bytes "end") w (λ e. no_end (ap length (sym e)) (read e 0) (read e 1) (read e 2)),
                        (
                          same_not (bytes "not") w (λ e. no_not (ap length (sym e)) (read e 0) (read e 1) (read e 2)),
                          tt,
                        ),
                      ),
                    ),
                  ),
                ),
              ),
            ),
          ),
        ),
      ),
    ),
  ),
))

-- what each arm of a match on a word's bytes leaves to show
pub ruleset spelled_words = (spells_if, spells_or, spells_on, spells_in, spells_and, spells_for, spells_end, spells_not, spells_else, spells_true, spells_pays, spells_then, spells_false, spells_none)
