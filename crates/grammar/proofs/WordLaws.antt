-- How many words records and directory have, and that those of several statements stand one after the other.
use mathlib.Core.Path.{◌≡◌, refl, sym, ap, ◌∙◌}
use mathlib.Core.List.{List, [], ◌∷◌, ◌++◌, append_assoc, map}
use Prim.Native.Nat.{ℕ, suc, ◌*◌}
use native.Mathlib.Omega.{arith}
use lib.ListN.{length, length-append, length-map}
use Rattle.grammar.specs.Sizes.{record_width, entry_width}
use Rattle.grammar.specs.Trees.{Tree, Trees, node, nil, ◌▹◌, fields, row, parts, size, sizes, records, records_of}
use Rattle.grammar.specs.Script.{Entry, moved_entry, nodes}
use Rattle.grammar.specs.Words.{words_of, Row, row_of, row_words, rows_words, directory_of}

-- ---- eight words a record, five an entry

mutual
  unfolding records size

  pub records_length : (t : Tree) → length (records t) ≡ record_width * size t
  records_length (node k p s (fields a b c d) ts) =
      length-append (records_of ts) (row k (suc (sizes ts)) (parts ts) (fields a b c d) p) ∙ omega (arith, all_length ts)

  pub all_length : (ts : Trees) → length (records_of ts) ≡ record_width * sizes ts
  all_length nil = refl
  all_length (t ▹ ts) = length-append (records t) (records_of ts) ∙ omega (arith, records_length t, all_length ts)

pub words_length : (es : List Entry) → length (words_of es) ≡ record_width * nodes es
words_length [] = refl
words_length (e ∷ es) = length-append (records e.tree) (words_of es) ∙ omega (arith, records_length e.tree, words_length es)

pub rows_length : (rs : List Row) → length (rows_words rs) ≡ entry_width * length rs
rows_length [] = refl
rows_length (r ∷ rs) = length-append (row_words r) (rows_words rs) ∙ omega (arith, rows_length rs)

pub directory_length : (es : List Entry) → length (directory_of es) ≡ entry_width * length es
directory_length es = rows_length (map row_of es) ∙ ap (λ (n : ℕ). entry_width * n) (length-map es row_of)

-- ---- the words of statements are those of each, one after the other, wherever they stand

pub words_append : (x y : List Entry) → words_of (x ++ y) ≡ words_of x ++ words_of y
words_append [] y = refl
words_append (e ∷ x) y = ap (λ (l : List ℕ). records e.tree ++ l) (words_append x y) ∙ sym (append_assoc (records e.tree) (words_of x) (words_of y))

pub words_moved : (d : ℕ) (x : List Entry) → words_of (map (moved_entry d) x) ≡ words_of x
words_moved d [] = refl
words_moved d (e ∷ x) = ap (λ (l : List ℕ). records e.tree ++ l) (words_moved d x)

-- those of es, of e, of es'
pub words_before : (es : List Entry) (e : Entry) (es' : List Entry) → words_of (es ++ (e ∷ es')) ≡ words_of es ++ (records e.tree ++ words_of es')
words_before es e es' = words_append es (e ∷ es')

pub rows_append : (x y : List Row) → rows_words (x ++ y) ≡ rows_words x ++ rows_words y
rows_append [] y = refl
rows_append (r ∷ x) y = ap (λ (l : List ℕ). row_words r ++ l) (rows_append x y) ∙ sym (append_assoc (row_words r) (rows_words x) (rows_words y))
