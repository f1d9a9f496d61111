-- Words as text, a line at a time.
use Rattle.std.specs.Prelude.{◌≡◌, List, [], ◌∷◌, ◌++◌, ℕ, zero, suc, ◌+◌, ◌*◌, ◌/◌, ◌%◌, cond, nat_lt, length, take, drop}
use Rattle.grammar.specs.Sizes.{record_width}

-- the byte of a digit below 16: `0` to `9`, then `a` to `f`
abbrev pub hex_digit_ascii : ℕ → ℕ
hex_digit_ascii d = cond (nat_lt d 10) (48 + d) (87 + d)

-- the last k digits of n in base b, the most significant first
abbrev pub last_digits : ℕ → ℕ → ℕ → List ℕ
last_digits b zero n = []
last_digits b (suc k) n = last_digits b k (n / b) ++ (hex_digit_ascii (n % b) ∷ [])

-- eight hexadecimal digits, lowercase, the most significant first
unfoldable pub word : ℕ → List ℕ
word w = last_digits 16 8 w

-- a word has nine bytes of its line, with what stands behind it
abbrev pub word_bytes : ℕ
word_bytes = 9

-- the line of a record
abbrev pub record_bytes : ℕ
record_bytes = word_bytes * record_width

-- behind a word: a line feed if no word follows on its line, else a space
abbrev pub gap_of : ℕ → ℕ
gap_of zero = 10
gap_of (suc n) = 32

-- words parted by one space, and the line feed that ends their line; no words are no line
unfoldable pub line : List ℕ → List ℕ
line [] = []
line (w ∷ ws) = word w ++ (gap_of (length ws) ∷ line ws)

-- the first n records, a line each
unfoldable pub record_lines : ℕ → List ℕ → List ℕ
record_lines zero ws = []
record_lines (suc n) ws = line (take record_width ws) ++ record_lines n (drop record_width ws)

-- a text put behind the first n bytes of o: there are m bytes then, in o', and what is past them does not matter
pub record Appended (o : List ℕ) (n : ℕ) (text : List ℕ) (m : ℕ) (o' : List ℕ) : Type 0 where
  pub size : length o' ≡ length o
  pub end : m ≡ n + length text
  pub bytes : take m o' ≡ take n o ++ text
