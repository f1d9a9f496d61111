-- Bytes, and small things on lists of them.
use Rattle.std.specs.Prelude.{Bool, true, false, ◌&&◌, ◌||◌, not, List, [], ◌∷◌, ℕ, suc, ◌+◌, leb, eqb, take, if◌then◌else◌}
use Prim.Native.Char.{code}
use Prim.Native.String.{String, [] as empty, ◌∷◌ as ◌▸◌}

-- the bytes of an ASCII text
unfoldable pub bytes : String → List ℕ
bytes empty = []
bytes (c ▸ s) = code c ∷ bytes s

abbrev pub within : ℕ → ℕ → ℕ → Bool
within low high b = leb low b && leb b high

abbrev pub digit : ℕ → Bool
digit b = within 48 57 b

abbrev pub capital : ℕ → Bool
capital b = within 65 90 b

abbrev pub letter : ℕ → Bool
letter b = capital b || within 97 122 b

-- a name is a letter, then letters, digits and `_`
abbrev pub name_byte : ℕ → Bool
name_byte b = letter b || digit b || eqb b 95

-- a number is a digit, then digits and dots
abbrev pub number_byte : ℕ → Bool
number_byte b = digit b || eqb b 46

-- blanks are 0x09, 0x0B, 0x0C, 0x0D, 0x20
abbrev pub blank : ℕ → Bool
blank b = eqb b 9 || within 11 13 b || eqb b 32

-- UTF-8 continuation bytes are 0x80 to 0xBF
abbrev pub continuation : ℕ → Bool
continuation b = within 0x80 0xBF b

-- how many bytes at the start pass the test
unfoldable pub leading : (ℕ → Bool) → List ℕ → ℕ
leading f [] = 0
leading f (b ∷ bs) = elim (f b) [ true ↦ suc (leading f bs) | false ↦ 0 ]

-- equal bytes
unfoldable pub same : List ℕ → List ℕ → Bool
same [] [] = true
same [] (b ∷ bs) = false
same (a ∷ xs) [] = false
same (a ∷ xs) (b ∷ bs) = elim (eqb a b) [ true ↦ same xs bs | false ↦ false ]

-- the second begins with the first
unfoldable pub begins : List ℕ → List ℕ → Bool
begins [] bs = true
begins (a ∷ xs) [] = false
begins (a ∷ xs) (b ∷ bs) = elim (eqb a b) [ true ↦ begins xs bs | false ↦ false ]

module _ {ℓ} {A : Type ℓ} where
  -- every element passes the test
  unfoldable pub every : (A → Bool) → List A → Bool
  every f [] = true
  every f (a ∷ xs) = elim (f a) [ true ↦ every f xs | false ↦ false ]

  -- how many elements pass the test
  unfoldable pub count : (A → Bool) → List A → ℕ
  count f [] = 0
  count f (a ∷ xs) = (if f a then 1 else 0) + count f xs

-- a byte that is not this one
abbrev pub other : ℕ → ℕ → Bool
other a b = not (eqb b a)

-- the script is the bytes before the first zero byte
unfoldable pub script : List ℕ → List ℕ
script bs = take (leading (other 0) bs) bs
