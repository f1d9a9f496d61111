-- The lookup: which part of the script, or of the list of currencies, a record names.
use Rattle.std.specs.Prelude.{◌≡◌, Bool, true, false, ◌&&◌, ◌||◌, Option, Some, None, List, [], ◌∷◌, ◌++◌, ℕ, zero, suc, ◌+◌, eqb, leb, ltb, length, get_or, take, drop, if◌then◌else◌}
use Rattle.std.specs.Borrow.{Bor}
use Rattle.tokens.specs.Names.{names, good_list}
use Rattle.grammar.specs.Sizes.{record_width}
use Rattle.reading.specs.declared.parts.Place.{Place}
use Rattle.reading.specs.declared.parts.Name.{Name as Given}
use Rattle.reading.specs.declared.parts.Name.TheVariants as given

-- where a part begins, and its length
pub record Span : Type 0 where
  pub place : ℕ
  pub size : ℕ

abbrev pub span : ℕ → ℕ → Span
span p n = record { place = p; size = n }

-- that part of the script, or, for a currency, of the list
pub data Part : Type 0 where
  of_script : Span → Part
  of_list : Span → Part

-- the empty part at the start
abbrev pub empty : Span
empty = span 0 0

-- ---- what the words of a record say of its names

-- bytes of the script, from the statement's start; a currency, by its place in the list plus 1; or none
pub data Name : Type 0 where
  Text : ℕ → ℕ → Name
  Currency : ℕ → Name
  Nothing : Name

-- as the code has it
abbrev pub as_name : Option Given → Name
as_name None = Nothing
as_name (Some (given.Text a n)) = Text a n
as_name (Some (given.Currency k)) = Currency k

-- 34: date, curve start (0 absent), length
abbrev pub curve_name : ℕ → ℕ → Name
curve_name a n = if eqb a 0 then Nothing else Text a n

-- its first name. 1, 5, 39: start, length of the name or string content. 33: start, length, date. 35: start, length, two dates.
-- 32: two currencies, date. 36: date, currency. The other kinds have none
unfoldable pub first_name : ℕ → ℕ → ℕ → ℕ → Name
first_name kind f1 f2 f3 =
    if eqb kind 1 || eqb kind 5 || eqb kind 39 then Text f1 f2
    else if eqb kind 33 then Text f1 f2
    else if eqb kind 34 then curve_name f2 f3
    else if eqb kind 35 then Text f1 f2
    else if eqb kind 32 then Currency f1
    else if eqb kind 36 then Currency f2
    else Nothing

-- a Spot's second. No other kind has one
abbrev pub second_name : ℕ → ℕ → Name
second_name kind f2 = if eqb kind 32 then Currency f2 else Nothing

-- a record has eight words: kind, nodes in subtree, direct parts, f1 to f4, place. Fewer are none, and those behind are not looked at.
-- Asked for its first name, or a Spot's second
unfoldable pub name_in : List ℕ → Bool → Name
name_in ws second =
    if ltb (length ws) record_width then Nothing
    else if second then second_name (get_or ws 0 0) (get_or ws 4 0)
    else first_name (get_or ws 0 0) (get_or ws 3 0) (get_or ws 4 0) (get_or ws 5 0)

-- ---- where a name stands

-- of a script of n bytes: places are bytes from the first byte of the statement; none where its place is outside
unfoldable pub text_at : ℕ → ℕ → ℕ → ℕ → Span
text_at n start at size = if leb (start + at + size) n then span (start + at) size else empty

-- names as the bytes of a list: each name ends in a line feed
unfoldable pub lines : List (List ℕ) → List ℕ
lines [] = []
lines (n ∷ ns) = n ++ 10 ∷ lines ns

-- the name k of some, from 0, behind those before it
unfoldable pub name_at : List (List ℕ) → ℕ → Span
name_at ns k = span (length (lines (take k ns))) (length (get_or ns k []))

-- of a list: a currency is its place, from 0, in the list plus 1, 0 absent; none of a malformed list
unfoldable pub currency_at : List ℕ → ℕ → Part
currency_at l zero = of_script empty
currency_at l (suc k) = if good_list true l && ltb k (length (names l)) then of_list (name_at (names l) k) else of_script empty

-- where the kind has none, it is absent, or its place is outside, the empty part at the script's start
unfoldable pub part_at : List ℕ → List ℕ → ℕ → Name → Part
part_at s l start (Text at size) = of_script (text_at (length s) start at size)
part_at s l start (Currency k) = currency_at l k
part_at s l start Nothing = of_script empty

-- given a script, a list, the words of a record and its statement's start; asked for the second name, or the first
abbrev pub part_named : List ℕ → List ℕ → List ℕ → ℕ → Bool → Part
part_named s l ws start second = part_at s l start (name_in ws second)

-- ---- parts as numbers, and as slices

-- whether it is of the list, its first byte, its length
abbrev pub placed : Part → Place
placed (of_script p) = record { in_list = false; from = p.place; size = p.size }
placed (of_list p) = record { in_list = true; from = p.place; size = p.size }

-- a slice is this part of what was lent: it begins there, in the same memory, is so long, and has the bytes that stand there
pub record PartOf (lent : Bor (List ℕ)) (p : Span) (r : Bor (List ℕ)) : Type 0 where
  pub begins : r.ref_ptr ≡ (lent.ref_ptr.0, lent.ref_ptr.1 + p.place)
  pub long : length r.now ≡ p.size
  pub holds : r.now ≡ take p.size (drop p.place lent.now)

-- hands back that part of the script, or of the list
abbrev pub HandsBack : Bor (List ℕ) → Bor (List ℕ) → Part → Bor (List ℕ) → Type 0
HandsBack s l (of_script p) r = PartOf s p r
HandsBack s l (of_list p) r = PartOf l p r
