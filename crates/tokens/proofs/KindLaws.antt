-- The numbers of the kinds are those that the definition of tokens gives.
use mathlib.Core.Path.{◌≡◌, refl}
use mathlib.Core.Bool.{Bool, true}
use mathlib.Core.List.{List}
use Prim.Native.Nat.{ℕ}
use Prim.Native.String.{String}
use lib.Dec.{eqb}
use Rattle.tokens.specs.Text.{every}
use Rattle.tokens.specs.Tokens.{signs, keywords, code}
use Rattle.tokens.specs.Keys.{lookup}
use Rattle.tokens.specs.Kinds.{code_of, kind_by, kind_of}
use Rattle.tokens.specs.declared.kinds.Kind.TheVariants.{Identifier, String as Text, Newline, Eof}

-- each sign and each keyword is a kind, with the number that the definition gives it
abbrev numbered : String × ℕ → Bool
numbered e = eqb (code_of (kind_by e.1)) e.1

pub signs_numbered : every numbered signs ≡ true
unfolding every kind_by lookup
signs_numbered = refl

pub keywords_numbered : every numbered keywords ≡ true
unfolding every kind_by lookup
keywords_numbered = refl

-- and so is what is no sign and no keyword
pub others_numbered : (code_of Identifier ≡ code "name") × (code_of Text ≡ code "string") × (code_of Newline ≡ code "Newline") × (code_of Eof ≡ code "End")
unfolding code
others_numbered = (refl, refl, refl, refl)

pub number_numbered : (w : List ℕ) → code_of (kind_of 2 w) ≡ code "number"
unfolding code
number_numbered w = refl
