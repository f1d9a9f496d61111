-- Readers: what reads a tree, or something else, from the front of a list of tokens.
use Rattle.std.specs.Prelude.{Bool, true, false, ◌||◌, List, [], ◌∷◌, ℕ, zero, suc, eqb, length, if◌then◌else◌}
use Prim.Native.String.{String}
use Rattle.tokens.specs.Tokens.{Token, code, counts}

-- what was read and the tokens left, or a refusal: its number and place
pub data Out (A : Type 0) : Type 0 where
  ok : A → List Token → Out A
  refused : ℕ → ℕ → Out A

-- it is handed the tokens that are left
abbrev pub Reader : Type 0 → Type 0
Reader A = List Token → Out A

module _ {A B : Type 0} where
  -- what was read is handed on; a refusal stays
  abbrev pub bind : (A → Reader B) → Out A → Out B
  bind f (ok a ts) = f a ts
  bind f (refused n p) = refused n p

  infixl 20 ◌>>=◌ ◌>>◌
  -- one reader, then another
  unfoldable pub ◌>>=◌ : Reader A → (A → Reader B) → Reader B
  ◌>>=◌ m f = λ ts. bind f (m ts)

  unfoldable pub ◌>>◌ : Reader A → Reader B → Reader B
  ◌>>◌ m n = m >>= λ a. n

-- ---- loops

-- a turn ends with what the next one begins with, or with what was read
pub data Turn (S A : Type 0) : Type 0 where
  again : S → Turn S A
  done : A → Turn S A

module _ {S A : Type 0} where
  -- what comes of a turn, where k reads on
  abbrev pub follow : (S → Reader A) → Out (Turn S A) → Out A
  follow k (ok (again s) ts) = k s ts
  follow k (ok (done a) ts) = ok a ts
  follow k (refused n p) = refused n p

  -- at most n turns; the ground of more is never met
  unfoldable pub turns : ℕ → (S → Reader (Turn S A)) → S → Reader A
  turns zero step s ts = refused 8 0
  turns (suc n) step s ts = follow (λ s' ts'. turns n step s' ts') (step s ts)

  -- Turn after turn until one says that it is done. Each turn reads a token at least, so that the bound is not met: `loop_eq`
  unfoldable pub loop : (S → Reader (Turn S A)) → S → Reader A
  loop step s ts = turns (suc (length ts)) step s ts

-- ---- tokens

-- the token that stands here; where there is none, End
abbrev pub first : List Token → Token
first [] = record { kind = 0; from = 0; text = [] }
first (t ∷ ts) = t

-- the token behind it
abbrev pub next : List Token → Token
next [] = first []
next (t ∷ ts) = first ts

-- a sign, a keyword or one of the other kinds, by its name
abbrev pub is : String → Token → Bool
is s t = eqb (code s) t.kind

-- newlines are skipped
unfoldable pub skip : List Token → List Token
skip [] = []
skip (t ∷ ts) = elim (is "Newline" t) [ true ↦ skip ts | false ↦ t ∷ ts ]

-- the token behind the one that stands here, newlines aside
abbrev pub second : List Token → Token
second [] = first []
second (t ∷ ts) = first (skip ts)

-- the last token, Newlines aside; d where there is none
unfoldable pub last_of : Token → List Token → Token
last_of d [] = d
last_of d (t ∷ ts) = last_of (if counts t then t else d) ts

-- it is `;` or `}`
abbrev pub closes : Token → Bool
closes t = is ";" t || is "}" t

-- ---- the readers that all others are made of

module _ {A : Type 0} where
  -- nothing is read
  unfoldable pub give : A → Reader A
  give a = λ ts. ok a ts

  -- a refusal, at the token that stands here
  unfoldable pub fail : ℕ → Reader A
  fail n = λ ts. refused n (first ts).from

  -- a refusal, at a token
  unfoldable pub fail_at : Token → ℕ → Reader A
  fail_at t n = λ ts. refused n t.from

-- one reader or another, by the token that stands here
unfoldable pub ask : {A : Type 0} → (Token → Bool) → Reader A → Reader A → Reader A
ask test m n = λ ts. (if test (first ts) then m else n) ts

-- one reader or another, by more than the token that stands here
unfoldable pub look : {A : Type 0} → (List Token → Bool) → Reader A → Reader A → Reader A
look test m n = λ ts. (if test ts then m else n) ts

-- the token that stands here
unfoldable pub peek : Reader Token
peek ts = ok (first ts) ts

-- it is read, and the newlines behind it
unfoldable pub read : Reader Token
read [] = refused 8 0
read (t ∷ ts) = ok t (skip ts)

-- this token and no other (8)
unfoldable pub the : String → Reader Token
the s = peek >>= λ t. if is s t then read else fail 8
