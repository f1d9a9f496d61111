-- The numbers of the paper, each named once.
use Rattle.std.specs.Prelude.{ℕ}

-- a script has at most 16,384 bytes and 4,096 tokens
abbrev pub most_bytes : ℕ
most_bytes = 16384

abbrev pub most_tokens : ℕ
most_tokens = 4096

-- constructs stand at most 32 deep in one another
abbrev pub most_depth : ℕ
most_depth = 32

-- a list has at most 256 names, a name at most 32 bytes
abbrev pub most_names : ℕ
most_names = 256

abbrev pub longest_name : ℕ
longest_name = 32

-- a literal's digits, with the dot removed, are at most 2 to the 53rd, and at most 15 stand after the dot
abbrev pub most_digits : ℕ
most_digits = 9007199254740992

abbrev pub most_decimals : ℕ
most_decimals = 15
