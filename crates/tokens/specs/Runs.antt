-- What the walk over a literal keeps: capped counts, and a number that stops growing above the limit.
use Rattle.std.specs.Prelude.{ℕ, ◌+◌, ◌-◌, ◌*◌, List, [], ◌∷◌, ltb, leb, eqb, if◌then◌else◌}
use Rattle.tokens.specs.Limits.{most_digits}
use Rattle.tokens.specs.declared.numbers.Run.{Run}

-- one more, up to a cap
abbrev pub up : ℕ → ℕ → ℕ
up n cap = if ltb n cap then n + 1 else n

-- the digit b behind the number v, where v is not above the limit
abbrev pub grow : ℕ → ℕ → ℕ
grow v b = if leb v most_digits then v * 10 + (b - 48) else v

abbrev pub feed : Run → ℕ → Run
feed r b =
    record {
      dots = if eqb b 46 then up r.dots 2 else r.dots;
      digits = if eqb b 46 then r.digits else grow r.digits b;
      decimals = if eqb b 46 then r.decimals else (if ltb 0 r.dots then up r.decimals 16 else r.decimals);
    }

unfoldable pub feed_all : List ℕ → Run → Run
feed_all [] r = r
feed_all (b ∷ bs) r = feed_all bs (feed r b)

abbrev pub begin : Run
begin = record { dots = 0; digits = 0; decimals = 0 }
