-- The lists of names that the code is lent.
use Rattle.tokens.specs.Names.{Lists}
use Rattle.tokens.specs.declared.lists.Lists.{Lists as Lent}

-- what is read of them: their bytes
abbrev pub lists_of : Lent → Lists
lists_of l = record { reserved = l.reserved.now; currencies = l.currencies.now; counters = l.counters.now }
