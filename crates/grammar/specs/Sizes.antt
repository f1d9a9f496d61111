-- The widths of records and of the directory, and their capacities, each named once.
use Rattle.std.specs.Prelude.{ℕ, ◌/◌, ltb, if◌then◌else◌}

-- a record has eight words
abbrev pub record_width : ℕ
record_width = 8

-- the directory has five words per top-level statement
abbrev pub entry_width : ℕ
entry_width = 5

-- capacities: 2,048 records, 512 statements
abbrev pub most_records : ℕ
most_records = 2048

abbrev pub most_statements : ℕ
most_statements = 512

-- how many of a width fit whole into n lent words, and no more than the capacity
abbrev pub room_for : ℕ → ℕ → ℕ → ℕ
room_for most width n = if ltb most (n / width) then most else n / width

abbrev pub record_room : ℕ → ℕ
record_room n = room_for most_records record_width n

abbrev pub statement_room : ℕ → ℕ
statement_room n = room_for most_statements entry_width n
