-- The edition by its number, then the reading in it.
use Rattle.tokens.specs.LentLists.{lists_of}
use Rattle.reading.specs.Editions.{second_of}
use Rattle.reading.proofs.ReadLaws.{leaves_named, leaves_other}
use Rattle.reading.proofs.reading.read.Goals as goal

pub returns-in-Err : goal.returns-in-Err
returns-in-Err c =
    let other = c.in-Err.ensures {u = tt} in
    rw (c.refusal.ensures, c.number.ensures, other.0) (leaves_other (lists_of c.args.lists.now) c.args.script.now _ _ other.1 other.2)

pub returns-in-Ok-read_in : goal.returns-in-Ok-read_in
returns-in-Ok-read_in c =
    leaves_named (lists_of c.args.lists.now) c.args.script.now _ _ (second_of c.in-Ok.edition) (c.in-Ok.ensures {u = tt}) c.in-Ok-read_in.ensures

pub returns-in-Err-read_in : goal.returns-in-Err-read_in
returns-in-Err-read_in c =
    rw (c.refusal-in-Err-read_in.ensures, c.number-in-Err-read_in.ensures) (leaves_named (lists_of c.args.lists.now) c.args.script.now _ _ (second_of c.in-Ok.edition) (c.in-Ok.ensures {u = tt}) c.in-Err-read_in.ensures)
