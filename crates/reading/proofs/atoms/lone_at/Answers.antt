-- The number at the cursor, and what stands behind it.
use mathlib.Core.Path.{sym, ap, ◌∙◌}
use mathlib.Core.Bool.{not}
use mathlib.Core.List.{[]}
use Rattle.reading.specs.Meets.{language_in}
use Rattle.reading.proofs.StepLaws.{lone_not, lone_is}
use Rattle.reading.proofs.atoms.lone_at.Goals as goal

pub returns-then-c-ne-NUMBER : goal.returns-then-c-ne-NUMBER
returns-then-c-ne-NUMBER c = lone_not (language_in c.args.two [] [] []) c.args.s.now c.args.c c.requires c.if-c-ne-NUMBER.true

pub returns-then-is_taken_in : goal.returns-then-is_taken_in
returns-then-is_taken_in c = lone_is c.args.two c.args.s.now c.args.c c.next-d.result c.requires c.if-c-ne-NUMBER.false c.next-d.ensures ∙ ap not (sym c.is_taken_in.ensures ∙ c.if-is_taken_in.true)

pub returns : goal.returns
returns c = (c.next-d.ensures, c.if-c-ne-NUMBER.false, lone_is c.args.two c.args.s.now c.args.c c.next-d.result c.requires c.if-c-ne-NUMBER.false c.next-d.ensures ∙ ap not (sym c.is_taken_in.ensures ∙ c.if-is_taken_in.false))
