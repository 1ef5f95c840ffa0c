-- `branches::saved_by_word` meets its contract.
use Rattle.base.proofs.Prelude.{◌/◌, ◌%◌, arith, eq-eqb, ne_eqb}
use Rattle.branches.proofs.EntryLaws.{block-saves, single-saves}
use Rattle.branches.proofs.saved_by_word.Goals as goal

pub returns-then-list-eq1 : goal.returns-then-list-eq1
returns-then-list-eq1 c = λ a. rw (eq-eqb (c.args.word % 0x1_0000 / 0x4000 % 2) 1 c.if-list-eq1.true) at (block-saves c.args.word a c.if-word-eq59693.true)

pub returns-else-list-eq1 : goal.returns-else-list-eq1
returns-else-list-eq1 c = λ a. rw (ne_eqb (c.args.word % 0x1_0000 / 0x4000 % 2) 1 c.if-list-eq1.false) at (block-saves c.args.word a c.if-word-eq59693.true)

pub returns-then-word-eq3844988932 : goal.returns-then-word-eq3844988932
returns-then-word-eq3844988932 c =
    λ a. rw (eq-eqb c.args.word 0xE52D_E004 c.if-word-eq3844988932.true) at (single-saves c.args.word a (omega arith) c.if-word-eq59693.false)

pub returns-else-word-eq3844988932 : goal.returns-else-word-eq3844988932
returns-else-word-eq3844988932 c =
    λ a. rw (ne_eqb c.args.word 0xE52D_E004 c.if-word-eq3844988932.false) at (single-saves c.args.word a (omega arith) c.if-word-eq59693.false)
