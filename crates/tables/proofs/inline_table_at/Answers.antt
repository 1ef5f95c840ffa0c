-- `tables::inline_table_at` meets its contract. By what `find` asks of each table.
use Rattle.base.proofs.Prelude.{rules}
use Rattle.std.proofs.Common.{tests}
use Rattle.std.proofs.lemmas.Iterator.{YieldsList-from_slice}
use Rattle.std.proofs.lemmas.Iterator.Search.{find_from_yields_List}
use Rattle.context.specs.Blocks.{is_within}
use Rattle.tables.proofs.Laws.{finds}
use Rattle.tables.proofs.inline_table_at.Goals as goal

pub returns : goal.returns
returns c =
    let found = find_from_yields_List (is_within c.args.address) c.find.new.self _ c.find.result c.find.ensures.ran (YieldsList-from_slice _ c.iter.ensures.rest) (λ x b q k. search (rules, tests)) in
    rw (c.copied.ensures, found) (finds c.args.address c.args.inline_tables.now.rows.now)
