-- `cugbejin_append` meets its contract: the table's places are those that the host lent.
use Rattle.base.proofs.Prelude.{rules}
use Rattle.cugbejin_c.proofs.TableLaws.{appends-there}
use Rattle.cugbejin_c.proofs.module_table.cugbejin_append.Goals as goal

pub returns-clause-appends : goal.returns-clause-appends
returns-clause-appends c =
    appends-there _ _ _ _ _ _ _ c.append.ensures.appended c.append_number.ensures _ _ _ _ _ _
    (search rules) (search rules) (search rules) (search rules) (search rules) (search rules)
