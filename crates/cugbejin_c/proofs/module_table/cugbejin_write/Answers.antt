-- `cugbejin_write` meets its contract.
use Rattle.base.proofs.Prelude.{◌∙◌}
use Rattle.cugbejin_c.proofs.TableLaws.{writes-in, or-zero}
use Rattle.cugbejin_c.proofs.module_table.cugbejin_write.Goals as goal

pub returns : goal.returns
returns c = writes-in _ _ _ _ _ _ c.write-answer.ensures c.write_number.ensures (c.unwrap_or.ensures ∙ or-zero c.write-answer.result)
