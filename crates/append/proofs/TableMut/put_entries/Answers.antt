-- `TableMut::put_entries` meets its contract.
use Rattle.lists.specs.Lists.{lists_of}
use Rattle.append.specs.Append.{lent_by}
use Rattle.append.proofs.PutLaws.{put_all}
use Rattle.append.proofs.TableMut.put_entries.Goals as goal

pub returns-clause-filled : goal.returns-clause-filled
returns-clause-filled g c =
    put_all c.args.used c.args.n (lists_of g.C.CallList.numbers c.args.lists.now) (lent_by c.args.self.now)
    c.put.ensures c.put-2.ensures c.put-3.ensures c.put-4.ensures c.copy_rows.ensures
