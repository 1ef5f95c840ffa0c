-- `words::put_name` meets its contract: the text that it writes is the name, by the table's rule.
use Rattle.base.proofs.Prelude.{◌≡◌, ◌∙◌, ap, arith}
use Rattle.classes.specs.Class.{class_no}
use Rattle.classes.proofs.Numbers.{class-below}
use Rattle.words.specs.Names.{bytes, names, name_no, name_of}
use Rattle.words.proofs.Tables.{texts, lent-row, name-row, name-short}
use Rattle.words.proofs.put_name.Goals as goal

pub bounds-from : goal.bounds-from
bounds-from c = omega (arith, class-below c.args.class)

pub put_field-requires : goal.put_field-requires
unfolding texts bytes names
put_field-requires c =
    let row = rw lent-row at c.as_bytes.ensures.value in
    let name : c.as_bytes.result.now ≡ name_no c.from.result = row ∙ name-row c.from.result in
    rw name (omega (arith, name-short c.from.result))

pub returns : goal.returns
unfolding texts bytes names name_of
returns c =
    let row = rw lent-row at c.as_bytes.ensures.value in
    let name : c.as_bytes.result.now ≡ name_no (class_no c.args.class) = row ∙ name-row c.from.result ∙ ap name_no c.from.ensures in
    rw name at c.put_field.ensures
