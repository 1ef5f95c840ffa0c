-- `copy_rows` of records meets its contract: the first records have the first rows.
use Rattle.base.proofs.Prelude.{◌∙◌, sym, ap, length-take-le}
use Rattle.text.specs.Put.{put}
use Rattle.append.proofs.RecordLaws.{records-room, records-first}
use Rattle.append.proofs.copying.RefMutSliceCallCallRows.copy_rows.Goals as goal

pub returns : goal.returns
returns c =
    c.copy_records.ensures ∙ ap (put c.args.out.now c.args.at) (records-first c.args.count c.args.self.now.now (records-room c.args.count c.args.self.now.now c.requires.fits))

pub slice_bounds-copy_records-end : goal.slice_bounds-copy_records-end
slice_bounds-copy_records-end c = sym (length-take-le c.args.count c.args.self.now.now (records-room c.args.count c.args.self.now.now c.requires.fits))
