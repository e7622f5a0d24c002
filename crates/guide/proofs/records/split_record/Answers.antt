use Rattle.std.proofs.Common.{arith, ltb-false}
use Rattle.guide.proofs.Linking.{split_first}
use Rattle.guide.proofs.records.split_record.Goals as goal

pub returns : goal.returns
returns c =
    split_first c.args.table.now _ (omega (arith, ltb-false))
    (simp (c.field.ensures, c.field-2.ensures, c.field-3.ensures) at c.record_of-record.ensures)
