use Rattle.std.proofs.Common.{◌≡◌, drop}
use Rattle.packed.specs.Format.{symbol_count, rows}
use Rattle.packed.specs.Check.{rows_fault}
use Rattle.packed.proofs.check.check_rows.Given as goal

abbrev pub invariant-loop-rule : goal.invariant-loop-rule
invariant-loop-rule l = rows_fault (symbol_count l.table.bytes.now) 0 (rows l.table.bytes.now) ≡ rows_fault (symbol_count l.table.bytes.now) l.rule (drop l.rule l.row-items)
