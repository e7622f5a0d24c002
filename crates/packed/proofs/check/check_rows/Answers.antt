use Rattle.std.proofs.Common.{◌≡◌, ℕ, ◌+◌, ◌<◌, List, [], length, get_or, drop, Some, None, Err, Option, sym, ap, ◌∙◌, arith}
use Rattle.std.specs.Option.{option_or}
use Rattle.std.proofs.lemmas.List.{at_drop_more}
use Rattle.std.proofs.lemmas.Result.{err_from_is_err_and}
use Rattle.packed.specs.Chunks.{length_chunks}
use Rattle.packed.specs.Format.{symbol_count, rule_count, rows}
use Rattle.packed.specs.Check.{row_fault, rows_fault, outcome}
use Rattle.packed.specs.declared.fault.TableFault.{TableFault}
use Rattle.packed.proofs.check.check_rows.Goals as goal

some_answered : (o : Option TableFault) (f : TableFault) → Err f ≡ outcome o → o ≡ Some f
some_answered None f e = cc
some_answered (Some g) f e = cc

-- the fault of the row at hand is that of the rows from there on
fault_here : (n i : ℕ) (rows : List (List ℕ)) (f : TableFault) → i < length rows
    → row_fault n i (get_or rows i []) ≡ Some f → rows_fault n i (drop i rows) ≡ Some f
fault_here n i rows f l e =
    at_drop_more (rows_fault n i) rows i [] l ∙ ap (λ o. option_or o (rows_fault n (i + 1) (drop (i + 1) rows))) e

pub overflow_cast-rule : goal.overflow_cast-rule
overflow_cast-rule c =
    let table = c.args.table.bytes.now in
    omega (arith, ap length c.rows-row-items.ensures, length_chunks 64 (rule_count table) (drop 8 table), c.args.table.few_rules)

pub returns-in_err-check_row : goal.returns-in_err-check_row
returns-in_err-check_row c =
    let table = c.args.table.bytes.now in
    let so_far = rw c.rows-row-items.ensures at c.loop-rule.invariant in
    let here = some_answered _ _ (rw (c.symbols-symbols.ensures, c.rows-row-items.ensures) at c.in_err-check_row.ensures) in
    let within = rw c.rows-row-items.ensures at c.loop-rule-test.true in
    let all = so_far ∙ fault_here (symbol_count table) c.loop-rule.rule (rows table) _ within here in
    let fault = err_from_is_err_and c.from_residual.result c.from_residual.ensures.1 in
    rw (fault.1, fault.2) (sym (ap outcome all))
