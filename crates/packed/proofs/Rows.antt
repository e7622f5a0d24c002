-- The rows of a lawful table.
use Rattle.std.proofs.Common.{◌≡◌, ℕ, ◌<◌, ◌≤◌, true, List, length, get_or, sym, subst}
use Rattle.std.proofs.ByRecursion.{All-get_or}
use Rattle.packed.specs.Format.{symbol_count, rows, part_count}
use Rattle.packed.specs.Check.{is_lawful}
use Rattle.packed.specs.Bounds.{LawfulRow, table_facts}

pub row_has_room : (bs : List ℕ) (rule : ℕ) (row : List ℕ) → is_lawful bs ≡ true
    → rule < length (rows bs) → row ≡ get_or (rows bs) rule row → part_count row ≤ 15
row_has_room bs rule row lawful l is =
    let each = (table_facts bs lawful).each_row in
    subst (λ r. part_count r ≤ 15) (sym is) (All-get_or (LawfulRow (symbol_count bs)) (rows bs) rule row l each).few_parts
