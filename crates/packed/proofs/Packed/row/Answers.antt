use Rattle.std.proofs.Common.{refl, ap, ◌∙◌}
use Rattle.std.specs.Option.{option_map}
use Rattle.std.proofs.lemmas.Option.{slice_get-map, slice_get_read}
use Rattle.packed.specs.Format.{rows, rule_in}
use Rattle.packed.proofs.Rows.{row_has_room}
use Rattle.packed.proofs.Packed.row.Goals as goal

pub invariant_of-result : goal.invariant_of-result
invariant_of-result c =
    let is = rw (c.rows.ensures, c.layout.ensures) at c.in_ok-bytes.ensures.lookup in
    record { room = row_has_room c.args.self.now.table.now c.args.rule _ c.args.self.now.lawful is.3.0 is.1 }

pub returns : goal.returns
returns c =
    let table = c.args.self.now.table.now in
    let is = rw (c.rows.ensures, c.layout.ensures) at c.in_ok-bytes.ensures.lookup in
    slice_get-map rule_in (rows table) c.args.rule
    ∙ ap (option_map rule_in) (slice_get_read (rows table) _ c.args.rule _ refl is.3.0 is.1)
