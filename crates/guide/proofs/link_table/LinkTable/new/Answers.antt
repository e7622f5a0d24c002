use Rattle.guide.proofs.Linking.{begun_told}
use Rattle.guide.proofs.link_table.LinkTable.new.Goals as goal

pub returns : goal.returns
returns c = begun_told c.args.bytes.now _ _ _ c.first_phase-phase.ensures
