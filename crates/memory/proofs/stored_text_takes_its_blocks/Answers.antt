use Rattle.memory.proofs.Room.{stored_free}
use Rattle.memory.proofs.stored_text_takes_its_blocks.Goals as goal

pub returns : goal.returns
returns c = stored_free
