use Rattle.memory.proofs.Room.{struck_free}
use Rattle.memory.proofs.struck_text_gives_its_blocks_back.Goals as goal

pub returns : goal.returns
returns c = struck_free
