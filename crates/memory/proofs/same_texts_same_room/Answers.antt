use Rattle.memory.proofs.Room.{same_free, same_storable}
use Rattle.memory.proofs.same_texts_same_room.Goals as goal

pub returns : goal.returns
returns c blocks s s' same = (same_free blocks s s' same, same_storable blocks s s' same)
