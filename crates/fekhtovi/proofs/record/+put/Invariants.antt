use Rattle.std.proofs.Common.{length}
use Rattle.fekhtovi.proofs.record.+put.Given as goal

abbrev pub decreases-put : goal.decreases-put
decreases-put l = length l.numbers.now
