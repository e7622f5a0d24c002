use Rattle.std.proofs.Common.{rules}
use Rattle.report.proofs.Spots.{stands_there}
use Rattle.report.proofs.spot.spot.Goals as goal

pub returns-in-Some-InText-clause-stands : goal.returns-in-Some-InText-clause-stands
returns-in-Some-InText-clause-stands c = search (rules, stands_there)

pub returns-in-Some-InGuide-clause-stands : goal.returns-in-Some-InGuide-clause-stands
returns-in-Some-InGuide-clause-stands c = search (rules, stands_there)
