use Rattle.forms.specs.Writing.{listing_of}
use Rattle.forms.proofs.Listings.{listing_as_written}
use Rattle.forms.proofs.one_listing_for_each_tree.Goals as goal

pub returns : goal.returns
returns c = λ t w. (listing_of t, listing_as_written t w)
