-- Each tree has exactly one listing and exactly one link table; and where the faults of a link table stand.
use Rattle.std.specs.Prelude.{◌≡◌, ℕ, ◌+◌, ◌*◌, ◌<◌, List}
use Rattle.std.specs.List.{AllByRecursion}
use Rattle.guide.specs.declared.Event.TheVariants.{Enter, Byte, Leave}
use Rattle.guide.specs.LinkTable.{link_table}
use Rattle.guide.specs.Listing.{listing}
use Rattle.guide.specs.Told.{End, Broken, Told, finally, ◌and◌, tells}
use Rattle.tree.specs.Tree.{Tree, walk}
use Rattle.forms.specs.Writable.{Writable}
use Rattle.forms.specs.Writing.{listing_of, link_table_of}

-- bytes that, read in a form, mean the tree's walk and then the end
pub record Means (form : List ℕ → Told) (t : Tree) (bs : List ℕ) : Type 0 where
  pub bytes : AllByRecursion (λ b. b < 256) bs
  pub walked : form bs ≡ tells (walk t) End

-- bs, and no other bytes
pub record Alone (form : List ℕ → Told) (t : Tree) (bs : List ℕ) : Type 0 where
  pub means : Means form t bs
  pub no_other : (cs : List ℕ) → Means form t cs → cs ≡ bs

abbrev pub OneListingForEachTree : Type 0
OneListingForEachTree = (t : Tree) → Writable t → (bs : List ℕ) × Alone listing t bs

abbrev pub OneLinkTableForEachTree : Type 0
OneLinkTableForEachTree = (t : Tree) → Writable t → (bs : List ℕ) × Alone link_table t bs

abbrev pub ListingAsWritten : Type 0
ListingAsWritten = (t : Tree) → Writable t → Alone listing t (listing_of t)

abbrev pub LinkTableAsWritten : Type 0
LinkTableAsWritten = (t : Tree) → Writable t → Alone link_table t (link_table_of t)

-- where n records were told before, a fault stands at eight times the records told: each enter and each byte is a record's
abbrev pub PlacedAfter : ℕ → Told → Type 0
PlacedAfter n (finally End) = Unit {0}
PlacedAfter n (finally (Broken f)) = f.place ≡ 8 * n
PlacedAfter n (Enter r and g) = PlacedAfter (n + 1) g
PlacedAfter n (Byte b and g) = PlacedAfter (n + 1) g
PlacedAfter n (Leave and g) = PlacedAfter n g

abbrev pub FaultPlaceCountsRecords : Type 0
FaultPlaceCountsRecords = (bs : List ℕ) → PlacedAfter 0 (link_table bs)
