-- The forms in which a guide is written.
use Rattle.std.specs.Prelude.{ℕ, cond, List, Ok, Err, Result, ◌==◌}
use Rattle.guide.specs.declared.written.Form.{Form}
use Rattle.guide.specs.declared.written.Form.TheVariants.{Listing, Links}
use Rattle.guide.specs.declared.written.UnknownForm.{UnknownForm}
use Rattle.guide.specs.Told.{Told}
use Rattle.guide.specs.Listing.{listing}
use Rattle.guide.specs.LinkTable.{link_table}

-- the form with a number
abbrev pub form_of : ℕ → Result Form UnknownForm
form_of n = cond (n == 1) (Ok Listing) (cond (n == 2) (Ok Links) (Err (record { 0 = n })))

-- what the bytes tell in a form
abbrev pub written_told : Form → List ℕ → Told
written_told Listing bytes = listing bytes
written_told Links bytes = link_table bytes
