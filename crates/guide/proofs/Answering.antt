-- Both promises of `next` from what is told.
use Rattle.std.proofs.Common.{◌≡◌, Some, Ok, refl}
use Rattle.guide.specs.declared.Event.{Event}
use Rattle.guide.specs.Told.{Finish, Told, finally, ◌and◌, answer, behind}

-- at the finish the guide stays
pub done : (g : Told) (f : Finish) → g ≡ finally f → (answer (finally f) ≡ answer g) × (g ≡ behind g)
done g f e = rw e (refl, refl)

-- at an event the answer is the event, and the guide stands behind it
pub next_one : (g k : Told) (e : Event) → g ≡ e and k → (Ok (Some e) ≡ answer g) × (k ≡ behind g)
next_one g k e h = rw h (refl, refl)
