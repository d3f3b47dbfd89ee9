use Rattle.std.proofs.Common.{length}
use Rattle.meson_places.proofs.slots.+slot_in.Given as goal

abbrev pub decreases-slot_in : goal.decreases-slot_in
decreases-slot_in l = length l.keys.now
