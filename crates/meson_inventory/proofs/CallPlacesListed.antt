-- The places of the calls of a function among notes are those of the project.
use Rattle.std.proofs.Common.{◌≡◌, ℕ, List}
use Rattle.meson_lex.specs.declared.kinds.Span.{Span}
use Rattle.meson_calls.specs.Notes.{notes}
use Rattle.meson_calls.specs.Parts.{parts}
use Rattle.meson_calls.specs.ChosenNotes.{places_that}
use Rattle.meson_calls.specs.Project.{Project}
use Rattle.meson_calls.specs.Calls.{calls_function}
use Rattle.meson_calls.proofs.Picked.{tested_notes}
use Rattle.meson_inventory.specs.Holdings.{calls_of}
use Rattle.meson_inventory.specs.inside.Holdings.{note_calls}

pub function_places : (f : List ℕ) (p : Project Span) → places_that (note_calls f) (notes p) ≡ calls_of p f
function_places f p = tested_notes (calls_function f) (parts p)
