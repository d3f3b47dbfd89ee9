use Rattle.std.proofs.Common.{ℕ, List, ap₂, ◌∙◌}
use Rattle.meson_calls.specs.declared.kept.KeptAssignment.{KeptAssignment}
use Rattle.meson_inventory.specs.declared.assignments.HeldAssignment.{HeldAssignment}
use Rattle.meson_inventory.proofs.assignments.held_at.Goals as goal

-- of a place, with the end of its value and the text of its variable
abbrev held : ℕ → KeptAssignment → ℕ → List ℕ → HeldAssignment
held file k end variable = record { file = file; span = record { from = k.name.from; to = end }; variable = variable; sets = k.sets }

pub returns : goal.returns
returns c =
    ap₂ (held c.args.file c.args.place.now) (c.value_end.ensures c.args.source.now)
    (c.of.ensures ∙ c.in_ok-from_str.ensures.ok ∙ c.identifier_text-variable.ensures ∙ c.text_of.ensures)
