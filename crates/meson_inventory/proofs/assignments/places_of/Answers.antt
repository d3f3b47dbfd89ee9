use Rattle.std.proofs.Common.{◌≡◌, Some, ◌∙◌, ap}
use Rattle.meson_inventory.proofs.AssignmentsListed.{all_gathered}
use Rattle.meson_inventory.proofs.assignments.places_of.Goals as goal

pub returns-in-Assignments : goal.returns-in-Assignments
returns-in-Assignments c = λ ps comes.
    let g = all_gathered c.args.keeper ps comes in
    let same : c.in-Assignments.assignments ≡ g.kept = cc (c.in-Assignments.is, g.is) in
    ap (λ a. Some a.found.items) same ∙ ap (λ ks. Some ks) g.are

pub returns : goal.returns
returns c = λ ps comes.
    let g = all_gathered c.args.keeper ps comes in
    absurd (c.in_default.not-Assignments g.kept g.is)
