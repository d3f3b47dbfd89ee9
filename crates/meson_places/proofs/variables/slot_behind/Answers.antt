use Rattle.std.proofs.Common.{◌≡◌, List, sym, ap, ◌∙◌, inl, inr}
use Rattle.std.specs.Prelude.{◌⊎◌}
use Rattle.meson_lex.specs.declared.kinds.Span.{Span}
use Rattle.meson_splice.specs.declared.file_set.File.{File}
use Rattle.meson_calls.specs.Loading.{project}
use Rattle.meson_calls.specs.Project.{Project}
use Rattle.meson_steps.specs.declared.argument.ValueChange.{ValueChange}
use Rattle.meson_steps.specs.declared.argument.ValueChange.TheVariants as change
use Rattle.meson_steps.specs.declared.given.Given.{Given}
use Rattle.meson_places.specs.declared.slots.Slot.{Slot}
use Rattle.meson_places.specs.Behind.{added_slot, behind_slot, slot_behind}
use Rattle.meson_places.specs.Names.{loaded_in}
use Rattle.meson_places.proofs.Refused.{refused_as}
use Rattle.meson_places.proofs.variables.slot_behind.Goals as goal

of_added : (files : List File) (p : Project Span) (ch : ValueChange) (gs : List Given) (s : Slot) → (ch ≡ change.Add gs) ⊎ (ch ≡ change.AddSorted gs)
    → slot_behind files p ch s ≡ added_slot files p s (behind_slot files p gs s)
of_added files p ch gs s (inl is) = ap (λ c. slot_behind files p c s) is
of_added files p ch gs s (inr is) = ap (λ c. slot_behind files p c s) is

pub returns-in-Add-clause-refused : goal.returns-in-Add-clause-refused
returns-in-Add-clause-refused c =
    let files = c.args.sources.files.now in
    let p = project (loaded_in c.args.sources) in
    let s = c.args.slot in
    refused_as c.added_slot.result (slot_behind files p c.args.change.now s) (added_slot files p s (behind_slot files p c.get-in-Add.result.now s))
    (of_added files p c.args.change.now c.in-Add.values s c.in-Add.is ∙ ap (λ gs. added_slot files p s (behind_slot files p gs s)) (sym c.get-in-Add.ensures)) c.added_slot.ensures.refused
