use Rattle.std.proofs.Common.{ap, ap₂, ◌∙◌}
use Rattle.std.specs.Prelude.{codes}
use Rattle.std.proofs.lemmas.Result.{IfOk-weaker}
use Rattle.meson_calls.specs.declared.call.Role.TheVariants as role
use Rattle.meson_inventory.specs.declared.holdings.Holdings.{Holdings}
use Rattle.meson_explaining.specs.NotFound.{missing_notes, not_found}
use Rattle.meson_explaining.proofs.not_found.no_dependency.Goals as goal

pub returns : goal.returns
returns c =
    let calls = c.get.ensures ∙ c.in_ok-calls.ensures in
    let left = c.get-2.ensures ∙ ap (λ (h : Holdings). h.not_entered) c.in_ok-held.ensures in
    let notes = c.in_ok-notes.ensures ∙ ap₂ (missing_notes c.args.id.now (codes "dependencies without a literal name")) calls left in
    IfOk-weaker c.with_help.result _ _ (λ e is. is ∙ ap (λ ns. record { notes = ns; help = (not_found c.args.reading c.args.project.now role.Dependency c.args.id.now).help }) notes) c.with_help.ensures
