use Rattle.std.proofs.Common.{◌≡◌, ap, ap₂, ◌∙◌}
use Rattle.std.specs.Prelude.{codes}
use Rattle.std.proofs.lemmas.Result.{IfOk-weaker}
use Rattle.meson_calls.specs.declared.call.Role.TheVariants as role
use Rattle.meson_inventory.specs.declared.holdings.Holdings.{Holdings}
use Rattle.meson_explaining.specs.NotFound.{missing_notes, not_found}
use Rattle.meson_explaining.proofs.not_found.no_target.Goals as goal

pub returns : goal.returns
returns c =
    let held = c.in_ok-targets.ensures in
    let first : c.get.result.now ≡ c.in_ok-targets.field-0.targets = cc (c.get.ensures, c.in_ok-targets.targets-is) in
    let second : c.get-2.result.now ≡ c.in_ok-targets.field-0.not_entered = cc (c.get-2.ensures, c.in_ok-targets.not_entered-is) in
    let targets = first ∙ ap (λ (h : Holdings). h.targets) held in
    let left = second ∙ ap (λ (h : Holdings). h.not_entered) held in
    let notes = c.in_ok-notes.ensures ∙ ap₂ (missing_notes c.args.id.now (codes "targets without a literal name")) targets left in
    IfOk-weaker c.with_help.result _ _ (λ e is. is ∙ ap (λ ns. record { notes = ns; help = (not_found c.args.reading c.args.project.now role.Target c.args.id.now).help }) notes) c.with_help.ensures
