use Rattle.std.proofs.Common.{ap, ap₂, ◌∙◌}
use Rattle.std.proofs.lemmas.Result.{IfOk-weaker}
use Rattle.meson_steps.specs.declared.argument.Callee.TheVariants as callee
use Rattle.meson_inventory.specs.declared.holdings.Holdings.{Holdings}
use Rattle.meson_explaining.specs.ArgumentPlaces.{no_call, no_call_notes}
use Rattle.meson_explaining.proofs.missing_places.no_call_of.Goals as goal

pub returns : goal.returns
returns c =
    let function = c.args.function.now in
    let calls = c.get.ensures ∙ c.in_ok-calls.ensures in
    let left = c.get-2.ensures ∙ ap (λ (h : Holdings). h.not_entered) c.in_ok-held.ensures in
    let notes = c.in_ok-notes.ensures ∙ ap₂ (no_call_notes function c.args.id.now) calls left in
    IfOk-weaker c.with_help.result _ _ (λ e is. is ∙ ap (λ ns. record { notes = ns; help = (no_call c.args.reading c.args.project.now (callee.Function function) c.args.id.now).help }) notes)
    c.with_help.ensures
