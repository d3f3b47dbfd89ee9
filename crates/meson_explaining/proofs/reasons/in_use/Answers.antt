use Rattle.std.proofs.Common.{[], ◌∷◌, ap, sym, ◌∙◌}
use Rattle.std.proofs.lemmas.Result.{IfOk-weaker}
use Rattle.meson_explaining.specs.Targets.{in_use, in_use_help, used_notes}
use Rattle.meson_explaining.proofs.reasons.in_use.Goals as goal

pub returns-in_ok-notes-in-TargetRemove : goal.returns-in_ok-notes-in-TargetRemove
returns-in_ok-notes-in-TargetRemove c =
    let l = c.args.project.now in
    let name = c.args.name.now in
    let notes = c.in_ok-notes-in-TargetRemove.ensures ∙ ap (λ t. used_notes l t name) c.as_name.ensures in
    IfOk-weaker c.with_help.result _ _
    (λ e is. is ∙ ap (λ ns. record { notes = ns; help = in_use_help ∷ [] }) notes ∙ sym (ap (λ k. in_use l k name) c.in-TargetRemove.is)) c.with_help.ensures
