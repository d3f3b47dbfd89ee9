use Rattle.std.proofs.Common.{◌≡◌, ◌∙◌, ap, subst}
use Rattle.std.specs.Prelude.{IfOk}
use Rattle.std.proofs.lemmas.Result.{IfOk-weaker}
use Rattle.clap.specs.Words.{App, app_of, with_subcommand}
use Rattle.meson_command.specs.Program.{IsToldToClap}
use Rattle.meson_command.proofs.program.with_subcommand.Goals as goal

pub returns : goal.returns
returns c = λ p a program told.
    let is : app_of c.in_ok-command.field-0 ≡ p = subst (λ r. IfOk r (λ c. app_of c ≡ p)) c.in_ok-command.was program in
    let sub : IsToldToClap a c.in_ok-subcommand.field-0 = subst (λ r. IfOk r (IsToldToClap a)) c.in_ok-subcommand.was told in
    let top : App → _ = λ (b : App). b.top in
    IfOk-weaker c.subcommand.result _ _ (λ r h. h.shape sub.1 ∙ ap (with_subcommand (app_of c.in_ok-command.field-0)) (ap top sub.0) ∙ ap (λ b. with_subcommand b a.top) is) c.subcommand.ensures
