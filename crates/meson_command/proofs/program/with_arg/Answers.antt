use Rattle.std.proofs.Common.{◌∙◌, ap, ap₂, subst}
use Rattle.std.specs.Prelude.{IfOk, ◌||◌}
use Rattle.std.proofs.lemmas.Result.{IfOk-weaker}
use Rattle.clap.specs.Words.{rule_of, with_rule}
use Rattle.meson_command.specs.Program.{IsToldToClap}
use Rattle.meson_command.proofs.program.with_arg.Goals as goal

pub returns : goal.returns
returns c = λ a told.
    let is : IsToldToClap a c.in_ok-command.field-0 = subst (λ r. IfOk r (IsToldToClap a)) c.in_ok-command.was told in
    IfOk-weaker c.arg.result _ _ (λ r h. (h.shape c.requires ∙ ap (λ b. with_rule b (rule_of c.args.arg)) is.0, h.globals ∙ ap₂ ◌||◌ is.1 c.requires)) c.arg.ensures
