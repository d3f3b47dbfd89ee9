use Rattle.std.proofs.Common.{◌++◌, ◌∙◌, ℕ, List, ap₂}
use Rattle.std.proofs.lemmas.Result.{IfOk-weaker}
use Rattle.meson_rewrite.proofs.warnings.line_with.Goals as goal

pub returns : goal.returns
returns c =
    IfOk-weaker c.joined.result _ _
    (λ text is. is ∙ ap₂ (λ (a b : List ℕ). a ++ b) c.open_object.ensures (c.as_bytes.ensures.value ∙ c.in_ok-member.ensures.ok)) c.joined.ensures
