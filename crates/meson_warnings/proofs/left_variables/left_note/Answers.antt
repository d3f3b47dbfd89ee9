use Rattle.std.proofs.Common.{◌++◌, Some, ap₂}
use Rattle.meson_warnings.proofs.left_variables.left_note.Goals as goal

pub returns : goal.returns
returns c = λ source.
    ap₂ (λ s t. record { spot = Some (record { file = c.args.file; at = s.from; end = s.to }); text = t }) (c.span_of-span.ensures source) c.in_ok-text.ensures
