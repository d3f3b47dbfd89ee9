use Rattle.std.proofs.Common.{◌++◌, ap, ap₂, ◌∙◌}
use Rattle.std.specs.Prelude.{codes}
use Rattle.std.proofs.lemmas.Result.{IfOk-weaker}
use Rattle.meson_splice.specs.Files.{bytes_at}
use Rattle.meson_explaining.specs.ArgumentValues.{shown_note}
use Rattle.meson_explaining.proofs.argument_values.named_note.Goals as goal

pub returns : goal.returns
returns c =
    let files = c.args.files.now in
    let file = c.args.file in
    let words = c.as_str.ensures.value ∙ c.in_ok-words.ensures.ok ∙ ap (λ t. t ++ codes ": ") c.in_ok-name.ensures.lossy in
    IfOk-weaker c.shown_note.result _ _ (λ note is. is ∙ ap₂ (λ w s. shown_note files w file s) words (c.span_of.ensures (bytes_at file files))) c.shown_note.ensures
