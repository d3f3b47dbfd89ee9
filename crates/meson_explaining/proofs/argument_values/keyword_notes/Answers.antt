use Rattle.std.proofs.Common.{take, sym, ap, ◌∙◌}
use Rattle.std.specs.Prelude.{option_map}
use Rattle.std.specs.List.{filter_map}
use Rattle.meson_splice.specs.Files.{bytes_at}
use Rattle.meson_syntax.specs.View.{args_view}
use Rattle.meson_explaining.specs.ArgumentValues.{keyword_note, keywords_of}
use Rattle.meson_explaining.proofs.argument_values.keyword_notes.Goals as goal

pub returns-in_ok-notes-in-Some : goal.returns-in_ok-notes-in-Some
returns-in_ok-notes-in-Some c =
    let l = c.args.project.now in
    let file = c.in-Some.place.file in
    let key = option_map (λ key. key.now) c.args.key in
    let args = c.arguments_at-args.result.now in
    let listed =
    ap (λ fs. filter_map (keyword_note fs file key) (args_view (bytes_at file fs) args)) c.files.ensures
    ∙ ap (filter_map (keyword_note l.files file key)) c.arguments_at-args.ensures in
    c.truncate.ensures.items ∙ ap (take 5) (c.in_ok-notes-in-Some.ensures ∙ listed) ∙ ap (keywords_of l key) (sym c.in-Some.is ∙ c.in_ok-place.ensures)
