use Rattle.std.proofs.Common.{Some, sym, ap, ◌∙◌}
use Rattle.std.specs.Prelude.{option_map, true}
use Rattle.meson_splice.specs.Files.{bytes_at}
use Rattle.meson_syntax.specs.View.{arg_view, text_at}
use Rattle.meson_explaining.specs.ArgumentValues.{keyword_note}
use Rattle.meson_explaining.proofs.ArgumentNotes.{keyword_told}
use Rattle.meson_explaining.proofs.argument_values.keyword_note.Goals as goal

pub returns-in_ok-named_note-in-Named : goal.returns-in_ok-named_note-in-Named
returns-in_ok-named_note-in-Named c =
    let files = c.args.files.now in
    let file = c.args.file in
    let source = bytes_at file files in
    let key = option_map (λ key. key.now) c.args.key in
    let is = c.text_of-name.ensures ∙ ap (λ s. text_at s c.in-Named.name) c.file_bytes.ensures in
    let wanted = sym c.is_wanted.ensures ∙ c.if-is_wanted.true in
    ap Some c.in_ok-named_note-in-Named.ensures
    ∙ keyword_told files file key c.in-Named.span c.in-Named.name c.in-Named.value c.text_of-name.result.now is true wanted
    ∙ ap (λ a. keyword_note files file key (arg_view source a)) (sym c.in-Named.is)
