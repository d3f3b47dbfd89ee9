use Rattle.std.proofs.Common.{ap, ◌∙◌, subst}
use Rattle.meson_syntax.specs.View.{arg_view}
use Rattle.meson_calls.proofs.ArgumentViews.{named_view}
use Rattle.meson_details.specs.ValueTexts.{HasText}
use Rattle.meson_explaining.proofs.values.argument_note.Goals as goal

pub value_note-requires : goal.value_note-requires
value_note-requires c =
    let source = c.args.source.now in
    subst (HasText source) (ap (arg_view source) c.in-Named.is ∙ named_view source c.in-Named.span c.in-Named.name c.in-Named.value) c.requires
