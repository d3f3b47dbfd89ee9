use Rattle.meson_steps.proofs.Words.{sym, ap, ◌∙◌, arg_view, is_plain}
use Rattle.meson_steps.proofs.OneElement.{the_one}
use Rattle.meson_steps.proofs.code.one_plain.Goals as goal

pub returns : goal.returns
returns c = λ source.
    c.is_plain.ensures source ∙ ap (λ a. is_plain (arg_view source a)) c.index-elements-0.is
    ∙ sym (the_one source c.args.elements.now c.index-elements-0.result c.if-elements-ne1.false)
