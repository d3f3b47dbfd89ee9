use Rattle.std.proofs.Common.{◌∙◌, sym, ap, subst}
use Rattle.std.proofs.lemmas.Result.{IfOk-weaker}
use Rattle.std.specs.Str.{IsUtf8}
use Rattle.meson_syntax.specs.View.{text_at}
use Rattle.meson_details.proofs.showing.opaque.Goals as goal

pub text_of_name-requires : goal.text_of_name-requires
text_of_name-requires c = subst IsUtf8 (sym (c.text_of.ensures ∙ ap (text_at c.args.source.now) (c.span_of.ensures c.args.source.now))) c.requires

pub returns : goal.returns
returns c =
    let source = c.args.source.now in
    let is = c.text_of.ensures ∙ ap (text_at source) (c.span_of.ensures source) in
    IfOk-weaker c.text_of_name.result _ _ (λ text h. h ∙ is) c.text_of_name.ensures
