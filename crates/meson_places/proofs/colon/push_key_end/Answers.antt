use Rattle.std.proofs.Common.{◌++◌, ◌∷◌, [], sym, ap, ◌∙◌}
use Rattle.meson_syntax.specs.View.{arg_view, expr_view}
use Rattle.meson_edit.specs.Standing.{expression_span}
use Rattle.meson_calls.proofs.ArgumentViews.{pair_view}
use Rattle.meson_places.specs.Colons.{key_end}
use Rattle.meson_places.proofs.colon.push_key_end.Goals as goal

pub returns-in_ok-push-in-Pair : goal.returns-in_ok-push-in-Pair
returns-in_ok-push-in-Pair c = λ source.
    let old = c.args.ends.now.items in
    c.in_ok-push-in-Pair.ensures.items
    ∙ ap (λ s. old ++ s.to ∷ []) (c.span_of.ensures source ∙ ap (λ e. expression_span (expr_view source e)) c.get.ensures)
    ∙ ap (λ ends. old ++ ends) (sym (ap (λ a. key_end (arg_view source a)) c.in-Pair.is ∙ ap key_end (pair_view source c.in-Pair.span c.in-Pair.key c.in-Pair.value)))
