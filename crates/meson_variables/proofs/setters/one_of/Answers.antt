use Rattle.meson_variables.proofs.Words.{◌∙◌, sym, ap, bytes_eq, name_at}
use Rattle.meson_variables.proofs.Anys.{any_here}
use Rattle.meson_variables.proofs.setters.one_of.Goals as goal

pub returns-then-eq : goal.returns-then-eq
returns-then-eq c =
    let is = ap (λ t. bytes_eq t c.args.name.now) (sym c.text_of.ensures) ∙ sym c.eq.ensures ∙ c.if-eq.true in
    sym (any_here (λ y. bytes_eq y.text c.args.name.now) (name_at c.args.source.now) c.args.spans.now c.loop-i.i _ c.loop-i-test.true is)
