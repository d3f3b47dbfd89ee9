use Rattle.meson_steps.proofs.Words.{◌∙◌, ap, sym, option_map, list_view, placed_in}
use Rattle.meson_layout.specs.declared.primitive.Primitive.TheVariants as layout
use Rattle.meson_steps.proofs.layouts.list_primitive.Goals as goal

pub returns-in-Some : goal.returns-in-Some
returns-in-Some c = λ source. ap (option_map (λ s. layout.After s c.in-After.new)) (c.in-Some.ensures source) ∙ ap (placed_in (list_view source c.args.list.now)) (sym c.in-After.is)

pub returns-in-After : goal.returns-in-After
returns-in-After c = λ source. ap (option_map (λ s. layout.After s c.in-After.new)) (c.in-None.ensures source) ∙ ap (placed_in (list_view source c.args.list.now)) (sym c.in-After.is)

pub returns-in-Some-element_span : goal.returns-in-Some-element_span
returns-in-Some-element_span c = λ source. ap (option_map (layout.Remove)) (c.in-Some-element_span.ensures source) ∙ ap (placed_in (list_view source c.args.list.now)) (sym c.in-Remove.is)

pub returns-in-Remove : goal.returns-in-Remove
returns-in-Remove c = λ source. ap (option_map (layout.Remove)) (c.in-None-element_span.ensures source) ∙ ap (placed_in (list_view source c.args.list.now)) (sym c.in-Remove.is)

pub returns-in-Some-value_span : goal.returns-in-Some-value_span
returns-in-Some-value_span c = λ source. ap (option_map (λ s. layout.Replace s c.in-Replace.new)) (c.in-Some-value_span.ensures source) ∙ ap (placed_in (list_view source c.args.list.now)) (sym c.in-Replace.is)

pub returns-in-Replace : goal.returns-in-Replace
returns-in-Replace c = λ source. ap (option_map (λ s. layout.Replace s c.in-Replace.new)) (c.in-None-value_span.ensures source) ∙ ap (placed_in (list_view source c.args.list.now)) (sym c.in-Replace.is)

pub returns-in-Some-value_span-2 : goal.returns-in-Some-value_span-2
returns-in-Some-value_span-2 c = λ source. ap (option_map (layout.Wrap)) (c.in-Some-value_span-2.ensures source) ∙ ap (placed_in (list_view source c.args.list.now)) (sym c.in-Wrap.is)

pub returns-in-Wrap : goal.returns-in-Wrap
returns-in-Wrap c = λ source. ap (option_map (layout.Wrap)) (c.in-None-value_span-2.ensures source) ∙ ap (placed_in (list_view source c.args.list.now)) (sym c.in-Wrap.is)
