use Rattle.std.proofs.Common.{◌∙◌, refl, sym, ap}
use Rattle.std.specs.Prelude.{option_map}
use Rattle.std.proofs.lemmas.List.{drop-map}
use Rattle.meson_syntax.specs.View.{arg_view}
use Rattle.meson_steps.specs.OrderedLists.{first_of, sort_keys}
use Rattle.meson_steps.proofs.ordered_list.OrderedList.of.Goals as goal

pub returns : goal.returns
returns c =
    let source = c.args.source.now in
    let rest = sym (drop-map (arg_view source) c.args.from c.args.args.now) in
    record { from = refl; end = refl; keys = c.in_ok-keys.ensures ∙ ap sort_keys rest; first = c.in_ok-first.ensures ∙ ap (λ l. option_map (λ w. w.bytes) (first_of source l)) rest }
