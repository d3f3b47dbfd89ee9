use Rattle.std.proofs.Common.{Err, sym, ap, ◌∙◌}
use Rattle.std.specs.Prelude.{if◌then◌else◌}
use Rattle.meson_syntax.specs.View.{args_view}
use Rattle.meson_calls.specs.declared.refusal.Refusal.TheVariants.{HiddenKeywords}
use Rattle.meson_places.specs.Slots.{at_most_one, has_name, keyword_number, passing}
use Rattle.meson_places.proofs.Refused.{found_as}
use Rattle.meson_places.proofs.elements.keyword_number.Goals as goal

pub returns-clause-found : goal.returns-clause-found
returns-clause-found c =
    let key = c.args.key.now in
    let xs = args_view c.args.source.now c.args.args.now in
    found_as c.at_most_one.result (keyword_number key xs) (at_most_one key c.as_slice.result.now)
    (ap (λ b. if b then Err HiddenKeywords else at_most_one key (passing (has_name key) 0 xs)) (sym c.in_ok-may_hide.ensures ∙ c.if-branch.false)
    ∙ ap (at_most_one key) (sym (c.as_slice.ensures.value ∙ c.in_ok-found.ensures ∙ ap (λ k. passing (has_name k) 0 xs) (c.as_bytes-name.ensures.value ∙ c.get.ensures))))
    c.at_most_one.ensures.found
