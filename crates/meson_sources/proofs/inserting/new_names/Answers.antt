use Rattle.meson_sources.proofs.inserting.new_names.Goals as goal
use Rattle.std.proofs.lemmas.Fn.{filter_same}
use Rattle.meson_steps.proofs.Distincts.{filter_under}
use Rattle.meson_sources.proofs.Words.{filter, list_any, not, ap, map, rules, ◌∙◌, has_value}

pub returns : goal.returns
returns c =
    let items = c.args.items.now in
    let kept = filter_same _ (λ r. not (list_any (has_value r.now) items)) _ (λ x b f k. search rules) _ _ c.retain.ensures.filtered in
    ap (λ xs. map (λ x. x.now) xs) kept
    ∙ filter_under (λ x. x.now) (λ name. not (list_any (has_value name) items)) c.in_ok-new.new.items
    ∙ ap (filter (λ name. not (list_any (has_value name) items))) c.in_ok-new.ensures
