use Rattle.meson_targets.proofs.Words.{Some, sym, ap, ◌∙◌, subst, option_and_then, option_map, Holder, name_set, IsNamed, held_view, holder_view}
use Rattle.meson_targets.proofs.SetNames.{holder_named}
use Rattle.meson_targets.proofs.variable.variable_of.Goals as goal

pub returns-in_default : goal.returns-in_default
returns-in_default c = ap (option_and_then (λ (h : Holder). name_set h.held)) (ap (option_map holder_view) (sym c.in_default.is) ∙ c.in_ok-holder.ensures)

pub identifier_text-name-requires : goal.identifier_text-name-requires
identifier_text-name-requires c =
    let is_held = ap (option_map holder_view) (sym c.in-Some.is) ∙ c.in_ok-holder.ensures in
    subst IsNamed c.in-SetTo.is (holder_named c.args.files.now c.args.trees.now c.requires c.args.call.now c.in-Some.holder is_held)

pub returns-in-SetTo : goal.returns-in-SetTo
returns-in-SetTo c =
    let is_held = ap (option_map holder_view) (sym c.in-Some.is) ∙ c.in_ok-holder.ensures in
    ap Some (c.of.ensures ∙ c.in_ok-from_str-in-SetTo.ensures.ok ∙ c.identifier_text-name.ensures)
    ∙ ap (λ h. name_set (held_view h)) (sym c.in-SetTo.is)
    ∙ ap (option_and_then (λ (h : Holder). name_set h.held)) is_held

pub returns : goal.returns
returns c =
    let is_held = ap (option_map holder_view) (sym c.in-Some.is) ∙ c.in_ok-holder.ensures in
    ap (λ h. name_set (held_view h)) (sym c.in-Alone.is) ∙ ap (option_and_then (λ (h : Holder). name_set h.held)) is_held
