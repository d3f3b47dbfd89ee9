use Rattle.std.proofs.Common.{◌≡◌, List, [], ◌∷◌, ◌++◌, map, ap, ap₂, sym, ◌∙◌}
use Rattle.std.specs.Prelude.{ℕ, Option, Some}
use Rattle.std.proofs.lemmas.List.{map-append}
use Rattle.meson_lex.specs.declared.kinds.Span.{Span}
use Rattle.meson_following.specs.CodeFollowing.{item_view}
use Rattle.meson_sharing.specs.CodeTold.{shared_of, told_item_view, variable_with}
use Rattle.meson_sharing.specs.Told.{ToldItem, last_of}
use Rattle.meson_sharing.proofs.told.Sharing.take_item.Goals as goal

pub returns-clause-all : goal.returns-clause-all
returns-clause-all c =
    let s = c.args.self.now in
    let item = c.args.item in
    let before = c.args.items.now.items in
    let maker : last_of item.way.through.items ≡ Some c.in-Some.maker.now = ap last_of (sym c.as_slice.ensures.value) ∙ sym c.in-Some.ensures.value in
    let answer = c.in_ok-answer.ensures.answer in
    let variable = c.in_ok-variable.ensures ∙ answer.1 ∙ sym (ap (variable_with s) maker) in
    let shared = c.in_ok-shared.ensures ∙ answer.2 ∙ sym (ap (shared_of s) maker) in
    let of : Option (List ℕ) → Option (List (List ℕ)) → ToldItem Span = λ name names. record { item = item_view item; variable = name; shared = names } in
    ap (map told_item_view) c.in_ok-push-2.ensures.items
    ∙ map-append told_item_view before (record { item = item; variable = c.in_ok-variable.variable; shared = c.in_ok-shared.shared } ∷ [])
    ∙ ap (λ x. map told_item_view before ++ x ∷ []) (ap₂ of variable shared)
