use Rattle.std.proofs.Common.{◌≡◌, length, refl, sym, ◌∙◌, arith}
use Rattle.std.proofs.lemmas.Result.{IfOk-weaker}
use Rattle.meson_syntax.specs.View.{expr_view}
use Rattle.meson_places.specs.inside.Found.{found_lists}
use Rattle.meson_places.proofs.SaidSteps.{says_none, says_some}
use Rattle.meson_places.proofs.all_assigned.says_by.Goals as goal

pub returns-then-is_empty : goal.returns-then-is_empty
returns-then-is_empty c =
    let source = c.args.source.now in
    let fs = c.args.lists.now in
    let none : length fs ≡ 0 = grind (arith, c.is_empty.ensures, c.if-is_empty.true) in
    IfOk-weaker c.says.result _ _ (λ b is. is ∙ sym (says_none source fs (found_lists source fs) refl c.args.given.now (expr_view source c.args.value.now) none)) c.says.ensures

pub returns : goal.returns
returns c =
    let source = c.args.source.now in
    let fs = c.args.lists.now in
    IfOk-weaker c.lists_say.result _ _
    (λ b is. is ∙ sym (says_some source fs (found_lists source fs) refl c.args.given.now (expr_view source c.args.value.now) (λ none. let no : ⊥ = grind (arith, c.is_empty.ensures, c.if-is_empty.false, none) in no)))
    c.lists_say.ensures
