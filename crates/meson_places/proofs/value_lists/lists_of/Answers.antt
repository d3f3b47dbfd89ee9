use Rattle.std.proofs.Common.{◌≡◌, true, false, [], refl, sym, ap, ◌∙◌}
use Rattle.std.specs.Prelude.{if◌then◌else◌}
use Rattle.std.proofs.lemmas.Result.{IfOk-weaker}
use Rattle.meson_syntax.specs.Tree.{operands_of}
use Rattle.meson_syntax.specs.View.{expr_view, operands_view}
use Rattle.meson_calls.specs.Project.{child}
use Rattle.meson_calls.proofs.Parted.{row_is}
use Rattle.meson_places.specs.ValueLists.{and_more, are_plus, lists_of, operand_lists, own_list}
use Rattle.meson_places.specs.inside.Found.{found_lists}
use Rattle.meson_places.proofs.value_lists.lists_of.Goals as goal

pub returns-then-are_plus-clause-lists : goal.returns-then-are_plus-clause-lists
returns-then-are_plus-clause-lists c =
    let source = c.args.source.now in
    let place = c.args.place.now in
    let more = operands_of (operands_view source c.get-rest.result.now) in
    let own = own_list (child place 0) (expr_view source c.get.result.now) in
    let view = row_is source c.args.value.now c.in-Row.span c.in-Row.first c.get.result.now c.in-Row.rest c.get-rest.result.now c.in-Row.is c.get.ensures c.get-rest.ensures in
    let plus : are_plus more ≡ true = sym (c.are_plus.ensures source) ∙ c.if-are_plus.true in
    IfOk-weaker c.sum_lists.result _ _ (λ v is. is ∙ ap (λ b. if b then and_more own (operand_lists place 1 more) else []) (sym plus) ∙ sym (ap (lists_of place) view)) c.sum_lists.ensures.lists

pub returns-else-are_plus-clause-lists : goal.returns-else-are_plus-clause-lists
returns-else-are_plus-clause-lists c =
    let source = c.args.source.now in
    let place = c.args.place.now in
    let more = operands_of (operands_view source c.get-rest.result.now) in
    let own = own_list (child place 0) (expr_view source c.in-Row.first) in
    let view = row_is source c.args.value.now c.in-Row.span c.in-Row.first c.in-Row.first c.in-Row.rest c.get-rest.result.now c.in-Row.is refl c.get-rest.ensures in
    let plus : are_plus more ≡ false = sym (c.are_plus.ensures source) ∙ c.if-are_plus.false in
    ap (found_lists source) c.new.ensures.items ∙ ap (λ b. if b then and_more own (operand_lists place 1 more) else []) (sym plus) ∙ sym (ap (lists_of place) view)
