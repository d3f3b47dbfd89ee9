use Rattle.std.proofs.Common.{◌≡◌, ◌+◌, ◌<◌, ◌^◌, List, arith, length, ap, sym, subst, ◌∙◌}
use Rattle.meson_lex.specs.Items.{IsItemList, Lexeme, joined}
use Rattle.std.proofs.lemmas.Result.{IfOk-weaker}
use Rattle.meson_layout.specs.Layout.{layout_of}
use Rattle.meson_layout.proofs.ListSpans.{bracket-fits, laid-alone, list-items, ordered, read-fits, within}
use Rattle.meson_layout.proofs.lists.list_layout.Goals as goal

pub list_lexemes-requires-clause-ordered : goal.list_lexemes-requires-clause-ordered
list_lexemes-requires-clause-ordered c = ordered c.args.src.now c.args.list c.args.primitive.now c.requires

pub list_lexemes-requires-clause-within : goal.list_lexemes-requires-clause-within
list_lexemes-requires-clause-within c = within c.args.src.now c.args.list c.args.primitive.now c.requires

pub layout_items-requires-clause-fits : goal.layout_items-requires-clause-fits
layout_items-requires-clause-fits c =
    let few : length c.args.src.now + 1 < 2 ^ 64 = omega arith in
    let are = c.as_slice.ensures.value ∙ c.in_ok-items.ensures.done _ (list-items c.args.src.now c.args.list c.args.primitive.now c.requires) in
    subst (λ xs. length (joined xs) + 1 < 2 ^ 64) (sym are) (read-fits c.args.src.now c.args.list c.args.primitive.now c.requires few)

pub layout_items-requires-clause-bracket : goal.layout_items-requires-clause-bracket
layout_items-requires-clause-bracket c =
    let few : length c.args.src.now + 1 < 2 ^ 64 = omega arith in
    bracket-fits c.args.src.now c.args.list c.args.primitive.now c.requires few

pub returns-clause-done : goal.returns-clause-done
returns-clause-done c =
    let file = c.args.file.now in
    let source = c.args.src.now in
    let list = c.args.list in
    let primitive = c.args.primitive.now in
    let are = c.as_slice.ensures.value ∙ c.in_ok-items.ensures.done _ (list-items source list primitive c.requires) in
    let meant = ap (λ xs. layout_of file xs primitive) are in
    IfOk-weaker c.layout_items.result (λ v. v.items ≡ layout_of file c.as_slice.result.now primitive) (λ v. (items : List Lexeme) → IsItemList source items → v.items ≡ layout_of file items primitive)
    (λ v laid items is. laid ∙ meant ∙ laid-alone source list primitive c.requires file items is) c.layout_items.ensures.done
