use Rattle.std.proofs.Common.{rules}
use Rattle.meson_steps.specs.OrderedLists.{IsOrderedList, point_in, put_one, put_steps}
use Rattle.meson_steps.specs.WrittenTexts.{written_text}
use Rattle.meson_steps.specs.declared.order.SortKey.TheVariants as key
use Rattle.meson_sources.proofs.sorting.put_name.Goals as goal
use Rattle.meson_sources.proofs.Words.{bare, literal, map, Some, subst, sym, ◌++◌, ◌∙◌, ◌≡◌}

pub returns-clause-list : goal.returns-clause-list
returns-clause-list c = λ o is.
    let w = written_text c.args.name.now in
    let same : c.in_ok-clone.field-0 ≡ c.args.name.now = search rules in
    let bytes : literal c.args.name.now ≡ c.get.result.now = sym c.in_ok-new.ensures.done ∙ sym c.get.ensures in
    subst (λ t. IsOrderedList c.put.new.self (put_one o (point_in o (key.Text t)) (key.Text t) w)) same (c.in_ok-put.ensures.list o is w bytes)

pub returns-clause-steps : goal.returns-clause-steps
returns-clause-steps c = λ o is.
    let w = written_text c.args.name.now in
    let same : c.in_ok-clone.field-0 ≡ c.args.name.now = search rules in
    let bytes : literal c.args.name.now ≡ c.get.result.now = sym c.in_ok-new.ensures.done ∙ sym c.get.ensures in
    subst (λ t. map Some c.put.new.steps.items ≡ map Some c.args.steps.now.items ++ map bare (put_steps c.args.list.now o (point_in o (key.Text t)) w)) same (c.in_ok-put.ensures.steps o is w bytes)
