use Rattle.std.proofs.Common.{◌≡◌, ℕ, List, [], ◌∷◌, ◌++◌, true, Some, None, sym, ap, ◌∙◌, subst}
use Rattle.std.specs.Prelude.{if◌then◌else◌}
use Rattle.std.proofs.lemmas.List.{map-append}
use Rattle.meson_syntax.specs.View.{expr_view}
use Rattle.meson_calls.specs.GoodLists.{GoodArgs}
use Rattle.meson_places.specs.declared.value_lists.FoundList.{FoundList}
use Rattle.meson_places.specs.Slots.{elements_in}
use Rattle.meson_places.specs.ValueLists.{and_more, is_list}
use Rattle.meson_places.specs.inside.Found.{AreGoodLists, found_list, found_lists}
use Rattle.meson_places.proofs.value_lists.push_list.Goals as goal

one_more : (source : List ℕ) (ls : List FoundList) (l : FoundList) → AreGoodLists source ls → GoodArgs source l.elements.now → AreGoodLists source (ls ++ l ∷ [])
one_more source [] l all it = (it, tt)
one_more source (x ∷ ls) l all it = (all.0, one_more source ls l all.1 it)

pub returns-clause-lists : goal.returns-clause-lists
returns-clause-lists c =
    let source = c.args.source.now in
    let e = expr_view source c.args.value.now in
    let old = c.args.lists.now.items in
    let is : is_list e ≡ true = sym c.is_list.ensures ∙ c.if-not-is_list.false in
    ap (found_lists source) c.in_ok-push.ensures.items ∙ map-append (found_list source) old (_ ∷ [])
    ∙ ap (λ xs. found_lists source old ++ record { place = c.args.place; elements = xs } ∷ []) (c.elements_in-elements.ensures.elements source)
    ∙ ap (λ b. found_lists source old ++ and_more (if b then Some (record { place = c.args.place; elements = elements_in e }) else None) []) (sym is)

pub returns-clause-good : goal.returns-clause-good
returns-clause-good c = λ all.
    let source = c.args.source.now in
    subst (AreGoodLists source) (sym c.in_ok-push.ensures.items) (one_more source c.args.lists.now.items _ all (c.elements_in-elements.ensures.good source c.requires))
