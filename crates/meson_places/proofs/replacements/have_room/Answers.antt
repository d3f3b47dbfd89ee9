use Rattle.std.proofs.Common.{◌≡◌, ◌+◌, List, drop, get_or, true, false, sym, ap, ◌∙◌}
use Rattle.std.specs.Prelude.{Bool, ◌&&◌}
use Rattle.std.proofs.lemmas.List.{at_drop_more}
use Rattle.meson_steps.specs.ResultLimits.{plain_trees}
use Rattle.meson_places.specs.declared.value_lists.FoundList.{FoundList}
use Rattle.meson_places.specs.Names.{loaded_in}
use Rattle.meson_places.specs.Replacements.{have_room}
use Rattle.meson_places.specs.Room.{has_room, list_in_trees}
use Rattle.meson_places.specs.Values.{given_node}
use Rattle.meson_places.specs.inside.Found.{found_lists}
use Rattle.meson_places.proofs.replacements.have_room.Goals as goal

pub returns-then-not-branch : goal.returns-then-not-branch
returns-then-not-branch c = λ source may.
    let l = loaded_in c.args.sources in
    let e = given_node c.args.given.now may in
    let lists = c.args.lists.now in
    let i = c.loop-i.i in
    let d = c.index-lists-i.result in
    let fits : List FoundList → Bool = λ ls. have_room l e (found_lists source ls) in
    let here : has_room e (list_in_trees (plain_trees l) (get_or lists i d).place) ≡ false = sym (c.in_ok-has_room.ensures may) ∙ c.if-not-branch.true in
    sym (sym (c.loop-i.invariant source may) ∙ at_drop_more fits lists i d c.loop-i-test.true ∙ ap (λ b. b && fits (drop (i + 1) lists)) here)

pub loop-i-preserved : goal.loop-i-preserved
loop-i-preserved c = λ source may.
    let l = loaded_in c.args.sources in
    let e = given_node c.args.given.now may in
    let lists = c.args.lists.now in
    let i = c.loop-i.i in
    let d = c.index-lists-i.result in
    let fits : List FoundList → Bool = λ ls. have_room l e (found_lists source ls) in
    let here : has_room e (list_in_trees (plain_trees l) (get_or lists i d).place) ≡ true = sym (c.in_ok-has_room.ensures may) ∙ c.if-not-branch.false in
    sym (at_drop_more fits lists i d c.loop-i-test.true ∙ ap (λ b. b && fits (drop (i + 1) lists)) here) ∙ c.loop-i.invariant source may
