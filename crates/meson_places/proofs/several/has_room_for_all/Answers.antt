use Rattle.std.proofs.Common.{◌≡◌, ℕ, zero, suc, ◌<◌, ◌≤◌, true, false, List, [], ◌∷◌, drop, length, get_or, refl, sym, ap, ◌∙◌, subst, arith, add-one}
use Rattle.std.specs.Prelude.{Bool, ◌&&◌}
use Rattle.std.specs.List.{list_all}
use Rattle.meson_syntax.specs.Tree.{Expression, Nowhere}
use Rattle.meson_edit.specs.Edits.{Written}
use Rattle.meson_steps.specs.ResultLimits.{plain_trees}
use Rattle.meson_steps.specs.declared.given.Given.{Given}
use Rattle.meson_places.specs.Names.{loaded_in}
use Rattle.meson_places.specs.Room.{has_room, list_in_trees}
use Rattle.meson_places.specs.Several.{AllMayBeGiven, all_written}
use Rattle.meson_steps.specs.GivenWords.{MayBeGiven}
use Rattle.meson_places.specs.Values.{written_given}
use Rattle.meson_places.proofs.several.has_room_for_all.Goals as goal

record At (gs : List Given) (mays : AllMayBeGiven gs) (i : ℕ) (g : Given) : Type 0 where
  may : MayBeGiven g
  rest : drop i (all_written gs mays) ≡ written_given g may ∷ drop (suc i) (all_written gs mays)

written_at : (gs : List Given) (mays : AllMayBeGiven gs) (i : ℕ) (d : Given) → i < length gs → At gs mays i (get_or gs i d)
written_at [] mays i d within = absurd (omega (arith, within))
written_at (g ∷ gs) mays zero d within = record { may = mays.0; rest = refl }
written_at (g ∷ gs) mays (suc i) d within = let a = written_at gs mays.1 i d (omega (arith, within)) in record { may = a.may; rest = a.rest }

past : (gs : List Given) (mays : AllMayBeGiven gs) (i : ℕ) → length gs ≤ i → drop i (all_written gs mays) ≡ []
past [] mays zero over = refl
past [] mays (suc i) over = refl
past (g ∷ gs) mays zero over = absurd (omega (arith, over))
past (g ∷ gs) mays (suc i) over = past gs mays.1 i (omega (arith, over))

all_first : {X : Type 0} (test : X → Bool) (x : X) (xs : List X) (b : Bool) → test x ≡ b → list_all test (x ∷ xs) ≡ b && list_all test xs
all_first test x xs b is = ap (λ t. t && list_all test xs) is

pub returns-then-not-branch : goal.returns-then-not-branch
returns-then-not-branch c = λ may.
    let gs = c.args.values.now in
    let i = c.loop-i.i in
    let g = c.index-values-i.result in
    let trees = plain_trees (loaded_in c.args.sources) in
    let test : Written (Expression Nowhere) → Bool = λ w. has_room w.node (list_in_trees trees c.args.list.now) in
    let a = subst (At gs may i) (sym c.index-values-i.is) (written_at gs may i g c.loop-i-test.true) in
    let here : test (written_given g a.may) ≡ false = sym (c.in_ok-has_room.ensures a.may) ∙ c.if-not-branch.true in
    sym (sym (c.loop-i.invariant may) ∙ ap (list_all test) a.rest ∙ all_first test (written_given g a.may) (drop (suc i) (all_written gs may)) false here)

pub loop-i-preserved : goal.loop-i-preserved
loop-i-preserved c = λ may.
    let gs = c.args.values.now in
    let i = c.loop-i.i in
    let g = c.index-values-i.result in
    let trees = plain_trees (loaded_in c.args.sources) in
    let test : Written (Expression Nowhere) → Bool = λ w. has_room w.node (list_in_trees trees c.args.list.now) in
    let a = subst (At gs may i) (sym c.index-values-i.is) (written_at gs may i g c.loop-i-test.true) in
    let here : test (written_given g a.may) ≡ true = sym (c.in_ok-has_room.ensures a.may) ∙ c.if-not-branch.false in
    ap (λ n. list_all test (drop n (all_written gs may))) (add-one i) ∙ sym (ap (list_all test) a.rest ∙ all_first test (written_given g a.may) (drop (suc i) (all_written gs may)) true here) ∙ c.loop-i.invariant may

pub returns : goal.returns
returns c = λ may.
    let gs = c.args.values.now in
    let trees = plain_trees (loaded_in c.args.sources) in
    let test : Written (Expression Nowhere) → Bool = λ w. has_room w.node (list_in_trees trees c.args.list.now) in
    sym (sym (c.loop-i.invariant may) ∙ ap (list_all test) (past gs may c.loop-i.i c.loop-i-test.false))
