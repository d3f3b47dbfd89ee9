use Rattle.meson_steps.proofs.Words.{◌≡◌, ◌<◌, ◌∙◌, ap, get_or, length, subst, sym, true, arith, file_depth, max_depth, view, Parsed, is_saved, IsShallow}
use borrow.Author.Count.{below_more}
use Rattle.meson_steps.proofs.SameRead.{same_read}
use Rattle.meson_steps.proofs.WorkLimits.{fits, passes}
use Rattle.meson_steps.proofs.work.Work.is_shallow.Goals as goal
use Rattle.meson_steps.proofs.work.Work.is_shallow.Goals.{then-is_saved+else-not-nests_within, else-is_saved}

pub returns-then-not-nests_within-clause-no : goal.returns-then-not-nests_within-clause-no
returns-then-not-nests_within-clause-no c = λ _.
    let tree = c.index.result.now in
    record {
      place = c.loop-i.i;
      tree = tree;
      there = omega arith;
      is = sym c.index.ensures;
      deep = λ source. passes (file_depth (view source tree)) max_depth (sym (c.nests_within.ensures source) ∙ c.if-not-nests_within.true);
    }

pub loop-i-preserved : goal.loop-i-preserved
loop-i-preserved c =
    let i = c.loop-i.i in
    let trees = c.args.self.now.trees.items in
    let saved = c.args.self.now.saved.items in
    let there : i < length trees = omega arith in
    let here : is_saved i saved ≡ true → (d : Parsed) → IsShallow (get_or trees i d) = elim c.if-is_saved.branch [
      | then-is_saved+else-not-nests_within w ↦ λ is d.
          let tree = w.index.result.now in
          subst IsShallow (w.index.ensures ∙ same_read trees i tree d there)
          (λ source. fits (file_depth (view source tree)) max_depth (sym (w.nests_within.ensures source) ∙ w.if-not-nests_within.false))
      | else-is_saved w ↦ λ is d. let not = w.if-is_saved.ensures ∙ ap (is_saved i) c.as_slice.ensures.value ∙ is in absurd cc
    ] in
    below_more (λ k. is_saved k saved ≡ true → (d : Parsed) → IsShallow (get_or trees k d)) i c.loop-i.invariant here

pub returns-clause-yes : goal.returns-clause-yes
returns-clause-yes c = λ _ k within. let below : k < c.loop-i.i = omega (arith, within, c.loop-i-test.false, c.len-i-end.ensures) in c.loop-i.invariant k below
