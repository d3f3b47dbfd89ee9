use Rattle.meson_steps.proofs.Words.{◌∙◌, ap, subst, sym, MayPutBack, put_back}
use Rattle.meson_steps.proofs.Restoring.{may_pop, put_back_push}
use Rattle.meson_steps.proofs.journal.put_back.Goals as goal

pub put_one-requires : goal.put_one-requires
put_one-requires c = (may_pop c.pop.new.self.items c.in-Some.last c.loop-last.trees.items (subst (λ l. MayPutBack l c.loop-last.trees.items) c.in-Some.ensures.items c.loop-last.invariant.may)).0

pub loop-last-preserved : goal.loop-last-preserved
loop-last-preserved c =
    let trees = c.loop-last.trees.items in
    let left = c.pop.new.self.items in
    let last = c.in-Some.last in
    record {
      may = subst (MayPutBack left) (sym c.put_one.ensures) (may_pop left last trees (subst (λ l. MayPutBack l trees) c.in-Some.ensures.items c.loop-last.invariant.may)).1;
      gives = ap (put_back left) c.put_one.ensures ∙ sym (put_back_push left last trees) ∙ ap (λ l. put_back l trees) (sym c.in-Some.ensures.items) ∙ c.loop-last.invariant.gives;
    }
