use Rattle.std.proofs.Common.{ℕ, zero, suc, ◌<◌, List, [], ◌∷◌, length, take, get_or, sym, subst, arith, add-one}
use Rattle.std.proofs.lemmas.List.{take_all}
use Rattle.meson_steps.specs.declared.given.Given.{Given}
use Rattle.meson_steps.specs.GivenWords.{MayBeGiven}
use Rattle.meson_places.specs.Several.{AllMayBeGiven}
use Rattle.meson_places.proofs.arguments.reads_all.Goals as goal

one_more : (gs : List Given) (i : ℕ) (d : Given) → i < length gs → AllMayBeGiven (take i gs) → MayBeGiven (get_or gs i d) → AllMayBeGiven (take (suc i) gs)
one_more [] i d within all it = absurd (omega (arith, within))
one_more (g ∷ gs) zero d within all it = (it, tt)
one_more (g ∷ gs) (suc i) d within all it = (all.0, one_more gs i d (omega (arith, within)) all.1 it)

pub loop-i-preserved : goal.loop-i-preserved
loop-i-preserved c =
    let gs = c.args.values.now in
    let i = c.loop-i.i in
    let g = c.index-values-i.result in
    subst (λ n. AllMayBeGiven (take n gs)) (sym (add-one i)) (one_more gs i g c.loop-i-test.true c.loop-i.invariant (subst MayBeGiven c.index-values-i.is c.reads.ensures))

pub returns : goal.returns
returns c = subst AllMayBeGiven (take_all c.loop-i.i c.args.values.now c.loop-i-test.false) c.loop-i.invariant
