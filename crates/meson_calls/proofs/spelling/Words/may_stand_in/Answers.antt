use Rattle.meson_calls.proofs.Words.{All, ◌<◌, ◌≤◌, length, subst, arith, take_all, HasNone}
use Rattle.meson_calls.proofs.Loads.{all_more}
use Rattle.meson_calls.proofs.Spelled.{found_or_none}
use Rattle.meson_calls.proofs.spelling.Words.may_stand_in.Goals as goal

pub loop-i-preserved : goal.loop-i-preserved
loop-i-preserved c =
    let bytes = c.args.bytes.now in
    let within : c.loop-i.i < length c.args.self.now.words.items = omega (arith, c.loop-i-test.true) in
    all_more (λ word. HasNone word bytes) c.args.self.now.words.items c.loop-i.i c.index.result.now within c.loop-i.invariant
    (subst (λ word. HasNone word bytes) c.index.ensures (found_or_none bytes c.index.result.now c.find.result c.is_some.result c.find.ensures c.is_some.ensures c.if-is_some.false))

pub returns : goal.returns
returns c = λ no.
    let past : length c.args.self.now.words.items ≤ c.loop-i.i = omega arith in
    subst (All (λ word. HasNone word c.args.bytes.now)) (take_all c.loop-i.i c.args.self.now.words.items past) c.loop-i.invariant
