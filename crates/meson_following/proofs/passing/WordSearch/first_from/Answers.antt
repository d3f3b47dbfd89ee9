use Rattle.std.proofs.Common.{◌≡◌, ◌-◌, length, take, drop, length-drop, subst, take_all, arith}
use Rattle.memchr.specs.Find.{FindsNeedle}
use Rattle.meson_following.proofs.Occurrences.{occurs_after}
use Rattle.meson_following.proofs.passing.WordSearch.first_from.Goals as goal

pub returns-in-Some : goal.returns-in-Some
returns-in-Some c = λ k low high o.
    let bytes = c.args.bytes.now in
    let rest = drop c.args.from bytes in
    let left : length rest ≡ length bytes - c.args.from = length-drop c.args.from bytes in
    let whole : take (length bytes - c.args.from) rest ≡ rest = take_all (length bytes - c.args.from) rest (omega (arith, left)) in
    let found = subst (FindsNeedle rest c.args.self.now.word 0) c.in-Some.is (subst (λ hay. FindsNeedle hay c.args.self.now.word 0 c.find.result) whole c.find.ensures) in
    found.0.before (k - c.args.from) (omega arith) (omega (arith, low, high)) (occurs_after bytes c.args.self.now.word c.args.from k low o)

pub returns-in-None : goal.returns-in-None
returns-in-None c = λ k low high o.
    let bytes = c.args.bytes.now in
    let rest = drop c.args.from bytes in
    let left : length rest ≡ length bytes - c.args.from = length-drop c.args.from bytes in
    let whole : take (length bytes - c.args.from) rest ≡ rest = take_all (length bytes - c.args.from) rest (omega (arith, left)) in
    let found = subst (FindsNeedle rest c.args.self.now.word 0) c.in-None.is (subst (λ hay. FindsNeedle hay c.args.self.now.word 0 c.find.result) whole c.find.ensures) in
    found (k - c.args.from) (omega arith) (omega (arith, low, high, left)) (occurs_after bytes c.args.self.now.word c.args.from k low o)
