use Rattle.std.proofs.Common.{◌≡◌, ◌-◌, [], length, sym, ap, ap₂, arith, ◌∙◌}
use Rattle.meson_following.specs.CodeFollowing.{followed_project}
use Rattle.meson_sharing.specs.Sharing.{from_followed, reads_of, takers_of, with_takers_of_takers}
use Rattle.meson_sharing.proofs.OwnMakers.{no_takers, none_are, once_more}
use Rattle.meson_sharing.proofs.owning.from_followed.Goals as goal

pub returns-then-is_empty : goal.returns-then-is_empty
returns-then-is_empty c =
    let p = followed_project c.args.follower.now in
    let all = c.args.all.now in
    let ms = c.loop.makers.items in
    let reads = c.in_ok-reads.ensures ∙ ap (reads_of p) c.as_slice.ensures.value in
    let takers = c.in_ok-takers.ensures ∙ ap₂ (takers_of p all) c.as_slice-in-loop.ensures.value (c.as_slice-in-loop-2.ensures.value ∙ reads) in
    let empty : length c.in_ok-takers.takers.items ≡ 0 = grind (arith, c.is_empty.ensures, c.if-is_empty.true) in
    let none : takers_of p all ms (reads_of p ms) ≡ [] = sym takers ∙ none_are c.in_ok-takers.takers.items empty in
    let are : ms ≡ from_followed p all c.args.maker.now = sym (no_takers p all ms none (length all - c.loop.counter)) ∙ c.loop.invariant in
    record { makers = are; reads = reads ∙ ap (reads_of p) are }

pub loop-preserved : goal.loop-preserved
loop-preserved c =
    let p = followed_project c.args.follower.now in
    let all = c.args.all.now in
    let reads = c.in_ok-reads.ensures ∙ ap (reads_of p) c.as_slice.ensures.value in
    let takers = c.in_ok-takers.ensures ∙ ap₂ (takers_of p all) c.as_slice-in-loop.ensures.value c.as_slice-in-loop-2.ensures.value in
    once_more p all c.loop.makers.items c.loop.counter (length all) c.append.new.self.items c.in_ok-reads.reads.items c.in_ok-takers.takers.items
    c.loop-test.true reads takers c.in_ok-append.ensures.items
    ∙ c.loop.invariant

pub returns : goal.returns
returns c =
    let p = followed_project c.args.follower.now in
    let all = c.args.all.now in
    let ms = c.loop.makers.items in
    let none : length all - c.loop.counter ≡ 0 = omega (arith, c.loop-test.false) in
    let are : ms ≡ from_followed p all c.args.maker.now = sym (ap (λ n. with_takers_of_takers p all n ms) none) ∙ c.loop.invariant in
    record { makers = are; reads = c.in_ok-reads-2.ensures ∙ ap (reads_of p) (c.as_slice-2.ensures.value ∙ are) }
