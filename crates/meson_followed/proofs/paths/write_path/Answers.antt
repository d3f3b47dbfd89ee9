use Rattle.std.proofs.Common.{◌≤◌, [], ◌∷◌, ◌++◌, length, map, refl, ap, append_assoc, ◌∙◌}
use Rattle.std.specs.Prelude.{string_bytes}
use Rattle.meson_following.proofs.TakenTurns.{taken_all}
use Rattle.meson_sharing.proofs.OwnMakers.{each_turn}
use Rattle.meson_followed.specs.Paths.{written_path}
use Rattle.meson_followed.proofs.paths.write_path.Goals as goal

pub loop-i-preserved : goal.loop-i-preserved
loop-i-preserved c =
    let parts = c.args.parts.now in
    let old = string_bytes c.loop-i.text in
    let new = c.in_ok-push_str-2.ensures.bytes ∙ ap (λ t. t ++ 47 ∷ []) c.in_ok-push_str.ensures.bytes ∙ append_assoc old _ (47 ∷ []) in
    each_turn (λ part. part ++ 47 ∷ []) (λ x. x.now) parts c.loop-i.i _ _ old _ _ c.loop-i-test.true refl new c.loop-i.invariant

pub returns : goal.returns
returns c =
    let parts = c.args.parts.now in
    let past : length parts ≤ c.loop-i.i = c.loop-i-test.false in
    c.of.ensures ∙ taken_all (λ ps. written_path (map (λ x. x.now) ps)) parts c.loop-i.i (string_bytes c.loop-i.text) _ refl past c.loop-i.invariant
