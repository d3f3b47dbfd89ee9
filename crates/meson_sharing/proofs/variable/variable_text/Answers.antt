use Rattle.std.proofs.Common.{option_map, sym, ap, ◌∙◌}
use Rattle.meson_calls.proofs.GoodNotes.{parts_good}
use Rattle.meson_following.specs.CodeFollowing.{followed_project}
use Rattle.meson_sharing.proofs.AssignedValues.{variable_identifier}
use Rattle.meson_sharing.proofs.variable.variable_text.Goals as goal

pub identifier_text-requires : goal.identifier_text-requires
identifier_text-requires c =
    let f = c.args.follower.now in
    variable_identifier c.args.maker.now (followed_project f) (parts_good 0 f.files.now f.trees.now c.requires.parsed) c.in-Some.name.now
    (sym (ap (option_map (λ x. x.now)) (sym c.in-Some.is) ∙ c.in_ok-name.ensures))
