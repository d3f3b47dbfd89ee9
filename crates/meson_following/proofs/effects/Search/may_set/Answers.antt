use Rattle.std.proofs.Common.{rules, ◌≡◌, sym, ap, ◌∙◌}
use Rattle.std.specs.Prelude.{Bool, true, false, ◌&&◌, ◌||◌, bytes_eq, codes}
use Rattle.meson_calls.specs.Roles.{one_of}
use Rattle.meson_following.specs.Effects.{setting_functions}
use Rattle.meson_following.specs.Names.{may_be}
use Rattle.meson_following.proofs.effects.Search.may_set.Goals as goal

sets : (a b f r : Bool) → a ≡ false → b ≡ true → r ≡ f → r ≡ (a || (b && f))
sets a b f r unset is_one is = is ∙ sym (ap (λ x. x || (b && f)) unset ∙ ap (λ x. x && f) is_one)

pub returns : goal.returns
returns c =
    let unset : bytes_eq c.args.function.now (codes "subdir") ≡ false = search rules in
    sets (bytes_eq c.args.function.now (codes "subdir")) (one_of setting_functions c.args.function.now) _ _ unset (sym c.is_setting.ensures ∙ c.if-not-is_setting.false)
    (c.may_be.ensures ∙ ap may_be (c.in_ok-found.ensures c.args.function.now))
