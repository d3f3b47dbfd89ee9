use Rattle.meson_steps.proofs.Words.{◌≡◌, ℕ, ◌+◌, ◌≤◌, List, [], ◌∷◌, length, get_or, refl, drop, sym, ap, ◌∙◌, subst, All, false, ◌==◌, IsUtf8, take_all}
use Rattle.meson_steps.proofs.Words.{at_drop_more, all_more, checked_names}
use Rattle.meson_steps.proofs.names.checked_names.Goals as goal

behind_name : (x : List ℕ) (xs : List (List ℕ)) → (length x == 0) ≡ false → checked_names xs ≡ checked_names (x ∷ xs)
behind_name [] xs some = absurd cc
behind_name (b ∷ bs) xs some = refl

pub loop-name-preserved : goal.loop-name-preserved
loop-name-preserved c =
    let i = c.loop-name.name-index in
    let names = c.args.names.now in
    let text = c.get.ensures ∙ c.name-item.is in
    record {
      left = behind_name (get_or names i c.name-item.result) (drop (i + 1) names) (ap (λ x. length x == 0) (sym text) ∙ sym c.is_empty.ensures ∙ c.if-is_empty.false)
          ∙ sym (at_drop_more checked_names names i c.name-item.result c.loop-name-test.true) ∙ c.loop-name.invariant.left;
      texts = all_more IsUtf8 names i c.name-item.result c.loop-name-test.true c.loop-name.invariant.texts (subst IsUtf8 text c.get.utf8);
    }

pub returns-clause-utf8 : goal.returns-clause-utf8
returns-clause-utf8 c =
    let names = c.args.names.now in
    let past : length names ≤ c.loop-name.name-index = c.loop-name-test.false in
    subst (All IsUtf8) (take_all c.loop-name.name-index names past) c.loop-name.invariant.texts
