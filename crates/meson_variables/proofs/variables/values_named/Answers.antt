use Rattle.meson_variables.proofs.Words.{rules, ◌≡◌, ◌∙◌, sym, false, not, note_views, assigned_notes, is_set_by, has_unknown, only_value, has_any}
use Rattle.meson_variables.proofs.NoValues.{known_or_not, none_has}
use Rattle.meson_variables.proofs.variables.values_named.Goals as goal

pub returns-then-not-has_any : goal.returns-then-not-has_any
returns-then-not-has_any c = λ x among.
    let ns = note_views c.args.found.now in
    let none : has_any c.in_ok-values.values c.args.names.now ≡ false = search rules in
    let is = none_has c.in_ok-values.values c.args.names.now x none among in
    is ∙ sym (known_or_not (not (has_unknown c.args.files.now ns)) (is_set_by x ns) (only_value (assigned_notes x ns)) (sym (c.in_ok-values.ensures x) ∙ is))
