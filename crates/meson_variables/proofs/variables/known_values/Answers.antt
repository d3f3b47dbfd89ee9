use Rattle.meson_variables.proofs.Words.{◌≡◌, ◌∙◌, refl, sym, ap, Bool, true, false, not, ◌&&◌, if◌then◌else◌, Option, None, option_flatten, note_views}
use Rattle.meson_variables.proofs.Words.{assigned_notes, is_set_by, only_value, by_notes}
use Rattle.meson_variables.proofs.variables.known_values.Goals as goal

turned : {V : Type 0} (b : Bool) (v : Option V) → (if b then None else v) ≡ (if true && not b then v else None)
turned true v = refl
turned false v = refl

pub returns-in_ok-values : goal.returns-in_ok-values
returns-in_ok-values c = λ x.
    let ns = note_views c.args.found.now in
    c.in_ok-values.ensures x
    ∙ turned (is_set_by x ns) (only_value (assigned_notes x ns))
    ∙ ap (λ k. by_notes x k ns) (sym c.if-branch.true ∙ c.in_ok-all_known.ensures)

pub returns-else-branch : goal.returns-else-branch
returns-else-branch c = λ x.
    let ns = note_views c.args.found.now in
    ap option_flatten (c.new.ensures x) ∙ ap (λ k. by_notes x k ns) (sym c.if-branch.false ∙ c.in_ok-all_known.ensures)
