use Rattle.std.proofs.Common.{◌≡◌, ◌-◌, List, [], ◌∷◌, ◌++◌, length, map, refl, sym, ap, ◌∙◌}
use Rattle.std.specs.Prelude.{Some}
use Rattle.std.proofs.lemmas.List.{map-append}
use Rattle.meson_steps.specs.ListSteps.{bare}
use Rattle.meson_steps.specs.declared.given.Given.{Given}
use Rattle.meson_places.specs.Changes.{rest_removed}
use Rattle.meson_places.specs.Several.{AllMayBeGiven, all_written, put_each}
use Rattle.meson_places.specs.Values.{given_bytes}
use Rattle.meson_places.proofs.SeveralDoable.{written_length}
use Rattle.meson_places.proofs.several.put_all.Goals as goal

written_bytes : (gs : List Given) (mays : AllMayBeGiven gs) → map (λ w. w.bytes) (all_written gs mays) ≡ map given_bytes gs
written_bytes [] mays = refl
written_bytes (g ∷ gs) mays = ap (λ l. given_bytes g ∷ l) (written_bytes gs mays.1)

pub returns-clause-done : goal.returns-clause-done
returns-clause-done c = λ may.
    let gs = c.args.values.now in
    let list = c.args.list.now in
    let many = c.args.many in
    let ws = all_written gs may in
    let put = c.in_ok-put_each.ensures.done ws (written_bytes gs may) in
    let front = put_each list many 0 ws in
    let left : c.surplus.result ≡ many - length gs = c.surplus.ensures in
    map-append bare front (rest_removed list (length ws) (many - length ws))
    ∙ ap (λ n. map bare front ++ map bare (rest_removed list n (many - n))) (written_length gs may)
    ∙ ap (λ m. map bare front ++ map bare (rest_removed list (length gs) m)) (sym left)
    ∙ ap (λ t. t ++ map bare (rest_removed list (length gs) c.surplus.result)) (sym (put ∙ ap (λ t. map Some t ++ map bare front) c.new-steps.ensures.items))
    ∙ sym c.in_ok-remove_rest.ensures
