-- A list that is set is that of its texts.
use Rattle.meson_keywords.proofs.Words.{◌≡◌, ◌++◌, ◌∷◌, [], List, ℕ, map, sym, subst, IfOk, Ok, then_ok, comma_between, IsSet, element_bytes, written_list}
use Rattle.meson_keywords.proofs.WrittenElements.{list_set}
use Rattle.meson_keywords.proofs.writing.list_value.Goals as goal

pub returns-clause-done : goal.returns-clause-done
returns-clause-done c =
    let e = c.args.kind in
    let r = c.written_list.result in
    let ts : List (List ℕ) = map (λ x. x.now) c.in_ok-texts.texts.items in
    subst (λ o. IfOk r (IsSet (then_ok o (λ vs. Ok (written_list e vs))))) (sym c.in_ok-texts.ensures.found)
    (list_set e ts c.in_ok-texts.ensures.good r
    (subst (λ xs. IfOk r (λ b. b ≡ 91 ∷ (comma_between (map (element_bytes e) (map (λ x. x.now) xs)) ++ 93 ∷ []))) c.as_slice.ensures.value c.written_list.ensures.done))
