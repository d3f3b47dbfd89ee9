use Rattle.meson_keywords.proofs.Words.{◌≡◌, ◌+◌, List, ℕ, [], ◌∷◌, ◌++◌, drop, map, sym, ap, ◌∙◌, bytes_eq, reverse, ◌||◌, list_any, map-append, expr_view}
use Rattle.meson_keywords.proofs.Words.{one_of, distinct_by, text_in}
use Rattle.meson_keywords.proofs.ElementsSay.{rest_mapped, seen_same, lone_told, unseen_more}
use Rattle.meson_keywords.proofs.elements.other_values.Goals as goal
use Rattle.meson_keywords.proofs.elements.other_values.Goals.{then-not-is_seen+in_ok-push, else-not-is_seen}

pub loop-i-preserved : goal.loop-i-preserved
loop-i-preserved c = λ text is_text.
    let known : List (List ℕ) = text ∷ [] in
    let x = c.index-values-i.result.now in
    let all : List (List ℕ) = map (λ v. v.now) c.loop-i.all.items in
    let rest : List (List ℕ) = map (λ v. v.now) (drop (c.loop-i.i + 1) c.args.values.now) in
    let from = rest_mapped (λ v. v.now) c.args.values.now c.loop-i.i c.index-values-i.result c.loop-i-test.true c.index-values-i.is in
    let same : (one_of all x || one_of known x) ≡ c.is_seen.result =
    ap (λ b. one_of all x || b) (lone_told x text (text_in c.args.kind (expr_view c.args.source.now c.args.element.now)) is_text ∙ sym c.in_ok-known.ensures)
    ∙ ap (λ vs. list_any (λ y. bytes_eq y x) (map (λ v. v.now) vs) || c.in_ok-known.known) (sym c.as_slice.ensures.value)
    ∙ sym c.is_seen.ensures in
    let before = ap (λ ys. all ++ distinct_by (reverse all ++ known) ys) (sym from) ∙ c.loop-i.invariant text is_text in
    elim c.if-not-is_seen.branch [
      | then-not-is_seen+in_ok-push w ↦
          ap (λ v. map (λ y. y.now) v.items ++ distinct_by (reverse (map (λ y. y.now) v.items) ++ known) rest) w.all-is
          ∙ ap (λ z. z ++ distinct_by (reverse z ++ known) rest) (ap (λ vs. map (λ y. y.now) vs) w.in_ok-push.ensures.items ∙ map-append (λ y. y.now) c.loop-i.all.items _)
          ∙ unseen_more known all x rest (same ∙ w.if-not-is_seen.true) ∙ before
      | else-not-is_seen w ↦ ap (λ v. map (λ y. y.now) v.items ++ distinct_by (reverse (map (λ y. y.now) v.items) ++ known) rest) w.all-is ∙ seen_same known all x rest (same ∙ w.if-not-is_seen.false) ∙ before
    ]
