use Rattle.meson_steps.proofs.Words.{◌≡◌, ◌+◌, [], ◌∷◌, ◌++◌, map, drop, sym, ap, ◌∙◌, rules, reverse, bytes_eq, true, false, list_any, map-append, distinct_by}
use Rattle.meson_steps.proofs.SameRead.{same_read}
use Rattle.meson_steps.proofs.Distincts.{distinct_more, distinct_same}
use Rattle.meson_steps.proofs.names.distinct.Goals as goal
use Rattle.meson_steps.proofs.names.distinct.Goals.{then-not-is_among+in_ok-push, else-not-is_among}

pub loop-i-preserved : goal.loop-i-preserved
loop-i-preserved c =
    let names = c.args.names.now in
    let i = c.loop-i.i in
    let d = c.index-names-i.result in
    let all = map (λ x. x.now) c.loop-i.all.items in
    let same = c.is_among.ensures ∙ ap (λ xs. list_any (λ y. bytes_eq y d) (map (λ x. x.now) xs)) c.as_slice.ensures.value ∙ ap (λ x. list_any (λ y. bytes_eq y x) all) c.index-names-i.is in
    elim c.if-not-is_among.branch [
      | then-not-is_among+in_ok-push w ↦
          (let unseen : c.is_among.result ≡ false = search rules in
          let is = w.index-names-i-then-not-is_among.is ∙ same_read names i w.index-names-i-then-not-is_among.result d c.loop-i-test.true in
          let items = ap (λ v. map (λ x. x.now) v.items) w.all-is ∙ ap (λ xs. map (λ x. x.now) xs) w.in_ok-push.ensures.items in
          let rest = distinct_more names i d c.loop-i-test.true all (sym same ∙ unseen) ∙ c.loop-i.invariant in
          let now = items ∙ map-append (λ x. x.now) c.loop-i.all.items _ ∙ ap (λ x. all ++ x ∷ []) is in
          ap (λ z. z ++ distinct_by (reverse z) (drop (i + 1) names)) now ∙ rest)
      | else-not-is_among w ↦
          (let seen : c.is_among.result ≡ true = search rules in
          ap (λ v. map (λ x. x.now) v.items ++ distinct_by (reverse (map (λ x. x.now) v.items)) (drop (i + 1) names)) w.all-is
          ∙ distinct_same names i d c.loop-i-test.true all (sym same ∙ seen)
          ∙ c.loop-i.invariant)
    ]
