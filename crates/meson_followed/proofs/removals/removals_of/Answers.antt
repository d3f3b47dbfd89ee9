use Rattle.std.proofs.Common.{◌≡◌, ◌+◌, [], ◌∷◌, drop, map, sym, ap, ◌∙◌}
use Rattle.std.specs.Prelude.{true, Some, option_map}
use Rattle.std.proofs.lemmas.List.{at_drop_more, map-append}
use Rattle.meson_followed.specs.CodeEdits.{met_view}
use Rattle.meson_followed.specs.CodeRemovals.{removal_view}
use Rattle.meson_followed.specs.FollowedEdits.{removal_of, removals_of}
use Rattle.meson_followed.specs.Sources.{has_path, sources_at}
use Rattle.meson_followed.proofs.RemovedSources.{none_removed, one_removed, with_first}
use Rattle.meson_followed.proofs.removals.removals_of.Goals as goal
use Rattle.meson_followed.proofs.removals.removals_of.Goals.{then-eq+in_ok-removal+in-Some+in_ok-push, else-eq}

pub loop-i-preserved : goal.loop-i-preserved
loop-i-preserved c =
    let path = c.args.path.now in
    let sources = c.args.sources.now in
    let i = c.loop-i.i in
    let x = c.index-sources-i.result in
    let rest = map met_view (drop (i + 1) sources) in
    let later = removals_of (sources_at rest path) in
    let old = map removal_view c.loop-i.all.items in
    let is = at_drop_more (λ ys. with_first old (removals_of (sources_at (map met_view ys) path))) sources i x c.loop-i-test.true
    ∙ ap (λ y. with_first old (removals_of (sources_at (met_view y ∷ rest) path))) (sym c.index-sources-i.is) in
    elim c.if-eq.branch [
      | then-eq+in_ok-removal+in-Some+in_ok-push w ↦
          (let r = w.in-Some.removal in
          let removal_is : removal_of (met_view x) ≡ Some (removal_view r) = sym w.in_ok-removal.ensures ∙ ap (option_map removal_view) w.in-Some.is in
          let here : has_path path (met_view x) ≡ true = sym c.eq.ensures ∙ w.if-eq.true in
          ap (λ v. with_first (map removal_view v.items) later) w.all-is
          ∙ ap (λ xs. with_first (map removal_view xs) later) w.in_ok-push.ensures.items
          ∙ ap (λ xs. with_first xs later) (map-append removal_view c.loop-i.all.items (r ∷ []))
          ∙ one_removed path old (met_view x) rest (removal_view r) here removal_is ∙ sym is ∙ c.loop-i.invariant)
      | else-eq w ↦
          (ap (λ v. with_first (map removal_view v.items) later) w.all-is
          ∙ none_removed path old (met_view x) rest (sym c.eq.ensures ∙ w.if-eq.false) ∙ sym is ∙ c.loop-i.invariant)
    ]
