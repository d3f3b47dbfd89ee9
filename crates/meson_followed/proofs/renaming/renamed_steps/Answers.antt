use Rattle.std.proofs.Common.{◌≡◌, ◌+◌, suc, List, [], ◌∷◌, ◌++◌, map, take, drop, get_or, sym, ap, subst, add-one, append_assoc, drop-cons, ◌∙◌}
use Rattle.std.specs.Prelude.{Some}
use Rattle.std.specs.List.{All}
use Rattle.std.specs.Str.{IsUtf8}
use Rattle.std.proofs.lemmas.List.{map-append, take_all}
use Rattle.std.proofs.lemmas.List.Elements.{All-append, All-cons, All-nil}
use Rattle.std.proofs.Math.Seq.{take-suc}
use Rattle.meson_following.specs.CodeFollowing.{followed_project}
use Rattle.meson_sources.specs.SourceEdits.{renaming}
use Rattle.meson_sources.specs.inside.CodeSpots.{spot_view}
use Rattle.meson_steps.specs.ListSteps.{bare}
use Rattle.meson_followed.specs.CodeRemovals.{removal_view}
use Rattle.meson_followed.specs.CodeRenamings.{written_for}
use Rattle.meson_followed.specs.Renaming.{renamed_steps}
use Rattle.meson_followed.specs.Sources.{name_for}
use Rattle.meson_followed.proofs.renaming.renamed_steps.Goals as goal

pub loop-i-preserved : goal.loop-i-preserved
loop-i-preserved c =
    let p = followed_project c.args.follower.now in
    let n = c.args.number in
    let new = c.args.new.now in
    let found = c.args.found.now in
    let i = c.loop-i.i in
    let r = c.index-found-i.result in
    let within = c.loop-i-test.true in
    let steps = map Some c.loop-i.steps.items in
    let left = map bare (renamed_steps p n new (map removal_view (drop (i + 1) found))) in
    let here : get_or found i r ≡ r = sym c.index-found-i.is in
    let next : drop i found ≡ r ∷ drop (i + 1) found =
    drop-cons found i r within ∙ ap (λ y. y ∷ drop (suc i) found) here ∙ ap (λ k. r ∷ drop k found) (sym (add-one i)) in
    let name = c.in_ok-name.ensures in
    let taken : take (i + 1) found ≡ take i found ++ r ∷ [] =
    ap (λ k. take k found) (add-one i) ∙ take-suc found i r within ∙ ap (λ y. take i found ++ y ∷ []) here in
    let written = λ (rs : List _). written_for p n new (map removal_view rs) in
    let utf8 : IsUtf8 (name_for p n new r.base) = subst IsUtf8 name c.in_ok-push_renaming.ensures.utf8 in
    record {
      steps =
          ap (λ xs. xs ++ left) c.in_ok-push_renaming.ensures.done
          ∙ append_assoc steps _ left
          ∙ ap (λ t. steps ++ (bare (renaming t (spot_view r.spot)) ∷ left)) name
          ∙ ap (λ rs. steps ++ map bare (renamed_steps p n new (map removal_view rs))) (sym next)
          ∙ c.loop-i.invariant.steps;
      utf8 =
          subst (All IsUtf8)
          (sym (ap written taken ∙ ap (λ rs. written_for p n new rs) (map-append removal_view (take i found) (r ∷ []))
          ∙ map-append (λ s. name_for p n new s.base) (map removal_view (take i found)) (map removal_view (r ∷ []))))
          (All-append IsUtf8 (written (take i found)) (name_for p n new r.base ∷ []) c.loop-i.invariant.utf8
          (All-cons IsUtf8 (name_for p n new r.base) [] utf8 (All-nil IsUtf8)));
    }

pub returns-clause-utf8 : goal.returns-clause-utf8
returns-clause-utf8 c =
    let p = followed_project c.args.follower.now in
    let all = take_all c.loop-i.i c.args.found.now c.loop-i-test.false in
    subst (λ rs. All IsUtf8 (written_for p c.args.number c.args.new.now (map removal_view rs))) all c.loop-i.invariant.utf8
