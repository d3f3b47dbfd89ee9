-- What is removed where sources are removed, as the code gathers and checks it.
use Rattle.std.proofs.Common.{◌≡◌, ℕ, List, [], ◌∷◌, ◌++◌, refl, sym, ap, append_assoc, ◌∙◌}
use Rattle.std.specs.Prelude.{Bool, true, false, if◌then◌else◌, Option, Some, None, option_map, option_and_then, Result, Ok, Err}
use Rattle.meson_lex.specs.declared.kinds.Span.{Span}
use Rattle.meson_splice.specs.Patch.{then_ok}
use Rattle.meson_calls.specs.declared.call.CallRef.{CallRef}
use Rattle.meson_calls.specs.declared.refusal.Refusal.{Refusal}
use Rattle.meson_calls.specs.declared.refusal.Refusal.TheVariants.{Shared}
use Rattle.meson_calls.specs.Calls.{Call}
use Rattle.meson_calls.specs.Project.{Placed, Project}
use Rattle.meson_following.specs.Following.{Mark}
use Rattle.meson_sharing.specs.Sharing.{is_unshared}
use Rattle.meson_steps.specs.Steps.{Step}
use Rattle.meson_steps.specs.declared.source_change.SharedLists.{SharedLists}
use Rattle.meson_steps.specs.declared.source_change.SharedLists.TheVariants.{Kept, Changed}
use Rattle.meson_followed.specs.CodeRemovals.{all_pass, pass_if_kept}
use Rattle.meson_followed.specs.FollowedEdits.{Removal, if_may_go, maker_name, none_shared, removal_of, removals_named, removals_of, removed_from, removed_steps}
use Rattle.meson_followed.specs.Homes.{by_maker}
use Rattle.meson_followed.specs.Sources.{MetSource, has_path, sources_at}

-- ==== One after another.

-- these before the others, if all of those are in lists
abbrev pub with_first : List Removal → Option (List Removal) → Option (List Removal)
with_first first more = option_map (λ rs. first ++ rs) more

put_first : (first : List Removal) (r : Removal) (more : Option (List Removal))
    → with_first (first ++ r ∷ []) more ≡ with_first first (option_map (λ rs. r ∷ rs) more)
put_first first r None = refl
put_first first r (Some rs) = ap Some (append_assoc first (r ∷ []) rs)

module _ (path : List ℕ) (first : List Removal) (x : MetSource) (rest : List MetSource) where
  abbrev others : Option (List Removal)
  others = removals_of (sources_at rest path)

  abbrev left_if : Bool → Option (List Removal)
  left_if b = with_first first (removals_of (if b then x ∷ sources_at rest path else sources_at rest path))

  pub one_removed : (r : Removal) → has_path path x ≡ true → removal_of x ≡ Some r
      → with_first (first ++ r ∷ []) others ≡ with_first first (removals_of (sources_at (x ∷ rest) path))
  one_removed r here is =
      put_first first r others ∙ ap (λ o. with_first first (option_and_then (λ s. option_map (λ rs. s ∷ rs) others) o)) (sym is) ∙ ap left_if (sym here)

  pub none_removed : has_path path x ≡ false → with_first first others ≡ with_first first (removals_of (sources_at (x ∷ rest) path))
  none_removed elsewhere = ap left_if (sym elsewhere)

-- and if those are not refused
abbrev pub after_first : List Removal → Result (List Removal) Refusal → Result (List Removal) Refusal
after_first first rest = then_ok rest (λ later. Ok (first ++ later))

-- ==== Lists that others get.

module _ (p : Project Span) (c : Placed (Call Span)) (shared : SharedLists) (marks : List (Mark Span)) (names : List (List ℕ)) where
  abbrev found_then : Result (List Removal) Refusal → Result (List Step) Refusal
  found_then r = then_ok r (λ rs. then_ok (if_may_go p c shared rs) (λ gone. Ok (removed_steps gone)))

  pub not_found : (e : Refusal) → removals_named p c.place.file marks names ≡ Err e → removed_from p c shared marks names ≡ Err e
  not_found e is = ap found_then is

module _ (p : Project Span) (c : Placed (Call Span)) (test : CallRef → Bool) (alike : (m : CallRef) → test m ≡ is_unshared p c m) where
  alike_by : (m : Option CallRef) → by_maker test m ≡ by_maker (is_unshared p c) m
  alike_by None = refl
  alike_by (Some m) = alike m

  one_more : (b : Bool) (r : Removal) (rs : List Removal) (e : Refusal) (checked : Result (Unit {0}) Refusal)
      → (if b then then_ok (then_ok checked (λ _. Ok rs)) (λ gone. Ok (r ∷ gone)) else Err e) ≡ then_ok (if b then checked else Err e) (λ _. Ok (r ∷ rs))
  one_more true r rs e (Ok u) = refl
  one_more true r rs e (Err d) = refl
  one_more false r rs e checked = refl

  none_are_shared : (rs : List Removal) → none_shared p c rs ≡ then_ok (all_pass p test rs) (λ _. Ok rs)
  none_are_shared [] = refl
  none_are_shared (r ∷ rs) =
      let why = Shared (maker_name p r.maker) in
      ap (λ b. if b then then_ok (none_shared p c rs) (λ gone. Ok (r ∷ gone)) else Err why) (sym (alike_by r.maker))
      ∙ ap (λ o. if by_maker test r.maker then then_ok o (λ gone. Ok (r ∷ gone)) else Err why) (none_are_shared rs)
      ∙ one_more (by_maker test r.maker) r rs why (all_pass p test rs)

  pub may_go_if : (shared : SharedLists) (rs : List Removal) → if_may_go p c shared rs ≡ then_ok (pass_if_kept p test shared rs) (λ _. Ok rs)
  may_go_if Kept rs = none_are_shared rs
  may_go_if Changed rs = refl

  module _ (shared : SharedLists) (marks : List (Mark Span)) (names : List (List ℕ)) (rs : List Removal)
      (found : removals_named p c.place.file marks names ≡ Ok rs) where
    abbrev checked_then : Result (Unit {0}) Refusal → Result (List Step) Refusal
    checked_then r = then_ok (then_ok r (λ _. Ok rs)) (λ gone. Ok (removed_steps gone))

    found_and_checked : removed_from p c shared marks names ≡ checked_then (pass_if_kept p test shared rs)
    found_and_checked = ap (found_then p c shared marks names) found ∙ ap (λ r. then_ok r (λ gone. Ok (removed_steps gone))) (may_go_if shared rs)

    pub may_not_go : (e : Refusal) → pass_if_kept p test shared rs ≡ Err e → removed_from p c shared marks names ≡ Err e
    may_not_go e is = found_and_checked ∙ ap checked_then is

    pub all_go : pass_if_kept p test shared rs ≡ Ok tt → removed_from p c shared marks names ≡ Ok (removed_steps rs)
    all_go is = found_and_checked ∙ ap checked_then is
