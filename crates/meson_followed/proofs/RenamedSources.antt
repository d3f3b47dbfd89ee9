-- The steps that rename sources, by what the code finds and checks.
use Rattle.std.proofs.Common.{◌≡◌, ℕ, ◌<◌, ◌≤◌, List, [], ◌∷◌, ap, ◌∙◌}
use Rattle.std.specs.Prelude.{Bool, true, false, if◌then◌else◌, Result, Ok, Err}
use Rattle.std.specs.List.{list_any}
use Rattle.meson_lex.specs.declared.kinds.Span.{Span}
use Rattle.meson_splice.specs.Patch.{then_ok}
use Rattle.meson_syntax.specs.declared.tree.List as rust
use Rattle.meson_calls.specs.declared.call.CallRef.{CallRef}
use Rattle.meson_calls.specs.declared.refusal.Refusal.{Refusal}
use Rattle.meson_calls.specs.declared.refusal.Refusal.TheVariants.{DuplicateKeyword, ThereAlready}
use Rattle.meson_calls.specs.Calls.{Call}
use Rattle.meson_calls.specs.NamedArguments.{sources_key}
use Rattle.meson_calls.specs.Project.{Placed, Project}
use Rattle.meson_following.specs.Following.{Mark, follow_marks}
use Rattle.meson_sharing.specs.Sharing.{is_unshared}
use Rattle.meson_steps.specs.Names.{checked_names}
use Rattle.meson_steps.specs.Steps.{Step}
use Rattle.meson_steps.specs.declared.source_change.SharedLists.{SharedLists}
use Rattle.meson_followed.specs.CodeRemovals.{pass_if_kept}
use Rattle.meson_followed.specs.FollowedEdits.{Removal, if_may_go, removals_named}
use Rattle.meson_followed.specs.Renaming.{followed_renamed, if_fresh, renamed_from, renamed_steps}
use Rattle.meson_followed.specs.Sources.{has_path, named_path, sources_of}
use Rattle.meson_followed.proofs.AddedSources.{args, checked_few, checked_many, it}
use Rattle.meson_followed.proofs.RemovedSources.{may_go_if}

-- ---- what is found

module _ (p : Project Span) (c : Placed (Call Span)) (shared : SharedLists) (marks : List (Mark Span)) (old new : List ℕ) where
  abbrev fresh_of : List Removal → Result (List Step) Refusal
  fresh_of rs = if_fresh p c.place.file (sources_of p c.place.file marks) new rs

  abbrev found_then : Result (List Removal) Refusal → Result (List Step) Refusal
  found_then r = then_ok r (λ rs. then_ok (if_may_go p c shared rs) fresh_of)

  pub none_found : (e : Refusal) → removals_named p c.place.file marks (old ∷ []) ≡ Err e → renamed_from p c shared marks old new ≡ Err e
  none_found e is = ap found_then is

  module _ (test : CallRef → Bool) (alike : (m : CallRef) → test m ≡ is_unshared p c m) (rs : List Removal)
      (found : removals_named p c.place.file marks (old ∷ []) ≡ Ok rs) where
    abbrev checked_and : Result (Unit {0}) Refusal → Result (List Step) Refusal
    checked_and r = then_ok (then_ok r (λ _. Ok rs)) fresh_of

    abbrev fresh_if : Bool → Result (List Step) Refusal
    fresh_if b = if b then Err ThereAlready else Ok (renamed_steps p c.place.file new rs)

    found_and_checked : renamed_from p c shared marks old new ≡ checked_and (pass_if_kept p test shared rs)
    found_and_checked = ap found_then found ∙ ap (λ r. then_ok r fresh_of) (may_go_if p c test alike shared rs)

    pub may_not_be : (e : Refusal) → pass_if_kept p test shared rs ≡ Err e → renamed_from p c shared marks old new ≡ Err e
    may_not_be e is = found_and_checked ∙ ap checked_and is

    module _ (pass : pass_if_kept p test shared rs ≡ Ok tt) where
      pub is_taken : list_any (has_path (named_path p c.place.file new)) (sources_of p c.place.file marks) ≡ true
          → renamed_from p c shared marks old new ≡ Err ThereAlready
      is_taken known = found_and_checked ∙ ap checked_and pass ∙ ap fresh_if known

      pub all_renamed : list_any (has_path (named_path p c.place.file new)) (sources_of p c.place.file marks) ≡ false
          → renamed_from p c shared marks old new ≡ Ok (renamed_steps p c.place.file new rs)
      all_renamed fresh = found_and_checked ∙ ap checked_and pass ∙ ap fresh_if fresh

-- ---- what the command means

module _ (p : Project Span) (c : CallRef) (source : List ℕ) (l : rust.List) (function : List ℕ) (shared : SharedLists) (old new : List ℕ)
    (checked : checked_names (old ∷ new ∷ []) ≡ Ok tt) where
  abbrev call : Placed (Call Span)
  call = it p c source l function shared (old ∷ new ∷ [])

  abbrev arguments : ℕ
  arguments = args p c source l function shared (old ∷ new ∷ [])

  abbrev by_marks : List (Mark Span) → Result (List Step) Refusal
  by_marks marks = renamed_from p call shared marks old new

  pub renamed : arguments ≤ 1 → followed_renamed p call shared old new ≡ renamed_from p call shared (follow_marks p call) old new
  renamed few = checked_few p c source l function shared (old ∷ new ∷ []) by_marks checked few

  pub renamed_twice : 1 < arguments → followed_renamed p call shared old new ≡ Err (DuplicateKeyword sources_key)
  renamed_twice many = checked_many p c source l function shared (old ∷ new ∷ []) by_marks checked many
