-- What renaming promises where variables are followed.
use Rattle.std.proofs.Common.{◌≡◌, ℕ, List, [], ◌∷◌, refl, sym, ap, ◌∙◌}
use Rattle.std.specs.Prelude.{Bool, true, false, if◌then◌else◌, Ok, Err}
use Rattle.std.specs.List.{All, list_any}
use Rattle.std.proofs.lemmas.Bool.{false≢true}
use Rattle.std.proofs.lemmas.List.Elements.{All-head}
use Rattle.std.proofs.lemmas.List.Folds.{list_any-from_Any}
use Rattle.std.proofs.lemmas.Slice.Eq.{bytes_eq-Decides}
use Rattle.meson_lex.specs.declared.kinds.Span.{Span}
use Rattle.meson_splice.specs.Patch.{then_ok}
use Rattle.meson_calls.specs.declared.refusal.Refusal.TheVariants.{ThereAlready}
use Rattle.meson_calls.specs.Calls.{Call, keyword}
use Rattle.meson_calls.specs.NamedArguments.{once, sources_key}
use Rattle.meson_calls.specs.Project.{Placed, Project}
use Rattle.meson_following.specs.Following.{Mark, follow_marks}
use Rattle.meson_steps.specs.Names.{checked_names}
use Rattle.meson_steps.specs.Steps.{Step}
use Rattle.meson_steps.specs.declared.source_change.SharedLists.{SharedLists}
use Rattle.meson_steps.specs.declared.source_change.SharedLists.TheVariants.{Kept, Changed}
use Rattle.meson_followed.specs.FollowedEdits.{Removal, if_may_go, removals_named}
use Rattle.meson_followed.specs.Laws.{AllGo, IsForOne, IsFresh, IsNamed, Renames, RenamesForOne, met_sources}
use Rattle.meson_followed.specs.Renaming.{followed_renamed, if_fresh, renamed_from, renamed_steps}
use Rattle.meson_followed.specs.Sources.{has_path, named_path}
use Rattle.meson_followed.proofs.EditLaws.{all_found_go, none_are_shared, once_is}
use Rattle.meson_followed.proofs.NamedElements.{all_these, ok_then, only_these}

module _ (p : Project Span) (c : Placed (Call Span)) where
  abbrev taken : List ℕ → Bool
  taken new = list_any (has_path (named_path p c.place.file new)) (met_sources p c)

  -- what is found by the old name, and is renamed
  pub record AreRenamed (shared : SharedLists) (old new : List ℕ) (steps : List Step) : Type 0 where
    pub renamed : List Removal
    pub are_found : removals_named p c.place.file (follow_marks p c) (old ∷ []) ≡ Ok renamed
    pub for_one : shared ≡ Kept → All (λ r. IsForOne p c r.maker) renamed
    pub is_new : taken new ≡ false
    pub are_steps : renamed_steps p c.place.file new renamed ≡ steps

  may_all : (shared : SharedLists) (rs gone : List Removal) → if_may_go p c shared rs ≡ Ok gone → shared ≡ Kept → All (λ r. IsForOne p c r.maker) rs
  may_all Kept rs gone may kept = (none_are_shared p c rs gone may).are_for_one
  may_all Changed rs gone may kept = absurd cc

  pub renamed_by : (shared : SharedLists) (old new : List ℕ) (steps : List Step) → followed_renamed p c shared old new ≡ Ok steps → AreRenamed shared old new steps
  renamed_by shared old new steps is =
      let by_marks = λ (marks : List (Mark Span)). renamed_from p c shared marks old new in
      let called = once sources_key (keyword sources_key c.it) (follow_marks p c) in
      let checked = ok_then (checked_names (old ∷ new ∷ [])) (λ _. then_ok called by_marks) steps is in
      let met = ok_then called by_marks steps checked.2 in
      let marks_are : follow_marks p c ≡ met.0 = once_is sources_key (keyword sources_key c.it) (follow_marks p c) met.0 met.1 in
      let fresh_by = λ (rs : List Removal). if_fresh p c.place.file (met_sources p c) new rs in
      let gone_by = λ (rs : List Removal). then_ok (if_may_go p c shared rs) fresh_by in
      let named = ok_then (removals_named p c.place.file (follow_marks p c) (old ∷ [])) gone_by steps (ap by_marks marks_are ∙ met.2) in
      let may = ok_then (if_may_go p c shared named.0) fresh_by steps named.2 in
      go named.0 may.0 named.1 may.1 (taken new) refl may.2
    where
      go : (found renamed : List Removal) → removals_named p c.place.file (follow_marks p c) (old ∷ []) ≡ Ok found → if_may_go p c shared found ≡ Ok renamed
          → (b : Bool) → taken new ≡ b → (if b then Err ThereAlready else Ok (renamed_steps p c.place.file new renamed)) ≡ Ok steps → AreRenamed shared old new steps
      go found renamed are may true known is = absurd cc
      go found renamed are may false fresh is =
          let same : renamed_steps p c.place.file new renamed ≡ steps = cc in
          record {
            renamed = found;
            are_found = are;
            for_one = may_all shared found renamed may;
            is_new = fresh;
            are_steps = ap (renamed_steps p c.place.file new) (all_found_go p c shared found renamed may) ∙ same;
          }

  module _ (shared : SharedLists) (old new : List ℕ) (steps : List Step) (r : AreRenamed shared old new steps) where
    pub only_old : All (IsNamed p c (old ∷ [])) r.renamed
    only_old = only_these p c (old ∷ []) r.renamed r.are_found

    pub all_old : AllGo p c r.renamed old
    all_old = All-head (AllGo p c r.renamed) old [] (all_these p c (old ∷ []) r.renamed r.are_found)

    pub is_fresh : IsFresh p c new
    is_fresh s met meant =
        let path = named_path p c.place.file new in
        let has = (bytes_eq-Decides s.path path).1 meant in
        false≢true (sym r.is_new ∙ list_any-from_Any (has_path path) (met_sources p c) (met.0, s, met.1, met.2, has))

    abbrev renames : Renames p c old new steps
    renames = record { renamed = r.renamed; are_steps = r.are_steps; only_old = only_old; all_old = all_old; is_fresh = is_fresh }

  pub old_are_renamed : (shared : SharedLists) (old new : List ℕ) (steps : List Step) → followed_renamed p c shared old new ≡ Ok steps → Renames p c old new steps
  old_are_renamed shared old new steps is = renames shared old new steps (renamed_by shared old new steps is)

  pub renamed_are_of_one : (old new : List ℕ) (steps : List Step) → followed_renamed p c Kept old new ≡ Ok steps → RenamesForOne p c old new steps
  renamed_are_of_one old new steps is =
      let r = renamed_by Kept old new steps is in
      record { renames = renames Kept old new steps r; are_for_one = r.for_one refl }
