-- The name that a refusal means is a word of its command.
use Rattle.std.proofs.Common.{◌≡◌, ℕ, Bool, true, false, List, [], ◌∷◌, cond, find, map, option_map, Option, None, Some, inl, inr}
use Rattle.meson_calls.specs.declared.refusal.Refusal.{Refusal}
use Rattle.meson_calls.specs.declared.refusal.Refusal.TheVariants as refusal
use Rattle.meson_calls.specs.Loading.{Loaded}
use Rattle.meson_explaining.specs.Followed.{is_absent, place_of}
use Rattle.meson_explaining.specs.Names.{bad_name, find_key, is_bad_option, is_bad_pair, is_empty_name, meant_name, missing_name}
use Rattle.meson_explaining.specs.Sources.{extras_at, is_missing, sources_at}
use Rattle.meson_steps.specs.declared.command.Command.{Command}
use Rattle.meson_steps.specs.declared.command.Command.TheVariants.{SourcesAdd, SourcesAddSorted, SourcesRemove, SourcesRename, FollowedSources, ExtraAdd, ExtraRemove, TargetAdd, TargetRemove, TargetInfo, KwargsSet, KwargsAdd, KwargsRemove, KwargsDelete, KwargsInfo, OptionsSet, OptionsDelete, Argument, ArgumentInfo, CodeInsert, CodeRemove}
use Rattle.meson_steps.specs.declared.source_change.SourceChange.TheVariants as change
use Rattle.meson_rewrite.specs.RefusalLaws.{IsAmong, SubjectsAreWords, id_and, words_of}
use Rattle.meson_rewrite.specs.Subjects.{anchor_id, folder_of, id_in, id_of, subject_of}

some-same : {X : Type 0} (x y : X) → Some x ≡ Some y → x ≡ y
some-same x y e = cc

not-none : (X : Type 0) (x : X) → None ≡ Some x → ⊥
not-none X x e = cc

module _ (name : List ℕ) where
  -- the first name that passes a test is one of them
  found_among : (test : List ℕ → Bool) (names : List (List ℕ)) → find test names ≡ Some name → IsAmong names name
  found_among test [] e = absurd (not-none (List ℕ) name e)
  found_among test (x ∷ names) e = go (test x) (found_among test names) e where
    go : (b : Bool) → (find test names ≡ Some name → IsAmong names name) → cond b (Some x) (find test names) ≡ Some name → IsAmong (x ∷ names) name
    go true more e = inl (some-same x name e)
    go false more e = inr (more e)

  key_among : {X : Type 0} (test : List ℕ × X → Bool) (pairs : List (List ℕ × X)) → find_key test pairs ≡ Some name → IsAmong (map (λ p. p.0) pairs) name
  key_among test [] e = absurd (not-none (List ℕ) name e)
  key_among {X} test (p ∷ pairs) e = go (test p) (key_among test pairs) e where
    go : (b : Bool) → (find_key test pairs ≡ Some name → IsAmong (map (λ p. p.0) pairs) name)
        → option_map (λ p. p.0) (cond b (Some p) (find test pairs)) ≡ Some name → IsAmong (p.0 ∷ map (λ p. p.0) pairs) name
    go true more e = inl (some-same p.0 name e)
    go false more e = inr (more e)

  id_first : (id : Option (List ℕ)) (more : List (List ℕ)) → id ≡ Some name → IsAmong (id_and id more) name
  id_first None more e = absurd (not-none (List ℕ) name e)
  id_first (Some id) more e = inl (some-same id name e)

  id_among : (c : Command) → id_of c ≡ Some name → IsAmong (words_of c) name
  id_among (SourcesAdd target sources) e = inl (some-same target.id name e)
  id_among (SourcesAddSorted target sources) e = inl (some-same target.id name e)
  id_among (SourcesRemove target sources) e = inl (some-same target.id name e)
  id_among (SourcesRename target old new) e = inl (some-same target.id name e)
  id_among (FollowedSources target (change.Add names) shared) e = inl (some-same target.id name e)
  id_among (FollowedSources target (change.Remove names) shared) e = inl (some-same target.id name e)
  id_among (FollowedSources target (change.Rename old new) shared) e = inl (some-same target.id name e)
  id_among (ExtraAdd target sources) e = inl (some-same target.id name e)
  id_among (ExtraRemove target sources) e = inl (some-same target.id name e)
  id_among (TargetAdd target kind subdir sources) e = inl (some-same target name e)
  id_among (TargetRemove target) e = inl (some-same target.id name e)
  id_among (TargetInfo target reading) e = inl (some-same target.id name e)
  id_among (KwargsSet role call pairs) e = inl (some-same call.id name e)
  id_among (KwargsAdd role call pairs) e = inl (some-same call.id name e)
  id_among (KwargsRemove role call pairs) e = inl (some-same call.id name e)
  id_among (KwargsDelete role call keys) e = inl (some-same call.id name e)
  id_among (KwargsInfo role call) e = inl (some-same call.id name e)
  id_among (OptionsSet pairs) e = absurd (not-none (List ℕ) name e)
  id_among (OptionsDelete names) e = absurd (not-none (List ℕ) name e)
  id_among (Argument n change) e = id_first (id_in n.place.name) n.keys e
  id_among (ArgumentInfo n) e = id_first (id_in n.place.name) n.keys e
  id_among (CodeInsert place code blank) e = id_first (anchor_id place) [] e
  id_among (CodeRemove statement unused) e = id_first (id_in statement.name) [] e

  new_among : (target subdir : List ℕ) (sources : List (List ℕ)) → find is_empty_name (target ∷ sources) ≡ Some name
      → IsAmong (target ∷ subdir ∷ sources) name
  new_among target subdir sources e = go (found_among is_empty_name (target ∷ sources) e) where
    go : IsAmong (target ∷ sources) name → IsAmong (target ∷ subdir ∷ sources) name
    go (inl is) = inl is
    go (inr more) = inr (inr more)

  bad_among : (c : Command) → bad_name c ≡ Some name → IsAmong (words_of c) name
  bad_among (SourcesAdd target sources) e = inr (found_among is_empty_name sources e)
  bad_among (SourcesAddSorted target sources) e = inr (found_among is_empty_name sources e)
  bad_among (SourcesRemove target sources) e = inr (found_among is_empty_name sources e)
  bad_among (SourcesRename target old new) e = inr (found_among is_empty_name (old ∷ new ∷ []) e)
  bad_among (FollowedSources target (change.Add names) shared) e = inr (found_among is_empty_name names e)
  bad_among (FollowedSources target (change.Remove names) shared) e = inr (found_among is_empty_name names e)
  bad_among (FollowedSources target (change.Rename old new) shared) e = inr (found_among is_empty_name (old ∷ new ∷ []) e)
  bad_among (ExtraAdd target sources) e = inr (found_among is_empty_name sources e)
  bad_among (ExtraRemove target sources) e = inr (found_among is_empty_name sources e)
  bad_among (TargetAdd target kind subdir sources) e = new_among target subdir sources e
  bad_among (KwargsSet role id pairs) e = inr (key_among (is_bad_pair role) pairs e)
  bad_among (KwargsAdd role id pairs) e = inr (key_among (is_bad_pair role) pairs e)
  bad_among (KwargsRemove role id pairs) e = inr (key_among (is_bad_pair role) pairs e)
  bad_among (OptionsSet pairs) e = key_among (λ p. is_bad_option p.0) pairs e
  bad_among (OptionsDelete names) e = found_among is_bad_option names e
  bad_among _ e = absurd (not-none (List ℕ) name e)

  old_among : (old new : List ℕ) → IsAmong (old ∷ []) name → IsAmong (old ∷ new ∷ []) name
  old_among old new (inl is) = inl is
  old_among old new (inr none) = absurd none

  missing_among : (found : Loaded) (c : Command) → missing_name found c ≡ Some name → IsAmong (words_of c) name
  missing_among found (SourcesRemove target sources) e = inr (found_among (is_missing (sources_at found target)) sources e)
  missing_among found (SourcesRename target old new) e = inr (old_among old new (found_among (is_missing (sources_at found target)) (old ∷ []) e))
  missing_among found (FollowedSources target (change.Remove names) shared) e = inr (found_among (is_absent found (place_of found target)) names e)
  missing_among found (FollowedSources target (change.Rename old new) shared) e =
      inr (old_among old new (found_among (is_absent found (place_of found target)) (old ∷ []) e))
  missing_among found (ExtraRemove target sources) e = inr (found_among (is_missing (extras_at found target)) sources e)
  missing_among found _ e = absurd (not-none (List ℕ) name e)

  folder_among : (c : Command) → folder_of c ≡ Some name → IsAmong (words_of c) name
  folder_among (TargetAdd target kind subdir sources) e = inr (inl (some-same subdir name e))
  folder_among _ e = absurd (not-none (List ℕ) name e)

-- ---- by the reason

pub subjects_are_words : SubjectsAreWords
subjects_are_words found c refusal.NotFound name e = id_among name c e
subjects_are_words found c refusal.Ambiguous name e = id_among name c e
subjects_are_words found c refusal.NameTaken name e = id_among name c e
subjects_are_words found c refusal.NoFile name e = folder_among name c e
subjects_are_words found c refusal.BadName name e = bad_among name c e
subjects_are_words found c refusal.SourceNotFound name e = missing_among name found c e
subjects_are_words found c refusal.Unresolved name e = missing_among name found c e
subjects_are_words found c _ name e = absurd (not-none (List ℕ) name e)
