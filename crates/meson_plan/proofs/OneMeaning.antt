-- A command means one thing of the files and trees of a project.
use Rattle.std.proofs.Common.{◌≡◌, [], Ok, sym, ap, ap₂, ◌∙◌}
use Rattle.meson_splice.specs.Patch.{then_ok}
use Rattle.meson_calls.specs.Loading.{Loaded, named_trees, project, trees}
use Rattle.meson_steps.specs.Done.{Meaning}
use Rattle.meson_steps.specs.declared.command.Command.{Command}
use Rattle.meson_steps.specs.declared.command.Command.TheVariants as command
use Rattle.meson_places.proofs.OneMeaning.{arguments_one, arguments_same, value_places_same}
use Rattle.meson_code.proofs.OneMeaning.{code_removed_same, code_steps_same}
use Rattle.meson_sources.specs.Targeted.{sorted_steps}
use Rattle.meson_plan.specs.Planning.{Means, planned}

pub means-one : (l : Loaded) (c : Command) (r s : Meaning) → Means l c r → Means l c s → r ≡ s
means-one l (command.SourcesAdd target sources) m n p q = sym p ∙ q
means-one l (command.SourcesAddSorted target sources) m n p q = sym p ∙ q
means-one l (command.SourcesRemove target sources) m n p q = sym p ∙ q
means-one l (command.SourcesRename target was now) m n p q = sym p ∙ q
means-one l (command.FollowedSources target change shared) m n p q = sym p ∙ q
means-one l (command.ExtraAdd target sources) m n p q = sym p ∙ q
means-one l (command.ExtraRemove target sources) m n p q = sym p ∙ q
means-one l (command.TargetAdd target kind subdir sources) m n p q = sym p ∙ q
means-one l (command.TargetRemove target) m n p q = sym p ∙ q
means-one l (command.TargetInfo target reading) m n p q = sym p ∙ q
means-one l (command.KwargsSet r id pairs) m n p q = sym p ∙ q
means-one l (command.KwargsAdd r id pairs) m n p q = sym p ∙ q
means-one l (command.KwargsRemove r id pairs) m n p q = sym p ∙ q
means-one l (command.KwargsDelete r id keys) m n p q = sym p ∙ q
means-one l (command.KwargsInfo r id) m n p q = sym p ∙ q
means-one l (command.OptionsSet pairs) m n p q = sym p ∙ q
means-one l (command.OptionsDelete names) m n p q = sym p ∙ q
means-one l (command.Argument name change) m n p q = sym p.1 ∙ arguments_one l name change p.0 q.0 ∙ q.1
means-one l (command.ArgumentInfo name) m n p q = sym p ∙ q
means-one l (command.CodeInsert place code blank) m n p q = sym p ∙ q
means-one l (command.CodeRemove statement unused) m n p q = sym p ∙ q

module _ (l k : Loaded) (same_files : l.files ≡ k.files) (same_trees : trees l ≡ trees k) where
  same-plan : (c : Command) (m : Meaning) → planned (project l) c ≡ m → planned (project k) c ≡ m
  same-plan c m is = sym (ap₂ (λ fs ts. planned (named_trees fs ts) c) same_files same_trees) ∙ is

  pub means-same : (c : Command) (m : Meaning) → Means l c m → Means k c m
  means-same (command.SourcesAdd target sources) m is = same-plan (command.SourcesAdd target sources) m is
  means-same (command.SourcesAddSorted target sources) m is = sym (ap₂ (λ fs ts. sorted_steps fs (named_trees fs ts) target sources) same_files same_trees) ∙ is
  means-same (command.SourcesRemove target sources) m is = same-plan (command.SourcesRemove target sources) m is
  means-same (command.SourcesRename target was now) m is = same-plan (command.SourcesRename target was now) m is
  means-same (command.FollowedSources target change shared) m is = same-plan (command.FollowedSources target change shared) m is
  means-same (command.ExtraAdd target sources) m is = same-plan (command.ExtraAdd target sources) m is
  means-same (command.ExtraRemove target sources) m is = same-plan (command.ExtraRemove target sources) m is
  means-same (command.TargetAdd target kind subdir sources) m is = same-plan (command.TargetAdd target kind subdir sources) m is
  means-same (command.TargetRemove target) m is = same-plan (command.TargetRemove target) m is
  means-same (command.TargetInfo target reading) m is = same-plan (command.TargetInfo target reading) m is
  means-same (command.KwargsSet r id pairs) m is = same-plan (command.KwargsSet r id pairs) m is
  means-same (command.KwargsAdd r id pairs) m is = same-plan (command.KwargsAdd r id pairs) m is
  means-same (command.KwargsRemove r id pairs) m is = same-plan (command.KwargsRemove r id pairs) m is
  means-same (command.KwargsDelete r id keys) m is = same-plan (command.KwargsDelete r id keys) m is
  means-same (command.KwargsInfo r id) m is = same-plan (command.KwargsInfo r id) m is
  means-same (command.OptionsSet pairs) m is = same-plan (command.OptionsSet pairs) m is
  means-same (command.OptionsDelete names) m is = same-plan (command.OptionsDelete names) m is
  means-same (command.ArgumentInfo name) m is = sym (ap (λ r. then_ok r (λ c. Ok [])) (value_places_same l k same_files same_trees name)) ∙ is
  means-same (command.CodeInsert place code blank) m is = sym (code_steps_same l k same_files same_trees place code blank) ∙ is
  means-same (command.CodeRemove statement unused) m is = sym (code_removed_same l k same_files same_trees statement unused) ∙ is
  means-same (command.Argument name change) m is = (is.0, sym (arguments_same l k same_files same_trees name change is.0) ∙ is.1)
