-- What is told and done of a project goes by its files and its trees.
use Rattle.std.proofs.Common.{◌≡◌, List, [], ◌∷◌, map, Result, Ok, Err, refl, sym, ap, ap₂, ◌∙◌, subst}
use Rattle.serde_json.specs.Data.{Data}
use Rattle.meson_splice.specs.declared.file_set.File.{File}
use Rattle.meson_splice.specs.Patch.{then_ok}
use Rattle.meson_syntax.specs.declared.tree.Parsed.{Parsed}
use Rattle.meson_syntax.specs.Tree.{erase}
use Rattle.meson_syntax.specs.View.{view}
use Rattle.meson_syntax.proofs.parsing.Unique.{one-spanned}
use Rattle.meson_calls.specs.declared.refusal.Refusal.{Refusal}
use Rattle.meson_calls.specs.Loading.{AreParsed, Loaded, trees, views}
use Rattle.meson_script.proofs.ByTrees.{calls-same, targets-same, values-same}
use Rattle.meson_steps.specs.declared.command.Command.{Command}
use Rattle.meson_steps.specs.declared.command.Command.TheVariants as command
use Rattle.meson_steps.specs.declared.command.Done.{Done}
use Rattle.meson_steps.specs.ResultLimits.{plain_trees}
use Rattle.meson_steps.specs.Steps.{StepsMake, all_stepped}
use Rattle.meson_plan.proofs.OneMeaning.{means-same}
use Rattle.meson_plan.specs.Performing.{Makes, MayRefuse, Performs, unplanned, deep, large}
use Rattle.meson_plan.specs.Listing.{told}
use Rattle.meson_script.specs.Outcomes.{OneProject}

-- ---- a file has one tree with its places

same-views : (files : List File) (s t : List Parsed) → AreParsed files s → AreParsed files t → views files s ≡ views files t
same-views [] s t h k = refl
same-views (f ∷ files) [] t h k = absurd h
same-views (f ∷ files) (x ∷ s) [] h k = absurd k
same-views (f ∷ files) (x ∷ s) (y ∷ t) h k = ap₂ (λ d ds. d ∷ ds) (one-spanned f.bytes (view f.bytes x) (view f.bytes y) h.0 k.0) (same-views files s t h.1 k.1)

pub one-project : OneProject
one-project p q h k is = same-views p.files p.parsed q.parsed h.parsed (subst (λ fs. AreParsed fs q.parsed) (sym is) k.parsed) ∙ ap (λ fs. views fs q.parsed) is

-- two projects with the same files and trees
pub record Same (p q : Loaded) : Type 0 where
  pub files : p.files ≡ q.files
  pub trees : trees p ≡ trees q

same-plain : (p q : Loaded) → Same p q → plain_trees p ≡ plain_trees q
same-plain p q s = ap (map erase) s.trees

-- ---- what is told

abbrev only : Result Data Refusal → Result (List Data) Refusal
only listing = then_ok listing (λ d. Ok (d ∷ []))

pub told-same : (p q : Loaded) → Same p q → (c : Command) → told p c ≡ told q c
told-same p q s (command.TargetInfo target reading) = ap only (targets-same p q reading target s.files s.trees)
told-same p q s (command.ArgumentInfo name) = ap only (values-same p q name s.files s.trees)
told-same p q s (command.KwargsInfo role id) = ap only (calls-same p q role id s.files s.trees)
told-same p q s (command.SourcesAdd target sources) = refl
told-same p q s (command.SourcesAddSorted target sources) = refl
told-same p q s (command.SourcesRemove target sources) = refl
told-same p q s (command.SourcesRename target old new) = refl
told-same p q s (command.FollowedSources target change shared) = refl
told-same p q s (command.ExtraAdd target sources) = refl
told-same p q s (command.ExtraRemove target sources) = refl
told-same p q s (command.TargetAdd target kind subdir sources) = refl
told-same p q s (command.TargetRemove target) = refl
told-same p q s (command.KwargsSet role id pairs) = refl
told-same p q s (command.KwargsAdd role id pairs) = refl
told-same p q s (command.KwargsRemove role id pairs) = refl
told-same p q s (command.KwargsDelete role id keys) = refl
told-same p q s (command.OptionsSet pairs) = refl
told-same p q s (command.OptionsDelete names) = refl
told-same p q s (command.Argument name change) = refl
told-same p q s (command.CodeInsert place code blank) = refl
told-same p q s (command.CodeRemove statement unused) = refl

-- ---- what is done

abbrev made-same : (p q : Loaded) (c : Command) → Same p q → Makes p c → Makes q c
made-same p q c s m = record {
  steps = m.steps;
  are_planned = means-same p q s.files s.trees c (Ok m.steps) m.are_planned;
  trees = m.trees;
  are_trees = ap (all_stepped m.steps) (sym (same-plain p q s)) ∙ m.are_trees;
  splices = m.splices;
  files = m.files;
  bytes = m.bytes;
  are_done = subst (λ fs. StepsMake fs m.steps m.splices m.files m.bytes) s.files m.are_done;
}

pub performs-same : (p q : Loaded) (c : Command) (done : Done) (new : Loaded) → Same p q → Performs p c done new → Performs q c done new
performs-same p q c done new s h = record {
  made = made-same p q c s h.made;
  shallow = h.shallow;
  small = h.small;
  is_change = h.is_change;
  is_untitled = h.is_untitled;
  is_relexed = h.is_relexed;
  are_files = h.are_files;
  are_trees = h.are_trees;
}

pub refuses-same : (p q : Loaded) (c : Command) (e : Refusal) → Same p q → MayRefuse p c e → MayRefuse q c e
refuses-same p q c e s (unplanned f is) = unplanned e (means-same p q s.files s.trees c (Err e) is)
refuses-same p q c e s (deep steps trees is stepped high) =
    deep steps trees (means-same p q s.files s.trees c (Ok steps) is) (ap (all_stepped steps) (sym (same-plain p q s)) ∙ stepped) high
refuses-same p q c e s (large made shallow wide) = large (made-same p q c s made) shallow wide
