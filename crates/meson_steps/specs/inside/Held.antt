-- A list that steps changed and that is not yet in its tree.
use Rattle.std.specs.Prelude.{◌≡◌, ℕ, ◌+◌, ◌^◌, ◌<◌, List, [], ◌∷◌, ◌++◌, length, slice_index_or, Option, Some, None, Result, Ok, IfOk, ⊤}
use Rattle.meson_splice.specs.declared.splice.Splice.{Splice}
use Rattle.meson_splice.specs.Files.{bytes_at}
use Rattle.meson_splice.specs.Patch.{patched_all}
use Rattle.meson_syntax.specs.declared.tree.List as rust
use Rattle.meson_syntax.specs.declared.tree.Parsed.{Parsed}
use Rattle.meson_syntax.specs.MovedCode.{moved_list}
use Rattle.meson_syntax.specs.ReadsList.{IsSpannedListWithin}
use Rattle.meson_syntax.specs.Tree.{erase_listing}
use Rattle.meson_syntax.specs.View.{list_view}
use Rattle.meson_steps.specs.declared.held.HeldList.{HeldList}
use Rattle.meson_steps.specs.declared.journal.Saved.TheVariants as saved
use Rattle.meson_steps.specs.declared.spans.ListSpot.{ListSpot}
use Rattle.meson_steps.specs.declared.work.Work.{Work}
use Rattle.meson_steps.specs.Journal.{changed_tree}
use Rattle.meson_steps.specs.inside.Journal.{IsSavedToo, MayTakeMoved, settled_tree}
use Rattle.meson_steps.specs.declared.step.ListStep.{ListStep}
use Rattle.meson_calls.specs.declared.call.CallRef.{CallRef}
use Rattle.meson_calls.specs.declared.refusal.Refusal.{Refusal}
use Rattle.meson_calls.specs.Loading.{Loaded}
use Rattle.meson_steps.specs.ListSteps.{bare, wide_depth}
use Rattle.meson_steps.specs.ResultLimits.{saturated}
use Rattle.meson_steps.specs.Steps.{Step}
use Rattle.meson_steps.specs.Working.{HasReached, MayReadList, Standing, standing}
use Rattle.meson_steps.specs.inside.Working.{IsChanged, list_again}

-- what is made once a list that is held back is in its tree; of the tree's file something is saved then
abbrev pub settled : Option HeldList → Work → Standing
settled None w = standing w
settled (Some h) w = record (standing w) {
  trees = changed_tree h.list.place.file (settled_tree h.list) w.trees.items;
  saved = saved.List h.list ∷ w.saved.items;
}

-- A list is held back that the file already has, and that may take the place of the one in the file's tree, `t`.
pub record IsHeldOf (t : Parsed) (bytes : List ℕ) (h : HeldList) : Type 0 where
  pub of : MayTakeMoved t h.list
  pub bracket : h.bracket ≡ of.takes.p.bracket
  pub text : bytes ≡ of.takes.front ++ (of.takes.now ++ of.takes.back)

pub record IsHeld (w : Work) (h : HeldList) : Type 0 where
  pub there : h.list.place.file < length w.trees.items
  pub is : (d : Parsed) → IsHeldOf (slice_index_or w.trees.items h.list.place.file d) (bytes_at h.list.place.file w.files) h

abbrev pub MayHold : Work → Option HeldList → Type 0
MayHold w None = ⊤
MayHold w (Some h) = IsHeld w h

-- A list of the tree `t` is held back that the splices of its file made.
abbrev pub IsHeldThen : Standing → Work → CallRef → List Splice → Parsed → HeldList → Type 0
IsHeldThen old new place splices t h = IsChanged old (settled (Some h) new) place.file splices (list_again old.files new.files place t)

-- Whatever step that is meant is the code's: where it is the next one, it is done.
abbrev pub DoesStep : ListStep → Standing → Result (Option HeldList) Refusal → Work → Type 0
DoesStep step now result new = (old : Loaded) (before rest : List Step) (s : Step) → bare s ≡ Some step → HasReached old before (s ∷ rest) now
    → IfOk result (λ h. HasReached old (before ++ s ∷ []) rest (settled h new))

-- The list is in its tree, and nothing else changed.
pub record IsSettled (old : Work) (h : HeldList) (new : Work) : Type 0 where
  pub trees : new.trees.items ≡ (settled (Some h) old).trees
  pub are_saved : IsSavedToo h.list.place.file old.saved.items new.saved.items
  pub splices : new.splices.items ≡ old.splices.items
  pub files : new.files ≡ old.files
  pub relexed : new.relexed ≡ old.relexed

-- Splices are made, and a list is parsed from its new text, moved to its place; it has this number of bytes.
pub record IsReadAgain (old new : Work) (file : ℕ) (splices : List Splice) (spot : ListSpot) (m : MayReadList old.files file splices spot) (list : rust.List)
    (bytes : ℕ) : Type 0 where
  pub are_files : patched_all old.files splices ≡ Ok new.files
  pub are_splices : new.splices.items ≡ old.splices.items ++ splices
  pub is_relexed : new.relexed ≡ saturated (old.relexed + bytes)
  pub size : bytes ≡ length m.now
  pub own : rust.List
  pub is_own : IsSpannedListWithin wide_depth spot.bracket m.now (list_view m.now own)
  pub found : erase_listing (list_view m.now own) ≡ m.list
  pub moved : list ≡ moved_list (λ n. n + spot.span.from) own
  pub before_fits : length (bytes_at file old.files) < 2 ^ 64
  pub after_fits : length (bytes_at file new.files) < 2 ^ 64
