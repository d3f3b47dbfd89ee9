-- All sources of a target after an addition and after a removal, by `sources`. What is said of them is said of its extra files too.
use Rattle.std.specs.Prelude.{◌≡◌, ℕ, not, List, ◌++◌, map, All, Option, Some, Result, Ok}
use Rattle.std.specs.List.{filter}
use Rattle.std.specs.Str.{IsUtf8}
use Rattle.meson_lex.specs.declared.kinds.Span.{Span}
use Rattle.meson_splice.specs.declared.file_set.File.{File}
use Rattle.meson_calls.specs.declared.call.CallRef.{CallRef}
use Rattle.meson_calls.specs.declared.call.Role.TheVariants as role
use Rattle.meson_variables.specs.declared.source.Sources as found
use Rattle.meson_calls.specs.declared.refusal.Refusal.{Refusal}
use Rattle.meson_calls.specs.Calls.{Call, first_literal}
use Rattle.meson_calls.specs.Finding.{the_call}
use Rattle.meson_calls.specs.Loading.{IsProject, Loaded, project}
use Rattle.meson_calls.specs.Project.{Placed, Project}
use Rattle.meson_calls.specs.Roles.{one_of}
use Rattle.meson_variables.specs.TargetSources.{source_marks, sources}
use Rattle.meson_steps.specs.ResultLimits.{plain_trees}
use Rattle.meson_steps.specs.Steps.{Step, all_stepped}
use Rattle.meson_sources.specs.SourceEdits.{new_names, sources_added, sources_removed}
use Rattle.meson_calls.specs.declared.call.CallName.{CallName}

-- These texts are in one place among the others, which stay in their order.
pub record TextsCome (new before after : List (List ℕ)) : Type 0 where
  pub front : List (List ℕ)
  pub back : List (List ℕ)
  pub had : before ≡ front ++ back
  pub has : after ≡ front ++ (new ++ back)

-- the texts of the sources that are known
abbrev pub source_texts : found.Sources → List (List ℕ)
source_texts s = map (λ i. i.value) s.items

-- what a target at a place has: its sources, or its extra files
abbrev pub Reading : Type 0
Reading = Project Span → CallRef → Option (Result found.Sources Refusal)

-- The id names one target, by a call of the function that it had. The call has the first argument that it had, if that is a literal.
pub record StillNamed (target : CallName) (c : Placed (Call Span)) (q : Project Span) : Type 0 where
  pub call : Placed (Call Span)
  pub is_call : the_call q role.Target target ≡ Ok call
  pub function : call.it.function ≡ c.it.function
  pub first : first_literal call.it ≡ first_literal c.it

-- The one target that the id names is where it was. Its files are those that it had and, in one place among them, these. The number of unknown expressions is
-- as before.
pub record FilesGrow (read : Reading) (new : List (List ℕ)) (target : CallName) (c : Placed (Call Span)) (p q : Project Span) : Type 0 where
  pub named : StillNamed target c q
  pub stays : named.call.place ≡ c.place
  pub before : found.Sources
  pub were : read p c.place ≡ Some (Ok before)
  pub after : found.Sources
  pub are : read q named.call.place ≡ Some (Ok after)
  pub come : TextsCome new (source_texts before) (source_texts after)
  pub unknown : after.opaque ≡ before.opaque

abbrev pub SourcesGrow : List (List ℕ) → CallName → Placed (Call Span) → Project Span → Project Span → Type 0
SourcesGrow = FilesGrow sources

abbrev pub file_names : Loaded → List (List ℕ)
file_names l = map (λ (f : File). f.name) l.files

-- the law: after an addition a target has the sources that it had and those that are added and were not there, each once
abbrev pub AllSourcesGrow : Type 0
AllSourcesGrow = (old new : Loaded) → IsProject old → file_names new ≡ file_names old
    → (target : CallName) (c : Placed (Call Span)) → the_call (project old) role.Target target ≡ Ok c
    → (names : List (List ℕ)) → All IsUtf8 names → (steps : List Step) → sources_added (project old) c names ≡ Ok steps
    → all_stepped steps (plain_trees old) ≡ Some (plain_trees new)
    → SourcesGrow (new_names (source_marks (project old) c) names) target c (project old) (project new)

-- The files of the one target that the id names are those that it had without the ones that are removed, in their order. The number of unknown expressions is
-- as before.
pub record FilesShrink (read : Reading) (gone : List (List ℕ)) (target : CallName) (c : Placed (Call Span)) (p q : Project Span) : Type 0 where
  pub named : StillNamed target c q
  pub before : found.Sources
  pub were : read p c.place ≡ Some (Ok before)
  pub after : found.Sources
  pub are : read q named.call.place ≡ Some (Ok after)
  pub left : source_texts after ≡ filter (λ text. not (one_of gone text)) (source_texts before)
  pub unknown : after.opaque ≡ before.opaque

abbrev pub SourcesShrink : List (List ℕ) → CallName → Placed (Call Span) → Project Span → Project Span → Type 0
SourcesShrink = FilesShrink sources

-- the law: after a removal a target has the sources that it had, but none of those that are named
abbrev pub AllSourcesShrink : Type 0
AllSourcesShrink = (old new : Loaded) → IsProject old → file_names new ≡ file_names old → (target : CallName) (c : Placed (Call Span))
    → the_call (project old) role.Target target ≡ Ok c
    → (names : List (List ℕ)) (steps : List Step) → sources_removed (project old) c names ≡ Ok steps
    → all_stepped steps (plain_trees old) ≡ Some (plain_trees new)
    → SourcesShrink names target c (project old) (project new)
