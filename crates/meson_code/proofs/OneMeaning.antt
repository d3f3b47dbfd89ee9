-- What inserting code and removing it mean depends on the files and trees of a project alone.
use Rattle.std.proofs.Common.{◌≡◌, List, [], ◌∷◌, ◌++◌, length, map, Option, Ok, Err, refl, ap, ap₂, ◌∙◌}
use Rattle.std.specs.Prelude.{Bool, ℕ, ◌||◌, if◌then◌else◌, option_and_then, option_map, unwrap_or, ok_or, Result}
use Rattle.std.specs.List.{find, list_any}
use Rattle.meson_lex.specs.declared.kinds.Span.{Span}
use Rattle.meson_splice.specs.declared.file_set.File as files
use Rattle.meson_splice.specs.Files.{bytes_at}
use Rattle.meson_splice.specs.Patch.{then_ok}
use Rattle.meson_syntax.specs.Tree.{File, erase}
use Rattle.meson_edit.specs.Edits.{Lines}
use Rattle.meson_edit.specs.Standing.{statement_span}
use Rattle.meson_calls.specs.declared.refusal.Refusal.{Refusal}
use Rattle.meson_calls.specs.declared.refusal.Refusal.TheVariants.{TooDeep}
use Rattle.meson_calls.specs.Loading.{Loaded, named_trees, project, trees}
use Rattle.meson_calls.specs.Project.{BuildFile, nth_file}
use Rattle.meson_steps.specs.declared.command.CodePlace.{CodePlace}
use Rattle.meson_steps.specs.declared.command.CodePlace.TheVariants as code_place
use Rattle.meson_steps.specs.Steps.{Step}
use Rattle.meson_calls.specs.Finding.{only_one}
use Rattle.meson_calls.specs.Notes.{notes}
use Rattle.meson_calls.specs.declared.refusal.Refusal.TheVariants.{NotFound, NotStatement}
use Rattle.meson_steps.specs.declared.argument.PlaceName.{PlaceName}
use Rattle.meson_steps.specs.declared.argument.PlaceName.TheVariants as name
use Rattle.meson_steps.specs.declared.argument.Search.{Search}
use Rattle.meson_places.specs.Names.{numbered_file, places_by_id, project_there, searched, searched_file}
use Rattle.meson_targets.specs.TargetEdits.{StatementPlace, is_used_outside, statement_there}
use Rattle.meson_places.specs.Uses.{placeholder, source_holds}
use Rattle.meson_code.specs.Unused.{names_read, trees_without, unused_steps}
use Rattle.meson_code.specs.Removing.{code_removed, code_removed_at, steps_after}
use Rattle.meson_code.specs.Removal.{no_span, removal_step, removed_at, set_by, texts_outside, unless_needed}
use Rattle.meson_code.specs.Anchors.{anchor_within, first_among, if_searched, statement_with, the_anchor}
use Rattle.meson_code.specs.declared.insertion.FileLines.{FileLines}
use Rattle.meson_code.specs.Insertion.{above_statement, below_statement, end_of_file, lines_at, tree_place, code_statements, has_room, side_in, text_on, inserted_if_room, code_steps}

module _ (p q : Loaded) (same_files : p.files ≡ q.files) (same_trees : trees p ≡ trees q) where
  alike : {X : Type 0} (f : List files.File → List (File Span) → X) → f p.files (trees p) ≡ f q.files (trees q)
  alike f = ap₂ f same_files same_trees

  by_id : (n : PlaceName) (folder : Option (List ℕ))
      → then_ok (searched_file p.files folder) (λ within. then_ok (then_ok (project_there n (notes (project p))) (λ _. only_one (searched within (places_by_id n (notes (project p)))))) (λ c. ok_or (statement_with (project p) c) NotStatement))
      ≡ then_ok (searched_file q.files folder) (λ within. then_ok (then_ok (project_there n (notes (project q))) (λ _. only_one (searched within (places_by_id n (notes (project q)))))) (λ c. ok_or (statement_with (project q) c) NotStatement))
  by_id n folder =
      alike (λ fs ts. then_ok (searched_file fs folder) (λ within. then_ok (then_ok (project_there n (notes (named_trees fs ts))) (λ _. only_one (searched within (places_by_id n (notes (named_trees fs ts)))))) (λ c. ok_or (statement_with (named_trees fs ts) c) NotStatement)))

  anchor_same : (n : PlaceName) (folder : Option (List ℕ)) → then_ok (searched_file p.files folder) (λ within. anchor_within p within n) ≡ then_ok (searched_file q.files folder) (λ within. anchor_within q within n)
  anchor_same (name.Line file line) folder =
      alike (λ fs ts. then_ok (searched_file fs folder) (λ within. then_ok (numbered_file fs file) (λ n. then_ok (ok_or (first_among (bytes_at n fs) n line (nth_file (named_trees fs ts) n)) NotFound) (if_searched within))))
  anchor_same (name.Project id) folder = by_id (name.Project id) folder
  anchor_same (name.Call f id) folder = by_id (name.Call f id) folder
  anchor_same (name.Variable id) folder = by_id (name.Variable id) folder

  anchors_same : (s : Search) → the_anchor p s ≡ the_anchor q s
  anchors_same s = anchor_same s.name s.folder

  lines_same : (c : CodePlace) → lines_at p c ≡ lines_at q c
  lines_same (code_place.Above s) = ap (λ r. then_ok r (λ a. Ok (above_statement a))) (anchors_same s)
  lines_same (code_place.Below s) = ap (λ r. then_ok r (λ a. Ok (below_statement a))) (anchors_same s)
  lines_same (code_place.End file) = ap (λ fs. then_ok (numbered_file fs file) (λ n. Ok (end_of_file n))) same_files

  if_room_same : (code : List ℕ) (blank : Option ℕ) (lines : FileLines) → inserted_if_room p code blank lines ≡ inserted_if_room q code blank lines
  if_room_same code blank lines = alike (λ fs ts. if has_room lines (code_statements code) then Ok (record {
    file = lines.block.file;
    edit = Lines (tree_place lines.block.path.steps lines.side) (record {
      bytes = text_on (bytes_at lines.block.file fs) blank code (option_and_then (λ (f : BuildFile Span). side_in f.tree lines.block.path.steps lines.side) (nth_file (named_trees fs ts) lines.block.file));
      node = code_statements code;
    });
  } ∷ []) else Err TooDeep)

  then_alike : {X : Type 0} (r : Result X Refusal) (f g : X → Result (List Step) Refusal) → ((x : X) → f x ≡ g x) → then_ok r f ≡ then_ok r g
  then_alike (Ok x) f g same = same x
  then_alike (Err e) f g same = refl

  pub code_steps_same : (c : CodePlace) (code : List ℕ) (blank : Option ℕ) → code_steps p c code blank ≡ code_steps q c code blank
  code_steps_same c code blank = ap (λ r. then_ok r (inserted_if_room p code blank)) (lines_same c) ∙ then_alike (lines_at q c) _ _ (λ lines. if_room_same code blank lines)

  removed_same : (a : StatementPlace) → removed_at p a ≡ removed_at q a
  removed_same a = alike (λ fs ts. unless_needed
      (find (λ x. is_used_outside (named_trees fs ts) a x
      || list_any (source_holds (placeholder x)) (texts_outside fs a.block.file (unwrap_or (option_map statement_span (statement_there (named_trees fs ts) a)) no_span))) (set_by (named_trees fs ts) a))
      (removal_step (named_trees fs ts) a))

  removed_code_same : (unused : Bool) (a : StatementPlace) → code_removed_at p unused a ≡ code_removed_at q unused a
  removed_code_same unused a =
      ap (λ r. then_ok r (λ steps. Ok (if unused then steps ++ steps_after p a else steps))) (removed_same a)
      ∙ ap (λ later. then_ok (removed_at q a) (λ steps. Ok (if unused then steps ++ later else steps))) after_same
    where
      after_same : steps_after p a ≡ steps_after q a
      after_same = alike (λ fs ts. unused_steps (length (notes (named_trees fs ts))) fs (names_read (named_trees fs ts) a) (trees_without a (map erase ts)))

  pub code_removed_same : (s : Search) (unused : Bool) → code_removed p s unused ≡ code_removed q s unused
  code_removed_same s unused = ap (λ r. then_ok r (code_removed_at p unused)) (anchors_same s) ∙ removed_then (the_anchor q s)
    where
      removed_then : (r : Result StatementPlace Refusal) → then_ok r (code_removed_at p unused) ≡ then_ok r (code_removed_at q unused)
      removed_then (Ok a) = removed_code_same unused a
      removed_then (Err e) = refl
