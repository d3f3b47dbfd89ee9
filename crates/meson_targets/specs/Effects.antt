-- What is there after a target is added or removed, as to the project's calls, and the statements of its blocks.
use Rattle.std.specs.Prelude.{◌≡◌, ℕ, false, List, [], ◌∷◌, ◌++◌, length, map, Option, Some, option_and_then, option_map, Ok, Err}
use Rattle.std.specs.Str.{IsUtf8}
use Rattle.meson_lex.specs.declared.kinds.Span.{Span}
use Rattle.meson_edit.specs.Blocks.{BlockAt, block_at}
use Rattle.meson_syntax.specs.Paths.{nth}
use Rattle.meson_syntax.specs.Tree.{Nowhere, Plain, Statement, statement_list, Block, block, listing, plain, arguments_of}
use Rattle.meson_calls.specs.declared.call.CallName.{CallName}
use Rattle.meson_calls.specs.declared.call.CallRef.{CallRef}
use Rattle.meson_calls.specs.declared.call.Role.TheVariants as role
use Rattle.meson_calls.specs.declared.refusal.Refusal.TheVariants.{NotFound}
use Rattle.meson_calls.specs.Calls.{Call, all_chosen, part_call}
use Rattle.meson_calls.specs.Finding.{the_call}
use Rattle.meson_calls.specs.Loading.{IsProject, Loaded, named_trees, project}
use Rattle.meson_calls.specs.Parts.{Part, parts, parts_of_statement}
use Rattle.meson_calls.specs.Project.{Project, Placed, place, placed}
use Rattle.meson_calls.specs.Searching.{anywhere, project_names, searched_file, within}
use Rattle.meson_steps.specs.Names.{distinct}
use Rattle.meson_steps.specs.ResultLimits.{plain_trees}
use Rattle.meson_steps.specs.Steps.{Step, all_stepped}
use Rattle.meson_steps.specs.WrittenTexts.{string_of}
use Rattle.meson_targets.specs.TargetEdits.{StatementPlace, number_in, statement_of, target_added, target_removed, targets_among}

-- the call of this function with these texts as its arguments
abbrev pub call_with_texts : List ℕ → List (List ℕ) → Call Nowhere
call_with_texts kind texts = record { function = kind; arguments = listing tt false (arguments_of (map plain (map string_of texts))) }

-- The name names one call of a target: this one, in the file of this number.
pub record NamesTarget (p : Project Nowhere) (name : List ℕ) (it : Call Nowhere) (file : ℕ) : Type 0 where
  pub place : CallRef
  pub is_call : the_call p role.Target (anywhere name) ≡ Ok (placed place it)
  pub in_file : place.file ≡ file

-- The law: a target that is added is the one that its name names. It is in the build file of its folder, with the name and each source once as its arguments.
abbrev pub AddedTargetsAreNamed : Type 0
AddedTargetsAreNamed = (old : Loaded) (name kind folder : List ℕ) (sources : List (List ℕ)) (steps : List Step) (after : List Plain) → IsUtf8 name
    → target_added (project old) name kind folder sources ≡ Ok steps → all_stepped steps (plain_trees old) ≡ Some after
    → (file : ℕ) × (number_in (project old) folder ≡ Ok file)
    × NamesTarget (named_trees old.files after) name (call_with_texts kind (name ∷ distinct sources)) file

-- ---- a target that is removed

abbrev pub block_statements : Block Nowhere → List (Statement Nowhere)
block_statements (block s list) = statement_list list

-- the statements of the block at a place
abbrev pub statements_found : CallRef → List Plain → Option (List (Statement Nowhere))
statements_found c trees = option_and_then (λ t. option_map (λ b. block_statements b.inside) (block_at t c.path.steps)) (nth trees c.file)

-- In the file of the place nothing but the block there has changed.
pub record OtherBlock (c : CallRef) (before after : List Plain) : Type 0 where
  pub tree : Plain
  pub was : nth before c.file ≡ Some tree
  pub block : BlockAt Nowhere
  pub is_block : block_at tree c.path.steps ≡ Some block
  pub other : Block Nowhere
  pub now : nth after c.file ≡ Some (block.back other)

-- The statement is gone: its block has the others in their order. All else is as it was, in its file and in every other one.
pub record StatementGone (line : StatementPlace) (it : Statement Nowhere) (before after : List Plain) : Type 0 where
  pub front : List (Statement Nowhere)
  pub back : List (Statement Nowhere)
  pub number : line.number ≡ length front
  pub had : statements_found line.block before ≡ Some (front ++ it ∷ back)
  pub has : statements_found line.block after ≡ Some (front ++ back)
  pub file : OtherBlock line.block before after
  pub others : (i : ℕ) → (line.block.file ≡ i → ⊥) → nth after i ≡ nth before i

-- the calls among these parts, each without its place
abbrev pub calls_among : List (Placed (Part Nowhere)) → List (Call Nowhere)
calls_among qs = map (λ (c : Placed (Call Nowhere)). c.it) (all_chosen part_call qs)

-- those that are in a statement, wherever that is
abbrev pub calls_in : Statement Nowhere → List (Call Nowhere)
calls_in it = calls_among (parts_of_statement (place 0 []) it)

-- The calls in the statement are gone, and all others stay in their order. No target in the files that are searched has the name any more. If none there had it
-- before, since the id is that of a variable, nothing is named any more.
pub record CallsGone (it : Statement Nowhere) (name : CallName) (searched : Option ℕ) (before after : Project Nowhere) : Type 0 where
  pub front : List (Call Nowhere)
  pub back : List (Call Nowhere)
  pub had : calls_among (parts before) ≡ front ++ (calls_in it ++ back)
  pub has : calls_among (parts after) ≡ front ++ back
  pub named : targets_among (within searched (parts after)) name.id ≡ []
  pub by_variable : targets_among (within searched (parts before)) name.id ≡ [] → the_call after role.Target name ≡ Err NotFound

-- The statement of the call at a place, by which the target is removed.
pub record TargetRemoved (old : Loaded) (name : CallName) (c : CallRef) (after : List Plain) : Type 0 where
  pub line : StatementPlace
  pub is_line : statement_of c ≡ Some line
  pub it : Statement Nowhere
  pub statement : StatementGone line it (plain_trees old) after
  pub searched : Option ℕ
  pub is_searched : searched_file (project_names (project old)) name.folder ≡ Ok searched
  pub calls : CallsGone it name searched (named_trees old.files (plain_trees old)) (named_trees old.files after)

-- the law: a target that is removed is gone with its statement, no target in the files that are searched has its name, and all else stays
abbrev pub RemovedTargetsAreGone : Type 0
RemovedTargetsAreGone = (old : Loaded) → IsProject old → (name : CallName) (c : Placed (Call Span)) → the_call (project old) role.Target name ≡ Ok c
    → (steps : List Step) (after : List Plain)
    → target_removed (project old) c ≡ Ok steps → all_stepped steps (plain_trees old) ≡ Some after → TargetRemoved old name c.place after
