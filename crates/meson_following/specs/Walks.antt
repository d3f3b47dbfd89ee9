-- What a walk of the code through a part of a file gives.
use Rattle.std.specs.Prelude.{◌≡◌, ℕ, ◌+◌, ◌<◌, ◌^◌, Bool, List, [], ◌++◌, length, if◌then◌else◌, None}
use Rattle.std.specs.List.{fold}
use Rattle.meson_lex.specs.Significant.{Word}
use Rattle.meson_lex.specs.declared.kinds.Span.{Span}
use Rattle.meson_syntax.specs.Reads.{IsSpanned}
use Rattle.meson_syntax.specs.Tree.{Block, Branches, Expression, Listing, Otherwise, Statement}
use Rattle.meson_syntax.specs.View.{view}
use Rattle.meson_calls.specs.declared.call.CallRef.{CallRef}
use Rattle.meson_calls.specs.Calls.{Call, call_of}
use Rattle.meson_calls.specs.Folders.{IsFileName}
use Rattle.meson_calls.specs.Parts.{branches_child_count}
use Rattle.meson_calls.specs.Loading.{IsProject, loaded_from, project}
use Rattle.meson_calls.specs.Project.{BuildFile, Placed, Project, child, place, place_at, placed}
use Rattle.meson_calls.specs.Strings.{AreGood}
use Rattle.meson_following.specs.declared.effects.Effect.{Effect}
use Rattle.meson_following.specs.declared.flows.Chosen as code_chosen
use Rattle.meson_following.specs.declared.flows.Flow as code
use Rattle.meson_following.specs.declared.walk.Aim.{Aim}
use Rattle.meson_following.specs.declared.walk.Aim.TheVariants as aim
use Rattle.meson_following.specs.declared.walk.Found as code_found
use Rattle.meson_following.specs.declared.walk.Question.{Question}
use Rattle.meson_following.specs.declared.walk.Trail.{Trail}
use Rattle.meson_following.specs.declared.walk.Walk.{Walk}
use Rattle.meson_following.specs.CodeMakers.{known_view}
use Rattle.meson_following.specs.Effects.{calls_of_listing, effect_of}
use Rattle.meson_following.specs.Flows.{Arrival, Choice, Flow, all_branches, begun, entered, flow_block, flow_branches, flow_call, flow_calls, flow_each, flow_effect, flow_expression, flow_file, flow_loop, flow_otherwise, flow_project, flow_statement, known_if, met_at, no_branch, with_block, with_condition}
use Rattle.meson_following.specs.Makers.{Known}
use Rattle.meson_following.specs.Reads.{has_one_of, read_places}

-- what is known at a place, and the places at which a variable is read
pub record Found : Type 0 where
  pub known : Known Span
  pub reads : List CallRef

abbrev pub found_view : code_found.Found → Found
found_view f = record { known = known_view f.known; reads = f.reads.items }

abbrev pub nothing_found : Found
nothing_found = record { known = None; reads = [] }

-- the reads in an expression that may see the value of one of these makers
abbrev pub reads_seen : List ℕ → List CallRef → Arrival Span → List CallRef
reads_seen x ms a = if has_one_of ms a.known then read_places x a.at_expression else []

-- by an expression that is evaluated
abbrev pub met_by : List ℕ → Aim → Found → Arrival Span → Found
met_by x (aim.Place c) f a = record { known = met_at (place_at c) f.known a; reads = f.reads }
met_by x (aim.Makers ms) f a = record { known = f.known; reads = f.reads ++ reads_seen x ms.now a }

abbrev pub met_among : Question → Found → List (Arrival Span) → Found
met_among q f arrivals = fold (met_by q.variable.now q.aim) f arrivals

-- a quiet walk keeps nothing of them
abbrev pub met_unless : (quiet : Bool) → Question → Found → List (Arrival Span) → Found
met_unless quiet q f arrivals = if quiet then f else met_among q f arrivals

-- A flow is what was meant, and this is found after it.
pub record FlowsAs (quiet : Bool) (q : Question) (flow : code.Flow) (before after : Found) (meant : Flow Span) : Type 0 where
  pub now : known_view flow.now ≡ meant.now
  pub turned : known_view flow.turned ≡ meant.turned
  pub ended : known_view flow.ended ≡ meant.ended
  pub leaves : flow.leaves ≡ meant.leaves
  pub found : after ≡ met_unless quiet q before meant.arrivals

-- ---- a walk

abbrev pub project_of : Question → Project Span
project_of q = project (loaded_from q.files.now q.trees.now)

-- the answer of a question
abbrev pub answer : Question → Found
answer q = met_among q nothing_found (flow_project (project_of q) q.variable.now).arrivals

pub record MayWalk (w : Walk) : Type 0 where
  pub whole : IsProject (loaded_from w.question.files.now w.question.trees.now)
  pub named : IsFileName w.name.now
  pub spanned : IsSpanned w.source.now (view w.source.now w.tree.now)

-- the words of a part of a file: its strings are of their kinds, and a number counts them
pub record AreRead (words : List Word) : Type 0 where
  pub good : AreGood words
  pub fits : length words < 2 ^ 64

-- the place of what is walked through
abbrev pub here : Walk → Trail → CallRef
here w t = place w.file t.path.items

-- the same walk, which asks at the place or does not
abbrev pub asking : Walk → (quiet : Bool) → Walk
asking w quiet = record { question = w.question; file = w.file; name = w.name; source = w.source; tree = w.tree; left = w.left; quiet = quiet }

-- the walk is back where it began, and its flow is what was meant
pub record Walks (w : Walk) (before after : Trail) (flow : code.Flow) (meant : Flow Span) : Type 0 where
  pub back : after.path.items ≡ before.path.items
  pub flows : FlowsAs w.quiet w.question flow (found_view before.found) (found_view after.found) meant

-- the same for branches
pub record Chooses (w : Walk) (before after : Trail) (chosen : code_chosen.Chosen) (meant : Choice Span) : Type 0 where
  pub taken : Walks w before after chosen.taken meant.taken
  pub left : known_view chosen.left ≡ meant.left

-- ---- what is meant by the flow through the parts of a file

abbrev pub file_flow : Question → ℕ → ℕ → Known Span → Flow Span
file_flow q left n = flow_file (project_of q) q.variable.now left n

module _ (w : Walk) where
  -- the file that is walked through
  abbrev pub walked_file : BuildFile Span
  walked_file = record { name = w.name.now; tree = view w.source.now w.tree.now }

  abbrev pub call_effect : Placed (Call Span) → Effect
  call_effect = effect_of (project_of w.question) w.question.variable.now walked_file

  abbrev pub expression_flow : CallRef → Expression Span → Known Span → Flow Span
  expression_flow = flow_expression w.question.variable.now

  -- those of a call
  abbrev pub arguments_flow : CallRef → Expression Span → Listing Span → Known Span → Flow Span
  arguments_flow q e l = flow_calls w.question.variable.now (calls_of_listing l) (placed q e)

  abbrev pub effect_flow : Effect → Known Span → Flow Span
  effect_flow = flow_effect (file_flow w.question w.left)

  -- through a file, which may be skipped under a condition
  abbrev pub entered_flow : ℕ → (condition : Bool) → Known Span → Flow Span
  entered_flow n condition k = entered (known_if condition k) (file_flow w.question w.left n k)

  -- through files that may be entered, after others
  abbrev pub each_flow : List ℕ → Flow Span → Flow Span
  each_flow = flow_each (file_flow w.question w.left)

  abbrev pub evaluated_flow : CallRef → Expression Span → Known Span → Flow Span
  evaluated_flow q e = flow_call w.question.variable.now call_effect (file_flow w.question w.left) q e (call_of e)

  abbrev pub statement_flow : CallRef → Statement Span → Known Span → Flow Span
  statement_flow = flow_statement w.question.variable.now call_effect (file_flow w.question w.left)

  abbrev pub block_flow : CallRef → Block Span → Known Span → Flow Span
  block_flow = flow_block w.question.variable.now call_effect (file_flow w.question w.left)

  -- whether a name of the loop is the variable, and its body
  abbrev pub turn_flow : CallRef → Bool → Block Span → Known Span → Flow Span
  turn_flow q sets b k = block_flow (child q 1) b (begun sets k)

  abbrev pub loop_flow : CallRef → Bool → Block Span → Known Span → Flow Span
  loop_flow q sets b = flow_loop (turn_flow q sets b)

  abbrev pub branches_chosen : CallRef → ℕ → Branches Span → Choice Span → Choice Span
  branches_chosen = flow_branches w.question.variable.now call_effect (file_flow w.question w.left)

  abbrev pub otherwise_flow : CallRef → ℕ → Otherwise Span → Known Span → Flow Span
  otherwise_flow = flow_otherwise w.question.variable.now call_effect (file_flow w.question w.left)

  -- after a condition, which is the n-th child
  abbrev pub condition_chosen : CallRef → ℕ → Expression Span → Choice Span → Choice Span
  condition_chosen q n e c = with_condition c.taken (expression_flow (child q n) e c.left)

  abbrev pub block_chosen : CallRef → ℕ → Block Span → Choice Span → Choice Span
  block_chosen q n b c = with_block c (block_flow (child q n) b c.left)

  abbrev pub branch_chosen : CallRef → ℕ → Expression Span × Block Span → Choice Span → Choice Span
  branch_chosen q n b c = block_chosen q (n + 1) b.1 (condition_chosen q n b.0 c)

  abbrev pub selection_flow : CallRef → Branches Span → Otherwise Span → Known Span → Flow Span
  selection_flow q bs o k = all_branches (branches_chosen q 0 bs (no_branch k)) (otherwise_flow q (branches_child_count bs) o)
