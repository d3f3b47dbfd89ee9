-- A command has one outcome, and so has a whole script.
use Rattle.std.specs.Prelude.{◌≡◌, ℕ, List}
use Rattle.serde_json.specs.Data.{Data}
use Rattle.meson_splice.specs.declared.splice.Splice.{Splice}
use Rattle.meson_calls.specs.declared.refusal.Refusal.{Refusal}
use Rattle.meson_calls.specs.Loading.{IsProject, Loaded, trees}
use Rattle.meson_steps.specs.declared.command.Command.{Command}
use Rattle.meson_steps.specs.declared.command.Done.{Done}
use Rattle.meson_steps.specs.ResultLimits.{plain_trees}
use Rattle.meson_plan.specs.Performing.{MayRefuse, Performs}
use Rattle.meson_script.specs.Running.{MayStop, Runs}

-- ---- one command

-- What a command does to a project is one change, with one count; the files and trees are then those alone.
abbrev pub OneOutcome : Type 0
OneOutcome = (old : Loaded) (c : Command) (done other : Done) (new next : Loaded) → Performs old c done new → Performs old c other next
    → (done ≡ other) × (new.files ≡ next.files) × (plain_trees new ≡ plain_trees next)

-- A command that is performed is not refused.
abbrev pub NotRefused : Type 0
NotRefused = (old : Loaded) (c : Command) (done : Done) (new : Loaded) (e : Refusal) → Performs old c done new → MayRefuse old c e → ⊥

-- There is one refusal.
abbrev pub OneRefusal : Type 0
OneRefusal = (old : Loaded) (c : Command) (e f : Refusal) → MayRefuse old c e → MayRefuse old c f → e ≡ f

-- ---- a whole script

-- What commands do to a project is one list of splices, with one count and one list of listings. The files and trees are then those alone.
abbrev pub OneResult : Type 0
OneResult = (old : Loaded) (commands : List Command) (splices others : List Splice) (relexed read : ℕ) (listings lists : List Data) (new next : Loaded)
    → Runs old commands splices relexed listings new → Runs old commands others read lists next
    → (splices ≡ others) × (relexed ≡ read) × (listings ≡ lists) × (new.files ≡ next.files) × (plain_trees new ≡ plain_trees next)

-- The places in the trees follow from the files.
abbrev pub OneProject : Type 0
OneProject = (p q : Loaded) → IsProject p → IsProject q → p.files ≡ q.files → trees p ≡ trees q

-- A script that is done is not refused.
abbrev pub NotStopped : Type 0
NotStopped = (old : Loaded) (commands : List Command) (splices : List Splice) (relexed : ℕ) (listings : List Data) (new : Loaded) (index : ℕ) (e : Refusal)
    → Runs old commands splices relexed listings new → MayStop old commands index e → ⊥

-- One command of it is refused, for one reason.
abbrev pub OneStop : Type 0
OneStop = (old : Loaded) (commands : List Command) (i j : ℕ) (e f : Refusal) → MayStop old commands i e → MayStop old commands j f → (i ≡ j) × (e ≡ f)
