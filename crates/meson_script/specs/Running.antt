-- The commands of a script, one after another.
use Rattle.std.specs.Prelude.{◌≡◌, ◌<◌, ◌≤◌, ◌⊎◌, ℕ, ◌+◌, List, [], ◌∷◌, ◌++◌, length, take, Ok}
use Rattle.serde_json.specs.Data.{Data}
use Rattle.meson_splice.specs.declared.splice.Splice.{Splice}
use Rattle.meson_splice.specs.Files.{differing}
use Rattle.meson_calls.specs.declared.refusal.Refusal.{Refusal}
use Rattle.meson_calls.specs.Loading.{IsProject, Loaded}
use Rattle.meson_script.specs.declared.listings.ListingForm.{ListingForm}
use Rattle.meson_script.specs.declared.session.Report.{Report}
use Rattle.meson_script.specs.declared.session.Session.{Session}
use Rattle.meson_steps.specs.declared.command.Command.{Command}
use Rattle.meson_steps.specs.declared.command.Done.{Done}
use Rattle.meson_steps.specs.ResultLimits.{saturated}
use Rattle.meson_plan.specs.Performing.{MayRefuse, Performs}
use Rattle.meson_plan.specs.Listing.{told}
use Rattle.meson_script.specs.Listings.{Lists, listings_text}

-- Each command is performed on what the ones before it left, a project whose trees are those of its files, and reports on that. The splices and listings are
-- those of all, in order.
pub data Runs (old : Loaded) : List Command → List Splice → ℕ → List Data → Loaded → Type 0 where
  nothing_ran : Runs old [] [] 0 [] old
  ran_more : (commands : List Command) (splices : List Splice) (relexed : ℕ) (listings : List Data) (between : Loaded)
      → Runs old commands splices relexed listings between → IsProject between
      → (c : Command) (done : Done) (more : List Data) (new : Loaded) → told between c ≡ Ok more → Performs between c done new
      → Runs old (commands ++ c ∷ []) (splices ++ done.change.splices) (saturated (relexed + done.relexed)) (listings ++ more) new

-- The same run, with what each command lists in this form of the project as it is then.
pub data RunsShowing (form : ListingForm) (old : Loaded) : List Command → List Splice → ℕ → List Data → Loaded → Type 0 where
  nothing_shown : RunsShowing form old [] [] 0 [] old
  shown_more : (commands : List Command) (splices : List Splice) (relexed : ℕ) (shown : List Data) (between : Loaded)
      → RunsShowing form old commands splices relexed shown between → IsProject between
      → (c : Command) (done : Done) (plain more : List Data) (new : Loaded) → told between c ≡ Ok plain → Lists form between c more
      → Performs between c done new
      → RunsShowing form old (commands ++ c ∷ []) (splices ++ done.change.splices) (saturated (relexed + done.relexed)) (shown ++ more) new

-- and with the text of what they list
pub record RunsTo (form : ListingForm) (old : Loaded) (commands : List Command) (splices : List Splice) (relexed : ℕ) (info : List ℕ) (new : Loaded)
    : Type 0 where
  pub shown : List Data
  pub runs : RunsShowing form old commands splices relexed shown new
  pub is_text : info ≡ listings_text shown

-- The commands before this number are performed. It is the number of a command, if there are any, and else 0.
pub record Reaches (old : Loaded) (commands : List Command) (index : ℕ) : Type 0 where
  pub within : index ≤ length commands
  pub is_command : 0 < length commands → index < length commands
  pub splices : List Splice
  pub relexed : ℕ
  pub listings : List Data
  pub between : Loaded
  pub runs : Runs old (take index commands) splices relexed listings between

-- Commands end while the one of this number is done: the project is as those before it leave it, or as this one does.
pub record StopsDuring (old : Loaded) (commands : List Command) (index : ℕ) (new : Loaded) : Type 0 where
  pub within : index < length commands
  pub done : ℕ
  pub is_done : (done ≡ index) ⊎ (done ≡ index + 1)
  pub splices : List Splice
  pub relexed : ℕ
  pub listings : List Data
  pub runs : Runs old (take done commands) splices relexed listings new

-- The command of this number may be refused for this reason, and those before it are performed.
pub record MayStop (old : Loaded) (commands : List Command) (index : ℕ) (refusal : Refusal) : Type 0 where
  pub before : List Command
  pub command : Command
  pub after : List Command
  pub are : commands ≡ before ++ command ∷ after
  pub is_index : index ≡ length before
  pub splices : List Splice
  pub relexed : ℕ
  pub listings : List Data
  pub between : Loaded
  pub runs : Runs old before splices relexed listings between
  pub reads : IsProject between
  pub refuses : MayRefuse between command refusal

-- An accepted script: its commands run, and their splices are kept as one change of this title, even if there are none. It reports the listings in this form.
pub record KeepsChange (form : ListingForm) (old : Session) (commands : List Command) (title : List ℕ) (report : Report) (new : Session) : Type 0 where
  pub splices : List Splice
  pub shown : List Data
  pub runs : RunsShowing form old.project commands splices report.relexed shown new.project
  pub kept : new.history ≡ record { past = old.history.past ++ record { splices = splices; title = title } ∷ []; future = [] }
  pub files : report.files ≡ differing old.project.files new.project.files
  pub count : report.splices ≡ length splices
  pub is_title : report.title ≡ title
  pub info : report.info ≡ listings_text shown
