-- What a script that is kept makes of a history.
use Rattle.std.specs.Prelude.{IfOk, OnOk}
use Rattle.std.proofs.Common.{◌≡◌, ℕ, true, List, Ok, Err, Result, refl, ap, ◌∙◌}
use Rattle.meson_calls.specs.Loading.{IsProject}
use Rattle.meson_json.specs.Log.{is_text_history}
use Rattle.meson_json.specs.Titles.{is_title}
use Rattle.meson_steps.specs.declared.command.Command.{Command}
use Rattle.meson_script.specs.declared.listings.ListingForm.{ListingForm}
use Rattle.meson_script.specs.declared.session.Report.{Report}
use Rattle.meson_script.specs.declared.session.Session.{Session}
use Rattle.meson_script.specs.Running.{KeepsChange}
use Rattle.meson_script.specs.Stack.{Stack, Stands, ran}
use Rattle.meson_script.proofs.RunFacts.{runs-of, runs-text}
use Rattle.meson_script.proofs.StepFacts.{run-stands}
use Rattle.meson_script.proofs.TextFacts.{kept-text}

-- what follows where there is a value, from a clause on it and another one
pub if_ok : {T E : Type 0} {Q : T → Type 0} {R P : Type 0} (r : Result T E) → IfOk r Q → OnOk r R → ((x : T) → Q x → R → P) → OnOk r P
if_ok (Ok x) q held f = f x q held
if_ok (Err e) q held f = tt

pub keeps-stands : (form : ListingForm) (old new : Session) (commands : List Command) (title : List ℕ) (report : Report) → KeepsChange form old commands title report new → IsProject new.project
    → (s : Stack) → Stands old.history old.project.files s → Stands new.history new.project.files (ran s title new.project.files)
keeps-stands form old new commands title report k is = run-stands old.project new.project old.project old.history new.history commands title k.splices k.splices report.relexed (runs-of k.runs).0 refl (runs-of k.runs).1 is refl k.kept

pub keeps-text : (form : ListingForm) (old new : Session) (commands : List Command) (title : List ℕ) (report : Report) → KeepsChange form old commands title report new → is_text_history old.history ≡ true → is_title title ≡ true → is_text_history new.history ≡ true
keeps-text form old new commands title report k before is = ap is_text_history k.kept ∙ kept-text old.history k.splices title before is (runs-text old.project new.project commands k.splices report.relexed (runs-of k.runs).0 (runs-of k.runs).1)
