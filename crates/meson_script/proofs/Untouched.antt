-- What scripts leave as it is.
use Rattle.std.specs.Prelude.{IfOk, OnOk}
use Rattle.std.proofs.Common.{ℕ, List, [], ◌∷◌, ◌++◌, Ok, Err, Result, sym, subst, append_assoc}
use Rattle.std.proofs.lemmas.List.{append-nil}
use Rattle.serde_json.specs.Data.{Data}
use Rattle.meson_splice.specs.declared.splice.Splice.{Splice}
use Rattle.meson_calls.specs.Loading.{Loaded}
use Rattle.meson_steps.specs.declared.command.Command.{Command}
use Rattle.meson_plan.proofs.SplicesDone.{performs-keep}
use Rattle.meson_script.specs.declared.listings.ListingForm.{ListingForm}
use Rattle.meson_script.specs.declared.session.Report.{Report}
use Rattle.meson_script.specs.declared.session.Session.{Session}
use Rattle.meson_script.specs.Running.{KeepsChange, Runs, nothing_ran, ran_more}
use Rattle.meson_script.proofs.RunFacts.{runs-of}
use Rattle.meson_script.specs.Untouched.{CommandsKeep, nothing_touched, touched_more, none_run, next_run, ScriptsKeep, all_commands}

runs-keep : (old new : Loaded) (commands : List Command) (splices : List Splice) (relexed : ℕ) (listings : List Data)
    → Runs old commands splices relexed listings new → CommandsKeep old commands new
runs-keep old new commands splices relexed listings (nothing_ran) = nothing_touched
runs-keep old new commands splices relexed listings (ran_more before here read lists between rest reads c done more after tells performs) =
    touched_more before between (runs-keep old between before here read lists rest) c new (performs-keep between c done new performs)

keep-append : (old mid new : Loaded) (first second : List Command) → CommandsKeep old first mid → CommandsKeep mid second new → CommandsKeep old (first ++ second) new
keep-append old mid new first second a (nothing_touched) = subst (λ cs. CommandsKeep old cs mid) (sym (append-nil first)) a
keep-append old mid new first second a (touched_more before between rest c after k) =
    subst (λ cs. CommandsKeep old cs new) (append_assoc first before (c ∷ [])) (touched_more (first ++ before) between (keep-append old mid between first before a rest) c new k)

pub scripts-keep : ScriptsKeep
scripts-keep old new scripts (none_run s) = nothing_touched
scripts-keep old new scripts (next_run form first between last commands title report more k rest) =
    keep-append old.project between.project new.project commands (all_commands more) (runs-keep old.project between.project commands k.splices report.relexed (runs-of k.runs).0 (runs-of k.runs).1)
    (scripts-keep between new more rest)

-- a script that is kept
pub keeps-untouched : {E : Type 0} (form : ListingForm) (old new : Session) (commands : List Command) (title : List ℕ) (r : Result Report E) → IfOk r (λ x. KeepsChange form old commands title x new)
    → OnOk r (CommandsKeep old.project commands new.project)
keeps-untouched form old new commands title (Ok x) k = runs-keep old.project new.project commands k.splices x.relexed (runs-of k.runs).0 (runs-of k.runs).1
keeps-untouched form old new commands title (Err e) k = tt
