-- The session of a project in a store: its files, and the history that its log holds.
use Rattle.std.specs.Prelude.{◌≡◌, true, ℕ, List, Option}
use Rattle.meson_calls.specs.declared.call.Reading.{Reading}
use Rattle.meson_calls.specs.Loading.{IsProject}
use Rattle.meson_json.specs.Log.{is_text_history}
use Rattle.meson_json.specs.declared.fault.ScriptFault.TheVariants.{BadLog}
use Rattle.meson_script.specs.declared.session.Session.{Session}
use Rattle.meson_splice.specs.declared.file_set.File.{File}
use Rattle.meson_store.specs.Content.{Content, Rose}
use Rattle.meson_store.specs.declared.store_fault.StoreFault.TheVariants.{ReadFailed}
use Rattle.meson_gathering.specs.declared.fault.GatherFault.{GatherFault}
use Rattle.meson_gathering.specs.Gathering.{Told, Finds, held_bytes, whole}
use Rattle.meson_gathering.specs.Gathered.{StopsAt}
use Rattle.meson_rewrite.specs.Logs.{IsBadLog, IsLogFor, log_name}
use Rattle.meson_rewrite.specs.Stops.{gathering_stop}
use Rattle.meson_rewrite.specs.declared.opening.LogUse.{LogUse}
use Rattle.meson_rewrite.specs.declared.opening.LogUse.TheVariants.{Kept}
use Rattle.meson_rewrite.specs.declared.advice.Advice.TheVariants.{Nothing}
use Rattle.meson_rewrite.specs.declared.stop.Stop.{Stop}
use Rattle.meson_rewrite.specs.declared.stop.Stop.TheVariants.{Script, Store}

-- why there is no log, except out of memory: one that is kept is not read, or is not valid
pub data IsNoLog (how : LogUse) (before : Option Content) (dir : Option (List ℕ)) (failed failed' : ℕ) : Stop → Type 0 where
  log_unread : how ≡ Kept → Rose failed failed' → IsNoLog how before dir failed failed' (Store (ReadFailed log_name) Nothing)
  bad_log : how ≡ Kept → Told before (λ content. IsBadLog (held_bytes content dir log_name)) → IsNoLog how before dir failed failed' (Script BadLog Nothing)

-- by what is done with the log, and how the build files are read
module _ (how : LogUse) (reading : Reading) (before : Option Content) (dir : Option (List ℕ)) where
  pub record Opens (session : Session) (log : List ℕ) : Type 0 where
    pub found : Finds reading before dir (whole session.project.files)
    pub is_project : IsProject session.project
    pub is_log : IsLogFor how before dir log session.history
    pub text : is_text_history session.history ≡ true

  -- the files are not a project, or they are and have no log
  pub data OpensNone (failed failed' : ℕ) : Stop → Type 0 where
    no_project : (fault : GatherFault) → StopsAt failed failed' (Finds reading before dir) fault → OpensNone failed failed' (gathering_stop fault)
    no_log : (files : List File) (why : Stop) → Finds reading before dir (whole files) → IsNoLog how before dir failed failed' why → OpensNone failed failed' why
