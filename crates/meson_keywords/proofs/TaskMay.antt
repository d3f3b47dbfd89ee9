-- What each task means may be done where its call stands, leaves the call standing, and leaves of it what it should.
use Rattle.meson_keywords.proofs.Words.{MayBeWritten, Task, set, delete, add, remove, once, set_option, delete_option}
use Rattle.meson_keywords.proofs.Does.{TaskDoes}
use Rattle.meson_keywords.proofs.OptionsDoable.{set_option_does}
use Rattle.meson_keywords.proofs.RemovalsDoable.{delete_option_does, remove_does}
use Rattle.meson_keywords.proofs.TasksDoable.{add_does, delete_does, once_does, set_does}

pub task_does : (t : Task) → MayBeWritten t → TaskDoes t
task_does (set key new) w = set_does key new w.0.0 w.0.1 w.1.0 w.1.1 w.1.2
task_does (delete key) w = delete_does key
task_does (add key k values) w = add_does key k values w.0.0 w.0.1 w.1
task_does (remove key k value) w = remove_does key k value
task_does (once key) w = once_does key
task_does (set_option name value) w = set_option_does name value w.0 w.1
task_does (delete_option name) w = delete_option_does name
