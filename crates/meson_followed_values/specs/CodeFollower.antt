-- The project of the code that follows variables.
use Rattle.meson_calls.specs.Loading.{Loaded, loaded_from}
use Rattle.meson_following.specs.declared.follower.Follower.{Follower}

abbrev pub loaded_in : Follower → Loaded
loaded_in f = loaded_from f.files.now f.trees.now
