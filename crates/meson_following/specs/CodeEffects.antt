-- What the code searches calls for.
use Rattle.std.specs.Prelude.{ℕ, Bool, List}
use Rattle.meson_calls.specs.Calls.{Call}
use Rattle.meson_following.specs.declared.effects.Deed.{Deed}
use Rattle.meson_following.specs.declared.effects.Deed.TheVariants.{Leave, Set}
use Rattle.meson_following.specs.Effects.{leaves_file, may_set}

abbrev pub does : {S : Type 0} → Deed → List ℕ → Call S → Bool
does Set x c = may_set x c
does Leave x c = leaves_file c
