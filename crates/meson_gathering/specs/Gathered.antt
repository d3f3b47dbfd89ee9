-- What the steps of gathering a project's files answer.
use Rattle.std.specs.Prelude.{◌≡◌, ⊤, ℕ, List}
use Rattle.meson_calls.specs.Folders.{build_file}
use Rattle.meson_store.specs.Content.{Rose}
use Rattle.meson_gathering.specs.Gathering.{Ending, rootless, unparsed, unread, too_many}
use Rattle.meson_gathering.specs.declared.fault.GatherFault.{GatherFault}
use Rattle.meson_gathering.specs.declared.fault.GatherFault.TheVariants.{Parse, TooManyFiles, Store}
use Rattle.meson_store.specs.declared.store_fault.StoreFault.{StoreFault}
use Rattle.meson_store.specs.declared.store_fault.StoreFault.TheVariants as store

-- the fault of a read of the file of that name
abbrev pub IsUnread : ℕ → ℕ → List ℕ → StoreFault → Type 0
IsUnread failed failed' name (store.ReadFailed n) = (n ≡ name) × Rose failed failed'
IsUnread failed failed' name store.OutOfMemory = ⊤
IsUnread failed failed' name _ = ⊥

-- Why gathering stops, if P holds of the ending.
abbrev pub StoreStopsAt : ℕ → ℕ → (Ending → Type 0) → StoreFault → Type 0
StoreStopsAt failed failed' P (store.ReadFailed name) = Rose failed failed' × P (unread name)
StoreStopsAt failed failed' P (store.NoFile name) = (name ≡ build_file) × P rootless
StoreStopsAt failed failed' P store.OutOfMemory = ⊤
StoreStopsAt failed failed' P _ = ⊥

abbrev pub StopsAt : ℕ → ℕ → (Ending → Type 0) → GatherFault → Type 0
StopsAt failed failed' P (Parse name bytes fault) = P (unparsed name bytes fault)
StopsAt failed failed' P TooManyFiles = P too_many
StopsAt failed failed' P (Store fault) = StoreStopsAt failed failed' P fault
