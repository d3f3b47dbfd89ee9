-- The files that a commit of the code tries, and those that it puts back.
use Rattle.std.specs.Prelude.{◌≡◌, ℕ, List, ◌∷◌, ◌++◌, length, map}
use Rattle.meson_store.specs.Seen.{Seen}
use Rattle.meson_store.specs.declared.store.StoreError.{StoreError}
use Rattle.meson_store.specs.declared.store.StoreError.TheVariants as error
use Rattle.meson_store.specs.declared.store_fault.StoreFault.{StoreFault}
use Rattle.meson_store.specs.Commit.{Put, GoBack, to_go_back, fault_of}

abbrev pub names_of : List Put → List (List ℕ)
names_of files = map (λ p. p.name) files

-- whether the file that could not be replaced gets its old bytes again, as a number: not if the store knows that it is as it was
abbrev pub tries : StoreError → ℕ
tries error.Device = 1
tries _ = 0

-- this number of files were replaced, and the replace of the next one failed: these get their old bytes again, and the fault reports it
abbrev pub TakesBack : List Put → ℕ → StoreError → Seen → Seen → StoreFault → Type 0
TakesBack files many why before after fault = (done rest : List Put) (failed : Put) → files ≡ done ++ (failed ∷ rest) → length done ≡ many
    → (still : List (List ℕ)) × GoBack (to_go_back why failed done) before after still × (fault ≡ fault_of failed.name why still)
