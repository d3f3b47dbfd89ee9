-- What a call of a store did, by its answer.
use Rattle.std.specs.Prelude.{◌≡◌, ℕ, suc, zero, ◌+◌, ◌-◌, ◌^◌, min, ◌⊎◌, List, Option}
use Rattle.meson_store.specs.Content.{Content, content_with, Rose}
use Rattle.meson_store.specs.declared.store.StoreError.{StoreError}
use Rattle.meson_store.specs.declared.store.StoreError.TheVariants as error

-- one more; a count stops at `u64::MAX`
abbrev pub one_more : ℕ → ℕ
one_more n = min (n + 1) (2 ^ 64 - 1)

-- this number more
abbrev pub counted : ℕ → ℕ → ℕ
counted zero n = n
counted (suc k) n = one_more (counted k n)

-- a failure of the device was counted
abbrev pub FailureCounted : StoreError → ℕ → ℕ → Type 0
FailureCounted error.OutOfMemory old new = Unit {0}
FailureCounted _ old new = Rose old new

-- what the store holds after a replace failed
abbrev pub Leaves : StoreError → List ℕ → List ℕ → Option Content → Option Content → Type 0
Leaves error.Device name bytes before after = (after ≡ before) ⊎ (after ≡ content_with before name bytes)
Leaves _ name bytes before after = after ≡ before
