-- The failures of a store below texts, and those that are counted above it.
use Rattle.std.proofs.Common.{◌≡◌, ℕ, ◌+◌, ◌-◌, ◌^◌, ◌<◌, ◌≤◌, inl, inr, arith}
use Rattle.std.specs.Prelude.{IfErr, Result, Ok, Err, min}
use Rattle.meson_store.specs.Content.{Rose}
use Rattle.meson_store.specs.StoreCalls.{FailureCounted}
use Rattle.meson_store.specs.declared.store.StoreError.{StoreError}
use Rattle.meson_store.specs.declared.store.StoreError.TheVariants as error

-- `below` failures were counted by the store, and `refused` above it; then the store was read
module _ (below below' refused count count' : ℕ) (few : count ≤ below + refused) (fits : count < 2 ^ 64) (is : count' ≡ min (below' + refused) (2 ^ 64 - 1)) where
  pub counts-over : below ≤ below' → count ≤ count'
  counts-over h = omega arith

  rose-over : below ≤ count → Rose below below' → Rose count count'
  rose-over h (inl more) = grind arith
  rose-over h (inr all) = inr (omega arith)

  counted-over : below ≤ count → (why : StoreError) → FailureCounted why below below' → FailureCounted why count count'
  counted-over h error.Device rose = rose-over h rose
  counted-over h error.Unchanged rose = rose-over h rose
  counted-over h error.OutOfMemory none = tt

  pub failed-over : {A : Type 0} → below ≤ count → (result : Result A StoreError) → IfErr result (λ why. FailureCounted why below below')
      → IfErr result (λ why. FailureCounted why count count')
  failed-over h (Ok done) failed = failed
  failed-over h (Err why) failed = counted-over h why failed
