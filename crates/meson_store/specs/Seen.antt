-- What is known of a store between two calls, and what a call of `replace` did to it.
use Rattle.std.specs.Prelude.{◌≡◌, ◌≤◌, ℕ, List, Option}
use Rattle.meson_store.specs.StoreCalls.{FailureCounted, Leaves, one_more}
use Rattle.meson_store.specs.Content.{Content, content_with}
use Rattle.meson_store.specs.declared.store.StoreError.{StoreError}

-- what it holds, if it reports that, how many calls failed, and how many calls of `replace` there were
pub record Seen : Type 0 where
  pub content : Option Content
  pub failures : ℕ
  pub replaces : ℕ

abbrev pub seen : Option Content → ℕ → ℕ → Seen
seen content failures replaces = record { content = content; failures = failures; replaces = replaces }

-- of a store of any kind, by what gives these three of it
abbrev pub seen_by : {S : Type 0} → (S → Option Content) → (S → ℕ) → (S → ℕ) → S → Seen
seen_by content failures replaces store = seen (content store) (failures store) (replaces store)

-- it was read at most
pub record Untouched (before after : Seen) : Type 0 where
  pub kept : after.content ≡ before.content
  pub counts : before.failures ≤ after.failures
  pub no_replace : after.replaces ≡ before.replaces

-- the file at that path got these bytes
pub record IsReplaced (path bytes : List ℕ) (before after : Seen) : Type 0 where
  pub put : after.content ≡ content_with before.content path bytes
  pub counts : before.failures ≤ after.failures
  pub counted : after.replaces ≡ one_more before.replaces

-- it should have got them, and the store failed
pub record IsNotReplaced (why : StoreError) (path bytes : List ℕ) (before after : Seen) : Type 0 where
  pub left : Leaves why path bytes before.content after.content
  pub failed : FailureCounted why before.failures after.failures
  pub counts : before.failures ≤ after.failures
  pub counted : after.replaces ≡ one_more before.replaces
