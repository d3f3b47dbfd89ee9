-- What a writer got.
use Rattle.std.specs.Prelude.{◌≡◌, ℕ, List, Option}
use Rattle.std.specs.Io.KnownBytes.{Appends}
use Rattle.meson_store.specs.Content.{Rose}

-- what is known of a writer: the bytes that it holds, if it reports them, and how many of its writes failed
pub record Heard : Type 0 where
  pub contents : Option (List ℕ)
  pub failures : ℕ

-- it got these bytes, and no write failed
abbrev pub Gets : Heard → Heard → List ℕ → Type 0
Gets old new bytes = Appends old.contents new.contents bytes × (new.failures ≡ old.failures)

-- a write failed
abbrev pub Fails : Heard → Heard → Type 0
Fails old new = Rose old.failures new.failures
