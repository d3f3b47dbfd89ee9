-- What a failed commit leaves, over a store that reports what it holds.
use Rattle.std.specs.Prelude.{◌≡◌, ◌⊎◌, ℕ, List, [], Option, Some}
use Rattle.std.proofs.Common.{inl, inr}
use Rattle.std.specs.FinMap.{get}
use Rattle.std.specs.List.{Contains}
use Rattle.meson_splice.specs.Files.{IsDistinct}
use Rattle.meson_splice.specs.declared.file_set.File.{File}
use Rattle.meson_store.specs.Commit.{CommitFails, Put, puts, still_new, to_go_back}
use Rattle.meson_store.specs.Content.{Content}
use Rattle.meson_store.specs.Seen.{Seen}
use Rattle.meson_store.specs.declared.store_fault.StoreFault.{StoreFault}

-- the files that were tried: those that were replaced, and the one that could not be, unless the store knew that it was as it was
abbrev pub tried : {files : List Put} {before after : Seen} {fault : StoreFault} → CommitFails files before after fault → List Put
tried (inl none) = []
tried (inr back) = to_go_back back.why back.stops.failed back.stops.done

-- the files `new` were to replace the files `old` in that folder, and that failed; the store held `held`, and then `left`
pub record Failed (folder : Option (List ℕ)) (old new : List File) (held left : Content) (fault : StoreFault) : Type 0 where
  pub distinct : IsDistinct old
  pub before : Seen
  pub after : Seen
  pub told_before : before.content ≡ Some held
  pub told_after : after.content ≡ Some left
  pub fails : CommitFails (puts folder old new) before after fault

-- the fault reports the file
abbrev pub IsTold : StoreFault → Put → Type 0
IsTold fault p = Contains (still_new fault) p.name

-- what holds of each file that was tried, by what the store held and holds
abbrev pub OfTried : (Content → Content → StoreFault → Put → Type 0) → Type 0
OfTried P = (folder : Option (List ℕ)) (old new : List File) (held left : Content) (fault : StoreFault) (f : Failed folder old new held left fault) (p : Put) →
    Contains (tried f.fails) p → P held left fault p

-- It has its old bytes, or is reported.
abbrev pub OldOrTold : Type 0
OldOrTold = OfTried (λ held left fault p. (get left p.path ≡ Some p.was) ⊎ IsTold fault p)

-- It has its old bytes, its new ones, or what it had.
abbrev pub OldNewOrHeld : Type 0
OldNewOrHeld = OfTried (λ held left fault p. (get left p.path ≡ Some p.was) ⊎ (get left p.path ≡ Some p.bytes) ⊎ (get left p.path ≡ get held p.path))

-- What is reported was tried.
abbrev pub ToldWasTried : Type 0
ToldWasTried = (folder : Option (List ℕ)) (old new : List File) (held left : Content) (fault : StoreFault) (f : Failed folder old new held left fault)
    (name : List ℕ) →
    Contains (still_new fault) name → (p : Put) × Contains (tried f.fails) p × (p.name ≡ name)

-- At a path there is what there was, unless a file at that path is reported. A file that was to get other bytes had its old ones.
abbrev pub UntoldIsAsBefore : Type 0
UntoldIsAsBefore = (folder : Option (List ℕ)) (old new : List File) (held left : Content) (fault : StoreFault) → Failed folder old new held left fault
    → (path : List ℕ) →
    ((p : Put) → Contains (puts folder old new) p → path ≡ p.path → (IsTold fault p → ⊥) × (get held path ≡ Some p.was)) → get left path ≡ get held path
