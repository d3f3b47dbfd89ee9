-- What digests say about files.
use Rattle.std.specs.Prelude.{◌≡◌, ◌≢◌, ◌⊎◌, ℕ, List, All, false, ◌==◌}
use Rattle.std.specs.List.{list_any}
use Rattle.meson_splice.specs.declared.file_set.File.{File}
use Rattle.meson_sums.specs.Sums.{digest, sums}

-- two texts have one digest; nobody knows such texts
pub record Collision : Type 0 where
  pub one : List ℕ
  pub other : List ℕ
  pub differ : one ≢ other
  pub same_digest : digest one ≡ digest other

-- its name fits on a line
abbrev pub IsOnALine : File → Type 0
IsOnALine f = list_any (λ b. b == 10) f.name ≡ false

abbrev pub SumsTell : Type 0
SumsTell = (files others : List File) → All IsOnALine files → All IsOnALine others → sums files ≡ sums others → (files ≡ others) ⊎ Collision
