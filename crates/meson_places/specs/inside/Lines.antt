-- The offsets on a line of a file.
use Rattle.std.specs.Prelude.{◌≡◌, ℕ, ◌<◌, ◌^◌, ◌==◌, ◌&&◌, nat_le, List}
use Rattle.meson_places.specs.Names.{line_of}

-- Those from one to another are on the line of this number, and no others.
pub record IsLine (bytes : List ℕ) (line from to : ℕ) : Type 0 where
  pub on : (at_ : ℕ) → at_ < 2 ^ 64 → (line_of bytes at_ == line) ≡ (nat_le from at_ && nat_le at_ to)
