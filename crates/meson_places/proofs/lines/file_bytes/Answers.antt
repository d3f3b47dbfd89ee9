use Rattle.std.proofs.Common.{◌≡◌, ℕ, zero, suc, ◌≤◌, List, [], ◌∷◌, length, refl, sym, arith}
use Rattle.meson_splice.specs.Files.{bytes_at}
use Rattle.meson_splice.specs.declared.file_set.File.{File}
use Rattle.meson_places.proofs.lines.file_bytes.Goals as goal

bytes_past : (files : List File) (i : ℕ) → length files ≤ i → bytes_at i files ≡ []
bytes_past [] i past = refl
bytes_past (f ∷ files) zero past = absurd (omega (arith, past))
bytes_past (f ∷ files) (suc i) past = let below : length files ≤ i = omega (arith, past) in bytes_past files i below

pub returns-else-file-len : goal.returns-else-file-len
returns-else-file-len c =
    let past : length c.args.files.now ≤ c.args.file = omega arith in
    sym (bytes_past c.args.files.now c.args.file past)
