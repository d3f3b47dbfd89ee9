-- The digests of files. FIPS 180-4 (SHA-256); GNU Coreutils manual, sha2 utilities.
use Rattle.std.specs.Prelude.{ℕ, List, [], ◌∷◌, ◌++◌, codes, map}
use Rattle.std.specs.List.{concat}
use Rattle.hex.specs.Hex.{encode_lower}
use Rattle.sha2.specs.Sha256.{sha256}
use Rattle.meson_splice.specs.declared.file_set.File.{File}

-- in hexadecimal digits
abbrev pub digest : List ℕ → List ℕ
digest bytes = encode_lower (sha256 bytes)

-- the digest, two blanks and the name
abbrev pub sum_line : File → List ℕ
sum_line f = digest f.bytes ++ (codes "  " ++ (f.name ++ 10 ∷ []))

-- one for each file, in order
abbrev pub sums : List File → List ℕ
sums files = concat (map sum_line files)
