-- The folder of the file of a name.
use Rattle.std.proofs.Common.{◌≡◌, ℕ, ◌+◌, ◌-◌, List, ◌++◌, length, take, drop, refl, sym, ap, ◌∙◌, arith}
use Rattle.std.specs.Prelude.{Bool, true, false, bytes_eq, codes, if◌then◌else◌}
use Rattle.std.proofs.lemmas.List.{length-append, take-append-drop}
use Rattle.std.proofs.Math.Seq.{drop-append_seam, take-append_seam}
use Rattle.std.proofs.lemmas.Slice.Eq.{bytes_eq-Decides}
use Rattle.meson_calls.specs.Folders.{build_file, in_folder}
use Rattle.meson_calls.specs.Searching.{file_of_folder}
use Rattle.meson_listing.specs.Followed.{FoldersFound, file_ending, folder_named}

-- ---- a name in a folder

module _ (folder : List ℕ) where
  begins : length (folder ++ file_ending) - length file_ending ≡ length folder
  begins = let all : length (folder ++ file_ending) ≡ length folder + length file_ending = length-append folder file_ending in omega (arith, all)

  below : folder_named (in_folder folder) ≡ folder
  below =
      ap (λ n. if bytes_eq (drop n (folder ++ file_ending)) file_ending then take n (folder ++ file_ending) else codes ".") begins
      ∙ ap (λ e. if bytes_eq e file_ending then take (length folder) (folder ++ file_ending) else codes ".") (drop-append_seam folder file_ending)
      ∙ take-append_seam folder file_ending

  pub ends : (name : List ℕ) → name ≡ in_folder folder → folder ≡ folder_named name
  ends name is = sym (ap folder_named is ∙ below)

pub folders_found : FoldersFound
folders_found folder = go (bytes_eq folder (codes ".")) refl
  where
    go : (b : Bool) → bytes_eq folder (codes ".") ≡ b → folder_named (if b then build_file else in_folder folder) ≡ folder
    go true is = sym ((bytes_eq-Decides folder (codes ".")).0 is)
    go false is = below folder

-- ---- a name in no folder

module _ (name : List ℕ) (none : (front : List ℕ) → name ≡ in_folder front → ⊥) where
  abbrev from : ℕ
  from = length name - length file_ending

  pub ends_otherwise : codes "." ≡ folder_named name
  ends_otherwise = go (bytes_eq (drop from name) file_ending) refl
    where
      go : (b : Bool) → bytes_eq (drop from name) file_ending ≡ b → codes "." ≡ (if b then take from name else codes ".")
      go true is = absurd (none (take from name) (sym (take-append-drop from name) ∙ ap (λ e. take from name ++ e) ((bytes_eq-Decides (drop from name) file_ending).0 is)))
      go false is = refl
