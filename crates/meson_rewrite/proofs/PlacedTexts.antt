-- Texts as files of a store, no two by one name.
use Rattle.std.proofs.Common.{◌≡◌, ◌∙◌, ◌<◌, ◌++◌, [], ℕ, List, Option, Some, None, length, min, take, get_or, bytes_eq, codes, refl, sym, ap, arith, length-take}
use Rattle.std.proofs.lemmas.List.{append_cancel_left, get_or-map, get_or-take, length-map}
use Rattle.std.proofs.lemmas.List.Quantifiers.{position-Some}
use Rattle.std.proofs.lemmas.Slice.Eq.{bytes_eq-Decides}
use Rattle.meson_splice.specs.Files.{position_of_file}
use Rattle.meson_splice.specs.declared.file_set.File.{File}
use Rattle.meson_json.specs.TextsFile.{AreTexts, GivenText}
use Rattle.meson_store.specs.Commit.{path_in}
use Rattle.meson_gathering.specs.Gathering.{file_of}
use Rattle.meson_rewrite.specs.Texts.{placed}

-- files of one folder with different names have different names in the store
pub path-apart : (dir : Option (List ℕ)) (a b : List ℕ) → path_in dir a ≡ path_in dir b → a ≡ b
path-apart None a b same = same
path-apart (Some folder) a b same = append_cancel_left (folder ++ codes "/") a b same

nobody : File
nobody = record { name = []; bytes = [] }

module _ (dir : Option (List ℕ)) (texts : List GivenText) (are : AreTexts texts) (i : ℕ) (t : GivenText) (within : i < length texts) (is : t ≡ get_or texts i t) where
  abbrev before : List File
  before = placed dir (take i texts)

  none-before : (o : Option ℕ) → position_of_file (path_in dir t.0) before ≡ o → position_of_file (path_in dir t.0) before ≡ None
  none-before None at = at
  none-before (Some k) at =
      let found = position-Some (λ f. bytes_eq f.name (path_in dir t.0)) before k nobody at in
      let first = found.0 in
      let many : length before ≡ length (take i texts) = length-map (take i texts) (λ u. file_of (path_in dir u.0) u.1) in
      let taken : length (take i texts) ≡ min i (length texts) = length-take i texts in
      let inside : k < length (take i texts) = omega (arith, first, many) in
      let below : k < i = omega (arith, inside, taken) in
      let named : (get_or before k nobody).name ≡ path_in dir t.0 = (bytes_eq-Decides (get_or before k nobody).name (path_in dir t.0)).0 found.1 in
      let there = get_or-map (λ u. file_of (path_in dir u.0) u.1) (take i texts) k t nobody inside in
      let same : path_in dir (get_or texts k t).0 ≡ path_in dir t.0 =
      ap (λ u. path_in dir u.0) (sym (get_or-take i texts k t below)) ∙ sym (ap (λ f. f.name) there) ∙ named in
      absurd (are.apart k i t below within (path-apart dir (get_or texts k t).0 t.0 same ∙ ap (λ u. u.0) is))

  pub new-path : position_of_file (path_in dir t.0) (placed dir (take i texts)) ≡ None
  new-path = none-before (position_of_file (path_in dir t.0) before) refl
