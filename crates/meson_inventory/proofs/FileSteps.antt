-- The files of a project, one after another: their lines, and their names as JSON.
use Rattle.std.proofs.Common.{◌≡◌, ℕ, ◌+◌, ◌<◌, List, [], ◌∷◌, ◌++◌, length, drop, get_or, map, sym, ap, ◌∙◌, append_assoc}
use Rattle.std.specs.Prelude.{codes, flat_map}
use Rattle.std.proofs.lemmas.List.{at_drop_more, map-append}
use Rattle.serde_json.specs.Data.{Data, string}
use Rattle.meson_splice.specs.declared.file_set.File.{File}
use Rattle.meson_calls.specs.Loading.{name_of_file}
use Rattle.meson_inventory.specs.Inventory.{file_data, file_line}
use Rattle.meson_listing.proofs.Names.{name_there}

nobody : File
nobody = record { name = []; bytes = [] }

module _ (files : List File) (i : ℕ) (within : i < length files) (name : List ℕ) (is : name ≡ name_of_file i files) where
  named : name ≡ (get_or files i nobody).name
  named = is ∙ sym (name_there files i nobody within)

  pub one_line : (before between after whole : List ℕ) → between ≡ before ++ name → after ≡ between ++ codes ":1: build file\n" → before ++ flat_map file_line (drop i files) ≡ whole
      → after ++ flat_map file_line (drop (i + 1) files) ≡ whole
  one_line before between after whole first second so_far =
      let more = flat_map file_line (drop (i + 1) files) in
      let end = codes ":1: build file\n" in
      ap (λ a. a ++ more) (second ∙ ap (λ b. b ++ end) first)
      ∙ append_assoc (before ++ name) end more
      ∙ append_assoc before name (end ++ more)
      ∙ ap (λ n. before ++ (n ++ (end ++ more))) named
      ∙ ap (λ m. before ++ m) (sym (at_drop_more (flat_map file_line) files i nobody within ∙ append_assoc (get_or files i nobody).name end more))
      ∙ so_far

  pub one_value : {V : Type 0} (view : V → Data) (before after : List V) (v : V) (whole : List Data) → after ≡ before ++ v ∷ [] → view v ≡ string name → map view before ++ map file_data (drop i files) ≡ whole
      → map view after ++ map file_data (drop (i + 1) files) ≡ whole
  one_value view before after v whole pushed is_name so_far =
      let more = map file_data (drop (i + 1) files) in
      ap (λ a. a ++ more) (ap (map view) pushed ∙ map-append view before (v ∷ []))
      ∙ append_assoc (map view before) (view v ∷ []) more
      ∙ ap (λ d. map view before ++ d ∷ more) (is_name ∙ ap string named)
      ∙ ap (λ m. map view before ++ m) (sym (at_drop_more (map file_data) files i nobody within))
      ∙ so_far
