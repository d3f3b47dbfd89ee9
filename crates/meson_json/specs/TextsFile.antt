-- Texts in the place of files, as JSON: a name and a text each.
use Rattle.std.specs.Prelude.{◌≢◌, ◌≡◌, ◌≤◌, ℕ, List, length, All, codes, if◌then◌else◌, Option, Some, None, IfSome, option_map, option_and_then}
use Rattle.std.specs.List.{AllPairs}
use Rattle.std.specs.Str.{is_utf8}
use Rattle.serde_json.specs.Data.{Data}
use Rattle.serde_json.specs.Find.{get, as_array}
use Rattle.serde_json.specs.Read.{read}
use Rattle.meson_calls.specs.Folders.{IsFileName}
use Rattle.meson_calls.specs.Loading.{max_files}
use Rattle.meson_json.specs.Each.{each_of}
use Rattle.meson_json.specs.Members.{member_text, has_members}

-- a name and a text
abbrev pub GivenText : Type 0
GivenText = List ℕ × List ℕ

-- if it is an object of these two members
unfoldable pub text_of_data : Data → Option GivenText
text_of_data d =
    if has_members 2 d
    then option_and_then (λ file. option_map (λ text. (file, text)) (member_text (codes "text") d)) (member_text (codes "file") d)
    else None

-- if it is an object of this member, an array of such objects
unfoldable pub texts_of_data : Data → Option (List GivenText)
texts_of_data d = if has_members 1 d then option_and_then (each_of text_of_data) (option_and_then as_array (get (codes "texts") d)) else None

unfoldable pub listed_texts : List ℕ → Option (List GivenText)
listed_texts bytes = if is_utf8 bytes then option_and_then texts_of_data (read bytes) else None

-- ---- the files of a project that they are

-- as many as a project may have, with names of build files, none of them twice
pub record AreTexts (texts : List GivenText) : Type 0 where
  pub few : length texts ≤ max_files
  pub named : All (λ t. IsFileName t.0) texts
  pub apart : AllPairs (λ a b. a.0 ≢ b.0) texts

-- the bytes list these texts
abbrev pub HasTexts : List ℕ → List GivenText → Type 0
HasTexts bytes texts = (listed_texts bytes ≡ Some texts) × AreTexts texts

-- they list none, or what is listed are no texts of files
abbrev pub HasNoTexts : List ℕ → Type 0
HasNoTexts bytes = IfSome (listed_texts bytes) (λ texts. AreTexts texts → ⊥)
