-- The code of words that is on standard input.
use Rattle.std.specs.Prelude.{◌≡◌, ℕ, Bool, true, false, List, codes, Option, Some, None}
use Rattle.meson_store.specs.Content.{Content}
use Rattle.meson_command.specs.Input.{as_text, with_last}
use Rattle.meson_rewrite.specs.Requests.{HasBytes}

-- it is the text of standard input, if that is read
abbrev pub IsCodeOf : (is_read : Bool) → Option Content → Option (List ℕ) → Type 0
IsCodeOf false held code = code ≡ None
IsCodeOf true held code = (bytes : List ℕ) × HasBytes held (codes "-") bytes × (code ≡ as_text bytes)

-- the words with code in place of the last of them
abbrev pub given_words : {A : Type 0} → List A → Option A → List A
given_words words None = words
given_words words (Some code) = with_last words code
