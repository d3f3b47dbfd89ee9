-- Values that are given in words, and which of them may be given.
use Rattle.std.specs.Prelude.{ℕ, ◌==◌, Bool, true, false, List, [], ◌∷◌, bytes_eq, codes, if◌then◌else◌, Option, Some, option_map}
use Rattle.std.specs.Str.{IsUtf8}
use Rattle.meson_steps.specs.declared.given.Given.{Given}
use Rattle.meson_steps.specs.declared.given.Given.TheVariants as given
use Rattle.meson_steps.specs.Code.{IsExpression, code_of}

abbrev pub begins_colon : List ℕ → Bool
begins_colon [] = false
begins_colon (b ∷ bs) = b == 58

abbrev pub after_first : List ℕ → List ℕ
after_first [] = []
after_first (b ∷ bs) = bs

-- `:CODE` is that code, if it is an expression; `true` and `false` are truth values, and any other word is the text
abbrev pub meant_by : List ℕ → Option Given
meant_by word =
    if begins_colon word then option_map given.Code (code_of (after_first word))
    else (if bytes_eq word (codes "true") then Some (given.Switch true)
    else (if bytes_eq word (codes "false") then Some (given.Switch false) else Some (given.Text word)))

-- code has to be an expression
abbrev pub MayBeGiven : Given → Type 0
MayBeGiven (given.Text text) = IsUtf8 text
MayBeGiven (given.Switch b) = Unit {0}
MayBeGiven (given.Code code) = IsExpression code
