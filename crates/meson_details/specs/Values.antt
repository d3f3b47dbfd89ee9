-- What is reported of a value: the function and the name of a call; what is in a call, an array or a dictionary, each with the key that leads to it; and any
-- other value itself.
use Rattle.std.specs.Prelude.{ℕ, suc, List, [], ◌∷◌, All}
use Rattle.std.specs.Option.{option_map_or}
use Rattle.std.specs.Str.{IsUtf8}
use Rattle.meson_lex.specs.declared.kinds.Span.{Span}
use Rattle.meson_syntax.specs.Paths.{list_in}
use Rattle.meson_syntax.specs.Tree.{Expression, array, dictionary, call, Argument, plain, named, pair}
use Rattle.meson_edit.specs.Edits.{elements}
use Rattle.meson_calls.specs.Calls.{first_literal, literal_of}
use Rattle.meson_calls.specs.ChosenNotes.{call_with}
use Rattle.meson_details.specs.declared.details.ArgumentKey.{ArgumentKey}
use Rattle.meson_details.specs.declared.details.ArgumentKey.TheVariants as key
use Rattle.meson_details.specs.declared.details.Shown.{Shown}
use Rattle.meson_details.specs.declared.details.ValueDetails.{ValueDetails}
use Rattle.meson_details.specs.declared.details.ValueDetails.TheVariants as details
use Rattle.meson_details.specs.Details.{shown_value, source_text}

-- ---- what is in a call, an array or a dictionary

-- an entry's key is the text of a literal, or else code
abbrev pub entry_key : List ℕ → Expression Span → ArgumentKey
entry_key source k = option_map_or key.Text (literal_of k) (key.Code (source_text source k))

-- the key and the value of an element, which has the number n if it has no name
abbrev pub content : List ℕ → ℕ → Argument Span → ArgumentKey × Shown
content source n (plain e) = (key.Number n, shown_value source e)
content source n (named s x e) = (key.Text x.text, shown_value source e)
content source n (pair s k v) = (entry_key source k, shown_value source v)

-- elements with a name or a key take no number
abbrev pub number_after : {S : Type 0} → ℕ → Argument S → ℕ
number_after n (plain e) = suc n
number_after n (named s x e) = n
number_after n (pair s k v) = n

abbrev pub contents_from : List ℕ → (first : ℕ) → List (Argument Span) → List (ArgumentKey × Shown)
contents_from source n [] = []
contents_from source n (x ∷ xs) = content source n x ∷ contents_from source (number_after n x) xs

-- of all elements, in their order
abbrev pub contents : List ℕ → List (Argument Span) → List (ArgumentKey × Shown)
contents source xs = contents_from source 0 xs

-- ---- a value

abbrev pub value_details : List ℕ → Expression Span → ValueDetails
value_details source (call s f l) = details.Call f.text (first_literal (call_with f.text l)) (contents source (elements l))
value_details source (array l) = details.List (contents source (elements l))
value_details source (dictionary l) = details.List (contents source (elements l))
value_details source e = details.Other (shown_value source e)

-- ---- texts in the source that are UTF-8

-- of the key and the value of an element
abbrev pub AreTextsOf : List ℕ → Argument Span → Type 0
AreTextsOf source (plain e) = IsUtf8 (source_text source e)
AreTextsOf source (named s x e) = IsUtf8 (source_text source e)
AreTextsOf source (pair s k v) = IsUtf8 (source_text source k) × IsUtf8 (source_text source v)

abbrev pub elements_of : {S : Type 0} → Expression S → List (Argument S)
elements_of e = option_map_or (λ l. elements l.list) (list_in e) []

-- of a value, and of what is in it
pub record HasTexts (source : List ℕ) (e : Expression Span) : Type 0 where
  pub own : IsUtf8 (source_text source e)
  pub inside : All (AreTextsOf source) (elements_of e)
