-- What a store holds: a finite map from names to bytes, both as lists of bytes.
use Rattle.std.specs.Prelude.{◌≡◌, ℕ, ◌<◌, ◌^◌, ◌-◌, ◌⊎◌, List, Option}
use Rattle.std.specs.Ordering.{nat_cmp}
use Rattle.std.specs.Cmp.Lexicographic.{slice_cmp}
use Rattle.std.specs.Coded.{Coded-set, coded_list, coded_option, coded_ℕ}
use Rattle.std.specs.FinMap.{FinMap, code, insert}
use Rattle.std.specs.Option.{option_map}

abbrev pub Content : Type 0
Content = FinMap (slice_cmp nat_cmp) (List ℕ)

-- two reports of a content are equal in one way at most
pub reported-set : (a b : Option Content) → IsProp (a ≡ b)
reported-set = Coded-set (coded_option (code (coded_list coded_ℕ) (coded_list coded_ℕ)))

-- the content after the file of that name got these bytes; a store that reports none reports none afterwards
abbrev pub content_with : Option Content → List ℕ → List ℕ → Option Content
content_with content name bytes = option_map (λ files. insert files name bytes) content

-- a failure of the device was counted, unless the count had reached its end
abbrev pub Rose : ℕ → ℕ → Type 0
Rose old new = (old < new) ⊎ (old ≡ 2 ^ 64 - 1)
