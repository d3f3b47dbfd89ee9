-- The names of files, and the places of elements.
use Rattle.std.proofs.Common.{◌≡◌, ℕ, zero, suc, ◌+◌, ◌-◌, ◌<◌, ◌≤◌, List, [], ◌∷◌, ◌++◌, length, take, get_or, refl, sym, ap, ap₂, arith, ◌∙◌}
use Rattle.std.specs.Prelude.{slice_get, Option, Some, option_map}
use Rattle.std.specs.Option.{option_map_or}
use Rattle.meson_lex.specs.declared.kinds.Span.{Span}
use Rattle.meson_splice.specs.declared.file_set.File as files
use Rattle.meson_syntax.specs.declared.tree.Parsed.{Parsed}
use Rattle.meson_calls.specs.declared.call.CallRef.{CallRef}
use Rattle.meson_calls.specs.Loading.{IsProject, loaded_from, name_of_file, project}
use Rattle.meson_calls.specs.Project.{BuildFile, place}
use Rattle.meson_calls.proofs.Loads.{as_many}
use Rattle.meson_calls.proofs.Standing.{nth_past, nth_there}
use Rattle.meson_followed.specs.Sources.{file_name, list_around, spot_at}
use Rattle.meson_sources.specs.SourceEdits.{Spot}

-- ---- names of files

name_is : (fs : List files.File) (n : ℕ) (e : files.File) → n < length fs → name_of_file n fs ≡ (get_or fs n e).name
name_is [] n e lt = absurd (omega arith)
name_is (f ∷ fs) zero e lt = refl
name_is (f ∷ fs) (suc n) e lt =
    let below : n < length fs = omega arith in
    name_is fs n e below

some_of : (ts : List Parsed) (n : ℕ) → n < length ts → Parsed
some_of [] n lt = absurd (omega arith)
some_of (t ∷ ts) n lt = t

abbrev name_or_none : Option (BuildFile Span) → List ℕ
name_or_none f = option_map_or (λ g. g.name) f []

module _ (fs : List files.File) (trees : List Parsed) (n : ℕ) (is_project : IsProject (loaded_from fs trees)) where
  pub no_name : length trees ≤ n → [] ≡ file_name (project (loaded_from fs trees)) n
  no_name past = sym (ap name_or_none (nth_past fs trees n past))

  pub within_files : n < length trees → n < length fs
  within_files lt = let many : length trees ≡ length fs = as_many fs trees is_project.parsed in omega arith

  pub name_there : (name : List ℕ) → n < length trees → ((e : files.File) → name ≡ (get_or fs n e).name) → name ≡ file_name (project (loaded_from fs trees)) n
  name_there name lt is =
      let e : files.File = record { name = []; bytes = [] } in
      is e ∙ sym (name_is fs n e (within_files lt)) ∙ sym (ap name_or_none (nth_there fs trees n (some_of trees n lt) (as_many fs trees is_project.parsed) lt))

-- ---- elements

take-all : (rest : List ℕ) (x : ℕ) → take (length rest) (rest ++ x ∷ []) ≡ rest
take-all [] x = refl
take-all (r ∷ rest) x = ap (λ xs. r ∷ xs) (take-all rest x)

get-last : (rest : List ℕ) (x : ℕ) → slice_get (rest ++ x ∷ []) (length rest) ≡ Some x
get-last [] x = refl
get-last (r ∷ rest) x = get-last rest x

-- an element whose place is this one, by the steps but the last and the last one
pub spot_is : (q : CallRef) (rest : List ℕ) (x : ℕ) → q.path.steps ≡ rest ++ x ∷ [] → length rest + 1 ≡ length q.path.steps
    → Some (record { list = place q.file rest; number = x }) ≡ spot_at q
spot_is q rest x is count =
    let n : length q.path.steps - 1 ≡ length rest = omega (arith, count) in
    let list : take (length q.path.steps - 1) q.path.steps ≡ rest = ap₂ take n is ∙ take-all rest x in
    let number : slice_get q.path.steps (length q.path.steps - 1) ≡ Some x = ap₂ slice_get is n ∙ get-last rest x in
    let of : List ℕ → ℕ → Spot = λ path k. record { list = place q.file path; number = k } in
    sym (ap (option_map (of (take (length q.path.steps - 1) q.path.steps))) number ∙ ap (λ path. Some (of path x)) list)

pub list_is : (q : CallRef) (rest : List ℕ) (x : ℕ) → q.path.steps ≡ rest ++ x ∷ [] → length rest + 1 ≡ length q.path.steps → place q.file rest ≡ list_around q
list_is q rest x is count =
    let n : length q.path.steps - 1 ≡ length rest = omega (arith, count) in
    sym (ap (place q.file) (ap₂ take n is ∙ take-all rest x))

nothing_around : (xs : List ℕ) → length xs ≡ 0 → xs ≡ take (length xs - 1) xs
nothing_around [] none = refl
nothing_around (x ∷ xs) none = absurd (omega arith)

pub root_around : (q : CallRef) → length q.path.steps ≡ 0 → place q.file q.path.steps ≡ list_around q
root_around q none = ap (place q.file) (nothing_around q.path.steps none)
