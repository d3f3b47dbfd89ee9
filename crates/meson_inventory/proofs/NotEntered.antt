-- The calls that are listed as not entered are the `subdir` calls by which any variable may be set.
use Rattle.std.proofs.Common.{◌≡◌, ◌≢◌, ℕ, List, [], ◌∷◌, length, Some, None, refl, sym, ap, ap₂, ◌∙◌, arith}
use Rattle.std.specs.Prelude.{Bool, true, false, not, cond, ◌&&◌, ◌||◌, if◌then◌else◌, bytes_eq, codes, filter, Option, option_map, option_and_then}
use Rattle.std.specs.List.{cons_option, filter_map, list_any}
use Rattle.meson_lex.specs.declared.kinds.Span.{Span}
use Rattle.meson_splice.specs.declared.file_set.File.{File}
use Rattle.meson_syntax.specs.declared.tree.Parsed.{Parsed}
use Rattle.meson_syntax.proofs.paths.Every.{Every}
use Rattle.meson_calls.specs.Calls.{Call, all_chosen, calls, calls_function, first_literal}
use Rattle.meson_calls.specs.declared.call.Reading.TheVariants.{Written}
use Rattle.meson_calls.specs.Entering.{folder_file}
use Rattle.meson_calls.specs.FileNames.{is_file}
use Rattle.meson_calls.specs.Folders.{file_in}
use Rattle.meson_calls.specs.Loading.{Loaded, named_trees, project, views}
use Rattle.meson_calls.specs.Project.{BuildFile, Project, Placed, placed, nth_file}
use Rattle.meson_calls.specs.Roles.{places}
use Rattle.meson_calls.specs.Subdirs.{enters_unknown, has_name, is_there, meant_file}
use Rattle.meson_variables.specs.Variables.{sets_unknown}
use Rattle.meson_calls.proofs.Loads.{as_many}
use Rattle.meson_inventory.specs.Holdings.{enters_one, files_meant_in, held_calls, not_entered, with_function}
use Rattle.meson_inventory.specs.Laws.{NotEnteredMeansUnknown, TellsWhyUnknown}
use Rattle.meson_inventory.specs.declared.holdings.HeldCall.{HeldCall}
use Rattle.meson_inventory.proofs.FoundListed.{HeldAs, Standing, every_call_stands, held_as}

-- ---- lists and tests

abbrev some : {X : Type 0} → List X → Bool
some [] = false
some (x ∷ xs) = true

some_there : {X : Type 0} (xs : List X) → xs ≢ [] → some xs ≡ true
some_there [] not_empty = absurd (not_empty refl)
some_there (x ∷ xs) not_empty = refl

-- what passes one of two tests passes either
either_passes : {X : Type 0} (f g : X → Bool) (xs : List X) → list_any g xs ≡ true → list_any (λ x. f x || g x) xs ≡ true
either_passes f g [] passes = absurd (let no : ⊥ = cc in no)
either_passes f g (x ∷ xs) passes = first (f x) (g x) (either_passes f g xs) passes
  where
    first : (a b : Bool) → (list_any g xs ≡ true → list_any (λ y. f y || g y) xs ≡ true) → (b || list_any g xs) ≡ true → ((a || b) || list_any (λ y. f y || g y) xs) ≡ true
    first true b later h = refl
    first false true later h = refl
    first false false later h = later h

-- ---- the calls that are left are those by which any variable may be set

abbrev named : List File → List Parsed → Project Span
named files trees = named_trees files (views files trees)

-- files with trees have the files' names
name_there : (files : List File) (trees : List Parsed) (x : List ℕ) → length trees ≡ length files → has_name (named files trees) x ≡ is_file files x
name_there [] trees x whole = refl
name_there (f ∷ files) [] x whole = absurd (omega (arith, whole))
name_there (f ∷ files) (t ∷ trees) x whole = let more : length trees ≡ length files = omega (arith, whole) in ap (λ b. bytes_eq f.name x || b) (name_there files trees x more)

or_none : (b : Bool) → (b || false) ≡ b
or_none true = refl
or_none false = refl

module _ (l : Loaded) (whole : length l.parsed ≡ length l.files) where
  abbrev p : Project Span
  p = project l

  abbrev there : Placed (Call Span) → Bool
  there c = is_there p (option_and_then (λ f. meant_file f.name c.it) (nth_file p c.place.file))

  -- as files are written, a call enters the file that its literal means
  file_entered : (o : Option (List ℕ)) → list_any (is_file l.files) (cons_option o []) ≡ is_there p o
  file_entered None = refl
  file_entered (Some x) = or_none (is_file l.files x) ∙ sym (name_there l.files l.parsed x whole)

  folder_entered : (name : List ℕ) (o : Option (List ℕ)) → list_any (is_file l.files) (filter_map (folder_file Written name) (cons_option o [])) ≡ is_there p (option_and_then (file_in name) o)
  folder_entered name None = refl
  folder_entered name (Some folder) = file_entered (file_in name folder)

  enters_in : (o : Option (BuildFile Span)) (c : Placed (Call Span)) → list_any (is_file l.files) (files_meant_in Written o c) ≡ is_there p (option_and_then (λ f. meant_file f.name c.it) o)
  enters_in None c = refl
  enters_in (Some f) c = folder_entered f.name (first_literal c.it)

  enters_there : (c : Placed (Call Span)) → enters_one Written l c ≡ there c
  enters_there c = enters_in (nth_file p c.place.file) c

  abbrev left : List (Placed (Call Span)) → List (Placed (Call Span))
  left cs = not_entered Written l (all_chosen (with_function (codes "subdir")) cs)

  same_calls : (cs : List (Placed (Call Span))) → left cs ≡ filter (enters_unknown p) cs
  same_calls [] = refl
  same_calls (c ∷ cs) = by_function (calls_function (codes "subdir") c.it) (same_calls cs)
    where
      by_function : (is_subdir : Bool) → left cs ≡ filter (enters_unknown p) cs
          → not_entered Written l (cons_option (option_map (placed c.place) (if is_subdir then Some c.it else None)) (all_chosen (with_function (codes "subdir")) cs))
          ≡ cond (is_subdir && not (there c)) (c ∷ filter (enters_unknown p) cs) (filter (enters_unknown p) cs)
      by_function false rest = rest
      by_function true rest = ap₂ (λ b ds. cond (not b) (c ∷ ds) ds) (enters_there c) rest

  abbrev unknown_calls : List (Placed (Call Span)) → List HeldCall
  unknown_calls cs = held_calls l (places (filter (enters_unknown p) cs))

  -- each of them is held
  some_unknown : (cs : List (Placed (Call Span))) → Every (Standing p) cs → some (unknown_calls cs) ≡ list_any (enters_unknown p) cs
  some_unknown [] every = refl
  some_unknown (c ∷ cs) every = by_test (enters_unknown p c) (held_as l c every.0.value every.0.is_at every.0.is_call) (some_unknown cs every.1)
    where
      by_test : (b : Bool) → HeldAs l c → some (unknown_calls cs) ≡ list_any (enters_unknown p) cs
          → some (held_calls l (places (cond b (c ∷ filter (enters_unknown p) cs) (filter (enters_unknown p) cs)))) ≡ (b || list_any (enters_unknown p) cs)
      by_test false h rest = rest
      by_test true h rest = ap (λ o. some (cons_option o (unknown_calls cs))) h.is_held

  why_unknown : TellsWhyUnknown l
  why_unknown =
      let same = ap (λ cs. held_calls l (places cs)) (same_calls (calls p)) in
      let some_enter = ap some same ∙ some_unknown (calls p) (every_call_stands p) in
      record {
        same = same;
        unknown = λ not_empty. ap not (either_passes (λ c. sets_unknown c.it) (enters_unknown p) (calls p) (sym some_enter ∙ some_there _ not_empty));
        entered = λ empty. sym some_enter ∙ ap some empty;
      }

pub not_entered_means_unknown : NotEnteredMeansUnknown
not_entered_means_unknown l is = why_unknown l (as_many l.files l.parsed is.parsed)
