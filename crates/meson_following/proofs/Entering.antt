-- What calls do that are statements.
use Rattle.std.proofs.Common.{rules, ◌≡◌, ℕ, ◌+◌, List, [], ◌∷◌, refl, sym, ap, ◌∙◌}
use Rattle.std.specs.Prelude.{true, false, Option, Some, None, bytes_eq, codes, if◌then◌else◌, option_and_then}
use Rattle.std.specs.List.{position_from}
use Rattle.std.proofs.lemmas.Iterator.Adapters.{position_from-zero}
use Rattle.meson_splice.specs.declared.file_set.File.{File}
use Rattle.meson_splice.specs.Files.{position_of_file}
use Rattle.meson_syntax.specs.declared.tree.Parsed.{Parsed}
use Rattle.meson_calls.specs.Calls.{Call, calls_function, first_argument, first_literal}
use Rattle.meson_calls.specs.declared.call.CallRef.{CallRef}
use Rattle.meson_calls.specs.declared.call.Reading.TheVariants.{Followed}
use Rattle.meson_calls.specs.Entering.{folder_file, meant_as}
use Rattle.meson_calls.specs.Loading.{AreParsed, loaded_from, named_trees, project, views}
use Rattle.meson_calls.specs.Project.{BuildFile, Project, placed}
use Rattle.meson_following.specs.declared.effects.Effect.TheVariants.{MaySet, Sets, Unsets}
use Rattle.meson_following.specs.Effects.{by_fit, effect_of, entering, entering_by, number_of}
use Rattle.meson_following.specs.Names.{fit, named_by}

module _ {S : Type 0} (p : Project S) (x : List ℕ) (f : BuildFile S) (q : CallRef) (c : Call S) where
  pub sets_chosen : calls_function (codes "set_variable") c ≡ true → by_fit Sets (fit x (named_by c)) ≡ effect_of p x f (placed q c)
  sets_chosen is = search rules

  pub unsets_chosen : calls_function (codes "set_variable") c ≡ false → calls_function (codes "unset_variable") c ≡ true → by_fit Unsets (fit x (named_by c)) ≡ effect_of p x f (placed q c)
  unsets_chosen set is = search rules

  pub enters_chosen : calls_function (codes "set_variable") c ≡ false → calls_function (codes "unset_variable") c ≡ false → calls_function (codes "error") c ≡ false
      → calls_function (codes "subdir_done") c ≡ false → calls_function (codes "subdir") c ≡ true → entering_by p f (placed q c) (first_argument c) ≡ effect_of p x f (placed q c)
  enters_chosen set unset stops leaves is = search rules

-- ---- of `subdir`

module _ {S : Type 0} (p : Project S) (name : List ℕ) (c : Call S) where
  pub no_literal : first_literal c ≡ None → MaySet ≡ entering c (option_and_then (number_of p) (meant_as Followed name c))
  no_literal is = sym (ap (λ o. entering c (option_and_then (number_of p) (option_and_then (folder_file Followed name) o))) is)

  pub of_file : (folder : List ℕ) (o : Option (List ℕ)) → first_literal c ≡ Some folder → folder_file Followed name folder ≡ o → entering c (option_and_then (number_of p) o) ≡ entering c (option_and_then (number_of p) (meant_as Followed name c))
  of_file folder o is file = sym (ap (λ l. entering c (option_and_then (number_of p) (option_and_then (folder_file Followed name) l))) is ∙ ap (λ f. entering c (option_and_then (number_of p) f)) file)

-- ---- files by their numbers

number_from : (files : List File) (trees : List Parsed) (name : List ℕ) (n : ℕ) → AreParsed files trees
    → position_from (λ f. bytes_eq f.name name) n (named_trees files (views files trees)) ≡ position_from (λ f. bytes_eq f.name name) n files
number_from [] [] name n parsed = refl
number_from [] (t ∷ trees) name n parsed = absurd parsed
number_from (f ∷ files) [] name n parsed = absurd parsed
number_from (f ∷ files) (t ∷ trees) name n parsed = ap (λ r. if bytes_eq f.name name then Some n else r) (number_from files trees name (n + 1) parsed.1)

pub number_is : (files : List File) (trees : List Parsed) (name : List ℕ) → AreParsed files trees → number_of (project (loaded_from files trees)) name ≡ position_of_file name files
number_is files trees name parsed =
    position_from-zero (λ f. bytes_eq f.name name) (named_trees files (views files trees)) ∙ number_from files trees name 0 parsed ∙ sym (position_from-zero (λ f. bytes_eq f.name name) files)
