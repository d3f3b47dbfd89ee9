-- The names of files as a set, with one more file and without it.
use Rattle.std.proofs.Common.{◌≡◌, ◌∙◌, ℕ, suc, ◌+◌, Bool, true, false, not, cond, List, [], ◌∷◌, ◌++◌, length, Some, None, refl, sym, ap, subst, arith}
use Rattle.std.specs.Prelude.{Option, IsNone, is_some, nat_lt, bytes_eq, ◌||◌}
use Rattle.std.specs.HashSet.{HashSet, contains_text}
use Rattle.std.specs.List.{list_any, position_or_len}
use Rattle.std.specs.declared.string.String.{String}
use Rattle.std.proofs.lemmas.Bool.Decides.{nat_tests}
use Rattle.std.proofs.lemmas.List.Folds.{list_any-append}
use Rattle.std.proofs.lemmas.Slice.Eq.{bytes_eq-Decides}
use Rattle.meson_splice.specs.Files.{position_of_file}
use Rattle.meson_splice.specs.declared.file_set.File.{File}
use Rattle.meson_gathering.specs.inside.Names.{AreNames}

-- ---- a file is found where one has the name

some_if : (t : Bool) (n : ℕ) → is_some (cond t (Some n) None) ≡ t
some_if true n = refl
some_if false n = refl

here_or_later : (b : Bool) (n m : ℕ) → nat_lt (cond (not b) (1 + n) 0) (suc m) ≡ (b || nat_lt n m)
here_or_later true n m = grind (arith, nat_tests)
here_or_later false n m = grind (arith, nat_tests)

is_within : (x : List ℕ) (files : List File) → nat_lt (position_or_len (λ f. bytes_eq f.name x) files) (length files) ≡ list_any (λ f. bytes_eq f.name x) files
is_within x [] = refl
is_within x (f ∷ files) =
    here_or_later (bytes_eq f.name x) (position_or_len (λ f. bytes_eq f.name x) files) (length files)
    ∙ ap (λ b. bytes_eq f.name x || b) (is_within x files)

is_found : (x : List ℕ) (files : List File) → is_some (position_of_file x files) ≡ list_any (λ f. bytes_eq f.name x) files
is_found x files =
    some_if (nat_lt (position_or_len (λ f. bytes_eq f.name x) files) (length files)) (position_or_len (λ f. bytes_eq f.name x) files)
    ∙ is_within x files

either : (b had : Bool) → cond b true had ≡ (had || (b || false))
either true true = refl
either true false = refl
either false true = refl
either false false = refl

none_is : (o : Option ℕ) → IsNone o → is_some o ≡ false
none_is None h = refl
none_is (Some i) h = h

-- ---- the set of their names

module _ {Y H : Type 0} (names more : HashSet (String Y) H) (files : List File) (are : AreNames names files) where
  pub names_more : (f : File) → ((x : List ℕ) → contains_text more x ≡ cond (bytes_eq f.name x) true (contains_text names x)) → AreNames more (files ++ f ∷ [])
  names_more f put = record {
    same = λ x.
        put x
        ∙ ap (cond (bytes_eq f.name x) true) (are.same x ∙ is_found x files)
        ∙ either (bytes_eq f.name x) (list_any (λ g. bytes_eq g.name x) files)
        ∙ sym (list_any-append (λ g. bytes_eq g.name x) files (f ∷ []))
        ∙ sym (is_found x (files ++ f ∷ []));
  }

  -- the name goes again
  pub names_back : (back : HashSet (String Y) H) (name : List ℕ) → IsNone (position_of_file name files)
      → ((x : List ℕ) → contains_text more x ≡ cond (bytes_eq name x) true (contains_text names x))
      → ((x : List ℕ) → contains_text back x ≡ cond (bytes_eq name x) false (contains_text more x)) → AreNames back files
  names_back back name none put gone = record { same = λ x. at x (bytes_eq name x) refl } where
    at : (x : List ℕ) (b : Bool) → bytes_eq name x ≡ b → contains_text back x ≡ is_some (position_of_file x files)
    at x true is =
        gone x
        ∙ ap (λ b. cond b false (contains_text more x)) is
        ∙ sym (none_is (position_of_file x files) (subst (λ n. IsNone (position_of_file n files)) ((bytes_eq-Decides name x).0 is) none))
    at x false is =
        gone x
        ∙ ap (λ b. cond b false (contains_text more x)) is
        ∙ put x
        ∙ ap (λ b. cond b true (contains_text names x)) is
        ∙ are.same x
