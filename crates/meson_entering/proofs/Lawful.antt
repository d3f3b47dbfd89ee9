-- What literals mean, in a loop or not.
use Rattle.std.proofs.Common.{◌≡◌, ℕ, List, [], ◌∷◌, ◌++◌, Option, Some, None, refl, sym, ap, subst, ◌∙◌, inl, inr, arith}
use Rattle.std.specs.Prelude.{Bool, true, false, codes, if◌then◌else◌, option_and_then}
use Rattle.std.specs.List.{Contains, cons_option, filter_map, flat_map}
use Rattle.std.proofs.lemmas.List.Elements.{Contains-append_cases, Contains-append_left, Contains-append_right}
use Rattle.meson_lex.specs.declared.kinds.Span.{Span}
use Rattle.meson_syntax.specs.Tree.{Expression, File, identifier, boolean, integer, string, paren, array, dictionary, call, unary, row, postfix, conditional}
use Rattle.meson_calls.specs.declared.call.Reading.{Reading}
use Rattle.meson_calls.specs.declared.call.Reading.TheVariants.{Written, Followed}
use Rattle.meson_calls.specs.Calls.{Call, all_chosen, calls_function, first_argument, first_literal, literal_of, part_call}
use Rattle.meson_calls.specs.Entering.{folder_file}
use Rattle.meson_calls.specs.Folders.{folder_of, in_folder, is_plain_folder}
use Rattle.meson_calls.specs.Parts.{parts_of_file}
use Rattle.meson_calls.specs.Project.{BuildFile, Placed}
use Rattle.meson_calls.proofs.PlainFolders.{plain_folders_stay}
use Rattle.meson_entering.specs.Entering.{entered_at, files_meant, folders_of}
use Rattle.meson_entering.specs.Laws.{FollowedEntersMore, LiteralsMeanOne, WrittenAreLiterals}

module _ {S : Type 0} (tree : File S) (path : List ℕ) where
  followed : (e : Expression S) (folder : List ℕ) → literal_of e ≡ Some folder → folders_of Followed tree path (Some e) ≡ cons_option (literal_of e) []
  followed (identifier s x) folder is = absurd (let no : ⊥ = cc in no)
  followed (boolean s b) folder is = refl
  followed (integer s x) folder is = refl
  followed (string s q x) folder is = refl
  followed (paren s e) folder is = refl
  followed (array l) folder is = refl
  followed (dictionary l) folder is = refl
  followed (call s f l) folder is = refl
  followed (unary s o e) folder is = refl
  followed (row s e os) folder is = refl
  followed (postfix s e ts) folder is = refl
  followed (conditional s c y n) folder is = refl

  one_folder : (reading : Reading) (o : Option (Expression S)) (folder : List ℕ) → option_and_then literal_of o ≡ Some folder → folders_of reading tree path o ≡ folder ∷ []
  one_folder Written o folder is = ap (λ p. cons_option p []) is
  one_folder Followed None folder is = absurd (let no : ⊥ = cc in no)
  one_folder Followed (Some e) folder is = followed e folder is ∙ ap (λ p. cons_option p []) is

pub literals_mean_one : LiteralsMeanOne
literals_mean_one reading f path c folder is = ap (filter_map (folder_file reading f.name)) (one_folder f.tree path reading (first_argument c) folder is)

kept_one : (file : List ℕ → Option (List ℕ)) (o : Option (List ℕ)) → filter_map file (cons_option o []) ≡ cons_option (option_and_then file o) []
kept_one file None = refl
kept_one file (Some folder) = refl

pub written_are_literals : WrittenAreLiterals
written_are_literals f path c = kept_one (folder_file Written f.name) (first_literal c)

-- ---- what is entered as it is written

none_there : {X : Type 0} {x : X} → Contains [] x → ⊥
none_there h = omega (arith, h.1)

each_more : {X Y : Type 0} (f g : X → List Y) → ((x : X) (y : Y) → Contains (f x) y → Contains (g x) y) → (xs : List X) (y : Y) → Contains (flat_map f xs) y → Contains (flat_map g xs) y
each_more f g each [] y h = h
each_more f g each (x ∷ xs) y h =
    elim (Contains-append_cases (f x) (flat_map f xs) y h) [
      | inl here ↦ Contains-append_left (g x) (flat_map g xs) y (each x y here)
      | inr later ↦ Contains-append_right (g x) (flat_map g xs) y (each_more f g each xs y later)
    ]

module _ (f : BuildFile Span) where
  module _ (path : List ℕ) (c : Call Span) (y : List ℕ) where
    plain_one : (folder : List ℕ) → first_literal c ≡ Some folder → Contains (cons_option (folder_file Written f.name folder) []) y → Contains (files_meant Followed f path c) y
    plain_one folder is = go (is_plain_folder folder) refl
      where
        go : (b : Bool) → is_plain_folder folder ≡ b → Contains (cons_option (if b then Some (folder_of f.name ++ in_folder folder) else None) []) y → Contains (files_meant Followed f path c) y
        go true plain h =
            let same = plain_folders_stay f.name folder plain ∙ ap (λ b. if b then Some (folder_of f.name ++ in_folder folder) else None) plain in
            subst (λ names. Contains names y) (sym (literals_mean_one Followed f path c folder is ∙ ap (λ o. cons_option o []) same)) h
        go false plain h = absurd (none_there h)

    one_more : (o : Option (List ℕ)) → first_literal c ≡ o → Contains (cons_option (option_and_then (folder_file Written f.name) o) []) y → Contains (files_meant Followed f path c) y
    one_more None is h = absurd (none_there h)
    one_more (Some folder) is h = plain_one folder is h

  call_more : (c : Placed (Call Span)) (y : List ℕ) → Contains (entered_at Written f c) y → Contains (entered_at Followed f c) y
  call_more c y = go (calls_function (codes "subdir") c.it)
    where
      go : (b : Bool) → Contains (if b then files_meant Written f c.place.path.steps c.it else []) y → Contains (if b then files_meant Followed f c.place.path.steps c.it else []) y
      go true h = one_more c.place.path.steps c.it y (first_literal c.it) refl (subst (λ names. Contains names y) (written_are_literals f c.place.path.steps c.it) h)
      go false h = h

pub followed_enters_more : FollowedEntersMore
followed_enters_more f file h = each_more (entered_at Written f) (entered_at Followed f) (call_more f) (all_chosen part_call (parts_of_file 0 f.tree)) file h
