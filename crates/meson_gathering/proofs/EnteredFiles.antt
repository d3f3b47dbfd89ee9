-- Names that are entered one after another.
use Rattle.std.proofs.Common.{◌≡◌, ◌≤◌, ℕ, List, [], ◌∷◌, ◌++◌, length, refl, sym, ap, ◌∙◌, append_assoc, ◌+◌, ◌<◌, suc, map, take, drop, get_or, arith, length-append}
use Rattle.std.specs.Prelude.{All, Option, Some, None, option_and_then}
use Rattle.std.proofs.lemmas.List.{append-nil, map-append, take-append-drop}
use Rattle.std.proofs.Math.Seq.{take-suc}
use Rattle.std.proofs.lemmas.List.Elements.{All-nil, All-cons, All-append, All-contains, All-same, Contains-append_right}
use Rattle.meson_splice.specs.declared.file_set.File.{File}
use Rattle.meson_splice.specs.Files.{position_of_file}
use Rattle.meson_calls.specs.Folders.{IsFileName}
use Rattle.meson_calls.specs.Loading.{max_files, HasFileName}
use Rattle.meson_store.specs.Content.{Content}
use Rattle.meson_gathering.specs.Gathering.{file_of, with_more, files_with, held_bytes, files_entered, Ending, IsNextFile}
use Rattle.meson_gathering.specs.inside.Gathered.{IsNotEntered, past_limit, at_name, Grows}

-- ---- what the files have more

pub grows_none : (files : List File) → length files ≤ max_files → Grows files files
grows_none files few = record { more = []; is_more = sym (append-nil files); named = All-nil HasFileName; few = few }

pub grows_one : (files new : List File) (f : File) → length files < max_files → HasFileName f → new ≡ files ++ f ∷ [] → Grows files new
grows_one files new f few named is = record {
  more = f ∷ [];
  is_more = is;
  named = All-cons HasFileName f [] named (All-nil HasFileName);
  few = let count : length new ≡ length files + 1 = ap length is ∙ length-append files (f ∷ []) in omega (arith, count);
}

pub grows_then : (a b c : List File) → Grows a b → Grows b c → Grows a c
grows_then a b c h k = record {
  more = h.more ++ k.more;
  is_more = k.is_more ∙ ap (λ fs. fs ++ k.more) h.is_more ∙ append_assoc a h.more k.more;
  named = All-append HasFileName h.more k.more h.named k.named;
  few = k.few;
}

-- ---- the names, cut at one of them

module _ {X : Type 0} (text : X → List ℕ) (names : List X) (i : ℕ) (at_i : X) (name : List ℕ) (is : at_i ≡ get_or names i at_i) (within : i < length names) (reads : name ≡ text at_i) where
  step : take (i + 1) names ≡ take i names ++ at_i ∷ []
  step = let one : i + 1 ≡ suc i = omega arith in ap (λ k. take k names) one ∙ take-suc names i at_i within ∙ ap (λ n. take i names ++ n ∷ []) (sym is)

  pub names_more : map text (take (i + 1) names) ≡ map text (take i names) ++ name ∷ []
  names_more = ap (map text) step ∙ map-append text (take i names) (at_i ∷ []) ∙ ap (λ n. map text (take i names) ++ n ∷ []) (sym reads)

  pub names_cut : map text names ≡ map text (take i names) ++ name ∷ map text (drop (i + 1) names)
  names_cut =
      ap (map text) (sym (take-append-drop (i + 1) names))
      ∙ map-append text (take (i + 1) names) (drop (i + 1) names)
      ∙ ap (λ ns. ns ++ map text (drop (i + 1) names)) names_more
      ∙ append_assoc (map text (take i names)) (name ∷ []) (map text (drop (i + 1) names))

  pub name_in : All IsFileName (map text names) → IsFileName name
  name_in all =
      let rest = name ∷ map text (drop (i + 1) names) in
      let first : 0 < length rest = omega arith in
      All-contains IsFileName (map text (take i names) ++ rest) name (All-same IsFileName (map text (take i names) ++ rest) (map text names) (sym names_cut) all)
      (Contains-append_right (map text (take i names)) rest name (0, first, refl))

module _ (content : Content) (folder : Option (List ℕ)) where
  after_more : (xs ys : List (List ℕ)) (o : Option (List File)) → ((files : List File) → files_entered content folder (xs ++ ys) files ≡ option_and_then (files_entered content folder ys) (files_entered content folder xs files)) →
      option_and_then (files_entered content folder (xs ++ ys)) o ≡ option_and_then (files_entered content folder ys) (option_and_then (files_entered content folder xs) o)
  after_more xs ys None rest = refl
  after_more xs ys (Some files) rest = rest files

  entered-append : (xs ys : List (List ℕ)) (files : List File) → files_entered content folder (xs ++ ys) files ≡ option_and_then (files_entered content folder ys) (files_entered content folder xs files)
  entered-append [] ys files = refl
  entered-append (x ∷ xs) ys files = after_more xs ys (files_with files x (position_of_file x files) (held_bytes content folder x)) (entered-append xs ys)

  pub entered_then : (xs ys : List (List ℕ)) (files middle : List File) (o : Option (List File)) → files_entered content folder xs files ≡ Some middle → files_entered content folder ys middle ≡ o →
      files_entered content folder (xs ++ ys) files ≡ o
  entered_then xs ys files middle o h k = entered-append xs ys files ∙ ap (option_and_then (files_entered content folder ys)) h ∙ k

  -- ---- one name

  module _ (files : List File) (name : List ℕ) where
    one : (o : Option ℕ) (bytes : Option (List ℕ)) → position_of_file name files ≡ o → held_bytes content folder name ≡ bytes → files_entered content folder (name ∷ []) files ≡ option_and_then (files_entered content folder []) (files_with files name o bytes)
    one o bytes h k = ap (λ p. option_and_then (files_entered content folder []) (files_with files name p (held_bytes content folder name))) h ∙ ap (λ b. option_and_then (files_entered content folder []) (files_with files name o b)) k

    just : (o : Option (List File)) → option_and_then (files_entered content folder []) o ≡ o
    just None = refl
    just (Some fs) = refl

    pub enter_new : (bytes : List ℕ) (o : Option (List File)) → position_of_file name files ≡ None → held_bytes content folder name ≡ Some bytes → with_more files (file_of name bytes) ≡ o → files_entered content folder (name ∷ []) files ≡ o
    enter_new bytes o h k more = one None (Some bytes) h k ∙ just (with_more files (file_of name bytes)) ∙ more

    pub next_name : position_of_file name files ≡ None → IsNextFile content folder (name ∷ []) files name
    next_name h = record { before = []; after = []; are_names = refl; there = files; are_there = refl; is_new = h }

  -- ---- a stop at one of the names is a stop at all of them

  none_then : (xs ys : List (List ℕ)) (files : List File) → files_entered content folder xs files ≡ None → files_entered content folder (xs ++ ys) files ≡ None
  none_then xs ys files h = entered-append xs ys files ∙ ap (option_and_then (files_entered content folder ys)) h

  pub stop_within : (before after names : List (List ℕ)) (name : List ℕ) (files middle : List File) (end : Ending) → names ≡ before ++ name ∷ after → files_entered content folder before files ≡ Some middle →
      IsNotEntered content folder (name ∷ []) middle end → IsNotEntered content folder names files end
  stop_within before after names name files middle _ split so_far (past_limit none) =
      past_limit (
      ap (λ ns. files_entered content folder ns files) (split ∙ sym (append_assoc before (name ∷ []) after))
      ∙ none_then (before ++ name ∷ []) after files (entered_then before (name ∷ []) files middle None so_far none)
      )
  stop_within before after names name files middle _ split so_far (at_name found_ next) =
      at_name found_ (record {
        before = before ++ next.before;
        after = next.after ++ after;
        are_names = split ∙ ap (λ ns. before ++ (ns ++ after)) next.are_names ∙ ap (λ ns. before ++ ns) (append_assoc next.before (found_ ∷ next.after) after) ∙ sym (append_assoc before next.before (found_ ∷ (next.after ++ after)));
        there = next.there;
        are_there = entered_then before next.before files middle (Some next.there) so_far next.are_there;
        is_new = next.is_new;
      })
