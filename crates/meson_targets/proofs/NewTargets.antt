-- A target to be: whether its name is taken, the file of its folder, and what is written.
use Rattle.meson_targets.proofs.Words.{◌≡◌, ℕ, suc, ◌+◌, ◌<◌, List, [], ◌∷◌, ◌++◌, map, take, length, get_or, codes, Option, Some, None, refl, sym, ap, ap₂}
use Rattle.meson_targets.proofs.Words.{◌∙◌, append_assoc, arith, All, not, cond, nat_lt, bytes_eq, ok_or, option_and_then, Result, Ok, Err, IfOk, OnOk}
use Rattle.meson_targets.proofs.Words.{position_or_len, IsUtf8, All-cons, position_of_file, File, literal, Span, Parsed, Call, named_trees, views, BuildFile}
use Rattle.meson_targets.proofs.Words.{Placed, places, CallRef, NameTaken, NoFile, comma_between, more_between, not_taken, file_of_folder, file_number}
use Rattle.meson_targets.proofs.Words.{number_in}
use Rattle.std.proofs.lemmas.List.{map-append, take_more}
use Rattle.meson_calls.specs.Folders.{build_file, file_in}

-- ---- names

pub with_name_text : {X E : Type 0} (r : Result X E) (name : List ℕ) (names : List (List ℕ)) → IsUtf8 name → OnOk r (All IsUtf8 names) → IfOk r (λ u. All IsUtf8 (name ∷ names))
with_name_text (Ok x) name names text texts = All-cons IsUtf8 name names text texts
with_name_text (Err e) name names text texts = tt

pub is_taken : (cs : List (Placed (Call Span))) (ps : List CallRef) → ps ≡ places cs → (length ps ≡ 0 → ⊥) → not_taken cs ≡ Err NameTaken
is_taken [] ps is some = absurd (some (ap length is))
is_taken (c ∷ cs) ps is some = refl

pub is_free : (cs : List (Placed (Call Span))) (ps : List CallRef) → ps ≡ places cs → length ps ≡ 0 → not_taken cs ≡ Ok tt
is_free [] ps is none = refl
is_free (c ∷ cs) ps is none = let as_many = ap length is in absurd (omega (arith, none, as_many))

-- ---- files

module _ (name : List ℕ) where
  place_alike : (files : List File) (trees : List Parsed) → length trees ≡ length files
      → position_or_len (λ (f : BuildFile Span). bytes_eq f.name name) (named_trees files (views files trees)) ≡ position_or_len (λ (f : File). bytes_eq f.name name) files
  place_alike [] trees many = refl
  place_alike (f ∷ files) [] many = absurd (omega (arith, many))
  place_alike (f ∷ files) (t ∷ trees) many =
      let alike : length trees ≡ length files = omega (arith, many) in ap (λ n. cond (not (bytes_eq f.name name)) (1 + n) 0) (place_alike files trees alike)

  pub as_many_named : (files : List File) (trees : List Parsed) → length trees ≡ length files → length (named_trees files (views files trees)) ≡ length files
  as_many_named [] trees many = refl
  as_many_named (f ∷ files) [] many = absurd (omega (arith, many))
  as_many_named (f ∷ files) (t ∷ trees) many = let alike : length trees ≡ length files = omega (arith, many) in ap suc (as_many_named files trees alike)

  pub number_is : (files : List File) (trees : List Parsed) → length trees ≡ length files → file_number (named_trees files (views files trees)) name ≡ position_of_file name files
  number_is files trees many = ap₂ (λ n m. cond (nat_lt n m) (Some n) None) (place_alike files trees many) (as_many_named files trees many)

module _ (files : List File) (trees : List Parsed) (many : length trees ≡ length files) where
  in_root : (o : Option ℕ) → o ≡ position_of_file build_file files → ok_or o NoFile ≡ number_in (named_trees files (views files trees)) []
  in_root o is = ap (λ n. ok_or n NoFile) (is ∙ sym (number_is build_file files trees many))

  pub root_number : (folder : List ℕ) → length folder ≡ 0 → (o : Option ℕ) → o ≡ position_of_file build_file files → number_in (named_trees files (views files trees)) folder ≡ ok_or o NoFile
  root_number [] none o is = sym (in_root o is)
  root_number (c ∷ cs) none o is = absurd (omega (arith, none))

  folder_file : (folder : List ℕ) → (length folder ≡ 0 → ⊥) → file_of_folder folder ≡ file_in build_file folder
  folder_file [] some = absurd (some refl)
  folder_file (c ∷ cs) some = refl

  pub folder_number : (folder : List ℕ) → (length folder ≡ 0 → ⊥) → (name : List ℕ) → file_in build_file folder ≡ Some name → (o : Option ℕ) → o ≡ position_of_file name files
      → number_in (named_trees files (views files trees)) folder ≡ ok_or o NoFile
  folder_number folder some name is o there =
      ap (λ n. ok_or (option_and_then (file_number (named_trees files (views files trees))) n) NoFile) (folder_file folder some ∙ is)
      ∙ ap (λ n. ok_or n NoFile) (number_is name files trees many ∙ sym there)

-- ---- what is written

module _ {B : Type 0} (now : B → List ℕ) (kind name : List ℕ) where
  -- all but the closing bracket, with so many sources
  abbrev pub so_far : List B → List ℕ
  so_far ss = kind ++ (40 ∷ comma_between (map literal (name ∷ map now ss)))

  joined : (c l : List ℕ) → ((kind ++ (40 ∷ c)) ++ codes ", ") ++ l ≡ kind ++ (40 ∷ (c ++ (codes ", " ++ l)))
  joined c l = simp append_assoc

  pub next_source : (ss : List B) (i : ℕ) (d : B) (before mid after : List ℕ) → i < length ss → before ≡ so_far (take i ss) → mid ≡ before ++ codes ", " → after ≡ mid ++ literal (now (get_or ss i d))
      → after ≡ so_far (take (i + 1) ss)
  next_source ss i d before mid after within is comma more =
      let y = get_or ss i d in
      let texts = name ∷ map now (take i ss) in
      let some : 0 < length texts = omega arith in
      more ∙ ap (λ m. m ++ literal (now y)) (comma ∙ ap (λ b. b ++ codes ", ") is)
      ∙ joined (comma_between (map literal texts)) (literal (now y))
      ∙ ap (λ c. kind ++ (40 ∷ c)) (sym (more_between texts (now y) some))
      ∙ sym (ap (λ l. kind ++ (40 ∷ comma_between (map literal (name ∷ l)))) (ap (map now) (take_more ss i d within) ∙ map-append now (take i ss) (y ∷ [])))
