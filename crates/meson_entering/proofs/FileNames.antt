-- The file that a folder means in a build file has the name of a build file.
use Rattle.std.proofs.Common.{◌≡◌, ℕ, List, [], ◌∷◌, ◌++◌, refl, sym, ap, ◌∙◌, inl, inr}
use Rattle.std.specs.Prelude.{Bool, true, false, not, ◌&&◌, ◌||◌, ◌==◌, if◌then◌else◌, Option, Some, None, IfSome, codes, All}
use Rattle.std.specs.List.{filter_map, cons_option, list_any}
use Rattle.std.proofs.lemmas.Bool.Decides.{eqb_tells}
use Rattle.std.proofs.lemmas.List.{append_assoc}
use Rattle.std.proofs.lemmas.List.Elements.{All-cons, All-nil}
use Rattle.std.proofs.lemmas.List.Folds.{list_any-append}
use Rattle.meson_calls.specs.declared.call.Reading.{Reading}
use Rattle.meson_calls.specs.declared.call.Reading.TheVariants.{Written, Followed}
use Rattle.meson_calls.specs.Entering.{folder_file, is_absolute, plainly}
use Rattle.meson_calls.specs.Folders.{parts_after, slash_parts, is_control, goes_nowhere, is_plain_folder, in_folder, IsFileName, folder_parts, folder_of, file_in}

-- ---- the parts of a folder in a folder

parts_join : (read cs more : List ℕ) → parts_after read (cs ++ (47 ∷ more)) ≡ parts_after read cs ++ parts_after [] more
parts_join read [] more = refl
parts_join read (c ∷ cs) more = go (c == 47) (parts_join [] cs more) (parts_join (read ++ c ∷ []) cs more)
  where
    go : (b : Bool) → parts_after [] (cs ++ (47 ∷ more)) ≡ parts_after [] cs ++ parts_after [] more →
        parts_after (read ++ c ∷ []) (cs ++ (47 ∷ more)) ≡ parts_after (read ++ c ∷ []) cs ++ parts_after [] more →
        (if b then read ∷ parts_after [] (cs ++ (47 ∷ more)) else parts_after (read ++ c ∷ []) (cs ++ (47 ∷ more)))
        ≡ (if b then read ∷ parts_after [] cs else parts_after (read ++ c ∷ []) cs) ++ parts_after [] more
    go true h k = ap (λ ps. read ∷ ps) h
    go false h k = k

neither : (a b c d : Bool) → (not a && not c) ≡ true → (not b && not d) ≡ true → (not (a || b) && not (c || d)) ≡ true
neither true b c d h k = cc
neither false true c d h k = cc
neither false false true d h k = cc
neither false false false true h k = cc
neither false false false false h k = refl

plain_join : (outer inner : List ℕ) → is_plain_folder outer ≡ true → is_plain_folder inner ≡ true → is_plain_folder (outer ++ (47 ∷ inner)) ≡ true
plain_join outer inner h k =
    ap (λ b. not b && not (list_any goes_nowhere (slash_parts (outer ++ (47 ∷ inner))))) (list_any-append is_control outer (47 ∷ inner))
    ∙ ap (λ ps. not (list_any is_control outer || list_any is_control inner) && not (list_any goes_nowhere ps)) (parts_join [] outer inner)
    ∙ ap (λ b. not (list_any is_control outer || list_any is_control inner) && not b) (list_any-append goes_nowhere (slash_parts outer) (slash_parts inner))
    ∙ neither (list_any is_control outer) (list_any is_control inner) (list_any goes_nowhere (slash_parts outer)) (list_any goes_nowhere (slash_parts inner)) h k

-- ---- the folder of a name in a folder

-- the parts, each with the slash behind it
slashed : List (List ℕ) → List ℕ
slashed [] = []
slashed (x ∷ xs) = x ++ (47 ∷ slashed xs)

but_last : (xs : List (List ℕ)) (y : List ℕ) → folder_parts (xs ++ y ∷ []) ≡ slashed xs
unfolding slashed
but_last [] y = refl
but_last (x ∷ []) y = refl
but_last (x ∷ z ∷ xs) y = ap (λ t. x ++ (47 ∷ t)) (but_last (z ∷ xs) y)

module _ (read cs : List ℕ) (c : ℕ) where
  at_slash : c ≡ 47 → (c == 47) ≡ true → slashed (parts_after [] cs) ≡ cs ++ 47 ∷ [] → slashed (parts_after read (c ∷ cs)) ≡ read ++ (c ∷ (cs ++ 47 ∷ []))
  unfolding slashed
  at_slash is test more =
      ap (λ b. slashed (if b then read ∷ parts_after [] cs else parts_after (read ++ c ∷ []) cs)) test
      ∙ ap (λ t. read ++ (47 ∷ t)) more
      ∙ ap (λ k. read ++ (k ∷ (cs ++ 47 ∷ []))) (sym is)

  at_other : (c == 47) ≡ false → slashed (parts_after (read ++ c ∷ []) cs) ≡ (read ++ c ∷ []) ++ (cs ++ 47 ∷ []) → slashed (parts_after read (c ∷ cs)) ≡ read ++ (c ∷ (cs ++ 47 ∷ []))
  at_other test more = ap (λ b. slashed (if b then read ∷ parts_after [] cs else parts_after (read ++ c ∷ []) cs)) test ∙ more ∙ append_assoc read (c ∷ []) (cs ++ 47 ∷ [])

slashed_parts : (read cs : List ℕ) → slashed (parts_after read cs) ≡ read ++ (cs ++ 47 ∷ [])
unfolding slashed
slashed_parts read [] = refl
slashed_parts read (c ∷ cs) =
    elim (eqb_tells c 47) [
      | inl is ↦ at_slash read cs c is.1 is.0 (slashed_parts [] cs)
      | inr other ↦ at_other read cs c other.0 (slashed_parts (read ++ c ∷ []) cs)
    ]

folder_in : (folder : List ℕ) → folder_of (in_folder folder) ≡ folder ++ 47 ∷ []
folder_in folder = ap folder_parts (parts_join [] folder (codes "meson.build")) ∙ but_last (slash_parts folder) (codes "meson.build") ∙ slashed_parts [] folder

-- ---- the file that a folder means in a file of this name

module _ (name : List ℕ) (is_name : IsFileName name) where
  below : (folder : List ℕ) → is_plain_folder folder ≡ true → IsFileName name → IsFileName (folder_of name ++ in_folder folder)
  below folder plain (inl e) = inr (folder, ap (λ n. folder_of n ++ in_folder folder) e, plain)
  below folder plain (inr (outer, e, so)) =
      inr (
        outer ++ (47 ∷ folder),
        ap (λ n. folder_of n ++ in_folder folder) e
            ∙ ap (λ t. t ++ in_folder folder) (folder_in outer)
            ∙ append_assoc outer (47 ∷ []) (in_folder folder)
            ∙ sym (append_assoc outer (47 ∷ folder) (codes "/meson.build")),
        plain_join outer folder so plain,
      )

  file_named : (folder : List ℕ) → IfSome (file_in name folder) IsFileName
  file_named folder = go (is_plain_folder folder) refl
    where
      go : (b : Bool) → is_plain_folder folder ≡ b → IfSome (if b then Some (folder_of name ++ in_folder folder) else None) IsFileName
      go true plain = below folder plain is_name
      go false plain = tt

  pub read_named : (reading : Reading) (folder : List ℕ) → IfSome (folder_file reading name folder) IsFileName
  read_named Written folder = file_named folder
  read_named Followed folder = go (is_absolute folder)
    where
      go : (b : Bool) → IfSome (if b then None else file_in name (plainly folder)) IsFileName
      go true = tt
      go false = file_named (plainly folder)

  cons_named : (o : Option (List ℕ)) (names : List (List ℕ)) → IfSome o IsFileName → All IsFileName names → All IsFileName (cons_option o names)
  cons_named None names h all = all
  cons_named (Some n) names h all = All-cons IsFileName n names h all

  -- the files that folders mean
  pub all_named : (reading : Reading) (folders : List (List ℕ)) → All IsFileName (filter_map (folder_file reading name) folders)
  all_named reading [] = All-nil IsFileName
  all_named reading (folder ∷ more) =
      cons_named (folder_file reading name folder) (filter_map (folder_file reading name) more) (read_named reading folder) (all_named reading more)
