-- Folders that are written otherwise, and their parts between slashes.
use Rattle.std.proofs.Common.{◌≡◌, ℕ, suc, ◌+◌, ◌<◌, List, [], ◌∷◌, ◌++◌, length, map, take, get_or, refl, sym, ap, ◌∙◌, arith, append-nil, append_assoc}
use Rattle.std.specs.Prelude.{◌==◌, Bool, true, false, ◌||◌, ◌&&◌, not, if◌then◌else◌, bytes_eq, codes, filter, None}
use Rattle.std.specs.List.{join_with_byte, list_any, onto_first, slice_split}
use Rattle.std.proofs.lemmas.List.{map-append}
use Rattle.std.proofs.lemmas.List.Splits.{join_with_byte-slice_split, length-slice_split}
use Rattle.std.proofs.Math.Seq.{take-suc}
use Rattle.std.proofs.lemmas.List.{length-map, length-take}
use Rattle.meson_calls.specs.Entering.{PlainFoldersStay, is_absolute, names_folder, plainly}
use Rattle.meson_calls.specs.Folders.{file_in, goes_nowhere, is_control, parts_after, slash_parts}

-- ---- the parts of a text, and what `split` gives

abbrev split : List ℕ → List (List ℕ)
split cs = slice_split (λ c. c == 47) cs

-- with this before the first of them
before : List ℕ → List (List ℕ) → List (List ℕ)
before read [] = read ∷ []
before read (p ∷ ps) = (read ++ p) ∷ ps

none_before : (ps : List (List ℕ)) → 0 < length ps → before [] ps ≡ ps
unfolding before
none_before [] some = absurd (omega (arith, some))
none_before (p ∷ ps) some = refl

one_before : (read : List ℕ) (c : ℕ) (ps : List (List ℕ)) → 0 < length ps → before (read ++ c ∷ []) ps ≡ before read (onto_first c ps)
unfolding before
one_before read c [] some = absurd (omega (arith, some))
one_before read c (p ∷ ps) some = ap (λ q. q ∷ ps) (append_assoc read (c ∷ []) p)

some_parts : (cs : List ℕ) → 0 < length (split cs)
some_parts cs = let n = length-slice_split (λ c. c == 47) cs in omega (arith, n)

parts_are : (read cs : List ℕ) → parts_after read cs ≡ before read (split cs)
unfolding before
parts_are read [] = ap (λ r. r ∷ []) (sym (append-nil read))
parts_are read (c ∷ cs) = go (c == 47) (parts_are [] cs) (parts_are (read ++ c ∷ []) cs)
  where
    go : (b : Bool) → parts_after [] cs ≡ before [] (split cs) → parts_after (read ++ c ∷ []) cs ≡ before (read ++ c ∷ []) (split cs)
        → (if b then read ∷ parts_after [] cs else parts_after (read ++ c ∷ []) cs) ≡ before read (if b then [] ∷ split cs else onto_first c (split cs))
    go true first more = ap (λ r. r ∷ parts_after [] cs) (sym (append-nil read)) ∙ ap (λ ps. (read ++ []) ∷ ps) (first ∙ none_before (split cs) (some_parts cs))
    go false first more = more ∙ one_before read c (split cs) (some_parts cs)

pub slash_parts-are : (text : List ℕ) → slash_parts text ≡ split text
slash_parts-are text = parts_are [] text ∙ none_before (split text) (some_parts text)

-- ---- parts that are joined

more_joined : (p : List ℕ) (ps : List (List ℕ)) (q : List ℕ) → join_with_byte 47 ((p ∷ ps) ++ q ∷ []) ≡ join_with_byte 47 (p ∷ ps) ++ (47 ∷ q)
more_joined p [] q = refl
more_joined p (r ∷ ps) q = ap (λ t. p ++ (47 ∷ t)) (more_joined r ps q) ∙ sym (append_assoc p (47 ∷ join_with_byte 47 (r ∷ ps)) (47 ∷ q))

part_joined : (ps : List (List ℕ)) (q : List ℕ) → 0 < length ps → join_with_byte 47 (ps ++ q ∷ []) ≡ (join_with_byte 47 ps ++ codes "/") ++ q
part_joined [] q some = absurd (omega (arith, some))
part_joined (p ∷ ps) q some = more_joined p ps q ∙ sym (append_assoc (join_with_byte 47 (p ∷ ps)) (47 ∷ []) q)

module _ {B : Type 0} (text : B → List ℕ) (parts : List B) (i : ℕ) (d : B) (within : i < length parts) where
  abbrev joined_to : ℕ → List ℕ
  joined_to n = join_with_byte 47 (map text (take n parts))

  here : map text (take (i + 1) parts) ≡ map text (take i parts) ++ text (get_or parts i d) ∷ []
  here =
      let one : i + 1 ≡ suc i = omega arith in
      ap (λ n. map text (take n parts)) one ∙ ap (map text) (take-suc parts i d within) ∙ map-append text (take i parts) (get_or parts i d ∷ [])

  first_is : i ≡ 0 → joined_to i ++ text (get_or parts i d) ≡ joined_to (i + 1)
  first_is is =
      let part = text (get_or parts i d) in
      ap (λ n. joined_to n ++ part) is ∙ sym (ap (λ n. join_with_byte 47 (map text (take n parts) ++ part ∷ [])) is) ∙ sym (ap (join_with_byte 47) here)

  next_is : 0 < i → (joined_to i ++ codes "/") ++ text (get_or parts i d) ≡ joined_to (i + 1)
  next_is later =
      let some : 0 < length (map text (take i parts)) = omega (arith, later, within, length-map (take i parts) text, length-take i parts) in
      sym (part_joined (map text (take i parts)) (text (get_or parts i d)) some) ∙ sym (ap (join_with_byte 47) here)

  module _ (old middle new : List ℕ) (so_far : old ≡ joined_to i) (added : new ≡ middle ++ text (get_or parts i d)) where
    pub first_joined : i ≡ 0 → middle ≡ old → new ≡ joined_to (i + 1)
    first_joined is same = added ∙ ap (λ t. t ++ text (get_or parts i d)) (same ∙ so_far) ∙ first_is is

    pub next_joined : 0 < i → middle ≡ old ++ codes "/" → new ≡ joined_to (i + 1)
    next_joined later slash = added ∙ ap (λ t. t ++ text (get_or parts i d)) (slash ∙ ap (λ t. t ++ codes "/") so_far) ∙ next_is later

-- ---- plain folders

keeps : (ps : List (List ℕ)) → list_any goes_nowhere ps ≡ false → filter names_folder ps ≡ ps
keeps [] none = refl
keeps (p ∷ ps) none = go (bytes_eq p []) (bytes_eq p (codes ".")) (bytes_eq p (codes "..")) (list_any goes_nowhere ps) none (keeps ps)
  where
    go : (a b c d : Bool) → (((a || b) || c) || d) ≡ false → (d ≡ false → filter names_folder ps ≡ ps)
        → (if not (a || b) then p ∷ filter names_folder ps else filter names_folder ps) ≡ p ∷ ps
    go true b c d none more = cc
    go false true c d none more = cc
    go false false true d none more = cc
    go false false false d none more = ap (λ qs. p ∷ qs) (more none)

relative : (folder : List ℕ) → list_any goes_nowhere (slash_parts folder) ≡ false → is_absolute folder ≡ false
relative [] none = refl
relative (c ∷ cs) none = go (c == 47) none
  where
    go : (b : Bool) → list_any goes_nowhere (if b then [] ∷ parts_after [] cs else parts_after (c ∷ []) cs) ≡ false → b ≡ false
    go true none = none
    go false none = refl

plain_stays : (folder : List ℕ) → list_any goes_nowhere (slash_parts folder) ≡ false → plainly folder ≡ folder
plain_stays folder none =
    ap (join_with_byte 47) (keeps (slash_parts folder) none) ∙ ap (join_with_byte 47) (slash_parts-are folder) ∙ join_with_byte-slice_split 47 folder

goes_somewhere : (a b : Bool) → (not a && not b) ≡ true → b ≡ false
goes_somewhere true b is = cc
goes_somewhere false true is = cc
goes_somewhere false false is = refl

pub plain_folders_stay : PlainFoldersStay
plain_folders_stay name folder plain =
    let none = goes_somewhere (list_any is_control folder) (list_any goes_nowhere (slash_parts folder)) plain in
    ap (λ b. if b then None else file_in name (plainly folder)) (relative folder none) ∙ ap (file_in name) (plain_stays folder none)
